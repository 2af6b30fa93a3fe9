-- How many lines an accepted text of cuts has, and which places its refusals have. Assumes nothing.
use Rattle.std.specs.Prelude.{Err, None, Ok, Option, Result, Some, ⊤}
use Prim.Native.Nat.{ℕ, zero, suc, ◌+◌, ◌≤◌}
use mathlib.Core.Path.{◌≡◌, refl}
use mathlib.Core.Bool.{Bool, true, false, cond}
use mathlib.Core.List.{List, [], ◌∷◌}
use native.Mathlib.Omega.{arith}
use borrow.Author.Tests.{ltb-true, ltb-false}
use lib.Dec.{ltb}
use lib.ListN.{length}
use Rattle.refusals.specs.declared.Refusal.{Refusal}
use Rattle.refusals.specs.declared.Refusal.TheVariants.{TextLength, Layout, OutOfRange, BadName}
use Rattle.refusals.specs.Refusals.{place}
use Rattle.text.specs.Text.{Line, lines}
use Rattle.text.proofs.TextLaws.{and_left, and_right}
use Rattle.file_format.proofs.PassingLaws.{lines-count}
use Rattle.replay_trace.specs.Traces.{earliest, refused_at}
use Rattle.split_cuts.specs.Cuts.{cuts_limit, cut_limit, cut_laid_out, text_laid_out, line_laid_out, line_in_range, line_named, layout_fault, line_verdict, cuts_acceptance}

at-nowhere : (a : Option ℕ) (r : ℕ → Refusal) (v : Result ⊤ Refusal) → refused_at a r v ≡ Ok tt → (a ≡ None) × (v ≡ Ok tt)
unfolding refused_at
at-nowhere None r v e = (refl, e)
at-nowhere (Some n) r v e = absurd (let z : ◌≡◌ {A = ℕ} 0 1 = cc in omega arith)

cond-nowhere : (b : Bool) (a : Option ℕ) (n : ℕ) → cond b a (Some n) ≡ None → (b ≡ true) × (a ≡ None)
cond-nowhere true a n e = (refl, e)
cond-nowhere false a n e = absurd (let z : ◌≡◌ {A = ℕ} 0 1 = cc in omega arith)

-- a line that is laid out is no line too many
index-low : (k : ℕ) (l : Line) → line_laid_out k l ≡ true → k ≤ cut_limit
unfolding line_laid_out text_laid_out
index-low k l e = go k (and_right l.ended (text_laid_out k l.text) e)
  where
    go : (k : ℕ) → text_laid_out k l.text ≡ true → k ≤ cut_limit
    go zero e = omega arith
    go (suc k) e = let h = ltb-true k cut_limit (and_left (ltb k cut_limit) (cut_laid_out l.text) e) in omega arith

lines-few : (k : ℕ) (ls : List Line) → k ≤ suc cut_limit → earliest line_laid_out k ls ≡ None → k + length ls ≤ suc cut_limit
unfolding earliest
lines-few k [] h e = omega arith
lines-few k (l ∷ ls) h e =
    let p = cond-nowhere (line_laid_out k l) (earliest line_laid_out (suc k) ls) (suc k) e in
    let i = index-low k l p.0 in
    let r = lines-few (suc k) ls (omega arith) p.1 in
    omega arith

layout-few : (ls : List Line) → layout_fault ls ≡ None → length ls ≤ suc cut_limit
unfolding layout_fault
layout-few [] e = omega arith
layout-few (l ∷ ls) e = let h = lines-few 0 (l ∷ ls) (omega arith) e in omega arith

-- at most 16 lines after the names line
pub cuts-few : (ns : List (List ℕ)) (text : List ℕ) → cuts_acceptance ns text ≡ Ok tt → length (lines text) ≤ 17
unfolding cuts_acceptance line_verdict
cuts-few ns text = go (ltb cuts_limit (length text))
  where
    go : (b : Bool)
        → cond b (Err TextLength) (refused_at (layout_fault (lines text)) Layout (refused_at (earliest line_in_range 0 (lines text)) OutOfRange (refused_at (earliest (line_named ns) 0 (lines text)) BadName (Ok tt)))) ≡ Ok tt
        → length (lines text) ≤ 17
    go true e = absurd (let z : ◌≡◌ {A = ℕ} 0 1 = cc in omega arith)
    go false e = layout-few (lines text) (at-nowhere (layout_fault (lines text)) Layout _ e).0

-- a line that fails is one of the lines, counted from 1
place-within : (t : ℕ → Line → Bool) (k : ℕ) (ls : List Line) (n : ℕ) → earliest t k ls ≡ Some n → n ≤ k + length ls
unfolding earliest
place-within t k [] n e = absurd (let z : ◌≡◌ {A = ℕ} 0 1 = cc in omega arith)
place-within t k (l ∷ ls) n e = go (place-within t (suc k) ls n) (t k l) e
  where
    go : (earliest t (suc k) ls ≡ Some n → n ≤ suc k + length ls) → (b : Bool) → cond b (earliest t (suc k) ls) (Some (suc k)) ≡ Some n → n ≤ k + suc (length ls)
    go after true e = let h = after e in omega arith
    go after false e = let q : suc k ≡ n = cc in omega arith

layout-place : (ls : List Line) (n : ℕ) → layout_fault ls ≡ Some n → n ≤ suc (length ls)
unfolding layout_fault
layout-place [] n e = let r : 1 ≡ n = cc in omega arith
layout-place (l ∷ ls) n e = let h = place-within line_laid_out 0 (l ∷ ls) n e in omega arith

-- a place is one of the lines, or the one that a text without lines lacks
pub cuts-place : (ns : List (List ℕ)) (text : List ℕ) (r : Refusal) → cuts_acceptance ns text ≡ Err r → place r ≤ 4097
unfolding cuts_acceptance line_verdict refused_at place
cuts-place ns text r =
    go (ltb cuts_limit (length text)) (layout_fault (lines text)) (earliest line_in_range 0 (lines text)) (earliest (line_named ns) 0 (lines text)) refl refl refl refl
  where
    few : ltb cuts_limit (length text) ≡ false → length (lines text) ≤ 4096
    few q = let h = ltb-false cuts_limit (length text) q in omega (arith, lines-count text)

    go : (b : Bool) (a d f : Option ℕ) → ltb cuts_limit (length text) ≡ b → layout_fault (lines text) ≡ a → earliest line_in_range 0 (lines text) ≡ d → earliest (line_named ns) 0 (lines text) ≡ f
        → cond b (Err TextLength) (refused_at a Layout (refused_at d OutOfRange (refused_at f BadName (Ok tt)))) ≡ Err r → place r ≤ 4097
    go true a d f z p q s e = let g : TextLength ≡ r = cc in rw (← g) (omega arith)
    go false (Some n) d f z p q s e = let g : Layout n ≡ r = cc in let h = layout-place (lines text) n p in let k = few z in rw (← g) (omega arith)
    go false None (Some n) f z p q s e = let g : OutOfRange n ≡ r = cc in let h = place-within line_in_range 0 (lines text) n q in let k = few z in rw (← g) (omega arith)
    go false None None (Some n) z p q s e = let g : BadName n ≡ r = cc in let h = place-within (line_named ns) 0 (lines text) n s in let k = few z in rw (← g) (omega arith)
    go false None None None z p q s e = absurd (let z : ◌≡◌ {A = ℕ} 0 1 = cc in omega arith)
