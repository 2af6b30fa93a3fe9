-- Laws of a trace: its tests by the index of a line, the scan of its lines as the loop makes it, its refusals with their places, and what
-- an accepted trace records. Assumes nothing.
use Rattle.std.specs.Prelude.{Err, None, Ok, Option, Result, Some, ⊤}
use Prim.Native.Nat.{ℕ, zero, suc, ◌+◌, ◌-◌, ◌<◌, ◌≤◌}
use mathlib.Core.Path.{◌≡◌, refl, sym, ap, ap₂, ◌∙◌}
use mathlib.Core.Bool.{Bool, true, false, cond, ◌&&◌}
use mathlib.Core.List.{List, [], ◌∷◌}
use native.Mathlib.Omega.{arith}
use borrow.Author.Tests.{ltb-true, ltb-false, lt-ltb, le-ltb}
use lib.Dec.{ltb}
use lib.ListN.{length, get_or, drop, length-map, length-drop}
use Rattle.refusals.specs.declared.Refusal.{Refusal}
use Rattle.refusals.specs.declared.Refusal.TheVariants.{TextLength, Layout, OutOfRange}
use Rattle.refusals.specs.Refusals.{place}
use Rattle.text.specs.Text.{bytes, equals, Line, lines, no_line}
use Rattle.text.proofs.TextLaws.{and_left, and_right}
use Rattle.text.proofs.LineLaws.{lines-first, lines_none, lines-some}
use Rattle.replay_trace.specs.Traces.{trace_limit, entry_limit, entry_laid_out, text_laid_out, line_laid_out, entry_in_range, text_in_range, line_in_range, earliest, layout_fault, range_fault, refused_at, line_verdict, trace_acceptance, entries}

-- ---- the tests by the index of a line

pub names-laid : (k : ℕ) (text : List ℕ) → k ≡ 0 → text_laid_out k text ≡ equals text (bytes "AT CYCLES")
unfolding text_laid_out
names-laid zero text e = refl
names-laid (suc k) text e = absurd (omega arith)

pub too_many : (k : ℕ) (text : List ℕ) → entry_limit < k → text_laid_out k text ≡ false
unfolding text_laid_out
too_many zero text h = absurd (omega arith)
too_many (suc k) text h = ap (λ b. b && entry_laid_out text) (le-ltb k entry_limit (omega arith))

pub entry-laid : (k : ℕ) (text : List ℕ) → (k ≡ 0 → ⊥) → k ≤ entry_limit → text_laid_out k text ≡ entry_laid_out text
unfolding text_laid_out
entry-laid zero text f h = absurd (f refl)
entry-laid (suc k) text f h = ap (λ b. b && entry_laid_out text) (lt-ltb k entry_limit (omega arith))

pub names-ranged : (k : ℕ) (text : List ℕ) → k ≡ 0 → text_in_range k text ≡ true
unfolding text_in_range
names-ranged zero text e = refl
names-ranged (suc k) text e = absurd (omega arith)

pub entry-ranged : (k : ℕ) (text : List ℕ) → (k ≡ 0 → ⊥) → text_in_range k text ≡ entry_in_range text
unfolding text_in_range
entry-ranged zero text f = absurd (f refl)
entry-ranged (suc k) text f = refl

-- ---- the scan

-- the earliest line that fails is the first that fails of the lines left, where k are passed
pub record Scanned (t : ℕ → Line → Bool) (text rest : List ℕ) (k : ℕ) : Type 0 where
  pub same : earliest t 0 (lines text) ≡ earliest t k (lines rest)
  pub size : k + length rest ≤ length text

pub scan-start : (t : ℕ → Line → Bool) (text : List ℕ) → Scanned t text text 0
scan-start t text = record { same = refl; size = omega arith }

module _ {t : ℕ → Line → Bool} {text rest : List ℕ} {k : ℕ} (s : Scanned t text rest k) where
  module _ (some : 0 < length rest) {b : Bool} (says : b ≡ t k (get_or (lines rest) 0 no_line)) where
    left : earliest t 0 (lines text) ≡ cond b (earliest t (suc k) (drop 1 (lines rest))) (Some (suc k))
    unfolding earliest
    left =
        s.same ∙ ap (earliest t k) (lines-first rest some) ∙ ap (λ x. cond x (earliest t (suc k) (drop 1 (lines rest))) (Some (suc k))) (sym says)

    pub scan-fails : b ≡ false → Some (k + 1) ≡ earliest t 0 (lines text)
    scan-fails e =
        let n : k + 1 ≡ suc k = omega arith in
        rw n (sym (left ∙ ap (λ x. cond x (earliest t (suc k) (drop 1 (lines rest))) (Some (suc k))) e))

    pub scan-goes : b ≡ true → (next : List ℕ) → lines next ≡ drop 1 (lines rest) → length next ≤ length rest - 1 → Scanned t text next (k + 1)
    scan-goes e next q h =
        let n : k + 1 ≡ suc k = omega arith in
        record {
          same = rw (n, q) (left ∙ ap (λ x. cond x (earliest t (suc k) (drop 1 (lines rest))) (Some (suc k))) e);
          size = let z = s.size in omega arith;
        }

  pub scan-ends : length rest ≤ 0 → None ≡ earliest t 0 (lines text)
  unfolding earliest
  scan-ends h = sym (s.same ∙ ap (earliest t k) (lines_none rest h))

-- ---- the refusals

module _ (text : List ℕ) where
  pub check-long : trace_limit < length text → Err TextLength ≡ trace_acceptance text
  unfolding trace_acceptance
  check-long h = sym (ap (λ b. cond b (Err TextLength) (line_verdict (lines text))) (lt-ltb trace_limit (length text) h))

  module _ (short : length text ≤ trace_limit) where
    by_lines : trace_acceptance text ≡ line_verdict (lines text)
    unfolding trace_acceptance
    by_lines = ap (λ b. cond b (Err TextLength) (line_verdict (lines text))) (le-ltb trace_limit (length text) short)

    pub check-empty : length text ≡ 0 → Err (Layout 1) ≡ trace_acceptance text
    unfolding line_verdict layout_fault refused_at
    check-empty e = sym (by_lines ∙ ap line_verdict (lines_none text (omega arith)))

    module _ (some : length text ≡ 0 → ⊥) where
      layout-some : (ls : List Line) → 0 < length ls → layout_fault ls ≡ earliest line_laid_out 0 ls
      unfolding layout_fault
      layout-some [] h = absurd (omega arith)
      layout-some (l ∷ ls) h = refl

      by_rows : {a b : Option ℕ} → earliest line_laid_out 0 (lines text) ≡ a → earliest line_in_range 0 (lines text) ≡ b
          → trace_acceptance text ≡ refused_at a Layout (refused_at b OutOfRange (Ok tt))
      unfolding line_verdict range_fault
      by_rows p q =
          by_lines ∙ ap₂ (λ x y. refused_at x Layout (refused_at y OutOfRange (Ok tt))) (layout-some (lines text) (lines-some text (omega arith)) ∙ p) q

      pub check-layout : (n : ℕ) → earliest line_laid_out 0 (lines text) ≡ Some n → Err (Layout n) ≡ trace_acceptance text
      unfolding refused_at
      check-layout n p = sym (by_rows p refl)

      pub check-range : (n : ℕ) → earliest line_laid_out 0 (lines text) ≡ None → earliest line_in_range 0 (lines text) ≡ Some n → Err (OutOfRange n) ≡ trace_acceptance text
      unfolding refused_at
      check-range n p q = sym (by_rows p q)

      pub check-accepted : earliest line_laid_out 0 (lines text) ≡ None → earliest line_in_range 0 (lines text) ≡ None → Ok tt ≡ trace_acceptance text
      unfolding refused_at
      check-accepted p q = sym (by_rows p q)

-- what a verdict that is no refusal of a row says of the row

at-nowhere : (a : Option ℕ) (r : ℕ → Refusal) (v : Result ⊤ Refusal) → refused_at a r v ≡ Ok tt → (a ≡ None) × (v ≡ Ok tt)
unfolding refused_at
at-nowhere None r v e = (refl, e)
at-nowhere (Some n) r v e = absurd (let z : ◌≡◌ {A = ℕ} 0 1 = cc in omega arith)

-- a trace that no refusal meets
pub record Passes (text : List ℕ) : Type 0 where
  pub short : length text ≤ trace_limit
  pub layout : layout_fault (lines text) ≡ None
  pub range : range_fault (lines text) ≡ None

pub accepted-passes : (text : List ℕ) → trace_acceptance text ≡ Ok tt → Passes text
unfolding trace_acceptance line_verdict
accepted-passes text = go (ltb trace_limit (length text)) refl
  where
    go : (b : Bool) → ltb trace_limit (length text) ≡ b → cond b (Err TextLength) (line_verdict (lines text)) ≡ Ok tt → Passes text
    go true q e = absurd (let z : ◌≡◌ {A = ℕ} 0 1 = cc in omega arith)
    go false q e =
        let p = at-nowhere (layout_fault (lines text)) Layout (refused_at (range_fault (lines text)) OutOfRange (Ok tt)) e in
        record {
          short = ltb-false trace_limit (length text) q;
          layout = p.0;
          range = (at-nowhere (range_fault (lines text)) OutOfRange (Ok tt) p.1).0;
        }

-- ---- how many lines, and which places

cond-nowhere : (b : Bool) (a : Option ℕ) (n : ℕ) → cond b a (Some n) ≡ None → (b ≡ true) × (a ≡ None)
cond-nowhere true a n e = (refl, e)
cond-nowhere false a n e = absurd (let z : ◌≡◌ {A = ℕ} 0 1 = cc in omega arith)

-- a line that is laid out is no line too many
index-low : (k : ℕ) (l : Line) → line_laid_out k l ≡ true → k ≤ entry_limit
unfolding line_laid_out text_laid_out
index-low k l e = go k (and_right l.ended (text_laid_out k l.text) e)
  where
    go : (k : ℕ) → text_laid_out k l.text ≡ true → k ≤ entry_limit
    go zero e = omega arith
    go (suc k) e = let h = ltb-true k entry_limit (and_left (ltb k entry_limit) (entry_laid_out l.text) e) in omega arith

lines-few : (k : ℕ) (ls : List Line) → k ≤ suc entry_limit → earliest line_laid_out k ls ≡ None → k + length ls ≤ suc entry_limit
unfolding earliest
lines-few k [] h e = omega arith
lines-few k (l ∷ ls) h e =
    let p = cond-nowhere (line_laid_out k l) (earliest line_laid_out (suc k) ls) (suc k) e in
    let i = index-low k l p.0 in
    let r = lines-few (suc k) ls (omega arith) p.1 in
    omega arith

layout-few : (ls : List Line) → layout_fault ls ≡ None → length ls ≤ suc entry_limit
unfolding layout_fault
layout-few [] e = omega arith
layout-few (l ∷ ls) e = let h = lines-few 0 (l ∷ ls) (omega arith) e in omega arith

-- "A trace has at most 4,096 lines after its names line"
pub entries-few : (text : List ℕ) → trace_acceptance text ≡ Ok tt → length (entries text) ≤ entry_limit
unfolding entries
entries-few text e =
    let h = layout-few (lines text) (accepted-passes text e).layout in
    rw (length-map, length-drop) (omega arith)

-- a line that fails is one of the lines, counted from 1
place-within : (t : ℕ → Line → Bool) (k : ℕ) (ls : List Line) (n : ℕ) → earliest t k ls ≡ Some n → n ≤ k + length ls
unfolding earliest
place-within t k [] n e = absurd (let z : ◌≡◌ {A = ℕ} 0 1 = cc in omega arith)
place-within t k (l ∷ ls) n e = go (place-within t (suc k) ls n) (t k l) e
  where
    go : (earliest t (suc k) ls ≡ Some n → n ≤ suc k + length ls) → (b : Bool) → cond b (earliest t (suc k) ls) (Some (suc k)) ≡ Some n → n ≤ k + suc (length ls)
    go after true e = let h = after e in omega arith
    go after false e = let q : suc k ≡ n = cc in omega arith

layout-place-from : (k : ℕ) (ls : List Line) (n : ℕ) → k ≤ suc entry_limit → earliest line_laid_out k ls ≡ Some n → n ≤ suc (suc entry_limit)
unfolding earliest
layout-place-from k [] n h e = absurd (let z : ◌≡◌ {A = ℕ} 0 1 = cc in omega arith)
layout-place-from k (l ∷ ls) n h e = go (λ i f. layout-place-from (suc k) ls n i f) (line_laid_out k l) refl e
  where
    go : (suc k ≤ suc entry_limit → earliest line_laid_out (suc k) ls ≡ Some n → n ≤ suc (suc entry_limit)) → (b : Bool) → line_laid_out k l ≡ b → cond b (earliest line_laid_out (suc k) ls) (Some (suc k)) ≡ Some n → n ≤ suc (suc entry_limit)
    go after true q e = let i = index-low k l q in after (omega arith) e
    go after false q e = let r : suc k ≡ n = cc in omega arith

layout-fault-low : (ls : List Line) (n : ℕ) → layout_fault ls ≡ Some n → n ≤ suc (suc entry_limit)
unfolding layout_fault
layout-fault-low [] n e = let r : 1 ≡ n = cc in omega arith
layout-fault-low (l ∷ ls) n e = layout-place-from 0 (l ∷ ls) n (omega arith) e

range-fault-low : (ls : List Line) (n : ℕ) → layout_fault ls ≡ None → range_fault ls ≡ Some n → n ≤ suc (suc entry_limit)
unfolding range_fault
range-fault-low ls n p q = let w = place-within line_in_range 0 ls n q in let k = layout-few ls p in omega arith

-- "else refusal 2 at the first line too many": no place is past it
pub trace-place : (text : List ℕ) (r : Refusal) → trace_acceptance text ≡ Err r → place r ≤ 4098
unfolding trace_acceptance line_verdict refused_at place
trace-place text r = go (ltb trace_limit (length text)) (layout_fault (lines text)) (range_fault (lines text)) refl refl
  where
    go : (b : Bool) (a c : Option ℕ) → layout_fault (lines text) ≡ a → range_fault (lines text) ≡ c → cond b (Err TextLength) (refused_at a Layout (refused_at c OutOfRange (Ok tt))) ≡ Err r → place r ≤ 4098
    go true a c p q e = let f : TextLength ≡ r = cc in rw (← f) (omega arith)
    go false (Some n) c p q e = let f : Layout n ≡ r = cc in let h = layout-fault-low (lines text) n p in rw (← f) h
    go false None (Some n) p q e = let f : OutOfRange n ≡ r = cc in let h = range-fault-low (lines text) n p q in rw (← f) h
    go false None None p q e = absurd (let z : ◌≡◌ {A = ℕ} 0 1 = cc in omega arith)
