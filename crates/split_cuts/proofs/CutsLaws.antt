-- Laws of the text of the cuts: its tests by the index of a line, its refusals with their places, and the cuts that an accepted text lists.
-- Assumes nothing.
use Rattle.std.specs.Prelude.{Err, Ok, Option}
use Prim.Native.Nat.{ℕ, zero, suc, ◌+◌, ◌-◌, ◌<◌, ◌≤◌}
use mathlib.Core.Path.{◌≡◌, refl, sym, ap, ◌∙◌}
use mathlib.Core.Bool.{Bool, true, false, cond, not, ◌&&◌}
use mathlib.Core.List.{List, [], ◌∷◌, ◌++◌}
use native.Mathlib.Omega.{arith}
use borrow.Author.Tests.{lt-ltb, le-ltb}
use lib.ListN.{length}
use Rattle.refusals.specs.declared.Refusal.TheVariants.{TextLength, Layout, OutOfRange, BadName}
use Rattle.text.specs.Text.{bytes, is_empty, equals, Line, lines, among}
use Rattle.text.proofs.LineLaws.{lines_none, lines-some}
use Rattle.numbers.specs.Numbers.{within, numbers}
use Rattle.file_format.specs.Rows.{value}
use Rattle.file_lines.proofs.LineLaws.{filled}
use Rattle.replay_trace.specs.Traces.{earliest, refused_at}
use Rattle.split_cuts.specs.Cuts.{cuts_limit, cut_limit, cell_name, from_word, cut_laid_out, text_laid_out, line_laid_out, text_in_range, line_in_range, text_named, line_named, layout_fault, line_verdict, cuts_acceptance}

-- ---- the tests by the index of a line

pub names-laid : (k : ℕ) (text : List ℕ) → k ≡ 0 → text_laid_out k text ≡ equals text (bytes "CELL FROM")
unfolding text_laid_out
names-laid zero text e = refl
names-laid (suc k) text e = absurd (omega arith)

pub too_many : (k : ℕ) (text : List ℕ) → cut_limit < k → text_laid_out k text ≡ false
unfolding text_laid_out
too_many zero text h = absurd (omega arith)
too_many (suc k) text h = ap (λ b. b && cut_laid_out text) (le-ltb k cut_limit (omega arith))

pub cut-laid : (k : ℕ) (text : List ℕ) → (k ≡ 0 → ⊥) → k ≤ cut_limit → text_laid_out k text ≡ cut_laid_out text
unfolding text_laid_out
cut-laid zero text f h = absurd (f refl)
cut-laid (suc k) text f h = ap (λ b. b && cut_laid_out text) (lt-ltb k cut_limit (omega arith))

pub names-ranged : (k : ℕ) (text : List ℕ) → k ≡ 0 → text_in_range k text ≡ true
unfolding text_in_range
names-ranged zero text e = refl
names-ranged (suc k) text e = absurd (omega arith)

pub cut-ranged : (k : ℕ) (text : List ℕ) → (k ≡ 0 → ⊥) → text_in_range k text ≡ within numbers (value (from_word text))
unfolding text_in_range
cut-ranged zero text f = absurd (f refl)
cut-ranged (suc k) text f = refl

module _ (ns : List (List ℕ)) where
  pub names-named : (k : ℕ) (text : List ℕ) → k ≡ 0 → text_named ns k text ≡ true
  unfolding text_named
  names-named zero text e = refl
  names-named (suc k) text e = absurd (omega arith)

  pub cut-named : (k : ℕ) (text : List ℕ) → (k ≡ 0 → ⊥) → text_named ns k text ≡ among (cell_name text) ns
  unfolding text_named
  cut-named zero text f = absurd (f refl)
  cut-named (suc k) text f = refl

-- a name that is there, and one that is not

pub name-there : {w v : List ℕ} → w ≡ v → 0 < length w → not (is_empty v) ≡ true
name-there {w} e h = ap (λ u. not (is_empty u)) (sym e) ∙ sym (filled w) ∙ lt-ltb 0 (length w) h

pub name-lacks : {w v : List ℕ} → w ≡ v → length w ≤ 0 → not (is_empty v) ≡ false
name-lacks {w} e h = ap (λ u. not (is_empty u)) (sym e) ∙ sym (filled w) ∙ le-ltb 0 (length w) h

-- a name is one of two lists: of the first, or else of the second
pub among-both : (w : List ℕ) (xs ys : List (List ℕ)) → among w (xs ++ ys) ≡ cond (among w xs) true (among w ys)
unfolding among
among-both w [] ys = refl
among-both w (x ∷ xs) ys = go (equals w x) (among-both w xs ys)
  where
    go : (b : Bool) → among w (xs ++ ys) ≡ cond (among w xs) true (among w ys) → cond b true (among w (xs ++ ys)) ≡ cond (cond b true (among w xs)) true (among w ys)
    go true e = refl
    go false e = e

-- ---- the refusals

module _ (ns : List (List ℕ)) (text : List ℕ) where
  pub check-long : cuts_limit < length text → Err TextLength ≡ cuts_acceptance ns text
  unfolding cuts_acceptance
  check-long h = sym (ap (λ b. cond b (Err TextLength) (line_verdict ns (lines text))) (lt-ltb cuts_limit (length text) h))

  module _ (short : length text ≤ cuts_limit) where
    by_lines : cuts_acceptance ns text ≡ line_verdict ns (lines text)
    unfolding cuts_acceptance
    by_lines = ap (λ b. cond b (Err TextLength) (line_verdict ns (lines text))) (le-ltb cuts_limit (length text) short)

    pub check-empty : length text ≡ 0 → Err (Layout 1) ≡ cuts_acceptance ns text
    unfolding line_verdict layout_fault refused_at
    check-empty e = sym (by_lines ∙ ap (line_verdict ns) (lines_none text (omega arith)))

    module _ (some : length text ≡ 0 → ⊥) where
      layout-some : (ls : List Line) → 0 < length ls → layout_fault ls ≡ earliest line_laid_out 0 ls
      unfolding layout_fault
      layout-some [] h = absurd (omega arith)
      layout-some (l ∷ ls) h = refl

      pub by_rows : {a b d : Option ℕ} → earliest line_laid_out 0 (lines text) ≡ a → earliest line_in_range 0 (lines text) ≡ b → earliest (line_named ns) 0 (lines text) ≡ d
          → refused_at a Layout (refused_at b OutOfRange (refused_at d BadName (Ok tt))) ≡ cuts_acceptance ns text
      unfolding line_verdict
      by_rows p q r =
          sym (by_lines
          ∙ (λ i. refused_at ((layout-some (lines text) (lines-some text (omega arith)) ∙ p) i) Layout (refused_at (q i) OutOfRange (refused_at (r i) BadName (Ok tt)))))
