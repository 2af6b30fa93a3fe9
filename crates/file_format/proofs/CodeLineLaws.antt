-- Laws of the words that a line lists, and of the code lines among the lines after the layout, of which the heading of the answers is none. Assumes nothing.
use Prim.Native.Nat.{ℕ, suc, ◌+◌, ◌<◌, ◌≤◌}
use mathlib.Core.Path.{◌≡◌, refl, sym, ap, subst, ◌∙◌}
use mathlib.Core.Bool.{Bool, true, false, cond, false≢true}
use mathlib.Core.List.{List, [], ◌∷◌, ◌++◌}
use native.Mathlib.Omega.{arith}
use lib.Dec.{eqb}
use lib.ListN.{length, get_or, take, drop}
use borrow.Author.Tests.{eqb-true}
use Rattle.text.specs.Text.{bytes, equals, line_words, Line, lines, no_line}
use Rattle.text_decimals.specs.Decimal.{digits_from, natural, numeral}
use Rattle.text.proofs.PieceLaws.{words-length}
use Rattle.text.proofs.LineLaws.{lines-first, lines_none}
use Rattle.file_format.specs.Rows.{is_numeral}
use Rattle.file_format.specs.Layout.{list, is_answer, up_to_answer, past_answer, lines_of_code, answer_lines}

pub list_length : (s : List ℕ) → length (list s) ≤ length s + 1
unfolding list
list_length s = go (equals s (bytes "-"))
  where
    go : (b : Bool) → length (cond b [] (line_words s)) ≤ length s + 1
    go true = omega arith
    go false = words-length s

-- the code lines are the first lines; the answers follow the line ANSWER

up_to-take : (ls : List Line) → up_to_answer ls ≡ take (length (up_to_answer ls)) ls
unfolding up_to_answer
up_to-take [] = refl
up_to-take (l ∷ ls) = go (is_answer l) (up_to-take ls)
  where
    go : (b : Bool) → up_to_answer ls ≡ take (length (up_to_answer ls)) ls → cond b [] (l ∷ up_to_answer ls) ≡ take (length (cond b [] (l ∷ up_to_answer ls))) (l ∷ ls)
    go true e = refl
    go false e = ap (λ (x : List Line). l ∷ x) e

past-drop : (ls : List Line) → past_answer ls ≡ drop (suc (length (up_to_answer ls))) ls
unfolding up_to_answer past_answer
past-drop [] = refl
past-drop (l ∷ ls) = go (is_answer l) (past-drop ls)
  where
    go : (b : Bool) → past_answer ls ≡ drop (suc (length (up_to_answer ls))) ls → cond b ls (past_answer ls) ≡ drop (length (cond b [] (l ∷ up_to_answer ls))) ls
    go true e = refl
    go false e = e

pub code-take : (ls : List Line) → lines_of_code ls ≡ take (length (lines_of_code ls)) ls
unfolding lines_of_code
code-take [] = refl
code-take (l ∷ ls) = ap (λ (x : List Line). l ∷ x) (up_to-take ls)

pub answer-drop : (ls : List Line) → answer_lines ls ≡ drop (suc (length (lines_of_code ls))) ls
unfolding lines_of_code answer_lines
answer-drop [] = refl
answer-drop (l ∷ ls) = past-drop ls

-- the number of code lines of a text: none, the first, a line more, the end at ANSWER or at the end of the text

pub code-none : (s : List ℕ) → length s ≡ 0 → length (lines_of_code (lines s)) ≡ 0
unfolding lines_of_code
code-none s h = rw (lines_none s (omega arith)) refl

pub code-first : (s : List ℕ) (rest : List Line) → 0 < length s → rest ≡ drop 1 (lines s) → length (lines_of_code (lines s)) ≡ suc (length (up_to_answer rest))
unfolding lines_of_code
code-first s rest h e = ap (λ (ls : List Line). length (lines_of_code ls)) (lines-first s h) ∙ ap (λ (ls : List Line). suc (length (up_to_answer ls))) (sym e)

module _ (s : List ℕ) (text : List ℕ) (h : 0 < length s) (t : text ≡ (get_or (lines s) 0 no_line).text) where
  pub code-answer : equals text (bytes "ANSWER") ≡ true → length (up_to_answer (lines s)) ≡ 0
  unfolding up_to_answer is_answer
  code-answer e = ap (λ (ls : List Line). length (up_to_answer ls)) (lines-first s h) ∙ rw (← t) (rw e refl)

  pub code-next : (rest : List Line) → rest ≡ drop 1 (lines s) → equals text (bytes "ANSWER") ≡ false → length (up_to_answer (lines s)) ≡ suc (length (up_to_answer rest))
  unfolding up_to_answer is_answer
  code-next rest r e = ap (λ (ls : List Line). length (up_to_answer ls)) (lines-first s h) ∙ rw (← t, ← r) (rw e refl)

pub code-end : (s : List ℕ) → length s ≡ 0 → length (up_to_answer (lines s)) ≡ 0
unfolding up_to_answer
code-end s h = rw (lines_none s (omega arith)) refl

-- a text that begins with a number is not ANSWER
pub number-first : (w : List ℕ) (r : List ℕ) → is_numeral (numeral w) ≡ true → equals (w ++ r) (bytes "ANSWER") ≡ false
unfolding is_numeral numeral natural digits_from equals
number-first [] r e = absurd (false≢true e)
number-first (d ∷ ds) r e = go (eqb d 65) refl
  where
    go : (b : Bool) → eqb d 65 ≡ b → cond b (equals (ds ++ r) (bytes "NSWER")) false ≡ false
    go true q = absurd (false≢true (subst (λ x. is_numeral (numeral (x ∷ ds)) ≡ true) (eqb-true d 65 q) e))
    go false q = refl
