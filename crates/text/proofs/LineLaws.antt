-- Laws of the lines of a text: which texts have none, the first line, and what follows it. Assumes nothing.
use Prim.Native.Nat.{ℕ, ◌+◌, ◌<◌, ◌≤◌}
use mathlib.Core.Path.{◌≡◌, refl, sym, ap, ◌∙◌}
use mathlib.Core.Bool.{Bool, true, false, cond}
use mathlib.Core.List.{List, [], ◌∷◌}
use native.Mathlib.Omega.{arith}
use lib.Dec.{ltb}
use lib.ListN.{length, get_or, take, drop, length-drop, drop_of_length-le}
use lib.Seq.{length-take-le, take_all, get_or-drop}
use borrow.Author.Tests.{ltb-true, ltb-false}
use Rattle.std.proofs.lemmas.List.{drop-drop}
use Rattle.text.specs.Text.{is_empty, parted_by, Line, no_line, lines_of, lines}
use Rattle.text.proofs.ScanLaws.{first_length, past, cut-more, cut-last}
use Rattle.text.proofs.PieceLaws.{split-some, first-le}

-- a line that a line feed ends, and one that the end of the text ends

abbrev pub ended_line : List ℕ → Line
ended_line p = record { text = p; ended = true }

abbrev pub unended_line : List ℕ → Line
unended_line p = record { text = p; ended = false }

lines_of-more : (p : List ℕ) (ps : List (List ℕ)) → 0 < length ps → lines_of (p ∷ ps) ≡ ended_line p ∷ lines_of ps
unfolding lines_of
lines_of-more p [] h = absurd (omega arith)
lines_of-more p (q ∷ ps) h = refl

-- the lines of s, whose first piece has the length n

lines_more : (s : List ℕ) (n : ℕ) → n ≡ first_length 10 s → n < length s → lines s ≡ ended_line (take n s) ∷ lines (past n s)
unfolding lines
lines_more s n q h = ap lines_of (cut-more 10 s n q h) ∙ lines_of-more (take n s) (parted_by 10 (past n s)) (split-some 10 (past n s))

lines-last : (s : List ℕ) (n : ℕ) → n ≡ first_length 10 s → length s ≤ n → lines s ≡ cond (is_empty s) [] (unended_line s ∷ [])
unfolding lines lines_of
lines-last s n q h = ap lines_of (cut-last 10 s n q h)

-- a text with no line feed is one line, or none

last-text : (s : List ℕ) → (get_or (cond (is_empty s) [] (unended_line s ∷ [])) 0 no_line).text ≡ s
last-text [] = refl
last-text (x ∷ xs) = refl

last-ended : (s : List ℕ) → (get_or (cond (is_empty s) [] (unended_line s ∷ [])) 0 no_line).ended ≡ false
last-ended [] = refl
last-ended (x ∷ xs) = refl

last-next : (s : List ℕ) → drop 1 (cond (is_empty s) [] (unended_line s ∷ [])) ≡ []
last-next [] = refl
last-next (x ∷ xs) = refl

last_some : (s : List ℕ) → 0 < length s → 0 < length (cond (is_empty s) [] (unended_line s ∷ []))
last_some [] h = absurd (omega arith)
last_some (x ∷ xs) h = omega arith

-- the first line of s, whose first piece has the length n

pub line-text : (s : List ℕ) (n : ℕ) → n ≡ first_length 10 s → (get_or (lines s) 0 no_line).text ≡ take n s
line-text s n q = go (ltb n (length s)) refl
  where
    go : (b : Bool) → ltb n (length s) ≡ b → (get_or (lines s) 0 no_line).text ≡ take n s
    go true e = ap (λ (ls : List Line). (get_or ls 0 no_line).text) (lines_more s n q (ltb-true n (length s) e))
    go false e =
        let h = ltb-false n (length s) e in
        ap (λ (ls : List Line). (get_or ls 0 no_line).text) (lines-last s n q h) ∙ last-text s ∙ sym (take_all n s h)

-- its length
pub line-length : (s : List ℕ) {n : ℕ} → n ≡ length (get_or (lines s) 0 no_line).text → n ≡ first_length 10 s
line-length s e = e ∙ ap length (line-text s (first_length 10 s) refl) ∙ length-take-le (first_length 10 s) s (first-le 10 s)

pub line-ended : (s : List ℕ) (n : ℕ) → n ≡ first_length 10 s → (get_or (lines s) 0 no_line).ended ≡ ltb n (length s)
line-ended s n q = go (ltb n (length s)) refl
  where
    go : (b : Bool) → ltb n (length s) ≡ b → (get_or (lines s) 0 no_line).ended ≡ b
    go true e = ap (λ (ls : List Line). (get_or ls 0 no_line).ended) (lines_more s n q (ltb-true n (length s) e))
    go false e = ap (λ (ls : List Line). (get_or ls 0 no_line).ended) (lines-last s n q (ltb-false n (length s) e)) ∙ last-ended s

-- what follows it

pub next_more : (s : List ℕ) (n : ℕ) → n ≡ first_length 10 s → n < length s → lines (past n s) ≡ drop 1 (lines s)
next_more s n q h = sym (ap (drop 1) (lines_more s n q h))

pub next-none : (s : List ℕ) (n : ℕ) → n ≡ first_length 10 s → length s ≤ n → lines [] ≡ drop 1 (lines s)
unfolding lines lines_of parted_by
next-none s n q h = sym (ap (drop 1) (lines-last s n q h) ∙ last-next s)

-- a text has no line exactly if it is empty

pub lines_none : (s : List ℕ) → length s ≤ 0 → lines s ≡ []
unfolding lines lines_of parted_by
lines_none [] h = refl
lines_none (x ∷ xs) h = absurd (omega arith)

pub lines-some : (s : List ℕ) → 0 < length s → 0 < length (lines s)
lines-some s h = go (ltb (first_length 10 s) (length s)) refl
  where
    go : (b : Bool) → ltb (first_length 10 s) (length s) ≡ b → 0 < length (lines s)
    go true e = omega (arith, ap length (lines_more s (first_length 10 s) refl (ltb-true (first_length 10 s) (length s) e)))
    go false e = omega (arith, ap length (lines-last s (first_length 10 s) refl (ltb-false (first_length 10 s) (length s) e)), last_some s h)

-- the lines of any other text are its first and those that follow

first_rest : (ls : List Line) → 0 < length ls → ls ≡ get_or ls 0 no_line ∷ drop 1 ls
first_rest [] h = absurd (omega arith)
first_rest (l ∷ ls) h = refl

pub lines-first : (s : List ℕ) → 0 < length s → lines s ≡ get_or (lines s) 0 no_line ∷ drop 1 (lines s)
lines-first s h = first_rest (lines s) (lines-some s h)

-- what is left of lines after the first k: one line more is passed, or the text is empty and no line is left

pub drop-next : (ls rest next : List Line) (k : ℕ) → rest ≡ drop k ls → next ≡ drop 1 rest → next ≡ drop (k + 1) ls
drop-next ls rest next k h e = e ∙ ap (drop 1) h ∙ drop-drop 1 k ls

pub drop-lines-empty : (s : List ℕ) (ls : List Line) (k n : ℕ) → k ≤ n → length s ≡ 0 → lines s ≡ drop k ls → lines s ≡ drop n ls
drop-lines-empty s ls k n h z e =
    let none : lines s ≡ [] = lines_none s (omega arith) in
    let short = ap length (sym e ∙ none) in
    none ∙ sym (drop_of_length-le ls (omega (arith, length-drop k ls)))

-- line k is the first of what is left after k lines
pub line-drop : (ls rest : List Line) (k : ℕ) → rest ≡ drop k ls → get_or rest 0 no_line ≡ get_or ls k no_line
line-drop ls rest k e =
    let z : k + 0 ≡ k = omega arith in
    ap (λ (r : List Line). get_or r 0 no_line) e ∙ get_or-drop k ls 0 no_line ∙ ap (λ (m : ℕ). get_or ls m no_line) z
