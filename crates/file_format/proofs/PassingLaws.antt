-- What a text that passes rows of the refusal table has: its first address, and how many lines, cells and fields. Assumes nothing.
use Rattle.std.specs.Prelude.{None}
use Prim.Native.Nat.{ℕ, suc, ◌+◌, ◌<◌, ◌≤◌}
use mathlib.Core.Path.{◌≡◌, refl}
use mathlib.Core.Bool.{Bool, true, false, cond}
use mathlib.Core.List.{List, [], ◌∷◌, ◌++◌}
use native.Mathlib.Omega.{arith}
use lib.Dec.{eqb, ltb}
use lib.IntN.{ℤ, pos, nat_abs}
use lib.ListN.{length, drop, length-drop}
use borrow.Author.Tests.{eqb-true, ltb-true}
use Rattle.text.specs.Text.{onto, parted_by, Line, lines_of, lines}
use Rattle.text_decimals.specs.Decimal.{numeral}
use Rattle.text.proofs.TextLaws.{and_left}
use Rattle.text.proofs.PieceLaws.{split-some}
use Rattle.numbers.specs.Numbers.{within}
use Rattle.file_format.specs.declared.Section.TheVariants.{Cells as cells, Fields as fields, Answers as answers}
use Rattle.file_format.specs.declared.Column.TheVariants.{Cell as cell}
use Rattle.file_format.specs.declared.Role.{Role}
use Rattle.file_format.specs.declared.Role.TheVariants.{Names as names, Values as values, Code as code, Answer as answer}
use Rattle.file_format.specs.declared.Row.{Row}
use Rattle.file_format.specs.declared.Row.TheVariants.{Layout as Layout-row, Range as range-row}
use Rattle.file_format.specs.Layout.{layout, is_answer, body, up_to_answer, past_answer, lines_of_code, answer_lines, answer_roles, code_roles, body_roles, roles, listed}
use Rattle.file_format.specs.Rows.{value, is_numeral, at, arg, on_argument, argument_in_range, first_addresses, is_laid_out, code_in_range, in_range, block_sizes, total, well_named, named, first_at, test, refused_line, Passes}
use Rattle.file_format.specs.Routine.{inside}
use Rattle.file_format.proofs.RowLaws.{Covered, passed, row-covered, laid_out, passes-named}
use Rattle.file_format.proofs.RangeLaws.{natural-within, inside_is, natural-inside, cells-few, values-counted}
use Rattle.file_format.proofs.CodeLaws.{code-laid-out}

-- ---- the lines after the layout

-- the later roles have the later lines
covered-drop : {t : Role → Line → Bool} (xs ys : List Role) {ls : List Line} → Covered t (xs ++ ys) ls → Covered t ys (drop (length xs) ls)
covered-drop [] ys c = c
covered-drop (x ∷ xs) ys (passed p c) = covered-drop xs ys c

-- so of the lines after the layout, where a row refuses nothing
pub covered-body : (row : Row) (ls : List Line) → refused_line row ls ≡ None → Covered (test row ls) (body_roles (body ls)) (body ls)
unfolding roles body
covered-body row ls e = covered-drop layout (body_roles (body ls)) (row-covered row ls e)

-- each code line from number k on passes the test t
pub data Coded (t : Role → Line → Bool) : ℕ → List Line → Type 0 where
  none : {k : ℕ} → Coded t k []
  next : {k : ℕ} {l : Line} {ls : List Line} → t (code k) l ≡ true → Coded t (suc k) ls → Coded t k (l ∷ ls)

code-covered : {t : Role → Line → Bool} (k : ℕ) (bs : List Line) → Covered t (code_roles k bs) bs → Coded t k (up_to_answer bs)
unfolding code_roles up_to_answer
code-covered k [] c = none
code-covered {t} k (l ∷ bs) c = go (is_answer l) c (code-covered (suc k) bs)
  where
    go : (b : Bool) → Covered t (cond b (names answers ∷ answer_roles 0 bs) (code k ∷ code_roles (suc k) bs)) (l ∷ bs) → (Covered t (code_roles (suc k) bs) bs → Coded t (suc k) (up_to_answer bs))
        → Coded t k (cond b [] (l ∷ up_to_answer bs))
    go true c ih = none
    go false (passed p c) ih = next p (ih c)

body-covered : {t : Role → Line → Bool} (bs : List Line) → Covered t (body_roles bs) bs → Coded t 0 (lines_of_code bs)
unfolding body_roles lines_of_code
body-covered [] c = none
body-covered (l ∷ bs) (passed p c) = next p (code-covered 1 bs c)

-- where a row refuses no line, each code line passes its test
pub code-passed : (row : Row) (ls : List Line) → refused_line row ls ≡ None → Coded (test row ls) 0 (lines_of_code (body ls))
code-passed row ls e = body-covered (body ls) (covered-body row ls e)

-- ---- the first address

first-within : (ls bs : List Line) → Covered (test range-row ls) (body_roles bs) bs → within first_addresses (first_at bs) ≡ true
unfolding body_roles first_at test in_range code_in_range
first-within ls [] c = refl
first-within ls (l ∷ bs) (passed p c) =
    and_left (within first_addresses (value (at l.text))) (on_argument (argument_in_range (arg l.text)) l.text) p

module _ (ls : List Line) (e : refused_line range-row ls ≡ None) where
  first-ranged : within first_addresses (first_at (body ls)) ≡ true
  first-ranged = first-within ls (body ls) (covered-body range-row ls e)

  first-is : inside first_addresses (first_at (body ls)) ≡ first_at (body ls)
  first-is = inside_is first_addresses (first_at (body ls)) first-ranged

  pub first-natural : pos (nat_abs (inside first_addresses (first_at (body ls)))) ≡ first_at (body ls)
  first-natural = rw first-is (natural-within 0 60000 (first_at (body ls)) first-ranged).is

-- whatever the text says
pub first_small : (z : ℤ) → nat_abs (inside first_addresses z) ≤ 60000
first_small z = (natural-inside 0 60000 z).below

-- ---- the number of lines

onto-few : (x : ℕ) (ps : List (List ℕ)) → length (lines_of (onto x ps)) ≤ suc (length (lines_of ps))
unfolding lines_of
onto-few x [] = omega arith
onto-few x (p ∷ []) = omega arith
onto-few x (p ∷ q ∷ ps) = omega arith

ended-few : (p : List ℕ) (ps : List (List ℕ)) → 0 < length ps → length (lines_of (p ∷ ps)) ≤ suc (length (lines_of ps))
unfolding lines_of
ended-few p [] h = absurd (omega arith)
ended-few p (q ∷ ps) h = omega arith

pieces-count : (text : List ℕ) → length (lines_of (parted_by 10 text)) ≤ length text
unfolding parted_by lines_of
pieces-count [] = omega arith
pieces-count (x ∷ xs) = go (eqb x 10) (pieces-count xs)
  where
    go : (b : Bool) → length (lines_of (parted_by 10 xs)) ≤ length xs → length (lines_of (cond b ([] ∷ parted_by 10 xs) (onto x (parted_by 10 xs)))) ≤ suc (length xs)
    go true h = let k = ended-few [] (parted_by 10 xs) (split-some 10 xs) in omega arith
    go false h = let k = onto-few x (parted_by 10 xs) in omega arith

-- no more lines than bytes
pub lines-count : (text : List ℕ) → length (lines text) ≤ length text
unfolding lines
lines-count text = pieces-count text

up-to-count : (ls : List Line) → length (up_to_answer ls) ≤ length ls
unfolding up_to_answer
up-to-count [] = omega arith
up-to-count (l ∷ ls) = go (is_answer l) (up-to-count ls)
  where
    go : (b : Bool) → length (up_to_answer ls) ≤ length ls → length (cond b [] (l ∷ up_to_answer ls)) ≤ suc (length ls)
    go true h = omega arith
    go false h = omega arith

pub code-among : (ls : List Line) → length (lines_of_code ls) ≤ length ls
unfolding lines_of_code
code-among [] = omega arith
code-among (l ∷ ls) = let h = up-to-count ls in omega arith

pub code-count : (text : List ℕ) → length (lines_of_code (body (lines text))) ≤ length text
unfolding body
code-count text =
    let ls = lines text in
    let h : length (lines_of_code (body ls)) ≤ length (body ls) = code-among (body ls) in
    let k : length (body ls) ≤ length ls = rw length-drop (omega arith) in
    let m : length ls ≤ length text = lines-count text in
    omega arith

-- ---- the lines of code and the answers

module _ (ls : List Line) where
  code_below : (k : ℕ) (l : Line) → test Layout-row ls (code k) l ≡ true → k < 1024
  code_below k l p = (code-laid-out ls k l.text (laid_out ls (code k) l p)).few

  answer-below : (k : ℕ) (l : Line) → test Layout-row ls (answer k) l ≡ true → k < 64
  unfolding is_laid_out
  answer-below k l p = ltb-true k 64 (and_left (ltb k 64) (is_numeral (numeral l.text)) (laid_out ls (answer k) l p))

  -- code line k and the lines after it, up to ANSWER
  code-from : (k : ℕ) (bs : List Line) → k ≤ 1024 → Covered (test Layout-row ls) (code_roles k bs) bs → k + length (up_to_answer bs) ≤ 1024
  unfolding code_roles up_to_answer
  code-from k [] h c = omega arith
  code-from k (l ∷ bs) h c = go (is_answer l) c (code-from (suc k) bs)
    where
      go : (b : Bool) → Covered (test Layout-row ls) (cond b (names answers ∷ answer_roles 0 bs) (code k ∷ code_roles (suc k) bs)) (l ∷ bs)
          → (suc k ≤ 1024 → Covered (test Layout-row ls) (code_roles (suc k) bs) bs → suc k + length (up_to_answer bs) ≤ 1024)
          → k + length (cond b [] (l ∷ up_to_answer bs)) ≤ 1024
      go true c ih = omega arith
      go false (passed p c) ih =
          let m : suc k + length (up_to_answer bs) ≤ 1024 = ih (code_below k l p) c in
          omega arith

  -- answer k and those after it
  answers-from : (k : ℕ) (bs : List Line) → k ≤ 64 → Covered (test Layout-row ls) (answer_roles k bs) bs → k + length bs ≤ 64
  unfolding answer_roles
  answers-from k [] h c = omega arith
  answers-from k (l ∷ bs) h (passed p c) =
      let m : suc k + length bs ≤ 64 = answers-from (suc k) bs (answer-below k l p) c in
      omega arith

  answers-past : (k : ℕ) (bs : List Line) → Covered (test Layout-row ls) (code_roles k bs) bs → length (past_answer bs) ≤ 64
  unfolding code_roles past_answer
  answers-past k [] c = omega arith
  answers-past k (l ∷ bs) c = go (is_answer l) c (answers-past (suc k) bs)
    where
      go : (b : Bool) → Covered (test Layout-row ls) (cond b (names answers ∷ answer_roles 0 bs) (code k ∷ code_roles (suc k) bs)) (l ∷ bs)
          → (Covered (test Layout-row ls) (code_roles (suc k) bs) bs → length (past_answer bs) ≤ 64) → length (cond b bs (past_answer bs)) ≤ 64
      go true (passed p c) ih =
          let m : 0 + length bs ≤ 64 = answers-from 0 bs (omega arith) c in
          omega arith
      go false (passed p c) ih = ih c

  few-code : (bs : List Line) → Covered (test Layout-row ls) (body_roles bs) bs → length (lines_of_code bs) ≤ 1024
  unfolding body_roles lines_of_code
  few-code [] c = omega arith
  few-code (l ∷ bs) (passed p c) =
      let m : 1 + length (up_to_answer bs) ≤ 1024 = code-from 1 bs (omega arith) c in
      omega arith

  some-code : (bs : List Line) → Covered (test Layout-row ls) (body_roles bs) bs → 1 ≤ length (lines_of_code bs)
  unfolding body_roles lines_of_code
  some-code [] x' = elim x' [ ]
  some-code (l ∷ bs) (passed p c) = omega arith

  few-answers : (bs : List Line) → Covered (test Layout-row ls) (body_roles bs) bs → length (answer_lines bs) ≤ 64
  unfolding body_roles answer_lines
  few-answers [] c = omega arith
  few-answers (l ∷ bs) (passed p c) = answers-past 1 bs c

module _ (ls : List Line) (e : refused_line Layout-row ls ≡ None) where
  pub code-few : length (lines_of_code (body ls)) ≤ 1024
  code-few = few-code ls (body ls) (covered-body Layout-row ls e)

  pub code-some : 1 ≤ length (lines_of_code (body ls))
  code-some = some-code ls (body ls) (covered-body Layout-row ls e)

  pub answers-few : length (answer_lines (body ls)) ≤ 64
  answers-few = few-answers ls (body ls) (covered-body Layout-row ls e)

-- ---- cells and fields

-- "block after block, no gap"
fields-counted : (ls : List Line) → Passes ls → total (block_sizes (listed (names fields) ls)) ≡ length (listed (names fields) ls)
unfolding listed named well_named
fields-counted ls p =
    let ws = listed (names fields) ls in
    eqb-true (total (block_sizes ws)) (length ws) (passes-named p (names fields) refl)

module _ {ls : List Line} (p : Passes ls) where
  pub cells-small : length (listed (values cells cell) ls) ≤ 33
  cells-small = rw (values-counted p cells cell refl) (cells-few ls p)

  pub fields-total : total (block_sizes (listed (names fields) ls)) ≡ length (listed (values fields cell) ls)
  fields-total = rw (values-counted p fields cell refl) (fields-counted ls p)
