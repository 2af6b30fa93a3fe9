-- A text is refused by its length or by the first row that refuses a line, and passes where no row does. Assumes nothing.
use Rattle.std.specs.Prelude.{Err, None, Ok, Some}
use Prim.Native.Nat.{ℕ, ◌<◌, ◌≤◌}
use mathlib.Core.Path.{◌≡◌, refl, ap, ◌∙◌}
use mathlib.Core.List.{List, [], ◌∷◌, ◌++◌}
use mathlib.Core.Logic.{◌⊎◌, inl, inr}
use native.Mathlib.Omega.{arith}
use lib.ListN.{length}
use borrow.Author.Tests.{le-ltb}
use Rattle.refusals.specs.declared.Refusal.{Refusal}
use Rattle.refusals.specs.declared.Refusal.TheVariants.{TextLength, Layout, OutOfRange, BadName, Unpriced, NoTarget, Backward, UnknownCell}
use Rattle.text.specs.Text.{Line, lines}
use Rattle.text.proofs.TextLaws.{none, more}
use Rattle.file_format.specs.declared.Row.{Row}
use Rattle.file_format.specs.declared.Row.TheVariants.{Layout as Layout-row, Range as range-row, Name as name-row, Price as price-row, Target as target_row, Forward as forward-row, Known as known-row}
use Rattle.file_format.specs.Rows.{refused_line, Passes}
use Rattle.file_format.specs.Routine.{Routine, routine_of, Reading, unread, routine, Check, check, bound_checks, run_checks, checked, or_else, limited, read_run}
use Rattle.file_format.proofs.RowLaws.{Unrefused, read-passes, run-passes, passes-read, bound-order, run-order, too_long}
use Rattle.file_check.specs.HeldChecks.{read_by, check_of, Due}
use Rattle.file_check.specs.declared.Reader.{Reader}
use Rattle.file_check.specs.declared.Reader.TheVariants.{Bound, Run}

-- row 2 is due at once, and any other row once row 2 refuses nothing
pub due-after-layout : (row : Row) (ls : List Line) → Due row ls → (row ≡ Layout-row) ⊎ (refused_line Layout-row ls ≡ None)
due-after-layout Layout-row ls d = inl refl
due-after-layout range-row ls d = inr d
due-after-layout name-row ls d = inr d.0
due-after-layout price-row ls d = inr d.0
due-after-layout target_row ls d = inr d.0
due-after-layout forward-row ls d = inr d.0
due-after-layout known-row ls d = inr d.layout

-- a text that is too long
pub check-long : (text : List ℕ) (r : Reader) → 32768 < length text → Err TextLength ≡ check_of (read_by r text)
unfolding read_by check_of
check-long text Bound h = rw (too_long text h).0 refl
check-long text Run h = rw (too_long text h).1 refl

-- the first row that refuses a line
check-row : (text : List ℕ) (r : Reader) → length text ≤ 32768 → (before : List Check) (c : Check) (after after' : List Check) (n : ℕ)
    → bound_checks ≡ before ++ c ∷ after → run_checks ≡ before ++ c ∷ after' → Unrefused (lines text) before → refused_line c.row (lines text) ≡ Some n
    → Err (c.refusal n) ≡ check_of (read_by r text)
unfolding read_by check_of
check-row text Bound h before c after after' n p q b e = rw (bound-order text h before c after n p b e) refl
check-row text Run h before c after after' n p q b e = rw (run-order text h before c after' n q b e) refl

-- so for each row

module _ (text : List ℕ) (r : Reader) (h : length text ≤ 32768) (n : ℕ) where
  pub check-layout : refused_line Layout-row (lines text) ≡ Some n → Err (Layout n) ≡ check_of (read_by r text)
  check-layout e = check-row text r h [] (check Layout-row Layout) _ _ n refl refl none e

  module _ (a : refused_line Layout-row (lines text) ≡ None) where
    pub check-range : refused_line range-row (lines text) ≡ Some n → Err (OutOfRange n) ≡ check_of (read_by r text)
    check-range e = check-row text r h (check Layout-row Layout ∷ []) (check range-row OutOfRange) _ _ n refl refl (more a none) e

    module _ (b : refused_line range-row (lines text) ≡ None) where
      pub check-name : refused_line name-row (lines text) ≡ Some n → Err (BadName n) ≡ check_of (read_by r text)
      check-name e = check-row text r h (check Layout-row Layout ∷ check range-row OutOfRange ∷ []) (check name-row BadName) _ _ n refl refl (more a (more b none)) e

      module _ (c : refused_line name-row (lines text) ≡ None) where
        pub check-price : refused_line price-row (lines text) ≡ Some n → Err (Unpriced n) ≡ check_of (read_by r text)
        check-price e =
            check-row text r h (check Layout-row Layout ∷ check range-row OutOfRange ∷ check name-row BadName ∷ []) (check price-row Unpriced) _ _ n refl refl
            (more a (more b (more c none))) e

        module _ (d : refused_line price-row (lines text) ≡ None) where
          pub check-target : refused_line target_row (lines text) ≡ Some n → Err (NoTarget n) ≡ check_of (read_by r text)
          check-target e =
              check-row text r h (check Layout-row Layout ∷ check range-row OutOfRange ∷ check name-row BadName ∷ check price-row Unpriced ∷ [])
              (check target_row NoTarget) _ _ n refl refl (more a (more b (more c (more d none)))) e

          pub check-forward : refused_line target_row (lines text) ≡ None → refused_line forward-row (lines text) ≡ Some n → Err (Backward n) ≡ check_of (read_by r text)
          check-forward f e =
              check-row text r h (check Layout-row Layout ∷ check range-row OutOfRange ∷ check name-row BadName ∷ check price-row Unpriced ∷ check target_row NoTarget ∷ [])
              (check forward-row Backward) _ _ n refl refl (more a (more b (more c (more d (more f none))))) e

-- rows 2 to 6 and 13 refuse no line: all that the bound asks, and row 11 decides for the run

pub check-bound : (text : List ℕ) (r : Reader) → r ≡ Bound → length text ≤ 32768 → Passes (lines text) → Ok tt ≡ check_of (read_by r text)
unfolding read_by check_of
check-bound text r e h p = rw (e, passes-read text p h) refl

-- row 11, for the run

run_is : (text : List ℕ) (r : Reader) → r ≡ Run → length text ≤ 32768 → Passes (lines text) → check_of (or_else (refused_line known-row (lines text)) UnknownCell (routine (routine_of (lines text)))) ≡ check_of (read_by r text)
unfolding read_by read_run limited checked or_else
run_is text r e h p = rw (e, le-ltb 32768 (length text) h, p.layout, p.range, p.names, p.prices, p.targets, p.forward) refl

module _ (text : List ℕ) (r : Reader) (e : r ≡ Run) (h : length text ≤ 32768) (p : Passes (lines text)) where
  pub check-known : (n : ℕ) → refused_line known-row (lines text) ≡ Some n → Err (UnknownCell n) ≡ check_of (read_by r text)
  unfolding check_of or_else
  check-known n q = (rw q refl) ∙ run_is text r e h p

  pub check-run : refused_line known-row (lines text) ≡ None → Ok tt ≡ check_of (read_by r text)
  unfolding check_of or_else
  check-run q = (rw q refl) ∙ run_is text r e h p

-- what a check says of a reading

refused-not : {A : Type 0} (x : Refusal) → check_of (unread x) ≡ Ok tt → A
unfolding check_of
refused-not x e = let z : ◌≡◌ {A = ℕ} 0 1 = cc in absurd (omega arith)

pub refused-reading : (m : Reading) (x : Refusal) → check_of m ≡ Err x → m ≡ unread x
unfolding check_of
refused-reading (unread y) x e = let f : y ≡ x = cc in ap unread f
refused-reading (routine y) x e = let z : ◌≡◌ {A = ℕ} 0 1 = cc in absurd (omega arith)

-- a text that is not refused passes, and its reading is its routine

module _ (text : List ℕ) where
  read_is : (r : Reader) (x : Routine) → read_by r text ≡ routine x → Passes (lines text) × (x ≡ routine_of (lines text))
  unfolding read_by
  read_is Bound x e = let p = read-passes text x e in (p.0, p.1)
  read_is Run x e = let p = run-passes text x e in (p.0, p.2)

  pub accepted-reading : (r : Reader) → check_of (read_by r text) ≡ Ok tt → Passes (lines text) × (read_by r text ≡ routine (routine_of (lines text)))
  accepted-reading r e = go (read_by r text) refl e
    where
      go : (m : Reading) → read_by r text ≡ m → check_of m ≡ Ok tt → Passes (lines text) × (read_by r text ≡ routine (routine_of (lines text)))
      go (unread x) h k = refused-not x k
      go (routine x) h k = let p = read_is r x h in (p.0, h ∙ ap routine p.1)
