-- Laws of the rows of the refusal table on a file that was made of another: a row refuses no line where every line passes its test, and
-- where both files have the same names, the test of a line that is no code is the same in both. Assumes nothing.
use Rattle.std.specs.Prelude.{None}
use Prim.Native.Nat.{ℕ, suc}
use mathlib.Core.Path.{◌≡◌, refl, sym}
use mathlib.Core.Bool.{Bool, true, false, false≢true}
use mathlib.Core.List.{List}
use Rattle.text.specs.Text.{Line}
use Rattle.file_format.specs.declared.Section.{Section}
use Rattle.file_format.specs.declared.Section.TheVariants.{Fields as fields}
use Rattle.file_format.specs.declared.Role.{Role}
use Rattle.file_format.specs.declared.Role.TheVariants.{Names as names, Values as values, Code as code, Answer as answer}
use Rattle.file_format.specs.declared.Row.{Row}
use Rattle.file_format.specs.declared.Row.TheVariants.{Layout as Layout-row, Range as range-row, Name as name-row, Price as price-row, Target as target_row, Forward as forward-row, Known as known-row}
use Rattle.file_format.specs.Layout.{roles, listed}
use Rattle.file_format.specs.Rows.{on_code, is_laid_out, in_range, named, priced, reaches, forward, test, earliest, refused_line}
use Rattle.file_format.proofs.RowLaws.{Covered, rest, passed}

-- ---- a row that every line passes

covered-earliest : (t : Role → Line → Bool) (n : ℕ) {rs : List Role} {ls : List Line} → Covered t rs ls → earliest t n rs ls ≡ None
unfolding earliest
covered-earliest t n rest = refl
covered-earliest t n (passed p c) = rw p (covered-earliest t (suc n) c)

pub covered-row : (row : Row) (ls : List Line) → Covered (test row ls) (roles ls) ls → refused_line row ls ≡ None
unfolding refused_line
covered-row row ls c = covered-earliest (test row ls) 1 c

-- ---- a line that is no code

abbrev pub is_code : Role → Bool
is_code (names s) = false
is_code (values s c) = false
is_code (code k) = true
is_code (answer k) = false

module _ (ls ms : List Line) (same : (s : Section) → listed (names s) ms ≡ listed (names s) ls) where
  pub test-other : (row : Row) (r : Role) → is_code r ≡ false → (l : Line) → test row ms r l ≡ test row ls r l
  unfolding test is_laid_out in_range named priced reaches forward on_code
  test-other Layout-row (names s) e l = refl
  test-other Layout-row (values s c) e l = rw (same s) refl
  test-other Layout-row (code k) e l = absurd (false≢true (sym e))
  test-other Layout-row (answer k) e l = refl
  test-other range-row (names s) e l = refl
  test-other range-row (values s c) e l = rw (same s) refl
  test-other range-row (code k) e l = absurd (false≢true (sym e))
  test-other range-row (answer k) e l = refl
  test-other name-row (names s) e l = refl
  test-other name-row (values s c) e l = rw (same fields) refl
  test-other name-row (code k) e l = absurd (false≢true (sym e))
  test-other name-row (answer k) e l = refl
  test-other price-row (names s) e l = refl
  test-other price-row (values s c) e l = refl
  test-other price-row (code k) e l = absurd (false≢true (sym e))
  test-other price-row (answer k) e l = refl
  test-other target_row (names s) e l = refl
  test-other target_row (values s c) e l = refl
  test-other target_row (code k) e l = absurd (false≢true (sym e))
  test-other target_row (answer k) e l = refl
  test-other forward-row (names s) e l = refl
  test-other forward-row (values s c) e l = refl
  test-other forward-row (code k) e l = absurd (false≢true (sym e))
  test-other forward-row (answer k) e l = refl
  test-other known-row r e l = refl
