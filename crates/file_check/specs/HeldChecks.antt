-- What a check of a text says, by the rows of the refusal table.
use Rattle.refusals.specs.declared.Refusal.{Refusal}
use Rattle.std.specs.Prelude.{◌≡◌, Err, None, Ok, Option, Result, Some, ⊤}
use Rattle.refusals.specs.Library.{ℕ, eqb, ltb, Bool, cond, List}
use Rattle.text.specs.Text.{Line}
use Rattle.file_format.specs.declared.Row.{Row}
use Rattle.file_format.specs.declared.Row.TheVariants.{Layout as Layout-row, Range as range-row, Name as name-row, Price as price-row, Target as target_row, Forward as forward-row, Known as known-row}
use Rattle.file_format.specs.Rows.{refused_line, Passes}
use Rattle.file_format.specs.Routine.{Reading, unread, routine, read_bound, read_run}
use Rattle.file_check.specs.declared.Reader.{Reader}
use Rattle.file_check.specs.declared.Reader.TheVariants.{Bound, Run}
use Rattle.file_check.specs.declared.Tests.{Tests}
use Rattle.file_check.specs.declared.Earliest.{Earliest}

-- how the bound and the run read a text
unfoldable pub read_by : Reader → List ℕ → Reading
read_by Bound text = read_bound text
read_by Run text = read_run text

-- the refusal of a reading, if it is refused
unfoldable pub check_of : Reading → Result ⊤ Refusal
check_of (unread r) = Err r
check_of (routine x) = Ok tt

-- a row is due once the rows before it refuse no line: "Checked in the order of the rows"
abbrev pub Due : Row → List Line → Type 0
Due Layout-row ls = Unit {0}
Due range-row ls = refused_line Layout-row ls ≡ None
Due name-row ls = (refused_line Layout-row ls ≡ None) × (refused_line range-row ls ≡ None)
Due price-row ls = (refused_line Layout-row ls ≡ None) × (refused_line range-row ls ≡ None) × (refused_line name-row ls ≡ None)
Due target_row ls = (refused_line Layout-row ls ≡ None) × (refused_line range-row ls ≡ None) × (refused_line name-row ls ≡ None) × (refused_line price-row ls ≡ None)
Due forward-row ls = (refused_line Layout-row ls ≡ None) × (refused_line range-row ls ≡ None) × (refused_line name-row ls ≡ None) × (refused_line price-row ls ≡ None) × (refused_line target_row ls ≡ None)
Due known-row ls = Passes ls

-- what the test of a row came to
abbrev pub tested_by : Row → Tests → Bool
tested_by Layout-row t = t.layout
tested_by range-row t = t.range
tested_by name-row t = t.name
tested_by price-row t = t.price
tested_by target_row t = t.target
tested_by forward-row t = t.forward
tested_by known-row t = t.known

-- the number that is kept for a row
abbrev pub kept_by : Row → Earliest → ℕ
kept_by Layout-row e = e.layout
kept_by range-row e = e.range
kept_by name-row e = e.name
kept_by price-row e = e.price
kept_by target_row e = e.target
kept_by forward-row e = e.forward
kept_by known-row e = e.known

-- and after line n, which passes or not: the earliest line stays
unfoldable pub kept_after : ℕ → Bool → ℕ → ℕ
kept_after kept passes n = cond (ltb 0 kept) kept (cond passes 0 n)

-- the line that a number kept stands for: 0 for none
unfoldable pub refused_at : ℕ → Option ℕ
refused_at n = cond (eqb n 0) None (Some n)
