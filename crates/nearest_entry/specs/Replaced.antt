-- A routine file with the value of one cell replaced, and the routine that is tried. (document 02, §13)
use Rattle.std.specs.Prelude.{◌<◌, ◌++◌, ◌≡◌}
use Rattle.refusals.specs.Library.{ℕ, suc, ℤ, length, get_or, take, drop, set, List, []}
use Rattle.answers.specs.Terms.{listed, Routine, bytes, Line, Section, cells, fields, cell, names, values}
use Rattle.text.specs.Text.{lines_text, joined}
use Rattle.text_decimals.specs.Decimal.{integer}
use Rattle.nearest_changes.specs.declared.Position.{Position}
use Rattle.nearest_changes.specs.declared.Position.TheVariants.{Accu, Entry, Field}
use Rattle.nearest_changes.specs.declared.Change.{Change}
use Rattle.nearest_changes.specs.Changes.{applied}
use Rattle.nearest_entry.specs.Answers.{name_of}

-- the section that names a cell: line 10 has "ACCU, then S0 on", line 12 "B0.0 B0.1 and on"
abbrev pub section_of : Position → Section
section_of Accu = cells
section_of (Entry n) = cells
section_of (Field k n) = fields

-- how many lines stand before the line of its values: line 11 or 13
abbrev pub lines_above : Position → ℕ
lines_above Accu = 10
lines_above (Entry n) = 10
lines_above (Field k n) = 12

-- word i of that line, counted from 0, is the cell's: "values in that order", that of the names
pub record Under (ls : List Line) (p : Position) (i : ℕ) : Type 0 where
  pub there : i < length (listed (names (section_of p)) ls)
  pub name : get_or (listed (names (section_of p)) ls) i [] ≡ name_of p

-- the bytes of the lines ls with the number v as that word; all else is as it was
unfoldable pub with_value : List Line → Position → ℕ → ℤ → List ℕ
with_value ls p i v =
    lines_text (take (lines_above p) ls)
    ++ joined 32 (set (listed (values (section_of p) cell) ls) i (integer v))
    ++ bytes "\n"
    ++ lines_text (drop (suc (lines_above p)) ls)

-- "the cell's value is changed": the routine that is tried
unfoldable pub tried : Change → Routine → Routine
tried c x = record { budget = x.budget; tick = x.tick; code = x.code; start = applied c x.start; answers = x.answers }
