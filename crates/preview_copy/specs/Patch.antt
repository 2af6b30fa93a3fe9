-- A routine file with one instruction replaced. (document 02 §10)
use Rattle.std.specs.Prelude.{◌+◌, ◌-◌, ◌&&◌, ◌++◌}
use Rattle.refusals.specs.Library.{ℕ, suc, ltb, leb, length, get_or, take, drop, Bool, List}
use Rattle.text.specs.Text.{bytes, Line, no_line, lines_text}
use Rattle.machine.specs.Machine.{Code}
use Rattle.file_format.specs.Layout.{layout}
use Rattle.file_format.specs.Rows.{at}
use Rattle.file_format.specs.Routine.{code_in}

-- whether an address is one of the code
unfoldable pub in_code : Code → ℕ → Bool
in_code c address = leb c.first address && ltb (address - c.first) (length c.instructions)

-- the line, counted from 0, on which an address of the code stands: the code follows the layout, and "AT .. rises by one"
abbrev pub line_of : Code → ℕ → ℕ
line_of c address = length layout + (address - c.first)

-- the bytes of the lines ls with another instruction on line k: "the new instruction as text, which stands in the copy after the address
-- and a space"; all else is as it was
unfoldable pub patched_at : List Line → ℕ → List ℕ → List ℕ
patched_at ls k instruction = lines_text (take k ls) ++ at (get_or ls k no_line).text ++ bytes " " ++ instruction ++ bytes "\n" ++ lines_text (drop (suc k) ls)

-- "a patched copy" of a file by its lines
unfoldable pub patched : List Line → ℕ → List ℕ → List ℕ
patched ls address instruction = patched_at ls (line_of (code_in ls) address) instruction
