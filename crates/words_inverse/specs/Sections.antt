-- The section of the code as a file holds it: what an import makes anew. (document 02, §2)
use Rattle.std.specs.Prelude.{◌-◌, ◌++◌}
use Rattle.refusals.specs.Library.{ℕ, suc, length, take, drop, List}
use Rattle.text.specs.Text.{Line, lines_text}
use Rattle.file_format.specs.declared.Section.TheVariants.{Primitives as primitives}
use Rattle.file_format.specs.declared.Role.TheVariants.{Names as names}
use Rattle.file_format.specs.Layout.{layout, body, lines_of_code, text_at}

-- how many lines stand before `AT OP ARG`, the last line of the layout
abbrev pub lines_before : ℕ
lines_before = length layout - 1

-- how many lines the section of the code has: `AT OP ARG` and the code lines
abbrev pub section_length : List Line → ℕ
section_length ls = suc (length (lines_of_code (body ls)))

-- "the AT lines under their names line": the bytes of these lines
unfoldable pub code_section : List Line → List ℕ
code_section ls = lines_text (take (section_length ls) (drop lines_before ls))

-- the file with other bytes in their place
unfoldable pub replaced : List Line → List ℕ → List ℕ
replaced ls bs = lines_text (take lines_before ls) ++ bs ++ lines_text (drop (section_length ls) (drop lines_before ls))

-- the primitives line of the file
abbrev pub primitives_line : List Line → List ℕ
primitives_line ls = text_at (names primitives) layout ls
