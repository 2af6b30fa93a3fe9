-- The lines that an import makes: "the AT lines under their names line, from address 0". (document 02, §2)
use Rattle.std.specs.Prelude.{◌∷◌, ◌++◌}
use Rattle.refusals.specs.Library.{ℕ, suc, nat_abs, get_or, List, []}
use Rattle.text.specs.Text.{bytes, index_of}
use Rattle.text_decimals.specs.Decimal.{decimal, integer}
use Rattle.instructions.specs.declared.Argument.{Argument}
use Rattle.instructions.specs.declared.Argument.TheVariants.{Absent, Target, Primitive, Within}
use Rattle.instructions.specs.Kinds.{kind_at}
use Rattle.words.specs.Decoding.{Item, landing, number_at}

-- ARG, where ps are the primitives and xs all instructions: the address of a target, the name of a primitive, a number
unfoldable pub argument_text : List (List ℕ) → List Item → Item → Argument → List ℕ
argument_text ps xs x Absent = bytes "-"
argument_text ps xs x Target = decimal (index_of (number_at xs (landing x)))
argument_text ps xs x Primitive = get_or ps (nat_abs x.argument) []
argument_text ps xs x (Within r) = integer x.argument

-- "AT OP ARG" of instruction k
unfoldable pub line_text : List (List ℕ) → List Item → ℕ → Item → List ℕ
line_text ps xs k x = decimal k ++ bytes " " ++ (kind_at x.kind).name ++ bytes " " ++ argument_text ps xs x (kind_at x.kind).argument ++ bytes "\n"

-- the lines of the instructions ys, the first of which has the number k
unfoldable pub lines_from : List (List ℕ) → List Item → ℕ → List Item → List ℕ
lines_from ps xs k [] = []
lines_from ps xs k (y ∷ ys) = line_text ps xs k y ++ lines_from ps xs (suc k) ys

-- the names line and the lines of all instructions
unfoldable pub code_text : List (List ℕ) → List Item → List ℕ
code_text ps xs = bytes "AT OP ARG\n" ++ lines_from ps xs 0 xs
