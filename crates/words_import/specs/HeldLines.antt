-- A line of code as the code of the import writes it: by the table of positions, and by what an instruction consists of.
use Rattle.std.specs.Prelude.{◌≤◌, ◌+ℤ◌, ◌++◌}
use Rattle.refusals.specs.Library.{ℕ, suc, ℤ, pos, nat_abs, length, get_or, List, []}
use Rattle.text.specs.Text.{bytes, index_of}
use Rattle.text_decimals.specs.Decimal.{decimal, integer}
use Rattle.instructions.specs.declared.Argument.{Argument}
use Rattle.instructions.specs.declared.Argument.TheVariants.{Absent, Target, Primitive, Within}
use Rattle.instructions.specs.Kinds.{kind_at}
use Rattle.words.specs.Held.{number_in}

-- AT and OP of instruction n, of kind k, each with the space after it
unfoldable pub op_in : ℕ → ℕ → List ℕ
op_in n k = decimal n ++ bytes " " ++ (kind_at k).name ++ bytes " "

-- ARG of the instruction with its opcode at index i and the argument word z, where ps are the primitives and t the table of positions
unfoldable pub argument_in : List (List ℕ) → List ℕ → ℕ → ℤ → Argument → List ℕ
argument_in ps t i z Absent = bytes "-"
argument_in ps t i z Target = decimal (index_of (number_in t (pos (suc i) +ℤ z)))
argument_in ps t i z Primitive = get_or ps (nat_abs z) []
argument_in ps t i z (Within r) = integer z

-- the line of instruction n, of kind k
unfoldable pub line_in : List (List ℕ) → List ℕ → ℕ → ℕ → ℕ → ℤ → List ℕ
line_in ps t n i k z = op_in n k ++ argument_in ps t i z (kind_at k).argument ++ bytes "\n"

-- no name is longer than a primitive's may be: "1 to 8 characters"
pub record ShortNames (ps : List (List ℕ)) : Type 0 where
  pub short : (k : ℕ) → length (get_or ps k []) ≤ 8
