-- What an export makes of code lines: the inverse of the import. (document 02, §2)
use Rattle.std.specs.Prelude.{◌+◌, ◌-ℤ◌, ◌∷◌, ◌++◌}
use Rattle.refusals.specs.Library.{ℕ, suc, ℤ, pos, nat_abs, get_or, cond, List, [], map}
use Rattle.numbers.specs.Numbers.{residue}
use Rattle.text.specs.Text.{Line, find}
use Rattle.instructions.specs.Kinds.{kind_names, kind_at}
use Rattle.instructions.specs.declared.Argument.{Argument}
use Rattle.instructions.specs.declared.Argument.TheVariants.{Absent, Target, Primitive, Within}
use Rattle.file_format.specs.declared.Section.TheVariants.{Primitives as primitives}
use Rattle.file_format.specs.declared.Role.TheVariants.{Names as names}
use Rattle.file_format.specs.Layout.{body, lines_of_code, listed}
use Rattle.file_format.specs.Rows.{op, arg}
use Rattle.file_format.specs.Routine.{argument_value, first_address}
use Rattle.words.specs.Words.{word_bits, all_bytes}
use Rattle.words.specs.Decoding.{Item, item_of, has_argument, size_of}

-- a code line: its kind by its place in the table, and its argument, a number, the number of a target's line, or a primitive's place
pub record Op : Type 0 where
  pub kind : ℕ
  pub value : ℤ

-- addresses may begin anywhere: a target by the number of its line
unfoldable pub relative : ℕ → ℤ → Argument → ℤ
relative first z Absent = z
relative first z Target = z -ℤ pos first
relative first z Primitive = z
relative first z (Within r) = z

-- the code line `text` of a file whose primitives are ps and whose first address is `first`
unfoldable pub op_of : List (List ℕ) → ℕ → List ℕ → Op
op_of ps first text =
    let k = find (op text) kind_names in
    let a = (kind_at k).argument in
    record { kind = k; value = relative first (argument_value ps (arg text) a) a }

-- the indices of the opcodes, from i on
unfoldable pub positions : ℕ → List Op → List ℕ
positions i [] = []
positions i (x ∷ xs) = i ∷ positions (i + size_of x.kind) xs

-- the argument word of the instruction with its opcode at i: "A branch word is an offset from its own position"
unfoldable pub argument_word : List ℕ → ℕ → ℤ → Argument → ℤ
argument_word is i z Absent = pos 0
argument_word is i z Target = pos (get_or is (nat_abs z) 0) -ℤ pos (suc i)
argument_word is i z Primitive = z
argument_word is i z (Within r) = z

-- the instructions with their positions, where the opcodes of all stand at the indices is
unfoldable pub items_from : List ℕ → ℕ → List Op → List Item
items_from is i [] = []
items_from is i (x ∷ xs) = item_of i x.kind (argument_word is i x.value (kind_at x.kind).argument) ∷ items_from is (i + size_of x.kind) xs

-- the words of an instruction: its opcode, and its argument word where its kind has one
unfoldable pub item_words : Item → List ℕ
item_words x = (kind_at x.kind).opcode ∷ cond (has_argument (kind_at x.kind).argument) (residue word_bits x.argument ∷ []) []

-- the words of several
unfoldable pub words_in : List Item → List ℕ
words_in [] = []
words_in (x ∷ xs) = item_words x ++ words_in xs

-- the bytes of code lines
unfoldable pub export_ops : List Op → List ℕ
export_ops xs = all_bytes (words_in (items_from (positions 0 xs) 0 xs))

-- ANSWER, prices and cells play no part: what an export makes of the lines of a file that passes 1 to 6 and 13
unfoldable pub export_bytes : List Line → List ℕ
export_bytes ls = export_ops (map (λ l. op_of (listed (names primitives) ls) (first_address (body ls)) l.text) (lines_of_code (body ls)))
