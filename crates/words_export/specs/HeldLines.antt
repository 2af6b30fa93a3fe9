-- Code lines as the code of the export reads and writes them: by their texts, and by the indices of all opcodes.
use Rattle.std.specs.Prelude.{◌≤◌, ◌<◌, ◌-ℤ◌, ◌≡◌}
use Rattle.refusals.specs.Library.{ℕ, ℤ, pos, length, get_or, take, true, List, map}
use Rattle.text.specs.Text.{Line, find}
use Rattle.instructions.specs.Kinds.{addresses, kind_names, kind_at}
use Rattle.instructions.specs.declared.Argument.{Argument}
use Rattle.file_format.specs.Rows.{value, op, arg, argument_reaches}
use Rattle.file_format.specs.Routine.{inside, argument_value}
use Rattle.words.specs.Words.{all_bytes}
use Rattle.words.specs.Decoding.{item_of}
use Rattle.words.specs.Export.{Op, relative, op_of, argument_word, items_from, item_words, words_in}

-- the code lines ls of a file whose primitives are ps and whose first address is `first`
abbrev pub ops_in : List (List ℕ) → ℕ → List Line → List Op
ops_in ps first ls = map (λ l. op_of ps first l.text) ls

-- the bytes of code lines from index i on, where the opcodes of all stand at the indices is
unfoldable pub bytes_from : List ℕ → ℕ → List Op → List ℕ
bytes_from is i xs = all_bytes (words_in (items_from is i xs))

-- the bytes of the first of the lines ls, as many as there are indices
abbrev pub lines_bytes : List (List ℕ) → List ℕ → ℕ → List Line → List ℕ
lines_bytes ps is first ls = bytes_from is 0 (ops_in ps first (take (length is) ls))

-- the number of the line that the target w is the address of
abbrev pub line_at : ℕ → List ℕ → ℤ
line_at first w = inside addresses (value w) -ℤ pos first

-- the argument word that the argument w makes, with its opcode at index i
unfoldable pub argument_at : List (List ℕ) → List ℕ → ℕ → ℕ → List ℕ → Argument → ℤ
argument_at ps is first i w a = argument_word is i (relative first (argument_value ps w a) a) a

-- the bytes of the code line `text`, with its opcode at index i
unfoldable pub line_bytes : List (List ℕ) → List ℕ → ℕ → ℕ → List ℕ → List ℕ
line_bytes ps is first i text =
    let k = find (op text) kind_names in
    all_bytes (item_words (item_of i k (argument_at ps is first i (arg text) (kind_at k).argument)))

-- "1 to 1,024 lines", of two words at most, and "AT starts anywhere from 0 to 60,000"
pub record Indexed (is : List ℕ) (first : ℕ) : Type 0 where
  pub few : length is ≤ 1024
  pub small : (j : ℕ) → get_or is j 0 < 2048
  pub low : first ≤ 60000

-- an argument that is no target, or one of the n addresses from `first` on
pub record Leads (first n : ℕ) (w : List ℕ) (a : Argument) : Type 0 where
  pub reaches : argument_reaches (pos first) n w a ≡ true

-- the same of the argument of a code line
abbrev pub CodeLeads : ℕ → ℕ → List ℕ → Type 0
CodeLeads first n text = Leads first n (arg text) (kind_at (find (op text) kind_names)).argument
