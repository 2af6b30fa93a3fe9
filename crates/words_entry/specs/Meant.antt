-- The code that words hold, at the prices of a file. (document 02, §2)
use Rattle.refusals.specs.Library.{ℕ, ℤ, pos, List, map}
use Rattle.machine.specs.Terms.{Argument, Absent, Target, Primitive, Within, kind_at, Code, Instruction}
use Rattle.answers.specs.Terms.{listed, Line, find, kinds, primitives, extra, values}
use Rattle.text.specs.Text.{index_of}
use Rattle.machine.specs.Machine.{instruction, price_of}
use Rattle.file_format.specs.Rows.{extra_counts}
use Rattle.file_format.specs.Routine.{natural_at, PriceList, price_list, prices}
use Rattle.words.specs.Words.{words_of}
use Rattle.words.specs.Decoding.{Item, decoded, items, landing, number_at}

-- the argument of an instruction among xs: an offset leads to the address of an instruction, which is its number, since the code begins
-- "from address 0"; "C_CALL names a primitive by its place, from 0"; else it is the argument word
unfoldable pub argument_meant : List Item → Item → Argument → ℤ
argument_meant xs x Absent = pos 0
argument_meant xs x Target = pos (index_of (number_at xs (landing x)))
argument_meant xs x Primitive = x.argument
argument_meant xs x (Within r) = x.argument

-- kind k with the argument v, at the prices of the kinds (ks), their extras (es) and the primitives (ps)
unfoldable pub priced_as : PriceList → List (List ℕ) → PriceList → ℕ → ℤ → Instruction
priced_as ks es ps k v =
    let i = find (kind_at k).name ks.names in
    instruction (kind_at k) v (price_of (prices ks ps) (kind_at k).argument i v) (natural_at extra_counts es i)

-- the code of words, at the prices of the lines ls of a file
unfoldable pub code_meant : List Line → List ℕ → Code
code_meant ls words =
    let xs = items (decoded (words_of words)) in
    record {
      first = 0;
      instructions =
          map (λ x. priced_as (price_list kinds ls) (listed (values kinds extra) ls) (price_list primitives ls) x.kind (argument_meant xs x (kind_at x.kind).argument)) xs;
    }
