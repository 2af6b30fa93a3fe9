-- Cells, and all that the machine does with them: nothing above this layer looks inside a cell. (document 01, Cells and machine; document
-- 02 §12)
use Rattle.refusals.specs.Library.{ℕ, eqb, ℤ, pos, nat_abs, le_z, lt_z, Bool, true, cond, not}
use Rattle.std.specs.Prelude.{neg_ℤ, ◌+◌, ◌-◌, ◌+ℤ◌, ◌-ℤ◌, ◌&&◌}
use Rattle.numbers.specs.Numbers.{bits, modulus, wrap, same, holds, bit, within, numbers}
use Rattle.numbers.specs.declared.Comparison.{Comparison}
use Rattle.numbers.specs.declared.Comparison.TheVariants.{Equal, Unequal, Less, AtMost, Greater, AtLeast}
use Rattle.cells.specs.declared.Value.{Value}
use Rattle.cells.specs.declared.Value.TheVariants.{Range, Handle}
use Rattle.cells.specs.declared.Cell.{Cell}
use Rattle.cells.specs.declared.Unary.{Unary}
use Rattle.cells.specs.declared.Unary.TheVariants.{Offset, Negate, Complement}
use Rattle.cells.specs.declared.Binary.{Binary}
use Rattle.cells.specs.declared.Binary.TheVariants.{Add, Subtract, Compare}
use Rattle.cells.specs.declared.Condition.{Condition}
use Rattle.cells.specs.declared.Condition.TheVariants.{IsZero, IsNonzero, IsUnknown}
use Rattle.cells.specs.Try.{Try, stuck, done}

-- ---- what a cell holds

-- "A cell holds a number, an unknown number or a block handle."; "A start or block cell may be `lo..hi`" (document 02 §12)
abbrev pub cell : Value → Cell
cell v = record { value = v }

-- the range of the number `low` and the `more` numbers above it: none is empty
abbrev pub range : ℤ → ℕ → Cell
range low more = cell (Range low more)

-- the greatest number of a range
abbrev pub high : ℤ → ℕ → ℤ
high low more = low +ℤ pos more

-- one number, wrapped to the bits that numbers have
abbrev pub exactly : ℤ → Cell
exactly n = range (wrap n) 0

-- "A `?` is the whole range": "An unknown stands for any number and never for a handle."
abbrev pub unknown : Cell
unknown = range numbers.low (modulus bits - 1)

-- `lo..hi`; where lo is above hi, which refusal 3 rules out, lo alone
unfoldable pub between : ℤ → ℤ → Cell
between low high = range low (cond (le_z low high) (nat_abs (high -ℤ low)) 0)

-- the handle of block k
abbrev pub handle : ℕ → Cell
handle k = cell (Handle k)

-- ---- operations on numbers

-- "OFFSETINT i adds i. .. NEGINT negates. BOOLNOT gives 1 minus the accumulator."
unfoldable pub calculate₁ : Unary → ℤ → ℤ → ℤ
calculate₁ Offset i n = n +ℤ i
calculate₁ Negate i n = neg_ℤ n
calculate₁ Complement i n = pos 1 -ℤ n

-- "accumulator on the left, popped entry on the right"
unfoldable pub calculate₂ : Binary → ℤ → ℤ → ℤ
calculate₂ Add m n = m +ℤ n
calculate₂ Subtract m n = m -ℤ n
calculate₂ (Compare c) m n = bit (holds c m n)

-- ---- operations on ranges (document 02 §12)

-- the range of the number `low` and the `more` above it, "or the whole range if some result would wrap"
unfoldable pub results : ℤ → ℕ → Cell
results low more = cond (within numbers low && within numbers (high low more)) (range low more) unknown

-- the least result: that of the least number for a sum, that of the greatest for a difference
unfoldable pub least₁ : Unary → ℤ → ℤ → ℕ → ℤ
least₁ Offset i low more = calculate₁ Offset i low
least₁ Negate i low more = calculate₁ Negate i (high low more)
least₁ Complement i low more = calculate₁ Complement i (high low more)

-- "Sums, differences and negations of single numbers stay exact and wrap. Of wider ranges they give the least to the greatest result"
unfoldable pub range₁ : Unary → ℤ → ℤ → ℕ → Cell
range₁ u i low more = cond (eqb more 0) (exactly (calculate₁ u i low)) (results (least₁ u i low more) more)

-- whether a comparison holds for every pair of a number from l to h and one from l' to h'
unfoldable pub always : Comparison → ℤ → ℤ → ℤ → ℤ → Bool
always Equal l h l' h' = same l h' && same h l'
always Unequal l h l' h' = cond (lt_z h l') true (lt_z h' l)
always Less l h l' h' = lt_z h l'
always AtMost l h l' h' = le_z h l'
always Greater l h l' h' = lt_z h' l
always AtLeast l h l' h' = le_z h' l

-- the comparison that holds where another does not
unfoldable pub negated : Comparison → Comparison
negated Equal = Unequal
negated Unequal = Equal
negated Less = AtLeast
negated AtMost = Greater
negated Greater = AtMost
negated AtLeast = Less

-- "a comparison gives 1 if it holds for every pair of numbers in the two ranges, 0 if for none, else 0 to 1"
unfoldable pub judged : Comparison → ℤ → ℤ → ℤ → ℤ → Cell
judged c l h l' h' = cond (always c l h l' h') (exactly (pos 1)) (cond (always (negated c) l h l' h') (exactly (pos 0)) (range (pos 0) 1))

-- "the least to the greatest result" of the pairs of two ranges, not both of one number
unfoldable pub wider : Binary → ℤ → ℕ → ℤ → ℕ → Cell
wider Add low more low' more' = results (low +ℤ low') (more + more')
wider Subtract low more low' more' = results (low -ℤ high low' more') (more + more')
wider (Compare c) low more low' more' = judged c low (high low more) low' (high low' more')

-- two operands, of one number each or wider
unfoldable pub range₂ : Binary → ℤ → ℕ → ℤ → ℕ → Cell
range₂ b low more low' more' = cond (eqb (more + more') 0) (exactly (calculate₂ b low low')) (wider b low more low' more')

-- ---- operations on cells

-- "Stuck: .. a handle in arithmetic, comparison or branch condition" (but for the comparison of two handles, below)
unfoldable pub map₁ : Unary → ℤ → Value → Try Cell
map₁ u i (Range low more) = done (range₁ u i low more)
map₁ u i (Handle k) = stuck

-- "EQ and NEQ of two handles now give a known 1 or 0 by block number"; stuck "are the four order comparisons" (document 02 §3)
unfoldable pub compare_handles : Comparison → ℕ → ℕ → Try Cell
compare_handles Equal j k = done (exactly (bit (eqb j k)))
compare_handles Unequal j k = done (exactly (bit (not (eqb j k))))
compare_handles Less j k = stuck
compare_handles AtMost j k = stuck
compare_handles Greater j k = stuck
compare_handles AtLeast j k = stuck

-- an operation on the handles of blocks j and k: arithmetic is stuck
unfoldable pub combine_handles : Binary → ℕ → ℕ → Try Cell
combine_handles Add j k = stuck
combine_handles Subtract j k = stuck
combine_handles (Compare c) j k = compare_handles c j k

-- the same for two operands; "A handle against a number or an unknown is still stuck" (document 02 §3)
unfoldable pub map₂ : Binary → Value → Value → Try Cell
map₂ b (Range low more) (Range low' more') = done (range₂ b low more low' more')
map₂ b (Range low more) (Handle k) = stuck
map₂ b (Handle j) (Range low more) = stuck
map₂ b (Handle j) (Handle k) = combine_handles b j k

-- an operation on the accumulator, with the operand i
unfoldable pub operate₁ : Unary → ℤ → Cell → Try Cell
operate₁ u i a = map₁ u i a.value

-- an operation on the accumulator and the popped entry
unfoldable pub operate₂ : Binary → Cell → Cell → Try Cell
operate₂ b a c = map₂ b a.value c.value

-- "A condition whose range lacks 0, or is only 0, opens no second way." (document 02 §12)
unfoldable pub condition_in : Value → Try Condition
condition_in (Range low more) = done (cond (le_z low (pos 0) && le_z (pos 0) (high low more)) (cond (eqb more 0) IsZero IsUnknown) IsNonzero)
condition_in (Handle k) = stuck

-- the same of a cell
unfoldable pub condition : Cell → Try Condition
condition a = condition_in a.value

-- "Stuck: .. a field access through a non-handle"
unfoldable pub handled : Value → Try ℕ
handled (Range low more) = stuck
handled (Handle k) = done k

-- the block that a cell handles
unfoldable pub block : Cell → Try ℕ
block a = handled a.value
