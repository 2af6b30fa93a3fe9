-- What a line comes to, of cells and numbers alone: the outcome of its operation, once the operation on cells is made and the field is found.
use Rattle.refusals.specs.Library.{ℕ, ℤ, List}
use Rattle.machine.specs.Terms.{Try, done, stuck, Cell, Operation}
use Rattle.machine.specs.Machine.{index}
use Rattle.machine_state.specs.HeldState.{slot}
use Rattle.machine_outcome.specs.declared.Outcome.{Outcome}
use Rattle.machine_outcome.specs.HeldOutcome.{drops, operated}
use Rattle.machine_outcome.specs.declared.Outcome.TheVariants as outcomes
use Rattle.machine_step.specs.declared.effects.Effect.{Effect}
use Rattle.machine_step.specs.declared.effects.Effect.TheVariants.{Gives, Stores, Sets, Gets, Goes, Jumps, Opens, Halts, Stuck}

-- a cell for the accumulator, where the operation gives one, and k entries dropped
unfoldable pub giving : ℕ → Try Cell → Effect
giving k stuck = Stuck
giving k (done c) = Gives k c

-- the field at a place set to the cell c, or read, where the block has the field
unfoldable pub setting : Cell → Try ℕ → Effect
setting c stuck = Stuck
setting c (done j) = Sets j c

unfoldable pub getting : Try ℕ → Effect
getting stuck = Stuck
getting (done j) = Gets j

-- the outcome of the operation o with operand i, with the accumulator a and the entry e, over blocks of the sizes ns
unfoldable pub effect : List ℕ → Operation → ℤ → Cell → Cell → Outcome → Effect
effect ns o i a e (outcomes.Gives c) = Gives (drops o (index i)) c
effect ns o i a e outcomes.Operates = giving (drops o (index i)) (operated o i a e)
effect ns o i a e outcomes.Stores = Stores
effect ns o i a e (outcomes.Sets c) = setting c (slot ns a (index i))
effect ns o i a e outcomes.Gets = getting (slot ns a (index i))
effect ns o i a e outcomes.Goes = Goes
effect ns o i a e outcomes.Jumps = Jumps
effect ns o i a e outcomes.Opens = Opens
effect ns o i a e outcomes.Halts = Halts
effect ns o i a e outcomes.Stuck = Stuck
