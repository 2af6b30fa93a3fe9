-- Demand 3 is not empty: the code of case 1 of document 01 is accepted from its start, and from a start that this allows, with the
-- answer 7, the run is safe after every number of steps and makes its STOP with the third (case 7). Assumes nothing.
use mathlib.Core.Path.{◌≡◌, refl}
use mathlib.Core.Bool.{true}
use mathlib.Core.List.{List, [], ◌∷◌}
use Prim.Native.Nat.{ℕ}
use lib.IntN.{pos}
use Rattle.text.specs.Text.{bytes, equals, find}
use Rattle.numbers.specs.Numbers.{wrap, holds}
use Rattle.cells.specs.Try.{◌>>=◌}
use Rattle.cells.specs.Cells.{exactly, unknown, calculate₂, results, range₂, wider, map₂, operate₂, condition_in, condition}
use Rattle.cells.specs.Order.{Allowed, end, cons}
use Rattle.cells.proofs.CellLaws.{number-allowed, known-allowed}
use Rattle.instructions.specs.Kinds.{kinds, kind_names, operand, kind_at}
use Rattle.machine.specs.Lists.{nth, without}
use Rattle.machine.specs.Machine.{instruction, State, Instruction, Code, fetch, height, jump, load, restack, push, pop, advance, ahead, with_extra, ways, perform, prepare, execute, step, takes, takes_answer}
use Rattle.machine.specs.Order.{Cellwise}
use Rattle.bound_theory.specs.Tree.{expand, tree, steps, size, cycles, words, depth, N, worse, path, Report, report, accepted, judge, verdict, explore, opening_limit, bound}
use Rattle.bound_theory.specs.Run.{begin, answer, remaining, moved, leads, once, after}
use Rattle.bound_theory.specs.Promises.{Safe}
use Rattle.bound_theory.proofs.PromiseLaws.{interruptible}

abbrev line : List ℕ → ℕ → ℕ → ℕ → Instruction
line name a c w = instruction (kind_at (find name kind_names)) (pos a) (record { cycles = c; words = w }) 0

unfoldable pub code : Code
code = record {
  first = 0;
  instructions =
      line (bytes "C_CALL1") 0 50 4
      ∷ line (bytes "BRANCHIF") 4 5 0
      ∷ line (bytes "CONST2") 0 2 0
      ∷ line (bytes "ADDINT") 0 7 0
      ∷ line (bytes "STOP") 0 1 0
      ∷ [];
}

-- case 1: ACCU 0, S0 `?`; case 7: S0 0
abbrev pub bounded : State
bounded = record { at = 0; accu = exactly (pos 0); stack = unknown ∷ []; blocks = [] }

abbrev pub plain : State
plain = record { at = 0; accu = exactly (pos 0); stack = exactly (pos 0) ∷ []; blocks = [] }

abbrev pub reported : Report
reported = record { cycles = 65; words = 4; depth = 1; steps = 6; path = N ∷ [] }

is-bounded : bound code 1000 bounded ≡ accepted reported
unfolding code equals find wrap holds ◌>>=◌ calculate₂ results range₂ wider map₂ operate₂ condition_in condition kinds kind_names operand kind_at instruction nth without fetch height jump load restack push pop advance ahead with_extra ways perform prepare execute step expand tree steps size cycles words depth worse path report judge verdict explore bound
is-bounded = refl

is-allowed : Cellwise Allowed plain bounded
is-allowed = record { at = refl; accu = known-allowed _; stack = cons (number-allowed (pos 0)) end; blocks = end }

is-safe : (n : ℕ) → Safe code (bound code 1000) reported (begin plain (pos 7 ∷ [])) n (after code n (begin plain (pos 7 ∷ [])))
unfolding bound
is-safe n = interruptible code opening_limit 1000 bounded reported is-bounded plain is-allowed (pos 7 ∷ []) n

stops-third : ((after code 3 (begin plain (pos 7 ∷ []))).stopped ≡ true) × ((after code 3 (begin plain (pos 7 ∷ []))).cycles ≡ 56)
unfolding code equals find wrap ◌>>=◌ condition_in condition kinds kind_names operand kind_at instruction nth without fetch height jump load restack pop advance ahead with_extra ways perform prepare execute step takes takes_answer begin answer remaining moved leads once after
stops-third = (refl, refl)

pub interrupted :
    (bound code 1000 bounded ≡ accepted reported)
    × ((n : ℕ) → Safe code (bound code 1000) reported (begin plain (pos 7 ∷ [])) n (after code n (begin plain (pos 7 ∷ []))))
    × (((after code 3 (begin plain (pos 7 ∷ []))).stopped ≡ true) × ((after code 3 (begin plain (pos 7 ∷ []))).cycles ≡ 56))
interrupted = (is-bounded, is-safe, stops-third)
