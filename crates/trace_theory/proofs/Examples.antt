-- Worked examples of the trace of a run: case 7 of document 01 with a branch that costs 4 cycles more where it jumps, of a run that jumps, of
-- one that does not, and of one that is cut off. Assumes nothing.
use mathlib.Core.Path.{◌≡◌, refl}
use mathlib.Core.List.{List, [], ◌∷◌}
use Prim.Native.Nat.{ℕ}
use lib.IntN.{ℤ, pos}
use Rattle.text.specs.Text.{bytes, equals, find}
use Rattle.text_decimals.specs.Decimal.{digits, decimal}
use Rattle.numbers.specs.Numbers.{wrap, holds}
use Rattle.cells.specs.Try.{◌>>=◌}
use Rattle.cells.specs.Cells.{calculate₂, results, range₂, wider, map₂, operate₂, condition_in, condition}
use Rattle.instructions.specs.Kinds.{kinds, kind_names, operand, kind_at}
use Rattle.machine.specs.Lists.{nth, without}
use Rattle.machine.specs.Machine.{instruction, Instruction, Code, fetch, height, jump, load, restack, push, pop, advance, ahead, with_extra, ways, perform, prepare, execute, step, takes, takes_answer}
use Rattle.bound_theory.specs.Run.{begin, answer, remaining, moved, leads, once, stuck_at, run_is_stuck}
use Rattle.bound_theory.proofs.Interrupted as case-1
use Rattle.replay_steps.specs.Replay.{is_going, step_cost}
use Rattle.trace_theory.specs.Trace.{recording, trace, entry_text, entries_text, trace_text}

abbrev line : List ℕ → ℕ → ℕ → ℕ → Instruction
line name a c x = instruction (kind_at (find name kind_names)) (pos a) (record { cycles = c; words = 0 }) x

abbrev code : Code
code = record {
  first = 0;
  instructions = line (bytes "C_CALL1") 0 50 0 ∷ line (bytes "BRANCHIF") 4 5 4 ∷ line (bytes "CONST2") 0 2 0 ∷ line (bytes "ADDINT") 0 7 0 ∷ line (bytes "STOP") 0 1 0 ∷ [];
}

abbrev says : ℕ → List ℤ → List ℕ
says budget answers = trace_text (trace code budget case-1.plain answers)

pub examples :
    (says 1000 (pos 7 ∷ []) ≡ bytes "AT CYCLES\n0 50\n1 9\n4 1\n")
    × (says 1000 (pos 0 ∷ []) ≡ bytes "AT CYCLES\n0 50\n1 5\n2 2\n3 7\n4 1\n")
    × (says 2 (pos 7 ∷ []) ≡ bytes "AT CYCLES\n0 50\n1 9\n")
unfolding equals find digits decimal wrap holds ◌>>=◌ calculate₂ results range₂ wider map₂ operate₂ condition_in condition kinds kind_names operand kind_at instruction nth without fetch height jump load restack push pop advance ahead with_extra ways perform prepare execute step takes takes_answer begin answer remaining moved leads once stuck_at run_is_stuck is_going step_cost recording trace entry_text entries_text trace_text
examples = (refl, refl, refl)
