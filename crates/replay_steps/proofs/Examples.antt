-- Worked examples of a replay: case 7 of document 01, and its trace with one line changed. Assumes nothing.
use mathlib.Core.Path.{◌≡◌, refl}
use mathlib.Core.List.{List, [], ◌∷◌}
use Prim.Native.Nat.{ℕ}
use lib.IntN.{pos}
use Rattle.text.specs.Text.{equals, find}
use Rattle.numbers.specs.Numbers.{wrap, holds}
use Rattle.cells.specs.Try.{◌>>=◌}
use Rattle.cells.specs.Cells.{calculate₂, results, range₂, wider, map₂, operate₂, condition_in, condition}
use Rattle.instructions.specs.Kinds.{kinds, kind_names, operand, kind_at}
use Rattle.machine.specs.Lists.{nth, without}
use Rattle.machine.specs.Machine.{instruction, fetch, height, jump, load, restack, push, pop, advance, ahead, with_extra, ways, perform, prepare, execute, step, takes, takes_answer}
use Rattle.bound_theory.specs.Run.{begin, answer, remaining, moved, leads, once, stuck_at, run_is_stuck}
use Rattle.bound_theory.proofs.Interrupted as case-1
use Rattle.replay_trace.specs.Traces.{Entry}
use Rattle.replay_steps.specs.Replay.{Outcome, agreed, differed, is_going, step_cost, agrees, replay_from, replay}

abbrev at : ℕ → ℕ → Entry
at a n = record { at = a; cycles = n }

abbrev says : List Entry → Outcome
says es = replay case-1.code case-1.plain (pos 7 ∷ []) es

pub examples :
    (says (at 0 50 ∷ at 1 5 ∷ at 4 1 ∷ []) ≡ agreed)
    × (says (at 0 49 ∷ at 1 0 ∷ []) ≡ agreed)
    × (says (at 0 51 ∷ []) ≡ differed 2)
    × (says (at 0 50 ∷ at 2 5 ∷ []) ≡ differed 3)
    × (says (at 0 50 ∷ at 1 5 ∷ at 4 1 ∷ at 4 0 ∷ []) ≡ differed 5)
    -- with no answer, 0: the branch does not jump
    × (replay case-1.code case-1.plain [] (at 0 50 ∷ at 1 5 ∷ at 2 2 ∷ []) ≡ agreed)
unfolding case-1.code equals find wrap holds ◌>>=◌ calculate₂ results range₂ wider map₂ operate₂ condition_in condition kinds kind_names operand kind_at instruction nth without fetch height jump load restack push pop advance ahead with_extra ways perform prepare execute step takes takes_answer begin answer remaining moved leads once stuck_at run_is_stuck is_going step_cost agrees replay_from replay
examples = (refl, refl, refl, refl, refl, refl)
