-- The loop of `run_loop::after`: the run so far is the one that the steps made leave (`Going`).
use mathlib.Core.Bool.{false}
use Rattle.machine_state.specs.HeldProgram.{program_of, sizes_of}
use Rattle.machine_state.specs.HeldState.{whole}
use Rattle.bound_theory.specs.Run.{begin}
use Rattle.run_loop.proofs.RunLaws.{Going}
use Rattle.run_loop.proofs.after.Given as goal

abbrev pub invariant-loop-made : goal.invariant-loop-made
invariant-loop-made l =
    Going (program_of l.code) (sizes_of l.code) l.answers (begin (whole (sizes_of l.code) l.initial.blocks l.initial.state) l.answers) l.n
    (record { state = l.state; blocks = l.blocks; taken = l.taken; cycles = l.spent; words = l.sum; depth = l.depth; steps = l.made; stopped = false })
