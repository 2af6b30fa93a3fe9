-- The loop of `merge_sweep::sweep_by`: what is left of the pass gives the verdict of the definition (`Going`).
use Rattle.machine_state.specs.HeldProgram.{first_address_of, program_of, sizes_of}
use Rattle.machine_state.specs.HeldState.{whole}
use Rattle.cells.specs.Cells.{unknown}
use Rattle.machine.specs.Machine.{step}
use Rattle.merge_theory.specs.Merge.{span, only, merged}
use Rattle.merge_way.specs.Way.{nowhence}
use Rattle.merge_way.specs.HeldBeside.{beside}
use Rattle.merge_sweep.proofs.SweepLaws.{Going}
use Rattle.merge_sweep.proofs.sweep_by.Given as goal

abbrev pub invariant-loop-j : goal.invariant-loop-j
invariant-loop-j l =
    let start = whole (sizes_of l.code) l.fn.blocks l.fn.start in
    Going (program_of l.code) (sizes_of l.code) (first_address_of l.code) l.n (merged (program_of l.code) start)
    (beside (step (program_of l.code) unknown) (span (program_of l.code) start) l.fn.start.at (only start) nowhence)
    l.rows l.kept l.j l.p
