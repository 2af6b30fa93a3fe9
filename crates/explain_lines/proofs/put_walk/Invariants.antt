-- The loop of `explain_lines::put_walk`: what is written and the lines that are left are the whole (`Writing`), and the cursor stands at its
-- line.
use Prim.Native.Nat.{◌-◌}
use Rattle.text.specs.Text.{lines}
use Rattle.cells.specs.Cells.{unknown}
use Rattle.machine.specs.Machine.{step}
use Rattle.machine_state.specs.HeldProgram.{first_address_of, lines_in, program_of, sizes_of}
use Rattle.machine_state.specs.HeldState.{whole}
use Rattle.report.specs.HeldPath.{decode}
use Rattle.explain_walk.specs.Walk.{follow}
use Rattle.explain_lines.specs.Listing.{shown_lines, listing}
use Rattle.explain_lines.specs.Held.{Stands}
use Rattle.explain_lines.proofs.WalkLaws.{Writing}
use Rattle.explain_lines.proofs.put_walk.Given as goal

abbrev pub invariant-loop : goal.invariant-loop
invariant-loop l = record {
  writing :
      Writing (program_of l.code) (sizes_of l.code) (lines l.body) (first_address_of l.code) l.initial.out l.at
      (listing (lines l.body) (first_address_of l.code) (shown_lines (follow (step (program_of l.code) unknown) (lines_in l.code) (decode l.path) (whole (sizes_of l.code) l.initial.blocks l.initial.state))))
      l.out l.e l.state l.blocks l.rest l.spent l.sum (lines_in l.code - l.counter);
  cursor : Stands l.body l.cursor;
}
