-- A turn puts one cell more in its place, and leaves those before `start`.
use Rattle.std.proofs.Common.{pos, length-set, ◌∙◌, arith}
use lib.Seq.{take-set-le}
use Rattle.cells.specs.Cells.{exactly}
use Rattle.file_format.specs.Layout.{list}
use Rattle.file_format.specs.Routine.{cells_of}
use Rattle.file_format.proofs.CodeLineLaws.{list_length}
use Rattle.file_parts.proofs.FillLaws.{fill-past}
use Rattle.file_parts.proofs.WordLaws.{cells-length}
use Rattle.file_parts.proofs.fill.Goals as goal

pub overflow_add-from : goal.overflow_add-from
overflow_add-from c = omega (arith, list_length c.args.values.now)

pub loop-i-preserved : goal.loop-i-preserved
loop-i-preserved c =
    let l = c.loop-i in
    let cs = cells_of (list c.args.values.now) in
    let e = cells-length (list c.args.values.now) in
    record {
      long = rw length-set l.invariant.long;
      kept = take-set-le c.args.start l.filled _ _ (omega arith) ∙ l.invariant.kept;
      filled = fill-past l.filled cs c.args.start c.args.from l.i _ (exactly (pos 0)) (omega arith) (omega arith) c.cell_at-cell.ensures l.invariant.filled;
    }
