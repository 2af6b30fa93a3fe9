-- The first i words of the row are written (`Rowing`).
use Rattle.generate_entry.proofs.RowingLaws.{Rowing}
use Rattle.generate_entry.proofs.put_row.Given as goal

abbrev pub invariant-loop-i : goal.invariant-loop-i
invariant-loop-i l = Rowing l.column l.count l.follows l.s l.fn.out l.at l.out l.e l.t l.i
