-- `file_layout::starts_of` meets its contract.
use Rattle.std.proofs.Common.{ap, ◌∙◌, arith}
use Rattle.std.proofs.Math.ListN.{length-set}
use Rattle.std.proofs.Common.{drop}
use Rattle.file_format.proofs.LayoutLaws.{starts_more}
use Rattle.file_layout.proofs.starts_of.Goals as goal

pub loop-i-preserved : goal.loop-i-preserved
loop-i-preserved c =
    let l = c.loop-i in
    let n = c.next_start.ensures in
    let last = l.invariant.put_down l.i (omega arith) in
    record {
      places = simp length-set l.invariant.places;
      put_down = starts_more c.args.text.now l.starts l.i c.next_start.result c.loop-i-test.true l.invariant.places l.invariant.put_down n.inside (n.lines ∙ ap (drop 1) last.1);
    }
