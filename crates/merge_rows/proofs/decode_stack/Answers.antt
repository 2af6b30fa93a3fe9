-- The goals of `merge_rows::decode_stack`.
use Prim.Native.Nat.{◌+◌}
use mathlib.Core.Path.{refl, ap, ◌∙◌}
use native.Mathlib.Omega.{arith}
use lib.ListN.{take, drop, length-set, length-drop}
use lib.Seq.{drop-set-add}
use Rattle.merge_cells.specs.HeldCodes.{decoded_cells}
use Rattle.merge_rows.proofs.FillLaws.{decoded-next}
use borrow.Author.Rules.{rules}
use Rattle.merge_rows.proofs.decode_stack.Goals as goal

pub loop-i-init : goal.loop-i-init
unfolding decoded_cells
loop-i-init c = record { places = search rules; read = refl }

pub loop-i-preserved : goal.loop-i-preserved
loop-i-preserved c =
    let a = c.args in
    let l = c.loop-i in
    record {
      places = rw length-set l.invariant.places;
      read =
          ap (take (l.i + 1)) (drop-set-add a.low l.stack l.i c.decode.result)
          ∙ decoded-next a.entries.now (drop a.low l.stack) l.i c.decode.result (omega arith) (rw length-drop (omega arith)) c.decode.ensures l.invariant.read;
    }
