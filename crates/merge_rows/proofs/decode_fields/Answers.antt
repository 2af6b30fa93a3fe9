-- The goals of `merge_rows::decode_fields`.
use mathlib.Core.Path.{refl}
use native.Mathlib.Omega.{arith}
use lib.ListN.{length-set}
use Rattle.merge_cells.specs.HeldCodes.{decoded_cells}
use Rattle.merge_rows.proofs.FillLaws.{decoded-next}
use borrow.Author.Rules.{rules}
use Rattle.merge_rows.proofs.decode_fields.Goals as goal

pub loop-i-init : goal.loop-i-init
unfolding decoded_cells
loop-i-init c = record { places = search rules; read = refl }

pub loop-i-preserved : goal.loop-i-preserved
loop-i-preserved c =
    let l = c.loop-i in
    record {
      places = rw length-set l.invariant.places;
      read = decoded-next c.args.fields.now l.blocks l.i c.decode.result (omega arith) (omega arith) c.decode.ensures l.invariant.read;
    }
