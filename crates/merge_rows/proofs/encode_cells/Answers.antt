-- The goals of `merge_rows::encode_cells`.
use mathlib.Core.Path.{refl, sym, ap, ◌∙◌}
use native.Mathlib.Omega.{arith}
use lib.ListN.{drop, length-drop}
use lib.Seq.{get_or-drop}
use Rattle.merge_cells.specs.HeldCodes.{decoded_cells}
use Rattle.cells.specs.HeldConfined.{confine}
use Rattle.merge_rows.proofs.FillLaws.{encoded-next}
use Rattle.merge_rows.proofs.encode_cells.Goals as goal

pub loop-i-init : goal.loop-i-init
unfolding decoded_cells
loop-i-init c = refl

pub loop-i-preserved : goal.loop-i-preserved
loop-i-preserved c =
    let a = c.args in
    let l = c.loop-i in
    encoded-next l.numbers (drop a.low a.cells.now) _ l.i c.encode.result (omega arith) (rw length-drop (omega arith)) (c.encode.ensures ∙ ap confine (sym (get_or-drop a.low a.cells.now l.i _))) l.invariant
