-- The goals of `merge_rows::merge_cells`.
use mathlib.Core.Path.{sym, ap, ap₂, ◌∙◌}
use native.Mathlib.Omega.{arith}
use Rattle.merge_cells.specs.Merge.{merge_cells}
use Rattle.merge_cells.specs.HeldCodes.{decoded_cell, decoded_cells}
use Rattle.merge_cells.proofs.CodeLaws.{cells-length, cells_at, cells-set}
use Rattle.merge_rows.specs.HeldRows.{of_merged}
use Rattle.merge_rows.proofs.ZipLaws.{none_made, one-made, none-merged, all_made}
use Rattle.merge_rows.proofs.merge_cells.Goals as goal

pub loop-i-init : goal.loop-i-init
loop-i-init c = none_made merge_cells (decoded_cell 0) _ _

pub returns-in_default : goal.returns-in_default
unfolding of_merged
returns-in_default c =
    let l = c.loop-i in
    let came = c.args.came.now in
    let e = ap of_merged (sym c.in_default.is) ∙ c.merge_numbers-merged.ensures ∙ sym (ap₂ merge_cells (cells_at l.held l.i) (cells_at came l.i)) in
    sym (none-merged merge_cells (decoded_cell 0) _ (decoded_cells l.held) (decoded_cells came) l.i (rw cells-length (omega arith)) (rw cells-length (omega arith)) e l.invariant)

pub loop-i-preserved : goal.loop-i-preserved
unfolding of_merged
loop-i-preserved c =
    let l = c.loop-i in
    let came = c.args.came.now in
    let e = ap of_merged (sym c.in-Some.is) ∙ c.merge_numbers-merged.ensures ∙ sym (ap₂ merge_cells (cells_at l.held l.i) (cells_at came l.i)) in
    rw cells-set
    (one-made merge_cells (decoded_cell 0) _ (decoded_cells l.held) (decoded_cells came) l.i _ (rw cells-length (omega arith)) (rw cells-length (omega arith)) e l.invariant)

pub returns : goal.returns
returns c =
    let l = c.loop-i in
    sym (all_made merge_cells (decoded_cell 0) _ (decoded_cells l.held) _ l.i (rw cells-length (omega arith)) (rw cells-length (omega arith)) l.invariant)
