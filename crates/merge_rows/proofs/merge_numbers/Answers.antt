-- `merge_rows::merge_numbers` meets its contract.
use Prim.Native.Nat.{ℕ}
use mathlib.Core.Path.{sym, ap, ap₂, ◌∙◌}
use Rattle.cells.specs.Try.{done}
use Rattle.merge_cells.specs.HeldCodes.{decoded_cell}
use Rattle.merge_cells.specs.Merge.{merge_cells}
use Rattle.merge_cells.proofs.CodeLaws.{decoded-confined}
use Rattle.merge_cells.proofs.MergeLaws.{merged-confined, merge-same}
use Rattle.merge_rows.specs.HeldRows.{of_merged}
use Rattle.merge_rows.proofs.merge_numbers.Goals as goal

pub returns-then-x-y : goal.returns-then-x-y
unfolding of_merged
returns-then-x-y c =
    sym (merge-same (decoded_cell c.args.x)) ∙ ap (λ (n : ℕ). merge_cells (decoded_cell c.args.x) (decoded_cell n)) c.if-x-y.true

pub merge-requires : goal.merge-requires
merge-requires c = (decoded-confined _ c.decode.ensures, decoded-confined _ c.decode-2.ensures)

pub returns-in_err-merged : goal.returns-in_err-merged
unfolding of_merged
returns-in_err-merged c =
    ap of_merged c.from_residual.ensures ∙ sym c.in_err-merged.was ∙ c.merge.ensures ∙ ap₂ merge_cells c.decode.ensures c.decode-2.ensures

pub returns : goal.returns
unfolding of_merged
returns c =
    let one = c.decode.ensures in
    let two = c.decode-2.ensures in
    let made = sym c.in_ok-merged.was ∙ c.merge.ensures in
    ap done (c.encode.ensures ∙ (merged-confined (decoded-confined _ one) (decoded-confined _ two) made).stays) ∙ made ∙ ap₂ merge_cells one two
