-- `file_values::handle_cell` meets its contract. Assumes nothing.
use mathlib.Core.Path.{◌≡◌, sym, ap₂, subst, ◌∙◌}
use native.Mathlib.Omega.{arith}
use lib.Dec.{T}
use lib.IntN.{nat_abs}
use lib.Signed.{non_neg}
use mir.Syntax.{w8, w64}
use mir.Val.{Fits, of_z, to_z}
use mir.ValLaws.{to_z-of_z}
use Rattle.file_format.specs.Rows.{handles}
use Rattle.file_format.specs.Routine.{inside}
use Rattle.file_format.proofs.RangeLaws.{natural-inside}
use Rattle.file_values.proofs.ValueLaws.{natural-sign}
use borrow.Author.Rules.{rules}
use Rattle.file_values.proofs.handle_cell.Goals as goal

held : (c : goal.After-inside-n) → to_z w64 (of_z w64 c.inside-n.result) ≡ inside handles c.args.k
held c = to_z-of_z w64 _ (search rules) ∙ c.inside-n.ensures ∙ ap₂ inside c.handles.ensures (to_z-of_z w64 c.args.k c.ranges.k)

pub overflow_cast-n : goal.overflow_cast-n
overflow_cast-n c =
    let n = natural-inside 0 7 c.args.k in
    (subst (λ z. T (non_neg z)) (sym (held c)) (natural-sign n), subst (λ z. Fits w8 (nat_abs z)) (sym (held c)) (omega (arith, n.below)))
