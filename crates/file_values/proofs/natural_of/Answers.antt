-- `file_values::natural_of` meets its contract. Assumes nothing.
use mathlib.Core.Path.{◌≡◌, sym, subst, ◌∙◌}
use native.Mathlib.Omega.{arith}
use lib.Dec.{T}
use lib.IntN.{nat_abs}
use lib.Signed.{non_neg}
use mir.Syntax.{w32, w64}
use mir.Val.{Fits, of_z, to_z}
use mir.ValLaws.{to_z-of_z}
use Rattle.file_format.specs.Rows.{value}
use Rattle.file_format.specs.Routine.{inside}
use Rattle.file_values.proofs.ValueLaws.{natural-held, natural-sign}
use borrow.Author.Rules.{rules}
use Rattle.file_values.proofs.natural_of.Goals as goal

held : (c : goal.After-number_in-z) → to_z w64 (of_z w64 c.number_in-z.result) ≡ inside c.args.range (value c.args.w.now)
held c = to_z-of_z w64 _ (search rules) ∙ c.number_in-z.ensures

pub overflow_cast-result : goal.overflow_cast-result
overflow_cast-result c =
    let n = natural-held c.args.range c.requires (value c.args.w.now) in
    (subst (λ z. T (non_neg z)) (sym (held c)) (natural-sign n), subst (λ z. Fits w32 (nat_abs z)) (sym (held c)) (omega (arith, n.below, c.requires.small.1)))
