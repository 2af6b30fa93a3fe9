-- `merge_cells::decode` meets its contract. Assumes nothing.
use mathlib.Core.Path.{refl, ap, ◌∙◌}
use lib.IntN.{ℤ, pos, ◌-ℤ◌}
use mir.Syntax.{w32}
use mir.ValLaws.{to_z-of_z}
use native.Mathlib.Omega.{arith}
use Rattle.numbers.proofs.SignedLaws.{read}
use Prim.Native.Nat.{◌/◌, ◌%◌, ◌-◌}
use Rattle.cells.specs.Cells.{range}
use Rattle.cells.proofs.ComputeLaws.{operands-fit, operands-read, pos-is, decoded-fits, widened}
use Rattle.merge_cells.proofs.CodeLaws.{decoded-handle, decoded-range}
use borrow.Author.Rules.{rules}
use Rattle.merge_cells.proofs.decode.Statement.{statement}
use Rattle.merge_cells.proofs.decode.Tie as tie

returns : tie.Need-returns-then-greatest-least
returns c = c.handle.ensures ∙ decoded-handle _ c.if-greatest-least.true

sub_low : tie.Need-overflow_sub-low
sub_low c = operands-fit ◌-ℤ◌ {y = pos 1073741824} (pos-is (c.args.x / 2147483648) (omega arith)) refl (widened _ (decoded-fits c.args.x (omega arith)))

cast-t9 : tie.Need-overflow_cast-result
cast-t9 c = rw (operands-read ◌-ℤ◌ {y = pos 1073741824} (pos-is (c.args.x / 2147483648) (omega arith)) refl (widened _ (decoded-fits c.args.x (omega arith)))) (decoded-fits c.args.x (omega arith))

returns-2 : tie.Need-returns
returns-2 c =
    let x = c.args.x in
    let fits = decoded-fits x (omega arith) in
    ap (λ (z : ℤ). range z (x % 2147483648 - x / 2147483648))
    (ap (read w32) (operands-read ◌-ℤ◌ {y = pos 1073741824} (pos-is (x / 2147483648) (omega arith)) refl (widened _ fits)) ∙ to_z-of_z w32 _ fits)
    ∙ decoded-range x (omega arith)

pub decode_spec : {M : Type 1} → statement M
decode_spec =
    tie.close
    (tie.spec (λ c. search rules) (λ c κs. search rules) returns (λ c. search rules) sub_low cast-t9 (λ c. search rules) returns-2)
