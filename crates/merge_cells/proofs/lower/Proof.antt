-- `merge_cells::lower` meets its contract. Assumes nothing.
use mathlib.Core.Path.{sym, ap, ◌∙◌}
use mathlib.Core.Bool.{Bool, cond}
use lib.Signed.{le_z}
use mir.Syntax.{w32}
use mir.ValLaws.{to_z-of_z}
use Rattle.numbers.proofs.SignedLaws.{read-both}
use Rattle.merge_cells.proofs.lower.Statement.{statement}
use Rattle.merge_cells.proofs.lower.Tie as tie

returns : tie.Need-returns-then-m-n
returns c = to_z-of_z w32 _ c.ranges.m ∙ ap (λ (t : Bool). cond t c.args.m c.args.n) (sym c.if-m-n.true ∙ read-both le_z w32 _ _ c.ranges.m c.ranges.n)

returns-2 : tie.Need-returns-else-m-n
returns-2 c = to_z-of_z w32 _ c.ranges.n ∙ ap (λ (t : Bool). cond t c.args.m c.args.n) (sym c.if-m-n.false ∙ read-both le_z w32 _ _ c.ranges.m c.ranges.n)

pub lower_spec : {M : Type 1} → statement M
lower_spec = tie.close (tie.spec returns returns-2)
