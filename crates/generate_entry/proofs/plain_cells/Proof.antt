-- `generate_entry::plain_cells` meets its contract. Assumes nothing.
use Rattle.generate_entry.proofs.CellLaws.{open-cells, known-cells}
use borrow.Author.Rules.{rules}
use Rattle.generate_entry.proofs.plain_cells.Statement.{statement}
use Rattle.generate_entry.proofs.plain_cells.Tie as tie

returns : tie.Need-returns-then-next-eq1
returns c = open-cells c.args.seed c.next.result c.next.ensures c.if-next-eq1.true

returns-2 : tie.Need-returns
returns-2 c = known-cells c.args.seed c.next.result c.next.ensures c.if-next-eq1.false

pub plain_cells_spec : {M : Type 1} → statement M
plain_cells_spec = tie.close (tie.spec (λ c κs. search rules) returns returns-2)
