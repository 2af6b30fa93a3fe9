-- `generate_entry::cells_for` meets its contract. Assumes nothing.
use Rattle.generate_entry.proofs.CellLaws.{handles-for, plain-for}
use borrow.Author.Rules.{rules}
use Rattle.generate_entry.proofs.cells_for.Statement.{statement}
use Rattle.generate_entry.proofs.cells_for.Tie as tie

returns : tie.Need-returns-then-accesses
returns c = let k = c in let s = k in handles-for s.args.seed s.args.k k.requires.0 k.after.ensures k.kind_of-kind.ensures c.accesses.ensures c.if-accesses.true

returns-2 : tie.Need-returns
returns-2 c = let k = c in let s = k in plain-for s.args.seed s.args.k k.requires.0 k.after.ensures k.kind_of-kind.ensures c.accesses.ensures c.if-accesses.false c.plain_cells.ensures

pub cells_for_spec : {M : Type 1} → statement M
cells_for_spec =
    tie.close
    (tie.spec
    (λ c. search rules)
    (λ c κs. search rules)
    (λ c κs. search rules)
    (λ c κs. search rules)
    returns
    (λ c κs. search rules)
    returns-2)
