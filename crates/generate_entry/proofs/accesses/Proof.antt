-- `generate_entry::accesses` meets its contract. Assumes nothing.
use Rattle.generate_entry.proofs.CellLaws.{no_access, an-access}
use Rattle.generate_entry.proofs.accesses.Statement.{statement}
use Rattle.generate_entry.proofs.accesses.Tie as tie

returns : tie.Need-returns-then-kind-lt42
returns c = no_access c.args.kind c.if-kind-lt42.true

returns-2 : tie.Need-returns
returns-2 c = an-access c.args.kind c.if-kind-lt42.false

pub accesses_spec : {M : Type 1} → statement M
accesses_spec = tie.close (tie.spec returns returns-2)
