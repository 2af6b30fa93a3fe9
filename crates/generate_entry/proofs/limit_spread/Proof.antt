-- `generate_entry::limit_spread` meets its contract. Assumes nothing.
use Rattle.generate_entry.proofs.CellLaws.{limit-first, limit-second}
use Rattle.generate_entry.proofs.limit_spread.Statement.{statement}
use Rattle.generate_entry.proofs.limit_spread.Tie as tie

returns : tie.Need-returns-then-i-eq0
returns c = limit-first c.args.i c.if-i-eq0.true

returns-2 : tie.Need-returns
returns-2 c = limit-second c.args.i c.if-i-eq0.false

pub limit_spread_spec : {M : Type 1} → statement M
limit_spread_spec = tie.close (tie.spec returns returns-2)
