-- `generate_entry::extra_spread` meets its contract. Assumes nothing.
use Rattle.generate_entry.proofs.CellLaws.{extra-if, extra-if-not, extra-other}
use Rattle.generate_entry.proofs.extra_spread.Statement.{statement}
use Rattle.generate_entry.proofs.extra_spread.Tie as tie

returns : tie.Need-returns-then-i-eq53
returns c = extra-if c.args.i c.if-i-eq53.true

returns-2 : tie.Need-returns-then-i-eq54
returns-2 c = extra-if-not c.args.i c.if-i-eq53.false c.if-i-eq54.true

returns-3 : tie.Need-returns
returns-3 c = extra-other c.args.i c.if-i-eq53.false c.if-i-eq54.false

pub extra_spread_spec : {M : Type 1} → statement M
extra_spread_spec = tie.close (tie.spec returns returns-2 returns-3)
