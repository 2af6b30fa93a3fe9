-- `file_names::is_capital` meets its contract. Assumes nothing.
use mathlib.Core.Path.{refl}
use borrow.Author.Tests.{le-leb, lt-leb}
use Rattle.file_names.proofs.is_capital.Statement.{statement}
use Rattle.file_names.proofs.is_capital.Tie as tie

returns : tie.Need-returns-then-c-ge65
returns c = rw (le-leb 65 _ c.if-c-ge65.true) refl

returns-2 : tie.Need-returns-else-c-ge65
returns-2 c = rw (lt-leb 65 _ c.if-c-ge65.false) refl

pub is_capital_spec : {M : Type 1} → statement M
is_capital_spec = tie.close (tie.spec returns returns-2)
