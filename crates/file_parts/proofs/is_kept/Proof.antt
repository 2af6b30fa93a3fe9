-- `file_parts::is_kept` meets its contract. Assumes nothing.
use mathlib.Core.Path.{refl}
use borrow.Author.Tests.{lt-ltb, le-ltb}
use Rattle.file_parts.proofs.is_kept.Statement.{statement}
use Rattle.file_parts.proofs.is_kept.Tie as tie

returns : tie.Need-returns-then-slot-lt305
returns c = rw (lt-ltb c.args.slot 305 c.if-slot-lt305.true) refl

returns-2 : tie.Need-returns-else-slot-lt305
returns-2 c = rw (le-ltb c.args.slot 305 c.if-slot-lt305.false) refl

pub is_kept_spec : {M : Type 1} → statement M
is_kept_spec = tie.close (tie.spec returns returns-2)
