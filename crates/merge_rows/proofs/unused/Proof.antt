-- `merge_rows::unused` meets its contract. Assumes nothing.
use mathlib.Core.Path.{refl}
use native.Mathlib.Omega.{arith}
use borrow.Author.Tests.{lt-ltb, le-ltb}
use Rattle.merge_rows.specs.HeldRows.{unused_of}
use Rattle.merge_rows.proofs.unused.Statement.{statement}
use Rattle.merge_rows.proofs.unused.Tie as tie

returns : tie.Need-returns-then-n-lt64
unfolding unused_of
returns c = rw (lt-ltb c.args.n 64 (omega arith)) refl

returns-2 : tie.Need-returns-else-n-lt64
unfolding unused_of
returns-2 c = rw (le-ltb c.args.n 64 (omega arith)) refl

pub unused_spec : {M : Type 1} → statement M
unused_spec = tie.close (tie.spec returns returns-2)
