-- `file_check::earlier` meets its contract. Assumes nothing.
use mathlib.Core.Path.{refl}
use borrow.Author.Tests.{lt-ltb, le-ltb}
use Rattle.file_check.specs.HeldChecks.{kept_after}
use Rattle.file_check.proofs.earlier.Statement.{statement}
use Rattle.file_check.proofs.earlier.Tie as tie

returns : tie.Need-returns-then-kept-gt0
unfolding kept_after
returns c = let k = c.args.kept in rw (lt-ltb 0 k c.if-kept-gt0.true) refl

returns-2 : tie.Need-returns-then-passes
unfolding kept_after
returns-2 c = let k = c.args.kept in rw (le-ltb 0 k c.if-kept-gt0.false, c.if-passes.true) refl

returns-3 : tie.Need-returns-else-passes
unfolding kept_after
returns-3 c = let k = c.args.kept in rw (le-ltb 0 k c.if-kept-gt0.false, c.if-passes.false) refl

pub earlier_spec : {M : Type 1} → statement M
earlier_spec = tie.close (tie.spec returns returns-2 returns-3)
