-- `file_names::is_digit` meets its contract. Assumes nothing.
use mathlib.Core.Path.{refl}
use borrow.Author.Tests.{le-leb, lt-leb}
use Rattle.file_names.proofs.is_digit.Statement.{statement}
use Rattle.file_names.proofs.is_digit.Tie as tie

returns : tie.Need-returns-then-c-ge48
returns c = rw (le-leb 48 _ c.if-c-ge48.true) refl

returns-2 : tie.Need-returns-else-c-ge48
returns-2 c = rw (lt-leb 48 _ c.if-c-ge48.false) refl

pub is_digit_spec : {M : Type 1} → statement M
is_digit_spec = tie.close (tie.spec returns returns-2)
