-- `file_parts::where_true` meets its contract. Assumes nothing.
use mathlib.Core.Path.{refl}
use Rattle.file_parts.proofs.where_true.Statement.{statement}
use Rattle.file_parts.proofs.where_true.Tie as tie

returns : tie.Need-returns-then-b
returns c = rw c.if-b.true refl

returns-2 : tie.Need-returns-else-b
returns-2 c = rw c.if-b.false refl

pub where_true_spec : {M : Type 1} → statement M
where_true_spec = tie.close (tie.spec returns returns-2)
