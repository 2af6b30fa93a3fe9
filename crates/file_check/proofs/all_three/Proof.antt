-- `file_check::all_three` meets its contract. Assumes nothing.
use mathlib.Core.Path.{sym, ap₂}
use mathlib.Core.Bool.{◌&&◌}
use Rattle.file_lines.proofs.LineLaws.{and-stop}
use Rattle.file_check.proofs.all_three.Statement.{statement}
use Rattle.file_check.proofs.all_three.Tie as tie

returns : tie.Need-returns-then-not-ended
returns c = let a = c.args in and-stop a.ended a.filled a.laid (c.if-not-ended.true)

returns-2 : tie.Need-returns-then-filled
returns-2 c = let a = c.args in sym (ap₂ (λ x y. x && y && a.laid) (c.if-not-ended.false) c.if-filled.true)

returns-3 : tie.Need-returns-else-filled
returns-3 c = let a = c.args in sym (ap₂ (λ x y. x && y && a.laid) (c.if-not-ended.false) c.if-filled.false)

pub all_three_spec : {M : Type 1} → statement M
all_three_spec = tie.close (tie.spec returns returns-2 returns-3)
