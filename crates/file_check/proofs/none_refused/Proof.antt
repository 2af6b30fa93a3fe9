-- `file_check::none_refused` meets its contract. Assumes nothing.
use mathlib.Core.Path.{◌≡◌, refl}
use Rattle.file_format.specs.declared.Row.{Row}
use Rattle.file_format.specs.declared.Row.TheVariants.{Layout, Range, Name, Price, Target, Forward, Known}
use Rattle.file_check.specs.HeldChecks.{kept_by}
use Rattle.file_check.proofs.none_refused.Statement.{statement}
use Rattle.file_check.proofs.none_refused.Tie as tie

each : (row : Row) → kept_by row (record { layout = 0; range = 0; name = 0; price = 0; target = 0; forward = 0; known = 0 }) ≡ 0
each Layout = refl
each Range = refl
each Name = refl
each Price = refl
each Target = refl
each Forward = refl
each Known = refl

returns : tie.Need-returns
returns c = each

pub none_refused_spec : {M : Type 1} → statement M
none_refused_spec = tie.close (tie.spec returns)
