-- `file_check::all_tests` meets its contract. Assumes nothing.
use mathlib.Core.Path.{◌≡◌, refl}
use mathlib.Core.Bool.{Bool}
use Rattle.file_format.specs.declared.Row.{Row}
use Rattle.file_format.specs.declared.Row.TheVariants.{Layout, Range, Name, Price, Target, Forward, Known}
use Rattle.file_check.specs.HeldChecks.{tested_by}
use Rattle.file_check.proofs.all_tests.Statement.{statement}
use Rattle.file_check.proofs.all_tests.Tie as tie

each : (b : Bool) (row : Row) → tested_by row (record { layout = b; range = b; name = b; price = b; target = b; forward = b; known = b }) ≡ b
each b Layout = refl
each b Range = refl
each b Name = refl
each b Price = refl
each b Target = refl
each b Forward = refl
each b Known = refl

returns : tie.Need-returns
returns c = each c.args.passes

pub all_tests_spec : {M : Type 1} → statement M
all_tests_spec = tie.close (tie.spec returns)
