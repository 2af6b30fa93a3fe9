-- `file_layout::role_at` meets its contract. Assumes nothing.
use Rattle.instructions.proofs.ColumnLaws.{get_d_any}
use Rattle.file_format.specs.Layout.{layout}
use Rattle.file_format.specs.declared.Role.TheVariants.{Code}
use borrow.Author.Rules.{rules}
use Rattle.file_layout.proofs.role_at.Statement.{statement}
use Rattle.file_layout.proofs.role_at.Tie as tie

returns : tie.Need-returns
returns c = get_d_any layout c.args.i _ (Code 0) c.requires

pub role_at_spec : {M : Type 1} → statement M
role_at_spec = tie.close (tie.spec (λ c. search rules) (λ c. search rules) returns)
