-- `file_check::named` meets its contract. Assumes nothing.
use Rattle.file_lines.proofs.LineLaws.{arm}
use Rattle.file_format.specs.Rows.{named}
use Rattle.file_check.proofs.ContextLaws.{named-values, not-names}
use borrow.Author.Rules.{rules}
use Rattle.file_check.proofs.named.Statement.{statement}
use Rattle.file_check.proofs.named.Tie as tie

returns : tie.Need-returns-in-Names
unfolding named
returns c = λ ls e. arm (λ o. named ls o c.args.line.now) c.in-Names.is c.well_named.ensures

returns-2 : tie.Need-returns
returns-2 c = λ ls e. let start = c in named-values ls start.args.line.now _ e start.args.role start.requires.0 (not-names start.args.role c.in_default.in_default-own.keys2) c.cells_pass.ensures

pub named_spec : {M : Type 1} → statement M
named_spec =
    tie.close
    (tie.spec (λ c. search rules) (λ c κs. search rules) returns (λ c. search rules) (λ c κs. search rules) returns-2)
