-- `file_check::test_line` meets its contract. Assumes nothing.
use Rattle.text.specs.Text.{lines}
use Rattle.file_check.proofs.ContextLaws.{other-tests}
use borrow.Author.Rules.{rules}
use Rattle.file_check.proofs.test_line.Statement.{statement}
use Rattle.file_check.proofs.test_line.Tie as tie

returns : tie.Need-returns
returns c =
    let start = c in
    let a = start.args in
    other-tests (lines a.text.now) a.role start.requires.0 a.line.now a.ended c.laid_out_line-layout.ensures c.in_range-range.ensures (c.named-name.ensures _ start.requires.1.0.0) c.all_known-known.ensures

pub test_line_spec : {M : Type 1} → statement M
test_line_spec =
    tie.close
    (tie.spec (λ c κs. search rules) (λ c κs. search rules) (λ c κs. search rules) (λ c κs. search rules) returns)
