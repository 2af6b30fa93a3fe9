-- `file_check::all_known` meets its contract. Assumes nothing.
use Rattle.file_format.specs.Rows.{all_known}
use Rattle.file_lines.specs.HeldLines.{word_test}
use borrow.Author.Rules.{rules}
use Rattle.file_check.proofs.all_known.Statement.{statement}
use Rattle.file_check.proofs.all_known.Tie as tie

returns : tie.Need-returns
unfolding all_known word_test
returns c = c.cells_pass.ensures

pub all_known_spec : {M : Type 1} → statement M
all_known_spec = tie.close (tie.spec (λ c κs. search rules) returns)
