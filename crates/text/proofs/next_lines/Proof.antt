-- `text::next_lines` meets its contract. Assumes nothing.
use mathlib.Core.Path.{ap}
use lib.ListN.{length}
use borrow.Author.Rules.{rules}
use Rattle.text.proofs.next_lines.Statement.{statement}
use Rattle.text.proofs.next_lines.Tie as tie

after-line-requires : tie.Need-after_line-requires
after-line-requires c κs = ap length c.first_line-line.ensures

returns : tie.Need-returns
returns c = c.after_line.ensures

pub next_lines_spec : {M : Type 1} → statement M
next_lines_spec = tie.close (tie.spec (λ c κs. search rules) after-line-requires returns)
