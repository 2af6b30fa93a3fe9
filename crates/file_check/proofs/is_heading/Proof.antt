-- `file_check::is_heading` meets its contract. Assumes nothing.
use lib.ListN.{length}
use borrow.Author.Tests.{lt-ltb, le-ltb}
use Rattle.file_format.specs.Layout.{layout}
use Rattle.file_check.specs.HeldScan.{is_heading}
use borrow.Author.Rules.{rules}
use Rattle.file_check.proofs.is_heading.Statement.{statement}
use Rattle.file_check.proofs.is_heading.Tie as tie

returns : tie.Need-returns-then-i-gt-LINES
unfolding is_heading
returns c = rw (lt-ltb (length layout) c.args.i c.if-i-gt-LINES.true) c.same.ensures

returns-2 : tie.Need-returns
unfolding is_heading
returns-2 c = rw (le-ltb (length layout) c.args.i c.if-i-gt-LINES.false)

pub is_heading_spec : {M : Type 1} → statement M
is_heading_spec = tie.close (tie.spec
    (λ c κs. search rules)
    returns
    returns-2)
