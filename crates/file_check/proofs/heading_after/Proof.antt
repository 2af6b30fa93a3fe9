-- `file_check::heading_after` meets its contract. Assumes nothing.
use mathlib.Core.Path.{sym, ◌∙◌}
use borrow.Author.Tests.{lt-ltb, le-ltb}
use Rattle.file_check.specs.HeldScan.{heading_after}
use borrow.Author.Rules.{rules}
use Rattle.file_check.proofs.heading_after.Statement.{statement}
use Rattle.file_check.proofs.heading_after.Tie as tie

returns : tie.Need-returns-then-heading-gt0
unfolding heading_after
returns c = rw (lt-ltb 0 c.args.heading c.if-heading-gt0.true)

returns-2 : tie.Need-returns-then-is_heading
unfolding heading_after
returns-2 c = rw (le-ltb 0 c.args.heading c.if-heading-gt0.false, sym c.is_heading.ensures ∙ c.if-is_heading.true)

returns-3 : tie.Need-returns-else-is_heading
unfolding heading_after
returns-3 c = rw (le-ltb 0 c.args.heading c.if-heading-gt0.false, sym c.is_heading.ensures ∙ c.if-is_heading.false)

pub heading_after_spec : {M : Type 1} → statement M
heading_after_spec = tie.close (tie.spec returns (λ c κs. search rules) returns-2 returns-3)
