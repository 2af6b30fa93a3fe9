-- `file_check::role_of` meets its contract. Assumes nothing.
use native.Mathlib.Omega.{arith}
use Rattle.file_check.proofs.ScanLaws.{heading-before}
use mathlib.Core.Path.{sym, ◌∙◌}
use lib.ListN.{length}
use borrow.Author.Tests.{lt-ltb, le-ltb}
use Rattle.file_format.specs.Layout.{layout}
use Rattle.file_check.specs.HeldScan.{role_of}
use borrow.Author.Rules.{rules}
use Rattle.file_check.proofs.role_of.Statement.{statement}
use Rattle.file_check.proofs.role_of.Tie as tie

returns : tie.Need-returns-then-i-lt-LINES
unfolding role_of
returns c = rw (lt-ltb c.args.i (length layout) c.if-i-lt-LINES.true) c.role_at.ensures

sub-t5 : tie.Need-overflow_sub-result
sub-t5 c = let h = heading-before _ _ c.requires c.if-heading-gt0.true in omega arith

sub-t6 : tie.Need-overflow_sub-result-then-heading-gt0
sub-t6 c = let h = heading-before _ _ c.requires c.if-heading-gt0.true in omega arith

returns-2 : tie.Need-returns-then-heading-gt0
unfolding role_of
returns-2 c = rw (le-ltb c.args.i (length layout) c.if-i-lt-LINES.false, lt-ltb 0 c.args.heading c.if-heading-gt0.true)

returns-3 : tie.Need-returns-then-is_heading
unfolding role_of
returns-3 c = rw (le-ltb c.args.i (length layout) c.if-i-lt-LINES.false, le-ltb 0 c.args.heading c.if-heading-gt0.false, sym c.is_heading.ensures ∙ c.if-is_heading.true)

returns-4 : tie.Need-returns
unfolding role_of
returns-4 c = rw (le-ltb c.args.i (length layout) c.if-i-lt-LINES.false, le-ltb 0 c.args.heading c.if-heading-gt0.false, sym c.is_heading.ensures ∙ c.if-is_heading.false)

pub role_of_spec : {M : Type 1} → statement M
role_of_spec =
    tie.close
    (tie.spec (λ c κs. search rules) returns sub-t5 sub-t6 returns-2 (λ c κs. search rules) returns-3 returns-4)
