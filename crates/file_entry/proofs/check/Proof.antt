-- `file_entry::check` meets its contract. Assumes nothing.
use mathlib.Core.Path.{◌∙◌}
use borrow.Author.Rules.{rules}
use borrow.Author.Tests.{lt-ltb, le-ltb}
use Rattle.file_entry.proofs.EntryLaws.{check-short, check-enough}
use Rattle.file_entry.proofs.check.Statement.{statement}
use Rattle.file_entry.proofs.check.Tie as tie

returns : tie.Need-returns-then-lent-limit
returns c =
    let s = c in
    check-short s.args.reader s.args.limit s.args.lent s.args.text.now (lt-ltb _ _ c.if-lent-limit.true)

returns-2 : tie.Need-returns
returns-2 c =
    let s = c in
    c.check.ensures ∙ check-enough s.args.reader s.args.limit s.args.lent s.args.text.now (le-ltb _ _ c.if-lent-limit.false)

pub check_spec : {M : Type 1} → statement M
check_spec = tie.close (tie.spec returns (λ c κs. search rules) returns-2)
