-- `replay_trace::in_range` meets its contract. Assumes nothing.
use mathlib.Core.Path.{sym, ◌∙◌}
use Rattle.replay_trace.proofs.TraceLaws.{names-ranged, entry-ranged}
use borrow.Author.Rules.{rules}
use Rattle.replay_trace.proofs.in_range.Statement.{statement}
use Rattle.replay_trace.proofs.in_range.Tie as tie

returns : tie.Need-returns-then-k-eq0
returns c = let start = c in sym (names-ranged start.args.k start.args.line.now c.if-k-eq0.true)

returns-2 : tie.Need-returns
returns-2 c = let start = c in c.entry_in_range.ensures ∙ sym (entry-ranged start.args.k start.args.line.now c.if-k-eq0.false)

pub in_range_spec : {M : Type 1} → statement M
in_range_spec = tie.close (tie.spec returns (λ c κs. search rules) returns-2)
