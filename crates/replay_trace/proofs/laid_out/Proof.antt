-- `replay_trace::laid_out` meets its contract. Assumes nothing.
use mathlib.Core.Path.{sym, ◌∙◌}
use Rattle.replay_trace.proofs.TraceLaws.{names-laid, too_many, entry-laid}
use borrow.Author.Rules.{rules}
use Rattle.replay_trace.proofs.laid_out.Statement.{statement}
use Rattle.replay_trace.proofs.laid_out.Tie as tie

returns : tie.Need-returns-then-k-eq0
returns c = let start = c in c.same.ensures ∙ sym (names-laid start.args.k start.args.line.now c.if-k-eq0.true)

returns-2 : tie.Need-returns-then-k-gt-ENTRIES
returns-2 c = let start = c in sym (too_many start.args.k start.args.line.now c.if-k-gt-ENTRIES.true)

returns-3 : tie.Need-returns
returns-3 c = let start = c in c.entry_laid_out.ensures ∙ sym (entry-laid start.args.k start.args.line.now c.if-k-eq0.false c.if-k-gt-ENTRIES.false)

pub laid_out_spec : {M : Type 1} → statement M
laid_out_spec =
    tie.close
    (tie.spec
    (λ c κs. search rules)
    returns
    returns-2
    (λ c κs. search rules)
    returns-3)
