-- `replay_trace::passes` meets its contract. Assumes nothing.
use mathlib.Core.Path.{ap, ◌∙◌}
use lib.ListN.{get_or}
use Rattle.text.specs.Text.{lines, no_line}
use Rattle.file_lines.proofs.LineLaws.{arm}
use Rattle.replay_trace.specs.Traces.{text_in_range, line_in_range}
use Rattle.replay_trace.specs.HeldScan.{line_test}
use borrow.Author.Rules.{rules}
use Rattle.replay_trace.proofs.passes.Statement.{statement}
use Rattle.replay_trace.proofs.passes.Tie as tie

returns : tie.Need-returns-in-Layout
unfolding line_test
returns c =
    let start = c in
    arm (λ t. line_test t start.args.k (get_or (lines start.args.rest.now) 0 no_line)) c.in-Layout.is c.line_laid_out.ensures

returns-2 : tie.Need-returns-in-Range
unfolding line_test line_in_range
returns-2 c =
    let start = c in
    arm (λ t. line_test t start.args.k (get_or (lines start.args.rest.now) 0 no_line)) c.in-Range.is
    (c.in_range.ensures ∙ ap (text_in_range start.args.k) c.first_line.ensures)

pub passes_spec : {M : Type 1} → statement M
passes_spec =
    tie.close
    (tie.spec
    (λ c. search rules)
    (λ c κs. search rules)
    (λ c. search rules)
    (λ c κs. search rules)
    (λ c κs. search rules)
    returns
    returns-2)
