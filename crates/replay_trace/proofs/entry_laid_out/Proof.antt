-- `replay_trace::entry_laid_out` meets its contract. Assumes nothing.
use mathlib.Core.Path.{sym, ap, ◌∙◌}
use lib.ListN.{length}
use borrow.Author.Tests.{eq-eqb, ne_eqb}
use Rattle.text.specs.Text.{line_words}
use Rattle.text_decimals.specs.Decimal.{numeral}
use Rattle.file_format.specs.Rows.{is_numeral, at}
use Rattle.replay_trace.specs.Traces.{recorded_cycles, entry_laid_out}
use Rattle.file_lines.proofs.LineLaws.{and-true, and-false, and-stop, and-through}
use borrow.Author.Rules.{rules}
use Rattle.replay_trace.proofs.entry_laid_out.Statement.{statement}
use Rattle.replay_trace.proofs.entry_laid_out.Tie as tie

returns : tie.Need-returns-then-count_words-ne2
unfolding entry_laid_out
returns c =
    let line = c.args.line.now in
    and-stop _ (is_numeral (numeral (at line))) (is_numeral (numeral (recorded_cycles line))) (ne_eqb (length (line_words line)) 2 (λ e. c.if-count_words-ne2.true (c.count_words.ensures ∙ e)))

returns-2 : tie.Need-returns-then-is_numeral
unfolding entry_laid_out
returns-2 c =
    let at-word-at = c in
    let at-if1 = at-word-at in
    let at-count-words = at-if1 in
    let start = at-count-words in
    let line = start.args.line.now in
    and-through _ _ _ (eq-eqb (length (line_words line)) 2 (sym at-count-words.count_words.ensures ∙ at-if1.if-count_words-ne2.false))
    (and-true (sym (c.is_numeral.ensures ∙ ap (λ w. is_numeral (numeral w)) at-word-at.word_at-at.ensures) ∙ c.if-is_numeral.true)
    (c.is_numeral-then-is_numeral.ensures ∙ ap (λ w. is_numeral (numeral w)) c.word_at-cycles.ensures))

returns-3 : tie.Need-returns
unfolding entry_laid_out
returns-3 c =
    let at-if1 = c in
    let at-count-words = at-if1 in
    let start = at-count-words in
    let line = start.args.line.now in
    and-through _ _ _ (eq-eqb (length (line_words line)) 2 (sym at-count-words.count_words.ensures ∙ at-if1.if-count_words-ne2.false))
    (and-false (is_numeral (numeral (recorded_cycles line))) (sym (c.is_numeral.ensures ∙ ap (λ w. is_numeral (numeral w)) c.word_at-at.ensures) ∙ c.if-is_numeral.false))

pub entry_laid_out_spec : {M : Type 1} → statement M
entry_laid_out_spec =
    tie.close
    (tie.spec
    (λ c κs. search rules)
    returns
    (λ c κs. search rules)
    (λ c κs. search rules)
    (λ c κs. search rules)
    (λ c κs. search rules)
    returns-2
    returns-3)
