-- `split_cuts::cut_laid_out` meets its contract. Assumes nothing.
use mathlib.Core.Path.{sym, ap, ◌∙◌}
use mathlib.Core.Bool.{not}
use lib.ListN.{length}
use borrow.Author.Tests.{eq-eqb, ne_eqb}
use Rattle.text.specs.Text.{is_empty, line_words}
use Rattle.text_decimals.specs.Decimal.{numeral}
use Rattle.file_format.specs.Rows.{is_numeral}
use Rattle.file_lines.proofs.LineLaws.{and-true, and-false, and-stop, and-through}
use Rattle.split_cuts.specs.Cuts.{cell_name, from_word, cut_laid_out}
use Rattle.split_cuts.proofs.CutsLaws.{name-there, name-lacks}
use borrow.Author.Rules.{rules}
use Rattle.split_cuts.proofs.cut_laid_out.Statement.{statement}
use Rattle.split_cuts.proofs.cut_laid_out.Tie as tie

returns : tie.Need-returns-then-count_words-ne2
unfolding cut_laid_out
returns c =
    let line = c.args.line.now in
    and-stop _ (not (is_empty (cell_name line))) (is_numeral (numeral (from_word line))) (ne_eqb (length (line_words line)) 2 (λ e. c.if-count_words-ne2.true (c.count_words.ensures ∙ e)))

returns-2 : tie.Need-returns-then-name-gt0
unfolding cut_laid_out
returns-2 c =
    let at-if1 = c in
    let at-count-words = at-if1 in
    let line = at-count-words.args.line.now in
    and-through _ _ _ (eq-eqb (length (line_words line)) 2 (sym at-count-words.count_words.ensures ∙ at-if1.if-count_words-ne2.false))
    (and-true (name-there c.word_at-name.ensures c.if-name-gt0.true)
    (c.is_numeral.ensures ∙ ap (λ w. is_numeral (numeral w)) c.word_at-from.ensures))

returns-3 : tie.Need-returns
unfolding cut_laid_out
returns-3 c =
    let at-if1 = c in
    let at-count-words = at-if1 in
    let line = at-count-words.args.line.now in
    and-through _ _ _ (eq-eqb (length (line_words line)) 2 (sym at-count-words.count_words.ensures ∙ at-if1.if-count_words-ne2.false))
    (and-false (is_numeral (numeral (from_word line))) (name-lacks c.word_at-name.ensures c.if-name-gt0.false))

pub cut_laid_out_spec : {M : Type 1} → statement M
cut_laid_out_spec =
    tie.close
    (tie.spec
    (λ c κs. search rules)
    returns
    (λ c κs. search rules)
    (λ c κs. search rules)
    (λ c κs. search rules)
    returns-2
    returns-3)
