-- `file_values::cell_word` meets its contract. Assumes nothing.
use mathlib.Core.Path.{sym, ap, ◌∙◌}
use Rattle.file_format.specs.Rows.{block_of}
use Rattle.file_values.specs.HeldValues.{clamped_cell}
use Rattle.file_values.proofs.ValueLaws.{block-clamped, word-unknown, word_none, word-block, word-spanned}
use Rattle.file_values.proofs.cell_word.Goals as goal

pub returns-then-same : goal.returns-then-same
unfolding clamped_cell
returns-then-same c =
    sym (ap clamped_cell (word-unknown c.args.w.now (sym c.same.ensures ∙ c.if-same.true)))

pub returns-then-w-eq0 : goal.returns-then-w-eq0
unfolding clamped_cell
returns-then-w-eq0 c =
    sym (ap clamped_cell (word_none c.args.w.now (sym c.same.ensures ∙ c.if-same.false) c.if-w-eq0.true))

pub returns-then-w-eq35 : goal.returns-then-w-eq35
returns-then-w-eq35 c =
    let at-if2 = c in
    let at-if1 = at-if2 in
    let at_same = at-if1 in
    let start = at_same in
    c.block_word.ensures
    ∙ ap block_of c.read_numeral.ensures
    ∙ block-clamped _
    ∙ sym (ap clamped_cell (word-block start.args.w.now (sym at_same.same.ensures ∙ at-if1.if-same.false) at-if2.if-w-eq0.false c.if-w-eq35.true))

pub returns : goal.returns
returns c =
    let at-if1 = c in
    let at_same = at-if1 in
    let start = at_same in
    c.spanned.ensures
    ∙ sym (ap clamped_cell (word-spanned start.args.w.now (sym at_same.same.ensures ∙ at-if1.if-same.false) c.if-w-eq0.false c.if-w-eq35.false))
