-- `file_values::cell_in_range` meets its contract. Assumes nothing.
use mathlib.Core.Path.{refl, ap₂, ◌∙◌}
use mir.Syntax.{w64}
use mir.ValLaws.{to_z-of_z}
use Rattle.numbers.specs.Numbers.{within}
use Rattle.file_format.specs.Rows.{cell_word, cell_in_range, span_in_range}
use Rattle.file_values.specs.HeldValues.{clamped_cell}
use Rattle.file_values.proofs.ValueLaws.{in-range-clamped, no_number, tested}
use Rattle.numbers.proofs.SignedLaws.{read-both}
use borrow.Author.Rules.{rules}
use Rattle.file_values.proofs.cell_in_range.Goals as goal

pub returns-in-Known : goal.returns-in-Known
unfolding cell_in_range
returns-in-Known c =
    tested cell_in_range clamped_cell in-range-clamped (cell_word c.args.w.now) c.cell_word.ensures c.in-Known.is
    (c.within.ensures ∙ ap₂ within c.number_range.ensures (to_z-of_z w64 c.in-Known.z (search rules)))

pub returns-in-Block : goal.returns-in-Block
unfolding cell_in_range
returns-in-Block c =
    tested cell_in_range clamped_cell in-range-clamped (cell_word c.args.w.now) c.cell_word.ensures c.in-Block.is
    (c.within-in-Block.ensures ∙ ap₂ within c.handles.ensures (to_z-of_z w64 c.in-Block.k (search rules)))

pub returns-in-Span : goal.returns-in-Span
unfolding cell_in_range
returns-in-Span c =
    let known = c.in-Span in
    tested cell_in_range clamped_cell in-range-clamped (cell_word c.args.w.now) c.cell_word.ensures known.is
    (c.span_in_range.ensures ∙ read-both span_in_range w64 known.lo known.hi (search rules) (search rules))

pub returns-in_default : goal.returns-in_default
returns-in_default c =
    tested cell_in_range clamped_cell in-range-clamped (cell_word c.args.w.now) c.cell_word.ensures refl (no_number c.cell_word.result c.in_default.in_default-own.keys4)
