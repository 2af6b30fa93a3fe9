-- `file_values::cell_of` meets its contract. Assumes nothing.
use mathlib.Core.Path.{ap, ◌∙◌}
use lib.IntN.{nat_abs}
use mir.Syntax.{w64}
use mir.ValLaws.{to_z-of_z}
use Rattle.numbers.specs.Numbers.{numbers}
use Rattle.cells.specs.Cells.{exactly, between, handle}
use Rattle.file_format.specs.Rows.{handles, cell_word}
use Rattle.file_format.specs.Routine.{inside, cell_of}
use Rattle.file_values.specs.HeldValues.{clamped_cell}
use Rattle.file_values.proofs.ValueLaws.{cell-of-clamped, tested}
use Rattle.numbers.proofs.SignedLaws.{read-both}
use lib.IntN.{ℤ}
use borrow.Author.Rules.{rules}
use Rattle.file_values.proofs.cell_of.Goals as goal

pub returns-in-Wrong : goal.returns-in-Wrong
unfolding cell_of
returns-in-Wrong c =
    tested cell_of clamped_cell cell-of-clamped (cell_word c.args.w.now) c.cell_word.ensures c.in-Wrong.is c.exactly.ensures

pub returns-in-Unknown : goal.returns-in-Unknown
unfolding cell_of
returns-in-Unknown c =
    tested cell_of clamped_cell cell-of-clamped (cell_word c.args.w.now) c.cell_word.ensures c.in-Unknown.is c.unknown.ensures

pub returns-in-Known : goal.returns-in-Known
unfolding cell_of
returns-in-Known c =
    tested cell_of clamped_cell cell-of-clamped (cell_word c.args.w.now) c.cell_word.ensures c.in-Known.is
    (c.number_cell.ensures ∙ ap (λ z. exactly (inside numbers z)) (to_z-of_z w64 c.in-Known.z (search rules)))

pub returns-in-Block : goal.returns-in-Block
unfolding cell_of
returns-in-Block c =
    tested cell_of clamped_cell cell-of-clamped (cell_word c.args.w.now) c.cell_word.ensures c.in-Block.is
    (c.handle_cell.ensures ∙ ap (λ z. handle (nat_abs (inside handles z))) (to_z-of_z w64 c.in-Block.k (search rules)))

pub returns-in-Span : goal.returns-in-Span
unfolding cell_of
returns-in-Span c =
    let known = c.in-Span in
    tested cell_of clamped_cell cell-of-clamped (cell_word c.args.w.now) c.cell_word.ensures known.is
    (c.span_cell.ensures ∙ read-both (λ (x y : ℤ). between (inside numbers x) (inside numbers y)) w64 known.lo known.hi (search rules) (search rules))
