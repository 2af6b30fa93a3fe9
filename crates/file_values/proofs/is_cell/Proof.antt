-- `file_values::is_cell` meets its contract. Assumes nothing.
use mathlib.Core.Path.{refl}
use Rattle.file_format.specs.Rows.{cell_word, is_cell}
use Rattle.file_values.specs.HeldValues.{clamped_cell}
use Rattle.file_values.proofs.ValueLaws.{cell-clamped, not-wrong, tested}
use borrow.Author.Rules.{rules}
use Rattle.file_values.proofs.is_cell.Statement.{statement}
use Rattle.file_values.proofs.is_cell.Tie as tie

enum_told : tie.Need-enum_told-1
enum_told c = search rules

returns : tie.Need-returns-in-Wrong
unfolding is_cell
returns c =
    tested is_cell clamped_cell cell-clamped (cell_word c.args.w.now) c.cell_word.ensures c.in-Wrong.is refl

returns-2 : tie.Need-returns
returns-2 c =
    tested is_cell clamped_cell cell-clamped (cell_word c.args.w.now) c.cell_word.ensures refl (not-wrong c.cell_word.result c.in_default.in_default-own.keys2)

pub is_cell_spec : {M : Type 1} → statement M
is_cell_spec = tie.close (tie.spec (λ c κs. search rules) enum_told returns returns-2)
