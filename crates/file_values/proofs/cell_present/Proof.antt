-- `file_values::cell_present` meets its contract. Assumes nothing.
use mathlib.Core.Path.{refl, ap, ◌∙◌}
use lib.Dec.{ltb}
use lib.IntN.{nat_abs}
use mir.Syntax.{w64}
use mir.ValLaws.{to_z-of_z}
use Rattle.file_format.specs.Rows.{cell_word, cell_present}
use Rattle.file_values.specs.HeldValues.{clamped_cell}
use Rattle.file_values.proofs.ValueLaws.{present-clamped, not-block, tested}
use borrow.Author.Rules.{rules}
use Rattle.file_values.proofs.cell_present.Statement.{statement}
use Rattle.file_values.proofs.cell_present.Tie as tie

returns : tie.Need-returns-in_default
returns c =
    let start = c in
    let n = start.args.n in
    tested (cell_present n) clamped_cell (present-clamped n start.requires) (cell_word start.args.w.now) c.cell_word.ensures refl (not-block n c.cell_word.result c.in_default.in_default-own.keys2)

returns-2 : tie.Need-returns
unfolding cell_present
returns-2 c =
    let start = c in
    let n = start.args.n in
    tested (cell_present n) clamped_cell (present-clamped n start.requires) (cell_word start.args.w.now) c.cell_word.ensures c.in-Block.is
    (c.is_nearer.ensures ∙ ap (λ z. ltb (nat_abs z) n) (to_z-of_z w64 c.in-Block.k (search rules)))

pub cell_present_spec : {M : Type 1} → statement M
cell_present_spec =
    tie.close (tie.spec (λ c κs. search rules) (λ c. search rules) returns (λ c κs. search rules) returns-2)
