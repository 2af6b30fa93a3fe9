-- `file_lines::cells_pass` meets its contract. Assumes nothing.
use mathlib.Core.Path.{refl, sym, ◌∙◌}
use mathlib.Core.Bool.{true, cond}
use Rattle.text.specs.Text.{all}
use Rattle.file_format.specs.Layout.{list}
use Rattle.file_format.specs.Rows.{on_cells}
use Rattle.file_lines.specs.HeldLines.{word_test}
use Rattle.file_lines.proofs.LineLaws.{arm}
use borrow.Author.Rules.{rules}
use Rattle.file_lines.proofs.cells_pass.Statement.{statement}
use Rattle.file_lines.proofs.cells_pass.Tie as tie

returns : tie.Need-returns-then-holds_cells
unfolding on_cells
returns c =
    let a = c.args in
    arm (λ b. cond b (all (word_test a.t) (list a.line.now)) true) (sym c.holds_cells.ensures ∙ c.if-holds_cells.true) c.all_listed.ensures

returns-2 : tie.Need-returns
unfolding on_cells
returns-2 c =
    let a = c.args in
    arm (λ b. cond b (all (word_test a.t) (list a.line.now)) true) (sym c.holds_cells.ensures ∙ c.if-holds_cells.false) refl

pub cells_pass_spec : {M : Type 1} → statement M
cells_pass_spec = tie.close (tie.spec (λ c κs. search rules) (λ c κs. search rules) returns returns-2)
