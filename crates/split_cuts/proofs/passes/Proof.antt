-- `split_cuts::passes` meets its contract. Assumes nothing.
use mathlib.Core.Path.{ap, ◌∙◌}
use mathlib.Core.List.{◌++◌}
use lib.ListN.{get_or}
use Rattle.text.specs.Text.{lines, no_line}
use Rattle.file_format.specs.Layout.{list}
use Rattle.file_lines.proofs.LineLaws.{arm}
use Rattle.split_cuts.specs.Cuts.{text_in_range, line_in_range, text_named, line_named}
use Rattle.split_cuts.specs.HeldScan.{line_test}
use borrow.Author.Rules.{rules}
use Rattle.split_cuts.proofs.passes.Statement.{statement}
use Rattle.split_cuts.proofs.passes.Tie as tie

returns : tie.Need-returns-in-Layout
unfolding line_test
returns c =
    let a = c.args in
    arm (λ t. line_test t (list a.cells.now ++ list a.fields.now) a.k (get_or (lines a.rest.now) 0 no_line)) c.in-Layout.is c.line_laid_out.ensures

returns-2 : tie.Need-returns-in-Range
unfolding line_test line_in_range
returns-2 c =
    let a = c.args in
    arm (λ t. line_test t (list a.cells.now ++ list a.fields.now) a.k (get_or (lines a.rest.now) 0 no_line)) c.in-Range.is
    (c.in_range.ensures ∙ ap (text_in_range a.k) c.first_line.ensures)

returns-3 : tie.Need-returns-in-Name
unfolding line_test line_named
returns-3 c =
    let a = c.args in
    arm (λ t. line_test t (list a.cells.now ++ list a.fields.now) a.k (get_or (lines a.rest.now) 0 no_line)) c.in-Name.is
    (c.named.ensures ∙ ap (text_named (list a.cells.now ++ list a.fields.now) a.k) c.first_line-in-Name.ensures)

pub passes_spec : {M : Type 1} → statement M
passes_spec =
    tie.close
    (tie.spec
    (λ c. search rules)
    (λ c κs. search rules)
    (λ c. search rules)
    (λ c κs. search rules)
    (λ c κs. search rules)
    (λ c. search rules)
    (λ c κs. search rules)
    (λ c κs. search rules)
    returns
    returns-2
    returns-3)
