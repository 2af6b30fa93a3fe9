-- `split_entry::check` meets its contract. Assumes nothing.
use mathlib.Core.Path.{ap₂, ◌∙◌}
use mathlib.Core.List.{◌++◌}
use Rattle.file_format.specs.Layout.{list, listed}
use Rattle.split_cuts.specs.Cuts.{cuts_acceptance}
use Rattle.split_entry.specs.Answers.{cells_named, cuts_checked}
use borrow.Author.Rules.{rules}
use Rattle.split_entry.proofs.check.Statement.{statement}
use Rattle.split_entry.proofs.check.Tie as tie

returns : tie.Need-returns
unfolding cuts_checked cells_named listed
returns c =
    let s = c in
    c.check_cuts.ensures ∙ ap₂ (λ a b. cuts_acceptance (list a ++ list b) s.args.cuts.now) c.text_of-cells.ensures c.text_of-fields.ensures

pub check_spec : {M : Type 1} → statement M
check_spec = tie.close (tie.spec (λ c κs. search rules) (λ c κs. search rules) (λ c κs. search rules) returns)
