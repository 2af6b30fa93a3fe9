-- `bound_figures::both` meets its contract. Assumes nothing.
use mathlib.Core.Path.{sym, ◌∙◌}
use borrow.Author.Rules.{rules}
use Rattle.bound_figures.proofs.PartLaws.{first-refused, second-refused, both-accepted}
use Rattle.bound_figures.proofs.both.Statement.{statement}
use Rattle.bound_figures.proofs.both.Tie as tie

returns : tie.Need-returns-in-Err
returns c = c.refused.ensures ∙ sym (first-refused _ _ _ _ _ _ c.in-Err.is)

returns-2 : tie.Need-returns-in-Err-second
returns-2 c = c.refused-in-Err-second.ensures ∙ sym (second-refused _ _ _ _ _ c.in_default.is _ c.in-Err-second.is)

returns-3 : tie.Need-returns
returns-3 c = c.joined.ensures ∙ sym (both-accepted _ _ _ _ _ c.in_default.is c.in_default-second.is)

pub both_spec : {M : Type 1} → statement M
both_spec =
    tie.close
    (tie.spec
    (λ c. search rules)
    (λ c. search rules)
    (λ c κs. search rules)
    returns
    (λ c. search rules)
    (λ c. search rules)
    (λ c. search rules)
    (λ c. search rules)
    (λ c κs. search rules)
    returns-2
    (λ c. search rules)
    (λ c κs. search rules)
    returns-3)
