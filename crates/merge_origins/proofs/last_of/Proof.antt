-- `merge_origins::last_of` meets its contract. Assumes nothing.
use mathlib.Core.Path.{refl}
use Rattle.merge_origins.specs.HeldOrigins.{last_at}
use borrow.Author.Rules.{rules}
use Rattle.merge_origins.proofs.last_of.Statement.{statement}
use Rattle.merge_origins.proofs.last_of.Tie as tie

returns : tie.Need-returns
unfolding last_at
returns c = refl

pub last_of_spec : {M : Type 1} → statement M
last_of_spec =
    tie.close
    (tie.spec
    (λ c. search rules)
    (λ c. search rules)
    (λ c. search rules)
    (λ c. search rules)
    (λ c. search rules)
    (λ c. search rules)
    (λ c. search rules)
    (λ c. search rules)
    (λ c. search rules)
    (λ c. search rules)
    (λ c. search rules)
    (λ c. search rules)
    (λ c. search rules)
    (λ c. search rules)
    (λ c. search rules)
    (λ c. search rules)
    (λ c. search rules)
    (λ c. search rules)
    returns)
