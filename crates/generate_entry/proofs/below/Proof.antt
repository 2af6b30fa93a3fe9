-- `generate_entry::below` meets its contract. Assumes nothing.
use mathlib.Core.Path.{refl}
use native.Mathlib.Numerals.{add-one}
use Rattle.generate_file.specs.Words.{below}
use borrow.Author.Rules.{rules}
use Rattle.generate_entry.proofs.below.Statement.{statement}
use Rattle.generate_entry.proofs.below.Tie as tie

returns : tie.Need-returns
unfolding below
returns c = rw add-one refl

pub below_spec : {M : Type 1} → statement M
below_spec = tie.close (tie.spec (λ c. search rules) (λ c. search rules) (λ c. search rules) (λ c. search rules) returns)
