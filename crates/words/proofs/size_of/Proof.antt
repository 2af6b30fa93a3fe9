-- `words::size_of` meets its contract. Assumes nothing.
use mathlib.Core.Path.{sym, ap, ◌∙◌}
use mathlib.Core.Bool.{Bool, cond}
use Rattle.words.specs.Decoding.{size_of}
use borrow.Author.Rules.{rules}
use Rattle.words.proofs.size_of.Statement.{statement}
use Rattle.words.proofs.size_of.Tie as tie

returns : tie.Need-returns-then-has_argument
unfolding size_of
returns c = sym (ap (λ (b : Bool). cond b 2 1) (sym c.has_argument.ensures ∙ c.if-has_argument.true))

returns-2 : tie.Need-returns-else-has_argument
unfolding size_of
returns-2 c = sym (ap (λ (b : Bool). cond b 2 1) (sym c.has_argument.ensures ∙ c.if-has_argument.false))

pub size_of_spec : {M : Type 1} → statement M
size_of_spec = tie.close (tie.spec (λ c κs. search rules) returns returns-2)
