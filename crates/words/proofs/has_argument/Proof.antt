-- `words::has_argument` meets its contract. Assumes nothing.
use mathlib.Core.Path.{◌∙◌}
use Rattle.instructions.specs.Kinds.{kind_at}
use Rattle.words.proofs.HeadLaws.{takes-argument}
use borrow.Author.Rules.{rules}
use Rattle.words.proofs.has_argument.Statement.{statement}
use Rattle.words.proofs.has_argument.Tie as tie

returns : tie.Need-returns
returns c = c.takes_at.ensures ∙ takes-argument (kind_at c.args.k).argument

pub has_argument_spec : {M : Type 1} → statement M
has_argument_spec = tie.close (tie.spec (λ c κs. search rules) returns)
