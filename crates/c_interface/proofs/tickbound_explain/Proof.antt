-- `c_interface::tickbound_explain` meets its contract. Assumes nothing.
use Rattle.c_answers.specs.Told.{word_of}
use mathlib.Core.Path.{ap, ◌∙◌}
use Rattle.c_interface.proofs.FunctionLaws.{explain-tells}
use borrow.Author.Rules.{rules}
use Rattle.c_interface.proofs.tickbound_explain.Statement.{statement}
use Rattle.c_interface.proofs.tickbound_explain.Tie as tie

returns : tie.Need-returns
returns c =
    let b = c.explain-explained.ensures in
    let w = c.word_of.ensures ∙ ap word_of b.0 in
    (w, (b.1, explain-tells _ _ _ w))

pub tickbound_explain_spec : {M : Type 1} → statement M
tickbound_explain_spec = tie.close (tie.spec (λ c κs. search rules) (λ c κs. search rules) (λ c. search rules) returns)
