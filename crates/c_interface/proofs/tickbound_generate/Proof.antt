-- `c_interface::tickbound_generate` meets its contract. Assumes nothing.
use Rattle.c_answers.specs.Told.{word_of}
use mathlib.Core.Path.{ap, ◌∙◌}
use Rattle.c_interface.proofs.FunctionLaws.{generate-tells}
use borrow.Author.Rules.{rules}
use Rattle.c_interface.proofs.tickbound_generate.Statement.{statement}
use Rattle.c_interface.proofs.tickbound_generate.Tie as tie

returns : tie.Need-returns
returns c =
    let b = c.generate-generated.ensures in
    let w = c.word_of.ensures ∙ ap word_of b.0 in
    (w, (b.1, generate-tells _ _ _ w))

pub tickbound_generate_spec : {M : Type 1} → statement M
tickbound_generate_spec = tie.close (tie.spec (λ c κs. search rules) (λ c κs. search rules) (λ c. search rules) returns)
