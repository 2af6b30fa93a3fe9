-- `c_interface::tickbound_import` meets its contract. Assumes nothing.
use Rattle.c_answers.specs.Told.{word_of}
use mathlib.Core.Path.{ap, ◌∙◌}
use Rattle.c_interface.proofs.FunctionLaws.{import-tells}
use borrow.Author.Rules.{rules}
use Rattle.c_interface.proofs.tickbound_import.Statement.{statement}
use Rattle.c_interface.proofs.tickbound_import.Tie as tie

returns : tie.Need-returns
returns c =
    let b = c.import-imported.ensures in
    let w = c.word_of.ensures ∙ ap word_of b.0 in
    (w, (b.1, import-tells _ _ _ _ w))

pub tickbound_import_spec : {M : Type 1} → statement M
tickbound_import_spec = tie.close (tie.spec (λ c κs. search rules) (λ c κs. search rules) (λ c. search rules) returns)
