-- `c_interface::tickbound_preview` meets its contract. Assumes nothing.
use Rattle.c_answers.specs.Told.{word_of}
use mathlib.Core.Path.{ap, ◌∙◌}
use native.Mathlib.Omega.{arith}
use Rattle.c_interface.proofs.FunctionLaws.{preview-tells}
use borrow.Author.Rules.{rules}
use Rattle.c_interface.proofs.tickbound_preview.Statement.{statement}
use Rattle.c_interface.proofs.tickbound_preview.Tie as tie

returns : tie.Need-returns
returns c =
    let b = c.preview-previewed.ensures in
    let w = c.word_of.ensures ∙ ap word_of b.0 in
    (w, (b.1, preview-tells _ _ _ _ (omega arith) _ w))

pub tickbound_preview_spec : {M : Type 1} → statement M
tickbound_preview_spec = tie.close (tie.spec (λ c κs. search rules) (λ c κs. search rules) (λ c. search rules) returns)
