-- `c_interface::tickbound_merge` meets its contract. Assumes nothing.
use Rattle.c_answers.specs.Told.{word_of}
use mathlib.Core.Path.{ap, ◌∙◌}
use Rattle.c_interface.proofs.FunctionLaws.{merge-tells, merge-length, merge-listed-word}
use borrow.Author.Rules.{rules}
use Rattle.c_interface.proofs.tickbound_merge.Statement.{statement}
use Rattle.c_interface.proofs.tickbound_merge.Tie as tie

returns : tie.Need-returns
returns c =
    let b = c.merge-answer.ensures in
    let w = c.word_of.ensures ∙ ap word_of b.0 in
    let l = merge-length _ _ _ b.0 _ c.word_of.ensures in
    let k = b.1.1 in
    (w, (b.1.0, (merge-tells _ _ _ w, (rw l at k.0, (rw l at k.1.0, (rw l at k.1.1.0, (rw l at k.1.1.1.0, (rw l at k.1.1.1.1.0, merge-listed-word _ _ _ w))))))))

pub tickbound_merge_spec : {M : Type 1} → statement M
tickbound_merge_spec = tie.close (tie.spec (λ c κs. search rules) (λ c κs. search rules) (λ c. search rules) returns)
