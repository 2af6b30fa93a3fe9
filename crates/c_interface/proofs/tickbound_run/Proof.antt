-- `c_interface::tickbound_run` meets its contract. Assumes nothing.
use Rattle.c_answers.specs.Told.{word_of}
use mathlib.Core.Path.{ap, ◌∙◌}
use Rattle.c_interface.proofs.FunctionLaws.{run-tells, run_length, run-listed-word}
use borrow.Author.Rules.{rules}
use Rattle.c_interface.proofs.tickbound_run.Statement.{statement}
use Rattle.c_interface.proofs.tickbound_run.Tie as tie

returns : tie.Need-returns
returns c =
    let b = c.run-answer.ensures in
    let w = c.word_of.ensures ∙ ap word_of b.0 in
    let l = run_length _ _ _ b.0 _ c.word_of.ensures in
    let k = b.1.1 in
    (w, (b.1.0, (run-tells _ _ _ w, (rw l at k.0, (rw l at k.1.0, run-listed-word _ _ _ w)))))

pub tickbound_run_spec : {M : Type 1} → statement M
tickbound_run_spec = tie.close (tie.spec (λ c κs. search rules) (λ c κs. search rules) (λ c. search rules) returns)
