-- `c_interface::tickbound_decide` meets its contract. Assumes nothing.
use Rattle.c_answers.specs.Told.{word_of}
use mathlib.Core.Path.{ap, ◌∙◌}
use Rattle.c_interface.proofs.FunctionLaws.{decide-tells, decide-length}
use borrow.Author.Rules.{rules}
use Rattle.c_interface.proofs.tickbound_decide.Statement.{statement}
use Rattle.c_interface.proofs.tickbound_decide.Tie as tie

returns : tie.Need-returns
returns c =
    let b = c.decide-decided.ensures in
    let w = c.word_of.ensures ∙ ap word_of b.0 in
    let l = decide-length _ _ _ b.0 _ c.word_of.ensures in
    (w, (b.1.0, (decide-tells _ _ _ w, rw l at b.1.1)))

pub tickbound_decide_spec : {M : Type 1} → statement M
tickbound_decide_spec = tie.close (tie.spec (λ c κs. search rules) (λ c κs. search rules) (λ c. search rules) returns)
