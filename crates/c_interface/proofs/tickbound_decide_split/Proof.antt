-- `c_interface::tickbound_decide_split` meets its contract. Assumes nothing.
use Rattle.c_answers.specs.Told.{word_of}
use mathlib.Core.Path.{ap, ◌∙◌}
use Rattle.c_interface.proofs.FunctionLaws.{decide-split-tells, decide-split-length}
use borrow.Author.Rules.{rules}
use Rattle.c_interface.proofs.tickbound_decide_split.Statement.{statement}
use Rattle.c_interface.proofs.tickbound_decide_split.Tie as tie

returns : tie.Need-returns
returns c =
    let b = c.decide_split-decided.ensures in
    let w = c.word_of.ensures ∙ ap word_of b.0 in
    let l = decide-split-length _ _ _ _ b.0 _ c.word_of.ensures in
    (w, (b.1.0, (decide-split-tells _ _ _ _ w, rw l at b.1.1)))

pub tickbound_decide_split_spec : {M : Type 1} → statement M
tickbound_decide_split_spec = tie.close (tie.spec (λ c κs. search rules) (λ c κs. search rules) (λ c. search rules) returns)
