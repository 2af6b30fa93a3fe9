-- `c_interface::tickbound_replay` meets its contract. Assumes nothing.
use Rattle.c_answers.specs.Told.{word_of}
use mathlib.Core.Path.{ap, ◌∙◌}
use Rattle.c_interface.proofs.FunctionLaws.{replay-tells, replay-length}
use borrow.Author.Rules.{rules}
use Rattle.c_interface.proofs.tickbound_replay.Statement.{statement}
use Rattle.c_interface.proofs.tickbound_replay.Tie as tie

returns : tie.Need-returns
returns c =
    let b = c.replay-replayed.ensures in
    let w = c.word_of.ensures ∙ ap word_of b.0 in
    let l = replay-length _ _ _ _ b.0 _ c.word_of.ensures in
    (w, (b.1.0, (replay-tells _ _ _ _ w, rw l at b.1.1)))

pub tickbound_replay_spec : {M : Type 1} → statement M
tickbound_replay_spec = tie.close (tie.spec (λ c κs. search rules) (λ c κs. search rules) (λ c. search rules) returns)
