-- `run_loop::answer_at` meets its contract. Assumes nothing.
use mathlib.Core.Path.{ap, ◌∙◌}
use lib.IntN.{pos}
use lib.ListN.{get_or}
use mir.Syntax.{w32}
use mir.Val.{SFits}
use mir.ValLaws.{to_z-of_z}
use borrow.Author.Rules.{rules}
use Rattle.cells.specs.Cells.{exactly}
use Rattle.run_loop.proofs.RunLaws.{answer-out, answer-in}
use Rattle.run_loop.proofs.answer_at.Statement.{statement}
use Rattle.run_loop.proofs.answer_at.Tie as tie

returns : tie.Need-returns-then-answers-taken
returns c = c.exactly.ensures ∙ answer-out _ _ c.if-answers-taken.true

returns-2 : tie.Need-returns
returns-2 c =
    let a = c.args in
    let f : SFits w32 (get_or a.answers.now a.taken (pos 0)) = record { sfits = search (rules, c.before.exactly-arg-1.given) } in
    c.exactly-2.ensures ∙ ap exactly (to_z-of_z w32 _ f) ∙ answer-in _ _ c.if-answers-taken.false

pub answer_at_spec : {M : Type 1} → statement M
answer_at_spec =
    tie.close
    (tie.spec
    (λ c κs. search rules)
    returns
    (λ c. search rules)
    (λ c. search rules)
    (λ c κs. search rules)
    returns-2)
