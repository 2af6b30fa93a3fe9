-- `explain_walk::walk` meets its contract: in each arm the step is the walk's. Assumes nothing.
use borrow.Author.Rules.{rules}
use Rattle.machine_state.specs.HeldProgram.{program_of, sizes_of}
use Rattle.explain_walk.proofs.ArmLaws.{Steps, at-stuck, at-stop, at-way, at-no-decision, at_n, at-t}
use Rattle.explain_walk.proofs.walk.Statement.{statement}
use Rattle.explain_walk.proofs.walk.Tie as tie

-- the step that was made
abbrev steps : (c : tie.After-left-1) → (let b = c in let a = b.args in let x = b.step-stepped.result in Steps (program_of a.code.now) (sizes_of a.code.now) a.state a.blocks x.next x.state x.blocks)
steps c =
    let b = c in
    let x = b.step-stepped.ensures in
    record { answer = _; asked = b.unknown-answer.ensures; makes = x.0; formed = x.1.1.0.0; small = x.1.1.0.1 }

returns : tie.Need-returns-then-path-lt2
returns c =
    let b = c in
    let g = b.in-Opens in
    at-no-decision (steps b.before.before.before) _ g.p g.target g.q g.is c.if-path-lt2.true c.not_made-then-path-lt2.ensures

returns-2 : tie.Need-returns-then-path-eq0
returns-2 c =
    let b = c in
    let g = b.in-Opens in
    at_n (steps b.before.before.before.before) _ g.p g.target g.q g.is c.if-path-lt2.false c.if-path-eq0.true c.made_at-then-path-eq0.ensures

returns-3 : tie.Need-returns-in-Stuck
returns-3 c = at-stuck (steps c.before.before) _ c.in-Stuck.is c.not_made.ensures

returns-4 : tie.Need-returns-in-Stops
returns-4 c = let g = c.in-Stops in at-stop (steps c.before.before) _ g.p g.is c.made_at.ensures

returns-5 : tie.Need-returns-in-Goes
returns-5 c = let g = c.in-Goes in at-way (steps c.before.before) _ g.p g.is c.made_at-in-Goes.ensures

returns-6 : tie.Need-returns-else-path-eq0
returns-6 c =
    let j = c in
    let b = j in
    let g = b.in-Opens in
    at-t (steps b.before.before.before.before.before) _ g.p g.target g.q g.is j.if-path-lt2.false j.if-path-eq0.false j.jump-jumped.result j.jump-jumped.ensures c.made_at-in-Opens.ensures

pub walk_spec : {M : Type 1} → statement M
walk_spec =
    tie.close
    (tie.spec
    (λ c κs. search rules)
    (λ c κs. search rules)
    (λ c. search rules)
    (λ c κs. search rules)
    (λ c. search rules)
    (λ c κs. search rules)
    (λ c. search rules)
    (λ c κs. search rules)
    (λ c. search rules)
    (λ c κs. search rules)
    returns
    (λ c κs. search rules)
    returns-2
    (λ c κs. search rules)
    (λ c κs. search rules)
    returns-3
    returns-4
    returns-5
    returns-6)
