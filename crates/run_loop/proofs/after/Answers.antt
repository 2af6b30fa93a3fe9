-- The goals of `run_loop::after`.
use Prim.Native.Nat.{◌-◌, max}
use mathlib.Core.Path.{◌≡◌, sym, subst, ◌∙◌}
use native.Mathlib.Omega.{arith}
use Rattle.machine_step.specs.HeldStep.{Small}
use Rattle.run_loop.proofs.RunLaws.{begins, goes_on, stops-out, stays_out, set-one, set-none, safe-from}
use Rattle.run_loop.proofs.after.Goals as goal
use Rattle.run_loop.proofs.after.Goals.{then-depth-h, else-depth-h, in-Some, in_default-change}

pub loop-made-init : goal.loop-made-init
loop-made-init c = begins _ _ _ _ c.args.start c.args.initial c.requires.runnable.formed

pub returns-in-Stops : goal.returns-in-Stops
returns-in-Stops c =
    let x = c.step-stepped in
    let took = c.taken_after-taken in
    let i = c.loop-made.invariant in
    let e = stops-out _ _ _ _ _ _ i x.result.next x.result.state x.result.blocks x.result.calls _ c.answer_at-answer.ensures x.ensures.state_value x.ensures.calls_value
    c.in-Stops.p took.result (record { drops = took.ensures.0; few = took.ensures.1 }) (subst Small c.in-Stops.is x.ensures.well_formed.1) c.in-Stops.is c.loop-made-test.true in
    rw c.so_far.ensures record { result_value = e; safe = safe-from _ _ _ _ _ e; well_formed = i.formed }

pub returns-in_default-next : goal.returns-in_default-next
returns-in_default-next c =
    let x = c.step-stepped in
    let i = c.loop-made.invariant in
    let e = stays_out _ _ _ _ _ _ i x.result.next x.result.state x.result.blocks x.result.calls _ c.answer_at-answer.ensures x.ensures.state_value x.ensures.calls_value c.in_default.not-Stops c.in_default-next.not-Goes in
    rw c.so_far-in_default-next.ensures record { result_value = e; safe = safe-from _ _ _ _ _ e; well_formed = i.formed }

pub loop-made-preserved : goal.loop-made-preserved
loop-made-preserved c =
    let x = c.step-stepped in
    let took = c.taken_after-taken-in-loop-made in
    let blocks = c.loop-made.blocks in
    -- the larger of the depth so far and the height
    let deepest : c.if-depth-h.depth ≡ max c.loop-made.depth (64 - x.result.state.free) =
    elim c.if-depth-h.branch [ then-depth-h w ↦ omega arith | else-depth-h w ↦ omega arith ] in
    -- the blocks are those that the step left
    let handed : c.match-change.blocks ≡ x.result.blocks =
    elim c.match-change.branch [
      | in-Some w ↦ w.blocks-is ∙ sym (set-one x.result.change blocks x.result.blocks _ _ x.ensures.differs w.in-Some.is).1
      | in_default-change w ↦ w.blocks-is ∙ sym (set-none x.result.change blocks x.result.blocks x.ensures.differs w.in_default-change.is)
    ] in
    rw handed
    (goes_on _ _ _ _ _ _ c.loop-made.invariant x.result.next x.result.state x.result.blocks x.result.calls _ c.answer_at-answer.ensures x.ensures.state_value x.ensures.calls_value
    c.in-Goes.p took.result (record { drops = took.ensures.0; few = took.ensures.1 }) (subst Small c.in-Goes.is x.ensures.well_formed.1) c.in-Goes.is c.loop-made-test.true x.ensures.well_formed.0 _ deepest)

pub returns-clause-safe : goal.returns-clause-safe
returns-clause-safe c =
    let all : c.args.n ≡ c.loop-made.made = omega arith in
    rw (c.so_far-2.ensures, all) (safe-from _ _ _ _ _ c.loop-made.invariant.is)
