-- Laws of one step that is recorded: what a step by value says of a run that stands there. Assumes nothing.
use Prim.Native.Nat.{ℕ, ◌+◌}
use mathlib.Core.Path.{◌≡◌, refl, sym, ap, ◌∙◌}
use mathlib.Core.Bool.{Bool, true, false, not, ◌&&◌}
use mathlib.Core.List.{List}
use native.Mathlib.Omega.{arith}
use lib.IntN.{ℤ}
use lib.ListN.{drop}
use Rattle.cells.specs.declared.Cell.{Cell}
use Rattle.machine.specs.Machine.{Code, step, takes_answer}
use Rattle.machine_state.specs.declared.State as states
use Rattle.machine_state.specs.HeldState.{whole}
use Rattle.bound_theory.specs.Run.{Run, answer, remaining, moved, leads, once, stuck_at, run_is_stuck}
use Rattle.machine_step.specs.declared.Price.{Price}
use Rattle.machine_step.specs.declared.Next as next
use Rattle.machine_step.specs.declared.Next.TheVariants as leads-to
use Rattle.machine_step.specs.HeldStep.{of_next}
use Rattle.replay_steps.specs.Replay.{is_going, step_cost}
use Rattle.replay_steps.specs.Held.{Stands}

module _ (c : Code) (ns : List ℕ) (answers : List ℤ) (taken : ℕ) (state : states.State) (blocks : List Cell) (r : Run) (s : Stands ns answers taken state blocks false r)
    -- the step that the run is at leads to n, with the state t and the blocks fs, and takes an answer or not
    (n : next.Next) (t : states.State) (fs : List Cell) (calls : Bool) (a : Cell) (asked : a ≡ answer (drop taken answers))
    (makes : of_next n (whole ns fs t) ≡ step c a (whole ns blocks state)) (takes : calls ≡ takes_answer c (whole ns blocks state)) where
  leads-is : leads c r ≡ of_next n (whole ns fs t)
  unfolding leads
  leads-is = ap (λ st. step c (answer r.answers) st) s.stands_at ∙ ap (λ vs. step c (answer vs) (whole ns blocks state)) s.to_come ∙ ap (λ b. step c b (whole ns blocks state)) (sym asked) ∙ sym makes

  left_is : remaining (takes_answer c r.state) r.answers ≡ remaining calls (drop taken answers)
  left_is = ap (λ st. remaining (takes_answer c st) r.answers) s.stands_at ∙ ap (λ b. remaining b r.answers) (sym takes) ∙ ap (remaining calls) s.to_come

  once_is : (m : next.Next) → n ≡ m → once c r ≡ moved r (remaining calls (drop taken answers)) false (of_next m (whole ns fs t))
  unfolding once
  once_is m e = ap (λ vs. moved r vs r.stopped (leads c r)) left_is ∙ ap (λ b. moved r (remaining calls (drop taken answers)) b (leads c r)) s.is_stopped ∙ ap (moved r (remaining calls (drop taken answers)) false) (leads-is ∙ ap (λ y. of_next y (whole ns fs t)) e)

  goes_by : (m : next.Next) → n ≡ m → is_going c r ≡ not (stuck_at false (of_next m (whole ns fs t)))
  unfolding is_going run_is_stuck
  goes_by m e = ap (λ b. not b && not (stuck_at b (leads c r))) s.is_stopped ∙ ap (λ y. not (stuck_at false y)) (leads-is ∙ ap (λ y. of_next y (whole ns fs t)) e)

  -- it is not made
  pub still-stays : ((p : Price) → n ≡ leads-to.Stops p → ⊥) → ((p : Price) → n ≡ leads-to.Goes p → ⊥) → false ≡ is_going c r
  still-stays no_stop no_way = sym (goes_by n refl ∙ still n no_stop no_way)
    where
      still : (y : next.Next) → ((p : Price) → y ≡ leads-to.Stops p → ⊥) → ((p : Price) → y ≡ leads-to.Goes p → ⊥) → not (stuck_at false (of_next y (whole ns fs t))) ≡ false
      still leads-to.Stuck f g = unfold stuck_at of_next in refl
      still (leads-to.Stops p) f g = absurd (f p refl)
      still (leads-to.Goes p) f g = absurd (g p refl)
      still (leads-to.Opens p b q) f g = unfold stuck_at of_next in refl

  module _ (p : Price) (k : ℕ) (drops : drop k answers ≡ remaining calls (drop taken answers)) where
    priced : (once c r).cycles ≡ r.cycles + p.cycles → p.cycles ≡ step_cost c r
    unfolding step_cost
    priced e = omega arith

    -- STOP
    module _ (e : n ≡ leads-to.Stops p) where
      pub stop-made : true ≡ is_going c r
      unfolding of_next stuck_at
      stop-made = sym (goes_by (leads-to.Stops p) e)

      pub stop-costs : p.cycles ≡ step_cost c r
      unfolding moved of_next
      stop-costs = priced (ap (λ (q : Run). q.cycles) (once_is (leads-to.Stops p) e))

      pub stop-stands : Stands ns answers k state blocks true (once c r)
      unfolding moved of_next
      stop-stands = rw (once_is (leads-to.Stops p) e) (record { stands_at = s.stands_at; to_come = sym drops; is_stopped = refl })

    -- a step
    module _ (e : n ≡ leads-to.Goes p) where
      pub step-made : true ≡ is_going c r
      unfolding of_next stuck_at
      step-made = sym (goes_by (leads-to.Goes p) e)

      pub step-costs : p.cycles ≡ step_cost c r
      unfolding moved of_next
      step-costs = priced (ap (λ (q : Run). q.cycles) (once_is (leads-to.Goes p) e))

      pub step-stands : Stands ns answers k t fs false (once c r)
      unfolding moved of_next
      step-stands = rw (once_is (leads-to.Goes p) e) (record { stands_at = refl; to_come = sym drops; is_stopped = refl })
