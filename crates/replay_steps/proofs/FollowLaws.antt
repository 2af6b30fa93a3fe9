-- Laws of one line of a replay: what a step by value says of it. Assumes nothing.
use Prim.Native.Nat.{ℕ, ◌+◌, ◌-◌}
use mathlib.Core.Path.{◌≡◌, refl, sym, ap, ◌∙◌}
use mathlib.Core.Bool.{Bool, true, false, cond, not, ◌&&◌}
use mathlib.Core.List.{List}
use native.Mathlib.Omega.{arith}
use lib.Dec.{eqb, leb}
use lib.IntN.{ℤ}
use lib.ListN.{drop}
use borrow.Author.Tests.{eq-eqb, ne_eqb}
use Rattle.cells.specs.declared.Cell.{Cell}
use Rattle.machine.specs.Machine.{State, Code, Next, reblock, step, takes_answer}
use Rattle.machine_state.specs.declared.State as states
use Rattle.machine_state.specs.HeldState.{whole}
use Rattle.bound_theory.specs.Run.{Run, answer, remaining, moved, leads, once, stuck_at, run_is_stuck}
use Rattle.machine_step.specs.declared.Price.{Price}
use Rattle.machine_step.specs.declared.Next as next
use Rattle.machine_step.specs.declared.Next.TheVariants as leads-to
use Rattle.machine_step.specs.HeldStep.{of_next}
use Rattle.replay_trace.specs.Traces.{Entry}
use Rattle.replay_steps.specs.Replay.{is_going, step_cost, agrees}
use Rattle.replay_steps.specs.Held.{Stands}

-- a conjunction, as the code has it
conjoined : (a b : Bool) → cond a b false ≡ (true && a && b)
conjoined true b = refl
conjoined false b = refl

abbrev pub line : ℕ → ℕ → Entry
line at spent = record { at = at; cycles = spent }

module _ (c : Code) (ns : List ℕ) (answers : List ℤ) (taken : ℕ) (state : states.State) (blocks : List Cell) (r : Run) (s : Stands ns answers taken state blocks false r) (at spent : ℕ) where
  address : r.state.at ≡ state.at
  unfolding whole reblock
  address = ap (λ t. t.at) s.stands_at

  -- the step that the run is at leads to n, with the state t and the blocks fs, and takes an answer or not
  module _ (n : next.Next) (t : states.State) (fs : List Cell) (calls : Bool) (a : Cell) (asked : a ≡ answer (drop taken answers))
      (makes : of_next n (whole ns fs t) ≡ step c a (whole ns blocks state)) (takes : calls ≡ takes_answer c (whole ns blocks state)) where
    leads-is : leads c r ≡ of_next n (whole ns fs t)
    unfolding leads
    leads-is = ap (λ st. step c (answer r.answers) st) s.stands_at ∙ ap (λ vs. step c (answer vs) (whole ns blocks state)) s.to_come ∙ ap (λ b. step c b (whole ns blocks state)) (sym asked) ∙ sym makes

    left_is : remaining (takes_answer c r.state) r.answers ≡ remaining calls (drop taken answers)
    left_is = ap (λ st. remaining (takes_answer c st) r.answers) s.stands_at ∙ ap (λ b. remaining b r.answers) (sym takes) ∙ ap (remaining calls) s.to_come

    once_is : once c r ≡ moved r (remaining calls (drop taken answers)) false (of_next n (whole ns fs t))
    unfolding once
    once_is = ap (λ vs. moved r vs r.stopped (leads c r)) left_is ∙ ap (λ b. moved r (remaining calls (drop taken answers)) b (leads c r)) s.is_stopped ∙ ap (moved r (remaining calls (drop taken answers)) false) leads-is

    goes_by : is_going c r ≡ not (stuck_at false (of_next n (whole ns fs t)))
    unfolding is_going run_is_stuck
    goes_by = ap (λ b. not b && not (stuck_at b (leads c r))) s.is_stopped ∙ ap (λ m. not (stuck_at false m)) leads-is

    -- it is not made
    pub still-differs : ((p : Price) → n ≡ leads-to.Stops p → ⊥) → ((p : Price) → n ≡ leads-to.Goes p → ⊥) → false ≡ agrees c r (line at spent)
    unfolding agrees
    still-differs no_stop no_way = rw (goes_by ∙ still n no_stop no_way) refl
      where
        still : (y : next.Next) → ((p : Price) → y ≡ leads-to.Stops p → ⊥) → ((p : Price) → y ≡ leads-to.Goes p → ⊥) → not (stuck_at false (of_next y (whole ns fs t))) ≡ false
        still leads-to.Stuck f g = unfold stuck_at of_next in refl
        still (leads-to.Stops p) f g = absurd (f p refl)
        still (leads-to.Goes p) f g = absurd (g p refl)
        still (leads-to.Opens p b q) f g = unfold stuck_at of_next in refl

    module _ (p : Price) (k : ℕ) (drops : drop k answers ≡ remaining calls (drop taken answers)) where
      priced : is_going c r ≡ true → (once c r).cycles ≡ r.cycles + p.cycles → cond (eqb state.at at) (leb spent p.cycles) false ≡ agrees c r (line at spent)
      unfolding agrees step_cost
      priced g e =
          let d : (once c r).cycles - r.cycles ≡ p.cycles = omega arith in
          conjoined (eqb state.at at) (leb spent p.cycles)
          ∙ sym
          (ap (λ b. b && eqb r.state.at at && leb spent ((once c r).cycles - r.cycles)) g
          ∙ ap (λ m. true && eqb m at && leb spent ((once c r).cycles - r.cycles)) address
          ∙ ap (λ m. true && eqb state.at at && leb spent m) d)

      -- STOP
      pub stop-held : n ≡ leads-to.Stops p → cond (eqb state.at at) (leb spent p.cycles) false ≡ agrees c r (line at spent)
      unfolding moved of_next stuck_at
      stop-held e = priced (goes_by ∙ ap (λ y. not (stuck_at false (of_next y (whole ns fs t)))) e) (ap (λ q. q.cycles) (once_is ∙ ap (λ y. moved r (remaining calls (drop taken answers)) false (of_next y (whole ns fs t))) e))

      pub stop-stands : n ≡ leads-to.Stops p → Stands ns answers k state blocks true (once c r)
      unfolding moved of_next
      stop-stands e = rw (once_is ∙ ap (λ y. moved r (remaining calls (drop taken answers)) false (of_next y (whole ns fs t))) e) (record { stands_at = s.stands_at; to_come = sym drops; is_stopped = refl })

      -- a step
      pub step-held : n ≡ leads-to.Goes p → cond (eqb state.at at) (leb spent p.cycles) false ≡ agrees c r (line at spent)
      unfolding moved of_next stuck_at
      step-held e = priced (goes_by ∙ ap (λ y. not (stuck_at false (of_next y (whole ns fs t)))) e) (ap (λ q. q.cycles) (once_is ∙ ap (λ y. moved r (remaining calls (drop taken answers)) false (of_next y (whole ns fs t))) e))

      pub step-stands : n ≡ leads-to.Goes p → Stands ns answers k t fs false (once c r)
      unfolding moved of_next
      step-stands e = rw (once_is ∙ ap (λ y. moved r (remaining calls (drop taken answers)) false (of_next y (whole ns fs t))) e) (record { stands_at = refl; to_come = sym drops; is_stopped = refl })

-- the address decides first
pub address_same : {b d : Bool} (m n : ℕ) → cond (eqb m n) b false ≡ d → m ≡ n → b ≡ d
address_same {b} m n e q = sym (ap (λ t. cond t b false) (eq-eqb m n q)) ∙ e

pub address-other : {d : Bool} (b : Bool) (m n : ℕ) → cond (eqb m n) b false ≡ d → (m ≡ n → ⊥) → eqb m n ≡ d
address-other b m n e q = ne_eqb m n q ∙ sym (ap (λ t. cond t b false) (ne_eqb m n q)) ∙ e
