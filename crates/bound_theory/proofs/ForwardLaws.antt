-- Code without jumps backwards: each step leaves fewer addresses, so runs, traces and trees end within the code's lines. Assumes nothing.
use mathlib.Core.Path.{◌≡◌, refl}
use mathlib.Core.Bool.{Bool, true, false, true≢false}
use mathlib.Core.List.{List}
use Prim.Native.Nat.{ℕ, zero, suc, ◌+◌, ◌≤◌, ◌<◌, max}
use native.Mathlib.Omega.{arith}
use lib.IntN.{ℤ}
use lib.ListN.{length}
use Rattle.cells.specs.Try.{Try, stuck, done}
use Rattle.cells.specs.declared.Cell.{Cell}
use Rattle.machine.specs.Machine.{State, Next, stops, goes, opens, Code, step}
use Rattle.machine.specs.Forward.{Forward}
use Rattle.machine.proofs.LeadLaws.{goes-there, opens-there}
use Rattle.machine.proofs.ForwardLaws.{step-above, left, step-inside, Fewer, step_fewer}
use Rattle.bound_theory.specs.Tree.{expand, tree, levels}
use Rattle.bound_theory.specs.Traces.{Move, Transition, goes_on, not_taken, taken, Trace, Path}
use Rattle.bound_theory.specs.Run.{Run, begin, answer, moved, leads, once, after, DeterministicTrace}
use Rattle.bound_theory.specs.Promises.{ForwardOnce}

higher : (a b x y z : ℕ) → a ≤ suc x → b ≤ suc y → x < z → y < z → suc (max a b) ≤ suc z
higher a b x y z h k l m = omega arith

module _ (c : Code) (forward : Forward c) where
  -- ---- traces

  rises : (r : Cell) (s : State) (m : Move) (t : State) → Transition (step c r) s m t → s.at < t.at
  rises r s m t (goes_on e) = (goes-there (step-above c forward r s _ e)).address
  rises r s m t (not_taken e) = (opens-there (step-above c forward r s _ e)).0.address
  rises r s m t (taken e) = (opens-there (step-above c forward r s _ e)).1.address

  transition-fewer : (r : Cell) {s : State} {m : Move} {t : State} → Transition (step c r) s m t → Fewer c s t
  transition-fewer r {s} (goes_on e) = goes-there (step_fewer c forward r s _ e)
  transition-fewer r {s} (not_taken e) = (opens-there (step_fewer c forward r s _ e)).0
  transition-fewer r {s} (taken e) = (opens-there (step_fewer c forward r s _ e)).1

  trace-left : (r : Cell) {s : State} {ms : List Move} {t : State} → Trace (step c r) s ms t → length ms ≤ left c s
  trace-left r Trace.here = omega arith
  trace-left r (Trace.step {s} {t} x ts) = omega (arith, (transition-fewer r x).fewer, trace-left r ts)

  path-left : (r : Cell) {s : State} {ms : List Move} → Path (step c r) s ms → length ms ≤ left c s
  path-left r (Path.stop {s} e) = omega (arith, step-inside c r s _ e)
  path-left r (Path.step x ts) = omega (arith, (transition-fewer r x).fewer, path-left r ts)

  deterministic-left : {s : State} {answers : List ℤ} {ms : List Move} → DeterministicTrace c s answers ms → length ms ≤ left c s
  deterministic-left (DeterministicTrace.stop {s} {answers} e) = omega (arith, step-inside c (answer answers) s _ e)
  deterministic-left (DeterministicTrace.next {s} {answers} e ts) =
      omega (arith, (goes-there (step_fewer c forward (answer answers) s _ e)).fewer, deterministic-left ts)

  -- ---- the tree

  levels-left : (r : Cell) (fuel o : ℕ) (s : State) → levels (tree (step c r) fuel o s) ≤ suc (left c s)
  unfolding tree expand levels
  levels-left r zero o s = omega arith
  levels-left r (suc fuel) o s = go (step c r s) refl o (levels-left r fuel)
    where
      go : (m : Try Next) → step c r s ≡ m → (o : ℕ) → ((o : ℕ) (t : State) → levels (tree (step c r) fuel o t) ≤ suc (left c t)) → levels (expand (tree (step c r) fuel) o s m) ≤ suc (left c s)
      go stuck e o ih = omega arith
      go (done (stops p)) e o ih = omega arith
      go (done (goes p t)) e o ih = omega (arith, (goes-there (step_fewer c forward r s _ e)).fewer, ih o t)
      go (done (opens p t q u)) e zero ih = omega arith
      go (done (opens p t q u)) e (suc o) ih =
          let (f, g) = opens-there (step_fewer c forward r s _ e) in
          higher _ _ (left c t) (left c u) (left c s) (ih o t) (ih o u) f.fewer g.fewer

  -- ---- the run

  -- its steps so far, and those that the addresses left allow
  record Counted (q : Run) : Type 0 where
    few : q.steps ≤ length c.instructions
    going : q.stopped ≡ false → q.steps + left c q.state ≤ length c.instructions

  moved-counted : (r : Cell) (q : Run) (rest : List ℤ) (b : Bool) (m : Try Next) → q.stopped ≡ b → step c r q.state ≡ m → Counted q → Counted (moved q rest b m)
  unfolding moved
  moved-counted r q rest true m g e h = h
  moved-counted r q rest false stuck g e h = h
  moved-counted r q rest false (done (stops p)) g e h =
      record { few = omega (arith, h.going g, step-inside c r q.state _ e); going = λ x. absurd (true≢false x) }
  moved-counted r q rest false (done (goes p t)) g e h =
      let f = goes-there (step_fewer c forward r q.state _ e) in
      record { few = omega (arith, h.going g, f.fewer); going = λ x. omega (arith, h.going g, f.fewer) }
  moved-counted r q rest false (done (opens p t u v)) g e h = h

  after-counted : (k : ℕ) (q : Run) → Counted q → Counted (after c k q)
  unfolding after once leads
  after-counted zero q h = h
  after-counted (suc k) q h =
      let p = after c k q in
      moved-counted (answer p.answers) p _ p.stopped (step c (answer p.answers) p.state) refl refl (after-counted k q h)

  begin-counted : (s : State) (answers : List ℤ) → Counted (begin s answers)
  unfolding begin
  begin-counted s answers = record { few = omega arith; going = λ x. omega arith }

pub forward-once : ForwardOnce
forward-once c f = record {
  rises = rises c f;
  steps = λ s answers k. (after-counted c f k (begin s answers) (begin-counted c f s answers)).few;
  deterministic = λ s answers trace d. omega (arith, deterministic-left c f d);
  trace = λ r s ms t x. omega (arith, trace-left c f r x);
  path = λ r s ms x. omega (arith, path-left c f r x);
  tree = λ r fuel o s. omega (arith, levels-left c f r fuel o s);
}
