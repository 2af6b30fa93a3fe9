-- Laws for a pass that computes the sweep: only what the slots from its address on hold counts, and a state that comes is joined to one
-- of them. Assumes nothing.
use mathlib.Core.Path.{◌≡◌, refl, sym, ◌∙◌, ap}
use mathlib.Core.Bool.{Bool, true, false, cond}
use mathlib.Core.List.{◌∷◌}
use Prim.Native.Nat.{ℕ, zero, suc, ◌+◌, ◌≤◌, ◌<◌}
use native.Mathlib.Omega.{arith}
use lib.Dec.{eqb}
use Rattle.cells.specs.Try.{Try, stuck, done}
use Rattle.machine.specs.Machine.{State, Price, Next, stops, goes, opens, jump}
use Rattle.bound_theory.specs.Tree.{Report}
use Rattle.merge_theory.specs.Merge.{Arrival, Slot, empty, unlike, held, join, slot, Table, arrive, send, carry, visit, sweep}

pub arrive-slot : (x : Arrival) (tab : Table) (b : ℕ) → slot (arrive x tab b) ≡ cond (eqb b x.state.at) (join (slot (tab b)) x) (slot (tab b))
unfolding arrive slot
arrive-slot x tab b = go (eqb b x.state.at)
  where
    go : (t : Bool) → slot (cond t (x ∷ tab b) (tab b)) ≡ cond t (join (slot (tab b)) x) (slot (tab b))
    go true = refl
    go false = refl

-- the slots of n addresses from a on are the same
pub record Agree (a n : ℕ) (x y : Table) : Type 0 where
  pub slots : (b : ℕ) → a ≤ b → b < a + n → slot (x b) ≡ slot (y b)

arrive-agree : {a n : ℕ} (i : Arrival) {x y : Table} → Agree a n x y → Agree a n (arrive i x) (arrive i y)
arrive-agree i {x} {y} h = record {
  slots = λ b lo hi. arrive-slot i x b ∙ ap (λ s. cond (eqb b i.state.at) (join s i) s) (h.slots b lo hi) ∙ sym (arrive-slot i y b);
}

send-agree : {a n : ℕ} (p : Price) (k : Next) {x y : Table} → Agree a n x y → Agree a n (send p k x) (send p k y)
unfolding send
send-agree p (stops q) h = h
send-agree p (goes q t) h = arrive-agree _ h
send-agree p (opens q t q' u) h = arrive-agree _ (arrive-agree _ h)

module _ (act : State → Try Next) where
  pub sweep-agree : (n a : ℕ) (x y : Table) (r : Report) → Agree a n x y → sweep act n a x r ≡ sweep act n a y r
  unfolding sweep visit carry
  sweep-agree zero a x y r h = refl
  sweep-agree (suc n) a x y r h = ap (visit act (sweep act n (suc a)) a x r) (h.slots a (omega arith) (omega arith)) ∙ each (slot (y a)) (sweep-agree n (suc a))
    where
      above : Agree (suc a) n x y
      above = record { slots = λ b lo hi. h.slots b (omega arith) (omega arith) }

      made : (s : State) (p : Price) (m : Try Next) → ((x y : Table) (r : Report) → Agree (suc a) n x y → sweep act n (suc a) x r ≡ sweep act n (suc a) y r) →
          carry (sweep act n (suc a)) a x r s p m ≡ carry (sweep act n (suc a)) a y r s p m
      made s p stuck ih = refl
      made s p (done k) ih = ih _ _ _ (send-agree p k above)

      each : (i : Slot) → ((x y : Table) (r : Report) → Agree (suc a) n x y → sweep act n (suc a) x r ≡ sweep act n (suc a) y r) →
          visit act (sweep act n (suc a)) a x r i ≡ visit act (sweep act n (suc a)) a y r i
      each empty ih = ih x y r above
      each unlike ih = refl
      each (held s p) ih = made s p (act (jump a s)) ih
