-- What the step leads to in each arm of the step by value, by the effect that its line comes to: the laws of the arms, with the operation on
-- cells made and the field found. Assumes nothing.
use mathlib.Core.Path.{◌≡◌, refl, sym, subst, ap}
use mathlib.Core.List.{List}
use Prim.Native.Nat.{ℕ, ◌+◌, ◌≤◌, ◌<◌}
use lib.IntN.{ℤ, pos}
use lib.ListN.{length, get_or, set}
use Rattle.cells.specs.Try.{Try, stuck, done}
use Rattle.cells.specs.declared.Cell.{Cell}
use Rattle.cells.specs.Cells.{exactly}
use Rattle.instructions.specs.declared.Operation.{Operation}
use Rattle.machine.specs.Machine.{Price, Next, stops, goes, with_extra, index, pop, store, load, jump}
use Rattle.machine_outcome.specs.declared.Outcome.{Outcome}
use Rattle.machine_outcome.specs.declared.Outcome.TheVariants as outcomes
use Rattle.machine_outcome.specs.HeldOutcome.{drops, operated}
use Rattle.machine_outcome.proofs.ArmLaws.{Arm}
use Rattle.machine_outcome.proofs.ArmLaws as arms
use Rattle.machine_state.specs.declared.State.{State}
use Rattle.machine_state.specs.HeldState.{view, slot, whole}
use Rattle.machine_step.specs.declared.effects.Effect.{Effect}
use Rattle.machine_step.specs.declared.effects.Effect.TheVariants.{Gives, Stores, Sets, Gets, Goes, Jumps, Opens, Halts, Stuck}
use Rattle.machine_step.specs.HeldEffect.{giving, setting, getting, effect}

module _ {m : Try Next} {ns : List ℕ} {fs : List Cell} {p : Price} {y : ℕ} {o : Operation} {i : ℤ} {r : Cell} {u : State} {n : ℕ} {e : Cell} {out : Outcome} (a : Arm m ns fs p y o i r u n e out) where
  -- the entries and the field that the effect asks for are there, and what the step leads to, of any state that the methods make
  abbrev pub Leads : Effect → Type 0
  Leads (Gives k c) = (u.free + k ≤ 64) × ((v w : State) → done (view v) ≡ pop k (view u) → view w ≡ load c (view v) → m ≡ done (goes p (whole ns fs w)))
  Leads Stores = (u.free + n < 64) × ((w : State) → done (view w) ≡ store n (view u) → m ≡ done (goes p (whole ns fs w)))
  Leads (Sets j c) = ((u.free + 1 ≤ 64) × (j < length fs)) × ((v w : State) → done (view v) ≡ pop 1 (view u) → view w ≡ load (exactly (pos 0)) (view v) → m ≡ done (goes p (whole ns (set fs j c) w)))
  Leads (Gets j) = (j < length fs) × ((d : Cell) (w : State) → view w ≡ load (get_or fs j d) (view u) → m ≡ done (goes p (whole ns fs w)))
  Leads Goes = (w : State) → view w ≡ jump n (view u) → m ≡ done (goes p (whole ns fs w))
  Leads Jumps = (w : State) → view w ≡ jump n (view u) → m ≡ done (goes (with_extra y p) (whole ns fs w))
  Leads Opens = out ≡ outcomes.Opens
  Leads Halts = m ≡ done (stops p)
  Leads Stuck = m ≡ stuck

  some : drops o (index i) ≡ drops o n
  some = ap (drops o) (sym a.index_is)

  by-operation : (x : Try Cell) → operated o i u.accu e ≡ x → out ≡ outcomes.Operates → Leads (giving (drops o (index i)) x)
  unfolding giving
  by-operation stuck h g = arms.operates-nothing a g h
  by-operation (done c) h g = (arms.operate-room a (drops o (index i)) g some, λ v w dropped loaded. arms.operates a c (drops o (index i)) v w some dropped loaded g h)

  by-set : (c : Cell) (x : Try ℕ) → x ≡ slot ns u.accu n → out ≡ outcomes.Sets c → Leads (setting c x)
  unfolding setting
  by-set c stuck h g = arms.sets-nothing a c g h
  by-set c (done j) h g = ((arms.set_room a c g, arms.slot-in a j h), λ v w dropped loaded. arms.sets a c j v w g h dropped loaded)

  by-get : (x : Try ℕ) → x ≡ slot ns u.accu n → out ≡ outcomes.Gets → Leads (getting x)
  unfolding getting
  by-get stuck h g = arms.gets-nothing a g h
  by-get (done j) h g = (arms.slot-in a j h, λ d w loaded. arms.gets a j d w g h loaded)

  found : slot ns u.accu (index i) ≡ slot ns u.accu n
  found = ap (slot ns u.accu) (sym a.index_is)

  by-outcome : (q : Outcome) → out ≡ q → Leads (effect ns o i u.accu e q)
  unfolding effect
  by-outcome (outcomes.Gives c) g = (arms.drop-room a c (drops o (index i)) g some, λ v w dropped loaded. arms.gives a c (drops o (index i)) v w some dropped loaded g)
  by-outcome outcomes.Operates g = by-operation (operated o i u.accu e) refl g
  by-outcome outcomes.Stores g = (arms.store-room a g, λ w stored. arms.stores a w g stored)
  by-outcome (outcomes.Sets c) g = by-set c (slot ns u.accu (index i)) found g
  by-outcome outcomes.Gets g = by-get (slot ns u.accu (index i)) found g
  by-outcome outcomes.Goes g = λ w jumped. arms.branches a w jumped g
  by-outcome outcomes.Jumps g = λ w jumped. arms.jumps a w jumped g
  by-outcome outcomes.Opens g = g
  by-outcome outcomes.Halts g = arms.halts a g
  by-outcome outcomes.Stuck g = arms.is_stuck a g

  pub leads : (f : Effect) → f ≡ effect ns o i u.accu e out → Leads f
  leads f is = subst Leads (sym is) (by-outcome out refl)
