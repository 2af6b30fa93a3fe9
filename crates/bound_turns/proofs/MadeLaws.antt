-- What the turn of each operation leads to is the step: by the law of the arm of its outcome. Assumes nothing.
use mathlib.Core.Path.{◌≡◌, refl, sym, ap, ◌∙◌}
use mathlib.Core.Bool.{Bool, true, false, cond}
use mathlib.Core.List.{List}
use Prim.Native.Nat.{ℕ, ◌+◌, ◌-◌, ◌≤◌}
use native.Mathlib.Omega.{arith}
use lib.Dec.{leb, ltb}
use lib.IntN.{ℤ, pos}
use lib.ListN.{length, get_or, set}
use borrow.Author.Tests.{leb-true, ltb-true}
use Rattle.cells.specs.Try.{Try, stuck, done, ◌>>=◌}
use Rattle.cells.specs.declared.Cell.{Cell}
use Rattle.cells.specs.declared.Unary.{Unary}
use Rattle.cells.specs.declared.Binary.{Binary}
use Rattle.cells.specs.declared.Condition.{Condition}
use Rattle.cells.specs.declared.Condition.TheVariants.{IsZero, IsNonzero, IsUnknown}
use Rattle.cells.specs.Cells.{unknown, exactly, operate₁, operate₂, condition}
use Rattle.instructions.specs.declared.Operation.{Operation}
use Rattle.instructions.specs.declared.Operation.TheVariants.{Nothing, Access, Drop, Assign, Constant, GetField, SetField, Branch, BranchIf, BranchIfNot, Call, Stop, Alter, Combine}
use Rattle.machine.specs.Machine.{Price, Next, goes, index, pop, load, jump}
use Rattle.machine_outcome.specs.declared.Outcome.{Outcome}
use Rattle.machine_outcome.specs.declared.Outcome.TheVariants as outcomes
use Rattle.machine_outcome.specs.HeldOutcome.{entry_of, drops, operated, outcome, resume}
use Rattle.machine_outcome.specs.HeldOutcome as outcome
use Rattle.machine_outcome.proofs.ArmLaws as arms
use Rattle.machine_state.specs.declared.State.{State}
use Rattle.machine_state.specs.declared.registers.Registers.{Registers}
use Rattle.machine_state.specs.HeldRegisters.{with_stack, popped, stored, loaded, advanced, placed}
use Rattle.machine_state.specs.HeldState.{view, slot, Fits, whole, WellFormed}
use Rattle.machine_state.proofs.StateLaws.{pop-is, store_is}
use Rattle.bound_turns.specs.declared.Turn.{Turn}
use Rattle.bound_turns.specs.declared.Turn.TheVariants.{Goes, Reads, Stores, Combines, Stuck}
use Rattle.bound_turns.specs.HeldTurn.{reading, storing, dropping, altering, branching, getting, setting, turn, turned, Within}

module _ (ns : List ℕ) (p : Price) (x : ℕ) (i : ℤ) (r : Registers) (low : r.free ≤ 64) (fs st : List Cell) (d : Cell) (full : length st ≡ 64) (fits : Fits ns fs) where
  -- the state at the next address
  abbrev ahead : State
  ahead = with_stack (advanced r) st

  formed : WellFormed ahead
  formed = record { free = low; places = full }

  -- the entry that an operation looks at, what it comes to, and what that makes of the state
  abbrev pub seen : Operation → Cell
  seen o = get_or st (r.free + entry_of o (index i)) d

  abbrev comes : Operation → Outcome
  comes o = outcome o i unknown (64 - r.free) r.accu (seen o)

  abbrev made : Operation → Try Next
  made o = resume p x o i (whole ns fs ahead) (seen o) (comes o)

  abbrev leads-to : Operation → Turn → Type 0
  leads-to o t = made o ≡ turned ns p x o i r fs st d t

  arm : (o : Operation) → arms.Arm (made o) ns fs p x o i unknown ahead (index i) (seen o) (comes o)
  arm o = record { formed = formed; fits = fits; index_is = refl; out-is = refl; makes = refl }

  -- the top entry
  top : get_or st (r.free + 0) d ≡ get_or st r.free d
  top = ap (λ k. get_or st k d) (omega arith)

  at_load : (c : Cell) (s : State) → view (record { at = s.at; accu = c; free = s.free; stack = s.stack }) ≡ load c (view s)
  unfolding load
  at_load c s = refl

  at-jump : view (with_stack (placed (index i) r) st) ≡ jump (index i) (view ahead)
  unfolding jump
  at-jump = refl

  none_dropped : done (view ahead) ≡ pop 0 (view ahead)
  none_dropped =
      let e : r.free ≡ r.free + 0 = omega arith in
      ap (λ k. done (view (with_stack (record { at = r.at + 1; accu = r.accu; free = k }) st))) e ∙ pop-is ahead formed 0 (omega (arith, low))

  -- a cell is given, and no entry is dropped; or some are
  keeps : (o : Operation) (c : Cell) → drops o (index i) ≡ 0 → comes o ≡ outcomes.Gives c → made o ≡ done (goes p (whole ns fs (with_stack (advanced (loaded c r)) st)))
  keeps o c none g = arms.gives (arm o) c 0 ahead (with_stack (advanced (loaded c r)) st) (sym none) none_dropped (at_load c ahead) g

  lessens : (o : Operation) (c : Cell) → drops o (index i) ≡ index i → index i ≤ 64 - r.free → comes o ≡ outcomes.Gives c → made o ≡ done (goes p (whole ns fs (with_stack (advanced (loaded c (popped (index i) r))) st)))
  lessens o c some room g =
      arms.gives (arm o) c (index i) (with_stack (advanced (popped (index i) r)) st) (with_stack (advanced (loaded c (popped (index i) r))) st) (sym some)
      (pop-is ahead formed (index i) (omega (arith, room, low))) (at_load c (with_stack (advanced (popped (index i) r)) st)) g

  -- an outcome under a test of the stack's height
  tested : (o : Operation) (b : Bool) (c : Outcome) (t : Turn) → comes o ≡ cond b c outcomes.Stuck → (b ≡ true → comes o ≡ c → leads-to o t) → leads-to o (cond b t Stuck)
  unfolding turned
  tested o true c t e f = f refl e
  tested o false c t e f = arms.is_stuck (arm o) e

  -- a conditional branch
  branches : (o : Operation) (z : Bool) (m : Try Condition) → drops o (index i) ≡ 0 → comes o ≡ outcome.branching z r.accu m → leads-to o (branching z (index i) r m)
  unfolding turned branching outcome.branching
  branches o z stuck n e = arms.is_stuck (arm o) e
  branches o true (done IsZero) n e = arms.jumps (arm o) (with_stack (placed (index i) r) st) at-jump e
  branches o false (done IsZero) n e = keeps o r.accu n e
  branches o true (done IsNonzero) n e = keeps o r.accu n e
  branches o false (done IsNonzero) n e = arms.jumps (arm o) (with_stack (placed (index i) r) st) at-jump e
  branches o z (done IsUnknown) n e = arms.opens-both (arm o) (with_stack (placed (index i) r) st) at-jump e

  gets : (m : Try ℕ) → m ≡ slot ns r.accu (index i) → leads-to GetField (getting m)
  unfolding turned getting outcome
  gets stuck e = arms.gets-nothing (arm GetField) refl e
  gets (done j) e = arms.gets (arm GetField) j d (with_stack (advanced (loaded (get_or fs j d) r)) st) refl e (at_load (get_or fs j d) ahead)

  sets : (m : Try ℕ) → m ≡ slot ns r.accu (index i) → comes SetField ≡ outcomes.Sets (get_or st (r.free + 0) d) → leads-to SetField (setting m)
  unfolding turned setting
  sets stuck e g = arms.sets-nothing (arm SetField) _ g e
  sets (done j) e g =
      arms.sets (arm SetField) _ j (with_stack (advanced (popped 1 r)) st) (with_stack (advanced (stored (popped 1 r))) st) g e
      (pop-is ahead formed 1 (arms.set_room (arm SetField) _ g)) (at_load (exactly (pos 0)) (with_stack (advanced (popped 1 r)) st))
      ∙ ap (λ c. done (goes p (whole ns (set fs j c) (with_stack (advanced (stored (popped 1 r))) st)))) top

  alters : (u : Unary) (m : Try Cell) → operate₁ u i r.accu ≡ m → leads-to (Alter u) (altering r m)
  unfolding turned altering outcome operated drops
  alters u stuck e = arms.operates-nothing (arm (Alter u)) refl e
  alters u (done c) e = arms.operates (arm (Alter u)) c 0 ahead (with_stack (advanced (loaded c r)) st) refl none_dropped (at_load c ahead) refl e

  combines : (b : Binary) (m : Try Cell) → operate₂ b r.accu (get_or st (r.free + 0) d) ≡ m → comes (Combine b) ≡ outcomes.Operates →
      made (Combine b) ≡ (m >>= λ c. done (goes p (whole ns fs (with_stack (advanced (loaded c (popped 1 r))) st))))
  unfolding operated drops ◌>>=◌ entry_of
  combines b stuck e g = arms.operates-nothing (arm (Combine b)) g e
  combines b (done c) e g =
      arms.operates (arm (Combine b)) c 1 (with_stack (advanced (popped 1 r)) st) (with_stack (advanced (loaded c (popped 1 r))) st) refl
      (pop-is ahead formed 1 (arms.operate-room (arm (Combine b)) 1 g refl)) (at_load c (with_stack (advanced (popped 1 r)) st)) g e

  pub leads : (o : Operation) → leads-to o (turn ns o i r)
  unfolding turn turned outcome entry_of drops reading storing dropping operated
  leads Nothing = keeps Nothing r.accu refl refl
  leads Access = tested Access (ltb (index i) (64 - r.free)) (outcomes.Gives (seen Access)) (Reads (r.free + index i)) refl (λ t g. keeps Access (seen Access) refl g)
  leads Drop = tested Drop (leb (index i) (64 - r.free)) (outcomes.Gives r.accu) (Goes (advanced (loaded r.accu (popped (index i) r)))) refl (λ t g. lessens Drop r.accu refl (leb-true _ _ t) g)
  leads Assign =
      tested Assign (ltb (index i) (64 - r.free)) outcomes.Stores (Stores (r.free + index i)) refl
      (λ t g. arms.stores (arm Assign) (with_stack (advanced (stored r)) (set st (r.free + index i) r.accu)) g (store_is ahead formed (index i) (arms.store-room (arm Assign) g)))
  leads Constant = keeps Constant (exactly i) refl refl
  leads GetField = gets (slot ns r.accu (index i)) refl
  leads SetField = tested SetField (ltb 0 (64 - r.free)) (outcomes.Sets (seen SetField)) (setting (slot ns r.accu (index i))) refl (λ t g. sets (slot ns r.accu (index i)) refl g)
  leads Branch = arms.branches (arm Branch) (with_stack (placed (index i) r) st) at-jump refl
  leads BranchIf = branches BranchIf false (condition r.accu) refl refl
  leads BranchIfNot = branches BranchIfNot true (condition r.accu) refl refl
  leads Call = tested Call (leb (index i) (64 - r.free)) (outcomes.Gives unknown) (Goes (advanced (loaded unknown (popped (index i) r)))) refl (λ t g. lessens Call unknown refl (leb-true _ _ t) g)
  leads Stop = arms.halts (arm Stop) refl
  leads (Alter u) = alters u (operate₁ u i r.accu) refl
  leads (Combine b) =
      tested (Combine b) (ltb 0 (64 - r.free)) outcomes.Operates Combines refl
      (λ t g. combines b (operate₂ b r.accu (get_or st r.free d)) (ap (operate₂ b r.accu) top) g)

  -- ---- the places of a turn are there

  inside : (o : Operation) (b : Bool) (t : Turn) → (b ≡ true → Within o r fs t) → Within o r fs (cond b t Stuck)
  inside o true t f = f refl
  inside o false t f = tt

  branches-inside : (o : Operation) (z : Bool) (m : Try Condition) → Within o r fs (branching z (index i) r m)
  unfolding branching
  branches-inside o z stuck = tt
  branches-inside o true (done IsZero) = low
  branches-inside o false (done IsZero) = low
  branches-inside o true (done IsNonzero) = low
  branches-inside o false (done IsNonzero) = low
  branches-inside o z (done IsUnknown) = tt

  gets-inside : (o : Operation) (m : Try ℕ) → m ≡ slot ns r.accu (index i) → Within o r fs (getting m)
  unfolding getting
  gets-inside o stuck e = tt
  gets-inside o (done j) e = arms.slot-in (arm o) j e

  sets-inside : (o : Operation) (m : Try ℕ) → m ≡ slot ns r.accu (index i) → r.free + 1 ≤ 64 → Within o r fs (setting m)
  unfolding setting
  sets-inside o stuck e h = tt
  sets-inside o (done j) e h = (arms.slot-in (arm o) j e, h)

  alters-inside : (o : Operation) (m : Try Cell) → Within o r fs (altering r m)
  unfolding altering
  alters-inside o stuck = tt
  alters-inside o (done c) = low

  some-entry : ltb 0 (64 - r.free) ≡ true → r.free + 1 ≤ 64
  some-entry t = let h = ltb-true 0 (64 - r.free) t in omega (arith, h)

  pub within : (o : Operation) → Within o r fs (turn ns o i r)
  unfolding turn reading storing dropping drops
  within Nothing = low
  within Access = inside Access _ (Reads (r.free + index i)) (λ t. let h = ltb-true (index i) (64 - r.free) t in omega (arith, h))
  within Drop = inside Drop _ (Goes (advanced (loaded r.accu (popped (index i) r)))) (λ t. let h = leb-true (index i) (64 - r.free) t in omega (arith, h, low))
  within Assign = inside Assign _ (Stores (r.free + index i)) (λ t. let h = ltb-true (index i) (64 - r.free) t in omega (arith, h))
  within Constant = low
  within GetField = gets-inside GetField (slot ns r.accu (index i)) refl
  within SetField = inside SetField _ (setting (slot ns r.accu (index i))) (λ t. sets-inside SetField (slot ns r.accu (index i)) refl (some-entry t))
  within Branch = low
  within BranchIf = branches-inside BranchIf false (condition r.accu)
  within BranchIfNot = branches-inside BranchIfNot true (condition r.accu)
  within Call = inside Call _ (Goes (advanced (loaded unknown (popped (index i) r)))) (λ t. let h = leb-true (index i) (64 - r.free) t in omega (arith, h, low))
  within Stop = tt
  within (Alter u) = alters-inside (Alter u) (operate₁ u i r.accu)
  within (Combine b) = inside (Combine b) _ Combines (λ t. (some-entry t, refl))
