-- The arms of a step, for the step by value and for the explorer's loop: what is known once the outcome is, what each outcome asks of the
-- stack, and what the step leads to in each arm. Assumes nothing.
use mathlib.Core.Path.{◌≡◌, sym, subst, ap, ◌∙◌}
use mathlib.Core.List.{List}
use Prim.Native.Nat.{ℕ, ◌+◌, ◌-◌, ◌≤◌, ◌<◌}
use native.Mathlib.Omega.{arith}
use lib.IntN.{ℤ, pos}
use lib.ListN.{length, get_or, set}
use lib.Seq.{get_or-drop}
use Rattle.cells.specs.Try.{Try, stuck, done}
use Rattle.cells.specs.declared.Cell.{Cell}
use Rattle.cells.specs.Cells.{exactly}
use Rattle.instructions.specs.declared.Operation.{Operation}
use Rattle.machine_outcome.specs.declared.Outcome.{Outcome}
use Rattle.machine_outcome.specs.declared.Outcome.TheVariants.{Gives, Operates, Stores, Sets, Gets, Goes, Jumps, Opens, Halts, Stuck}
use Rattle.machine.specs.Machine.{Price, Next, stops, goes, opens, with_extra, Code, fetch, index, pop, store, load, jump, advance, prepare, step}
use Rattle.machine_outcome.specs.HeldOutcome.{entry_of, drops, operated, outcome, resume, Room}
use Rattle.machine_outcome.proofs.TurnLaws as turn
use Rattle.instructions.specs.HeldColumns.{operation_of}
use Rattle.instructions.proofs.ColumnLaws.{get_d_any}
use Rattle.machine_state.specs.declared.State.{State}
use Rattle.machine_state.specs.declared.code.Line.{Line}
use Rattle.machine_state.specs.HeldProgram.{line_of}
use Rattle.machine_state.specs.HeldState.{view, WellFormed, slot, Fits, whole}
use Rattle.machine_state.proofs.BlockLaws.{slot-below}
use Rattle.machine_state.proofs.StateLaws.{height-is, popped, pop-is}

-- what is known once the outcome is, of a step at the price p, with the extra y, that leads to m: u is the state at the next address and after the push, r the answer, n the
-- operand as an index, e the entry that the operation looks at
pub record Arm (m : Try Next) (ns : List ℕ) (fs : List Cell) (p : Price) (y : ℕ) (o : Operation) (i : ℤ) (r : Cell) (u : State) (n : ℕ) (e : Cell) (out : Outcome) : Type 0 where
  pub formed : WellFormed u
  pub fits : Fits ns fs
  pub index_is : n ≡ index i
  pub out-is : out ≡ outcome o i r (64 - u.free) u.accu e
  pub makes : m ≡ resume p y o i (whole ns fs u) e out

-- the arm of a step from s at the line l, where the code looks at the place i of the array
pub arm : (c : Code) (r : Cell) (ns : List ℕ) (fs : List Cell) (s u : State) (l : Line) → fetch c s.at ≡ done (line_of l) → prepare l.pushes (advance (whole ns fs s)) ≡ done (whole ns fs u) → WellFormed u → Fits ns fs →
    (n i : ℕ) (e d : Cell) (out : Outcome) → n ≡ index l.operand → (u.free + entry_of (operation_of l.code) n < 64 → i ≡ u.free + entry_of (operation_of l.code) n) → e ≡ get_or u.stack i d →
    out ≡ outcome (operation_of l.code) l.operand r (64 - u.free) u.accu e → Arm (step c r (whole ns fs s)) ns fs (line_of l).price l.extra (operation_of l.code) l.operand r u n e out
arm c r ns fs s u l found ready formed fits n i e d out is place at g = record {
  formed = formed;
  fits = fits;
  index_is = is;
  out-is = g;
  makes =
      turn.turns ns fs c r s u (line_of l) found ready (64 - u.free) e (sym (height-is u formed)) entry
      ∙ ap (resume (line_of l).price l.extra (operation_of l.code) l.operand (whole ns fs u) e) (sym g);
}
  where
    same : entry_of (operation_of l.code) n ≡ entry_of (operation_of l.code) (index l.operand)
    same = ap (entry_of (operation_of l.code)) is

    entry : entry_of (operation_of l.code) (index l.operand) < 64 - u.free → e ≡ get_or (view u).stack (entry_of (operation_of l.code) (index l.operand)) e
    entry h =
        let j : i ≡ u.free + entry_of (operation_of l.code) n = place (omega (arith, same)) in
        at ∙ get_d_any u.stack i d e (omega (arith, j, same, h, formed.places))
        ∙ ap (λ k. get_or u.stack k e) (j ∙ ap (λ k. u.free + k) same)
        ∙ sym (get_or-drop u.free u.stack (entry_of (operation_of l.code) (index l.operand)) e)

module _ {m : Try Next} {ns : List ℕ} {fs : List Cell} {p : Price} {y : ℕ} {o : Operation} {i : ℤ} {r : Cell} {u : State} {n : ℕ} {e : Cell} {out : Outcome} (a : Arm m ns fs p y o i r u n e out) where
  -- ---- the entries that an arm drops or sets are there

  asks : (d : Outcome) → out ≡ d → Room o (index i) (64 - u.free) d
  asks d g = subst (Room o (index i) (64 - u.free)) (sym a.out-is ∙ g) (turn.room o i r (64 - u.free) u.accu e)

  same-drops : drops o n ≡ drops o (index i)
  same-drops = ap (drops o) a.index_is

  pub drop-room : (c : Cell) (k : ℕ) → out ≡ Gives c → k ≡ drops o n → u.free + k ≤ 64
  drop-room c k g d = omega (arith, asks (Gives c) g, same-drops, a.formed.free)

  pub operate-room : (k : ℕ) → out ≡ Operates → k ≡ drops o n → u.free + k ≤ 64
  operate-room k g d = omega (arith, (asks Operates g).0, same-drops, a.formed.free)

  pub store-room : out ≡ Stores → u.free + n < 64
  store-room g = omega (arith, asks Stores g, a.index_is, a.formed.free)

  pub set_room : (c : Cell) → out ≡ Sets c → u.free + 1 ≤ 64
  set_room c g = omega (arith, asks (Sets c) g, a.formed.free)

  -- ---- what the step leads to

  made : (d : Outcome) → out ≡ d → m ≡ resume p y o i (whole ns fs u) e d
  made d g = a.makes ∙ ap (resume p y o i (whole ns fs u) e) g

  module _ (c : Cell) (k : ℕ) (v w : State) (some : k ≡ drops o n) (dropped : done (view v) ≡ pop k (view u)) (loaded : view w ≡ load c (view v)) where
    pub gives : out ≡ Gives c → m ≡ done (goes p (whole ns fs w))
    gives g = made (Gives c) g ∙ turn.gives_goes ns fs p y o i u e c k v w (some ∙ same-drops) dropped loaded

    pub operates : out ≡ Operates → operated o i u.accu e ≡ done c → m ≡ done (goes p (whole ns fs w))
    operates g h = made Operates g ∙ turn.operates-goes ns fs p y o i u e c k v w (some ∙ same-drops) dropped loaded h

  pub operates-nothing : out ≡ Operates → operated o i u.accu e ≡ stuck → m ≡ stuck
  operates-nothing g h = made Operates g ∙ turn.operates-stuck ns fs p y o i u e h

  pub stores : (w : State) → out ≡ Stores → done (view w) ≡ store n (view u) → m ≡ done (goes p (whole ns fs w))
  stores w g stored = made Stores g ∙ turn.stores-goes ns fs p y o i u e w (stored ∙ ap (λ k. store k (view u)) a.index_is)

  module _ (w : State) (jumped : view w ≡ jump n (view u)) where
    landed : view w ≡ jump (index i) (view u)
    landed = jumped ∙ ap (λ k. jump k (view u)) a.index_is

    pub branches : out ≡ Goes → m ≡ done (goes p (whole ns fs w))
    branches g = made Goes g ∙ turn.branches-goes ns fs p y o i u e w landed

    pub jumps : out ≡ Jumps → m ≡ done (goes (with_extra y p) (whole ns fs w))
    jumps g = made Jumps g ∙ turn.jumps-goes ns fs p y o i u e w landed

    pub opens-both : out ≡ Opens → m ≡ done (opens p (whole ns fs u) (with_extra y p) (whole ns fs w))
    opens-both g = made Opens g ∙ turn.opens-both ns fs p y o i u e w landed

  pub halts : out ≡ Halts → m ≡ done (stops p)
  halts g = made Halts g ∙ turn.halts ns fs p y o i u e

  pub is_stuck : out ≡ Stuck → m ≡ stuck
  is_stuck g = made Stuck g ∙ turn.is_stuck ns fs p y o i u e

  slot_is : {d : Try ℕ} → d ≡ slot ns u.accu n → slot ns u.accu (index i) ≡ d
  slot_is h = ap (slot ns u.accu) (sym a.index_is) ∙ sym h

  -- the place of a field is in the array
  pub slot-in : (j : ℕ) → done j ≡ slot ns u.accu n → j < length fs
  slot-in j h = omega (arith, slot-below ns fs a.fits u.accu n j (sym h), a.fits.room)

  pub gets : (j : ℕ) (d : Cell) (w : State) → out ≡ Gets → done j ≡ slot ns u.accu n → view w ≡ load (get_or fs j d) (view u) → m ≡ done (goes p (whole ns fs w))
  gets j d w g h loaded = made Gets g ∙ turn.gets-goes ns fs p y o i u e a.fits j d w (slot_is h) loaded

  pub gets-nothing : out ≡ Gets → stuck ≡ slot ns u.accu n → m ≡ stuck
  gets-nothing g h = made Gets g ∙ turn.gets-stuck ns fs p y o i u e a.fits (slot_is h)

  pub sets : (c : Cell) (j : ℕ) (v w : State) → out ≡ Sets c → done j ≡ slot ns u.accu n → done (view v) ≡ pop 1 (view u) → view w ≡ load (exactly (pos 0)) (view v) → m ≡ done (goes p (whole ns (set fs j c) w))
  sets c j v w g h dropped loaded = made (Sets c) g ∙ turn.sets-goes ns fs p y o i u e a.fits c v dropped j w (slot_is h) loaded

  pub sets-nothing : (c : Cell) → out ≡ Sets c → stuck ≡ slot ns u.accu n → m ≡ stuck
  sets-nothing c g h = made (Sets c) g ∙ turn.sets-stuck ns fs p y o i u e a.fits c (popped 1 u) (pop-is u a.formed 1 (set_room c g)) (slot_is h)
