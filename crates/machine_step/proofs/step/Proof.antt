-- `machine_step::step` meets its contract: each arm by the law of its effect, with the state at the next address. Assumes nothing.
use mathlib.Core.Path.{◌≡◌, refl, sym, ap, subst, ◌∙◌}
use mathlib.Core.List.{List}
use mathlib.Core.Logic.{⊎_elim}
use Prim.Native.Nat.{ℕ, ◌-◌, ◌≤◌, ◌<◌}
use native.Mathlib.Omega.{arith}
use lib.IntN.{pos}
use lib.ListN.{length, get_or, set}
use mir.Syntax.{w32}
use mir.Val.{SFits}
use mir.ValLaws.{to_z-of_z}
use borrow.Author.Rules.{rules}
use Rattle.cells.specs.Try.{stuck, done}
use Rattle.cells.specs.declared.Cell.{Cell}
use Rattle.cells.specs.Cells.{range}
use Rattle.instructions.specs.HeldColumns.{operation_of}
use Rattle.machine.specs.Machine.{Code, fetch, goes, opens, stops, with_extra, index, step, load, jump, takes_answer}
use Rattle.machine.proofs.ApartLaws.{pop-at, store_at}
use Rattle.machine_outcome.specs.declared.Outcome.{Outcome}
use Rattle.machine_outcome.specs.HeldOutcome.{outcome}
use Rattle.machine_outcome.proofs.ArmLaws.{Arm}
use Rattle.machine_outcome.proofs.ArmLaws as arms
use Rattle.machine_state.specs.declared.State.{State}
use Rattle.machine_state.specs.declared.code.Line.{Line}
use Rattle.machine_state.specs.HeldProgram.{program_of, sizes_of, line_of, of_fetched, Known}
use Rattle.machine_state.specs.HeldState.{view, WellFormed, Fits, whole}
use Rattle.machine_state.proofs.ProgramLaws.{fetch-within, fits_all}
use Rattle.machine_state.proofs.Stack.{length-images}
use Rattle.machine_step.specs.declared.Next.{Next}
use Rattle.machine_step.specs.declared.Next.TheVariants.{Stuck, Stops, Goes, Opens}
use Rattle.machine_step.specs.declared.Price.{Price}
use Rattle.machine_step.specs.declared.effects.Effect.{Effect}
use Rattle.machine_step.specs.declared.effects.Effect.TheVariants as effects
use Rattle.machine_step.specs.declared.Stepped.{Stepped}
use Rattle.machine_step.specs.HeldStep.{of_price, of_next, Small, Differs, keeping, setting_field}
use Rattle.machine_step.proofs.EffectLaws.{Leads, leads}
use Rattle.machine_step.proofs.StepLaws.{next, popped-next, stored_next, loaded-next, jumped-next, Ready, pushes, keeps, rises, outside, overflows, calls, opened}
use Rattle.machine_step.proofs.step.Statement.{statement}
use Rattle.machine_step.proofs.step.Tie as tie

-- ---- places, and what is known there

abbrev start : tie.In-Some → tie.Start
start k = k.before.before

abbrev line : tie.In-Some → Line
line k = k.in-Some.line

-- before the prices are made
abbrev settled : tie.After-effect_of → tie.After-entry_place-place
settled a = a.before.before.before.before.before

abbrev joined : tie.After-effect_of → tie.Joined-line
joined a = (settled a).before.before.before

abbrev lined : tie.After-effect_of → tie.In-Some
lined a = (joined a).before

abbrev code : tie.Start → Code
code s = program_of s.args.code.now

abbrev sizes : tie.Start → List ℕ
sizes s = sizes_of s.args.code.now

-- what is promised of the answer
abbrev Meets : tie.Start → Stepped → Type 0
Meets s r =
    (of_next r.next (whole (sizes s) r.blocks r.state) ≡ step (code s) s.args.answer (whole (sizes s) s.args.blocks s.args.state))
    × ((r.calls ≡ takes_answer (code s) (whole (sizes s) s.args.blocks s.args.state)) × ((WellFormed r.state × Small r.next) × Differs r.change s.args.blocks r.blocks))

found : (k : tie.In-Some) → done (line_of (line k)) ≡ fetch (code (start k)) (start k).args.state.at
found k = ap of_fetched (sym k.in-Some.is) ∙ k.fetch.ensures.0

known : (k : tie.In-Some) → (line k).code ≤ 22
known k = subst Known k.in-Some.is k.fetch.ensures.1

-- the code's address is low
low : (k : tie.In-Some) → (start k).args.state.at < 65536
low k = let s = start k in omega (arith, fetch-within s.args.code.now s.args.state.at (line_of (line k)) (sym (found k)), s.requires.0.addresses)

fields : (s : tie.Start) → length s.args.blocks ≡ 128
fields s = search (rules, length-images)

fits : (s : tie.Start) → Fits (sizes s) s.args.blocks
fits s = fits_all s.args.code.now s.requires.0 s.args.blocks (fields s)

ready : (j : tie.Joined-line) → Ready (sizes (start j.before)) (start j.before).args.blocks (line j.before) (start j.before).args.state j.if-line.state
ready j =
    let s = start j.before in
    ⊎_elim
    (λ x. pushes (sizes s) s.args.blocks (line j.before) s.args.state j.if-line.state x.push-state.result x.if-line.true x.push-state.ensures.0 x.push-state.ensures.1 x.state-is)
    (λ x. keeps (sizes s) s.args.blocks (line j.before) s.args.state j.if-line.state x.if-line.false s.requires.1 x.state-is)
    j.if-line.branch-raw

module _ (a : tie.After-effect_of) where
  abbrev s : tie.Start
  s = start (lined a)

  abbrev l : Line
  l = line (lined a)

  -- the state after the push
  abbrev t : State
  t = (joined a).if-line.state

  abbrev n : ℕ
  n = (settled a).index_of-index.result

  abbrev entry : Cell
  entry = get_or t.stack (settled a).entry_place-place.result (range (pos 0) 0)

  abbrev price : Price
  price = a.price_of-price.result

  abbrev price-jumped : Price
  price-jumped = a.jump_price-jumped.result

  abbrev out : Outcome
  out = outcome (operation_of l.code) l.operand s.args.answer (64 - t.free) t.accu entry

  fitting : SFits w32 l.operand
  fitting = search rules

  prepared : Ready (sizes s) s.args.blocks l s.args.state t
  prepared = ready (joined a)

  arm : Arm (step (code s) s.args.answer (whole (sizes s) s.args.blocks s.args.state)) (sizes s) s.args.blocks (line_of l).price l.extra (operation_of l.code) l.operand s.args.answer (next t) n entry out
  arm =
      arms.arm (code s) s.args.answer (sizes s) s.args.blocks s.args.state (next t) l (sym (found (lined a))) (rises (sizes s) s.args.blocks l s.args.state t prepared)
      (record { free = prepared.formed.free; places = prepared.formed.places }) (fits s) n (settled a).entry_place-place.result entry (range (pos 0) 0) out
      ((settled a).index_of-index.ensures.0 ∙ ap index (to_z-of_z w32 _ fitting)) (settled a).entry_place-place.ensures.1 refl refl

  -- what the step leads to, once the effect is known
  led : (f : Effect) → a.effect_of.result ≡ f → Leads arm f
  led f g = leads arm f (sym g ∙ a.effect_of.ensures)

  -- an address after methods that keep it
  near : (v : ℕ) → v ≡ t.at → v < 65536
  near v e = omega (arith, e, prepared.stays, low (lined a))

  -- ---- a step that leaves the blocks, with what comes next and the state

  abbrev Keeps : Next → State → Type 0
  Keeps x w = Meets s (keeping x l.calls w s.args.blocks)

  keeps-at : (x x' : Next) (w w' : State) → w ≡ w' → x ≡ x' → Keeps x' w' → Keeps x w
  keeps-at x x' w w' e g h = subst (λ v. Keeps x v) (sym e) (subst (λ z. Keeps z w') (sym g) h)

  called : l.calls ≡ takes_answer (code s) (whole (sizes s) s.args.blocks s.args.state)
  called = calls (code s) s.args.answer (sizes s) s.args.blocks s.args.state l (found (lined a))

  module _ (w : State) (formed : WellFormed w) where
    went : step (code s) s.args.answer (whole (sizes s) s.args.blocks s.args.state) ≡ done (goes (line_of l).price (whole (sizes s) s.args.blocks w)) → Keeps (Goes price) w
    unfolding of_next
    went e = (ap (λ p. done (goes p (whole (sizes s) s.args.blocks w))) a.price_of-price.ensures.0 ∙ sym e, (called, ((formed, a.price_of-price.ensures.1), refl)))

    jumps : step (code s) s.args.answer (whole (sizes s) s.args.blocks s.args.state) ≡ done (goes (with_extra l.extra (line_of l).price) (whole (sizes s) s.args.blocks w)) → Keeps (Goes price-jumped) w
    unfolding of_next
    jumps e = (ap (λ p. done (goes p (whole (sizes s) s.args.blocks w))) a.jump_price-jumped.ensures.0 ∙ sym e, (called, ((formed, a.jump_price-jumped.ensures.1), refl)))

    forks : step (code s) s.args.answer (whole (sizes s) s.args.blocks s.args.state) ≡ done (opens (line_of l).price (whole (sizes s) s.args.blocks w) (with_extra l.extra (line_of l).price) (jump n (whole (sizes s) s.args.blocks w))) → Keeps (Opens price n price-jumped) w
    unfolding of_next
    forks e = (
      ap (λ p. done (opens p (whole (sizes s) s.args.blocks w) (of_price price-jumped) (jump n (whole (sizes s) s.args.blocks w)))) a.price_of-price.ensures.0
          ∙ ap (λ p. done (opens (line_of l).price (whole (sizes s) s.args.blocks w) p (jump n (whole (sizes s) s.args.blocks w)))) a.jump_price-jumped.ensures.0 ∙ sym e,
      (called, ((formed, (a.price_of-price.ensures.1, a.jump_price-jumped.ensures.1)), refl)),
    )

  halts : step (code s) s.args.answer (whole (sizes s) s.args.blocks s.args.state) ≡ done (stops (line_of l).price) → Keeps (Stops price) t
  unfolding of_next
  halts e = (ap (λ p. done (stops p)) a.price_of-price.ensures.0 ∙ sym e, (called, ((prepared.formed, a.price_of-price.ensures.1), refl)))

  sticks : step (code s) s.args.answer (whole (sizes s) s.args.blocks s.args.state) ≡ stuck → Keeps Stuck t
  unfolding of_next
  sticks e = (sym e, (called, ((prepared.formed, tt), refl)))

  -- ---- a step that sets a field

  set_at : (j : ℕ) (c : Cell) (w : State) → j < 128 → WellFormed w → step (code s) s.args.answer (whole (sizes s) s.args.blocks s.args.state) ≡ done (goes (line_of l).price (whole (sizes s) (set s.args.blocks j c) w)) →
      Meets s (setting_field (Goes price) l.calls j c w s.args.blocks)
  unfolding of_next
  set_at j c w within formed e =
      (ap (λ p. done (goes p (whole (sizes s) (set s.args.blocks j c) w))) a.price_of-price.ensures.0 ∙ sym e, (called, ((formed, a.price_of-price.ensures.1), (within, refl))))

-- an accumulator that is loaded leaves the address
loaded_at : (s w : State) (c : Cell) → view w ≡ load c (view s) → w.at ≡ s.at
unfolding load
loaded_at s w c e = ap (λ v. v.at) e

-- ---- before the effect is known

returns : tie.Need-returns-in_default
unfolding of_next
returns c =
    let s = c in
    let o = outside (code s.before.before.before) s.args.answer (sizes s.before.before.before) s.args.blocks s.args.state (ap of_fetched (sym c.in_default.is) ∙ c.fetch.ensures.0) in
    subst (Meets s.before.before.before) (sym c.keep.ensures) (o.0, (o.1, ((s.requires.1, tt), refl)))

returns-2 : tie.Need-returns-then-state-eq0
unfolding of_next
returns-2 c =
    let k = c in
    let s = start k.before.before.before in
    subst (Meets s) (sym c.keep-then-state-eq0.ensures) (
      overflows (code s) s.args.answer (sizes s) s.args.blocks s.args.state (line k.before.before.before) (found k.before.before.before) c.if-line.true s.requires.1 c.if-state-eq0.true,
      (calls (code s) s.args.answer (sizes s) s.args.blocks s.args.state (line k.before.before.before) (found k.before.before.before), ((s.requires.1, tt), refl)),
    )

entry-place-requires : tie.Need-entry_place-place-requires
entry-place-requires c κs = (omega (arith, c.index_of-index.ensures.1), (ready c.before.before).formed.free)

sub-effect-of : tie.Need-overflow_sub-state
sub-effect-of c = (ready c.before.before.before.before.before.before).formed.free

effect-of-requires : tie.Need-effect_of-requires
effect-of-requires c κs = let k = c in ((start k.before.before.before.before.before.before.before.before).requires.0, known k.before.before.before.before.before.before.before.before)

-- ---- the accumulator becomes a cell

given : (c : tie.In-Gives) → Leads (arm c.before) (effects.Gives c.in-Gives.drops c.in-Gives.c)
given c = led c.before _ c.in-Gives.is

pop-requires : tie.Need-pop-requires
pop-requires c κs = ((prepared c.before).formed, (given c).0)

advance-requires : tie.Need-advance-state-requires
advance-requires c κs =
    let a = c in
    (c.load.ensures.1, near a.before.before.before _ (loaded_at c.pop.result c.load.result _ c.load.ensures.0 ∙ pop-at _ (view (t a.before.before.before)) (view c.pop.result) c.pop.ensures.0))

returns-3 : tie.Need-returns-in-Gives
returns-3 c =
    let a = c in
    let v = c.pop.result in
    let w = c.advance-state.result in
    subst (Meets (s a.before.before.before.before.before)) (sym c.keep-in-Gives.ensures)
    (went a.before.before.before.before.before w c.advance-state.ensures.1
    ((given c.before.before.before.before).1 (next v) w (popped-next (t a.before.before.before.before.before) v _ c.pop.ensures.0) (loaded-next v c.load.result w _ c.load.ensures.0 c.advance-state.ensures.0)))

-- ---- an entry becomes the accumulator

store-requires : tie.Need-store-requires
store-requires c κs = let a = c in ((prepared a.before).formed, (led a.before effects.Stores c.in-Stores.is).0)

advance-requires-2 : tie.Need-advance-state-requires-in-Stores
advance-requires-2 c κs = let a = c in (c.store.ensures.1, near a.before.before _ (store_at _ (view (t a.before.before)) (view c.store.result) c.store.ensures.0))

-- ---- a field is set

set_known : (c : tie.In-Sets) → Leads (arm c.before) (effects.Sets c.in-Sets.j c.in-Sets.c)
set_known c = led c.before _ c.in-Sets.is

pop-requires-2 : tie.Need-pop-requires-in-Sets
pop-requires-2 c κs = ((prepared c.before).formed, (set_known c).0.0)

advance-requires-3 : tie.Need-advance-state-requires-in-Sets
advance-requires-3 c κs =
    let a = c in
    let v = c.pop-in-Sets in
    (c.load-in-Sets.ensures.1, near a.before.before.before.before _ (loaded_at v.result c.load-in-Sets.result _ c.load-in-Sets.ensures.0 ∙ pop-at _ (view (t a.before.before.before.before)) (view v.result) v.ensures.0))

set-within : (c : tie.In-Sets) → c.in-Sets.j < 128
set-within c = omega (arith, (set_known c).0.1, fields (s c.before))

set-field-requires : tie.Need-set_field-requires
set-field-requires c κs = set-within c.before.before.before.before

returns-4 : tie.Need-returns-in-Sets
returns-4 c =
    let j = c in
    let a = j in
    let v = c.pop-in-Sets.result in
    let w = c.advance-state-in-Sets.result in
    subst (Meets (s a.before.before.before.before.before.before)) (sym c.set_field.ensures)
    (set_at a.before.before.before.before.before.before _ _ w (set-within j.before.before.before.before.before) c.advance-state-in-Sets.ensures.1
    ((set_known j.before.before.before.before.before).1 (next v) w (popped-next (t a.before.before.before.before.before.before) v _ c.pop-in-Sets.ensures.0)
    (loaded-next v c.load-in-Sets.result w _ c.load-in-Sets.ensures.0 c.advance-state-in-Sets.ensures.0 ∙ ap (λ z. load z (view (next v))) c.exactly.ensures)))

-- ---- the accumulator becomes a field

get-known : (c : tie.In-Gets) → Leads (arm c.before) (effects.Gets c.in-Gets.j)
get-known c = led c.before _ c.in-Gets.is

get-within : (c : tie.In-Gets) → c.in-Gets.j < 128
get-within c = omega (arith, (get-known c).0, fields (s c.before))

field-of-requires : tie.Need-field_of-requires
field-of-requires c κs = get-within c

load-requires-3 : tie.Need-load-requires-in-Gets
load-requires-3 c κs = (prepared c.before.before).formed

advance-requires-4 : tie.Need-advance-state-requires-in-Gets
advance-requires-4 c κs = let a = c in (c.load-in-Gets.ensures.1, near a.before.before.before _ (loaded_at (t a.before.before.before) c.load-in-Gets.result _ c.load-in-Gets.ensures.0))

-- ---- branches

jump-requires : tie.Need-jump-state-requires
jump-requires c κs = (prepared c.before).formed

jump-requires-2 : tie.Need-jump-state-requires-in-Jumps
jump-requires-2 c κs = (prepared c.before).formed

advance-requires-5 : tie.Need-advance-state-requires-in-Opens
advance-requires-5 c κs = let a = c in ((prepared a.before).formed, near a.before _ refl)

-- ---- the arms that leave the blocks

returns-5 : tie.Need-returns
returns-5 c =
    let m = c in
    let a = m in
    subst (Meets (s a.before.before)) (sym c.keep-2.ensures)
    (⊎_elim
    (λ x. keeps-at a.before.before _ _ _ _ x.state-is x.next-is (went a.before.before x.advance-state-in-Stores.result x.advance-state-in-Stores.ensures.1 ((led a.before.before effects.Stores x.in-Stores.is).1 x.advance-state-in-Stores.result (stored_next (t a.before.before) x.store.result x.advance-state-in-Stores.result _ x.store.ensures.0 x.advance-state-in-Stores.ensures.0))))
    (⊎_elim
    (λ x. keeps-at a.before.before _ _ _ _ x.state-is x.next-is (went a.before.before x.advance-state-in-Gets.result x.advance-state-in-Gets.ensures.1
    ((led a.before.before (effects.Gets _) x.in-Gets.is).1 _ x.advance-state-in-Gets.result (loaded-next (t a.before.before) x.load-in-Gets.result x.advance-state-in-Gets.result _ x.load-in-Gets.ensures.0 x.advance-state-in-Gets.ensures.0 ∙ ap (λ z. load z (view (next (t a.before.before)))) x.field_of.ensures))))
    (⊎_elim
    (λ x. keeps-at a.before.before _ _ _ _ x.state-is x.next-is (went a.before.before x.jump-state.result x.jump-state.ensures.1 (led a.before.before effects.Goes x.in-Goes.is x.jump-state.result (jumped-next (t a.before.before) x.jump-state.result _ x.jump-state.ensures.0))))
    (⊎_elim
    (λ x. keeps-at a.before.before _ _ _ _ x.state-is x.next-is (jumps a.before.before x.jump-state-in-Jumps.result x.jump-state-in-Jumps.ensures.1 (led a.before.before effects.Jumps x.in-Jumps.is x.jump-state-in-Jumps.result (jumped-next (t a.before.before) x.jump-state-in-Jumps.result _ x.jump-state-in-Jumps.ensures.0))))
    (⊎_elim
    (λ x. keeps-at a.before.before _ _ _ _ x.state-is x.next-is (forks a.before.before x.advance-state-in-Opens.result x.advance-state-in-Opens.ensures.1 (opened (sizes (s a.before.before)) (s a.before.before).args.blocks (t a.before.before) x.advance-state-in-Opens.result (arm a.before.before) (led a.before.before effects.Opens x.in-Opens.is) x.advance-state-in-Opens.ensures.0)))
    (⊎_elim
    (λ x. keeps-at a.before.before _ _ _ _ x.state-is x.next-is (halts a.before.before (led a.before.before effects.Halts x.in-Halts.is)))
    (λ x. keeps-at a.before.before _ _ _ _ x.state-is x.next-is (sticks a.before.before (led a.before.before effects.Stuck x.in-Stuck.is))))))))
    m.match-effect_of.branch-raw)

pub step_spec : {M : Type 1} → statement M
step_spec =
    tie.close
    (tie.spec
    (λ c κs. search rules)
    (λ c. search rules)
    (λ c. search rules)
    (λ c κs. search rules)
    returns
    (λ c κs. search rules)
    returns-2
    (λ c κs. search rules)
    (λ c κs. search rules)
    entry-place-requires
    (λ c κs. search rules)
    (λ c κs. search rules)
    (λ c. search rules)
    (λ c. search rules)
    sub-effect-of
    effect-of-requires
    (λ c. search rules)
    pop-requires
    (λ c κs. search rules)
    advance-requires
    (λ c κs. search rules)
    returns-3
    (λ c. search rules)
    store-requires
    advance-requires-2
    (λ c. search rules)
    pop-requires-2
    (λ c κs. search rules)
    (λ c κs. search rules)
    advance-requires-3
    set-field-requires
    returns-4
    (λ c. search rules)
    field-of-requires
    load-requires-3
    advance-requires-4
    (λ c. search rules)
    jump-requires
    (λ c. search rules)
    jump-requires-2
    (λ c. search rules)
    advance-requires-5
    (λ c. search rules)
    (λ c. search rules)
    (λ c κs. search rules)
    returns-5)
