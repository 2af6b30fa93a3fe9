-- `machine_step::effects::effect_of` meets its contract: each outcome comes to its effect. Assumes nothing.
use mathlib.Core.Path.{◌≡◌, sym, subst, ap, ◌∙◌}
use mathlib.Core.List.{List}
use Prim.Native.Nat.{ℕ}
use lib.IntN.{ℤ}
use mir.Syntax.{w32}
use mir.Val.{SFits}
use mir.ValLaws.{to_z-of_z}
use borrow.Author.Rules.{rules}
use Rattle.cells.specs.Try.{Try}
use Rattle.cells.specs.declared.Cell.{Cell}
use Rattle.instructions.specs.HeldColumns.{operation_of}
use Rattle.machine.specs.Machine.{index}
use Rattle.machine_outcome.specs.declared.Outcome.{Outcome}
use Rattle.machine_outcome.specs.declared.Outcome.TheVariants as outcomes
use Rattle.machine_outcome.specs.HeldOutcome.{drops, operated, outcome, Room}
use Rattle.machine_outcome.proofs.TurnLaws.{room}
use Rattle.machine_state.specs.declared.code.Line.{Line}
use Rattle.machine_state.specs.HeldProgram.{sizes_of}
use Rattle.machine_state.specs.HeldState.{slot}
use Rattle.machine_step.specs.declared.effects.Effect.{Effect}
use Rattle.machine_step.specs.declared.effects.Effect.TheVariants.{Gives}
use Rattle.machine_step.specs.HeldEffect.{giving, setting, getting, effect}
use Rattle.machine_step.proofs.effects.effect_of.Statement.{statement}
use Rattle.machine_step.proofs.effects.effect_of.Tie as tie

-- once the outcome is known
module _ (a : tie.After-outcome_of-outcome) where
  abbrev start : tie.Start
  start = a.before.before.before.before

  abbrev ns : List ℕ
  ns = sizes_of start.args.code.now

  abbrev l : Line
  l = start.args.line

  abbrev accu : Cell
  accu = start.args.accu

  abbrev entry : Cell
  entry = start.args.entry

  abbrev n : ℕ
  n = a.index_of-index.result

  fitting : SFits w32 l.operand
  fitting = search rules

  is : n ≡ index l.operand
  is = a.index_of-index.ensures.0 ∙ ap index (to_z-of_z w32 _ fitting)

  abbrev out : Outcome
  out = outcome (operation_of l.code) l.operand start.args.answer start.args.height accu entry

  out-is : a.outcome_of-outcome.result ≡ out
  out-is = a.outcome_of-outcome.ensures ∙ ap (λ z. outcome (operation_of l.code) z start.args.answer start.args.height accu entry) (to_z-of_z w32 _ fitting)

  abbrev effect-at : Outcome → Effect
  effect-at = effect ns (operation_of l.code) l.operand accu entry

  -- the effect of the outcome, once that is known
  comes : (q : Outcome) → a.outcome_of-outcome.result ≡ q → effect-at q ≡ effect-at out
  comes q g = ap effect-at (sym g ∙ out-is)

  dropped : (k : ℕ) → k ≡ drops (operation_of l.code) n → k ≡ drops (operation_of l.code) (index l.operand)
  dropped k e = e ∙ ap (drops (operation_of l.code)) is

  operated-from : (d : Try Cell) (z : ℤ) → z ≡ l.operand → d ≡ operated (operation_of l.code) z accu entry → d ≡ operated (operation_of l.code) l.operand accu entry
  operated-from d z e h = h ∙ ap (λ z. operated (operation_of l.code) z accu entry) e

  slot-from : (d : Try ℕ) → d ≡ slot ns accu n → d ≡ slot ns accu (index l.operand)
  slot-from d h = h ∙ ap (slot ns accu) is

operated-requires : tie.Need-operated-given-requires
operated-requires c κs =
    let a = c in
    ((start a.before.before).requires.1, (subst (Room (operation_of (l a.before.before).code) (index (l a.before.before).operand) (start a.before.before).args.height) (sym (out-is a.before.before) ∙ c.in-Operates.is) (room (operation_of (l a.before.before).code) (l a.before.before).operand (start a.before.before).args.answer (start a.before.before).args.height (accu a.before.before) (entry a.before.before))).1)

returns : tie.Need-returns-in_default
unfolding effect giving
returns c =
    let a = c in
    ap (giving _) (operated-from a.before.before.before.before _ _ (to_z-of_z w32 _ (fitting a.before.before.before.before)) (sym c.in_default.is ∙ c.operated-given.ensures)) ∙ comes a.before.before.before.before outcomes.Operates c.in-Operates.is

returns-2 : tie.Need-returns-in_default-field
unfolding effect setting
returns-2 c =
    let a = c in
    ap (setting _) (slot-from a.before.before.before _ (sym c.in_default-field.is ∙ c.slot_of-field.ensures)) ∙ comes a.before.before.before (outcomes.Sets _) c.in-Sets.is

returns-3 : tie.Need-returns-in_default-field-2
unfolding effect getting
returns-3 c =
    let a = c in
    ap getting (slot-from a.before.before.before _ (sym c.in_default-field-2.is ∙ c.slot_of-field-in-Gets.ensures)) ∙ comes a.before.before.before outcomes.Gets c.in-Gets.is

returns-4 : tie.Need-returns-in-Gives
unfolding effect
returns-4 c =
    let a = c in
    ap (λ k. Gives k c.in-Gives.c) (dropped a.before.before _ c.drops_of.ensures) ∙ comes a.before.before (outcomes.Gives _) c.in-Gives.is

returns-5 : tie.Need-returns-in-Some
unfolding effect giving
returns-5 c =
    let a = c in
    ap (λ k. Gives k c.in-Some.c) (dropped a.before.before.before.before.before _ c.drops_of-in-Operates.ensures)
    ∙ ap (giving _) (operated-from a.before.before.before.before.before _ _ (to_z-of_z w32 _ (fitting a.before.before.before.before.before)) (sym c.in-Some.is ∙ c.operated-given.ensures))
    ∙ comes a.before.before.before.before.before outcomes.Operates c.in-Operates.is

returns-6 : tie.Need-returns-in-Stores
unfolding effect
returns-6 c = comes c.before outcomes.Stores c.in-Stores.is

returns-7 : tie.Need-returns-in-Some-field
unfolding effect setting
returns-7 c =
    let a = c in
    ap (setting _) (slot-from a.before.before.before _ (sym c.in-Some-field.is ∙ c.slot_of-field.ensures)) ∙ comes a.before.before.before (outcomes.Sets _) c.in-Sets.is

returns-8 : tie.Need-returns-in-Some-field-2
unfolding effect getting
returns-8 c =
    let a = c in
    ap getting (slot-from a.before.before.before _ (sym c.in-Some-field-2.is ∙ c.slot_of-field-in-Gets.ensures)) ∙ comes a.before.before.before outcomes.Gets c.in-Gets.is

returns-9 : tie.Need-returns-in-Goes
unfolding effect
returns-9 c = comes c.before outcomes.Goes c.in-Goes.is

returns-10 : tie.Need-returns-in-Jumps
unfolding effect
returns-10 c = comes c.before outcomes.Jumps c.in-Jumps.is

returns-11 : tie.Need-returns-in-Opens
unfolding effect
returns-11 c = comes c.before outcomes.Opens c.in-Opens.is

returns-12 : tie.Need-returns-in-Halts
unfolding effect
returns-12 c = comes c.before outcomes.Halts c.in-Halts.is

returns-13 : tie.Need-returns-in-Stuck
unfolding effect
returns-13 c = comes c.before outcomes.Stuck c.in-Stuck.is

pub effect_of_spec : {M : Type 1} → statement M
effect_of_spec =
    tie.close
    (tie.spec
    (λ c κs. search rules)
    (λ c κs. search rules)
    (λ c. search rules)
    (λ c κs. search rules)
    (λ c. search rules)
    operated-requires
    (λ c. search rules)
    (λ c. search rules)
    returns
    (λ c κs. search rules)
    (λ c. search rules)
    (λ c. search rules)
    (λ c κs. search rules)
    (λ c. search rules)
    (λ c. search rules)
    returns-2
    (λ c. search rules)
    (λ c κs. search rules)
    (λ c. search rules)
    (λ c. search rules)
    returns-3
    (λ c. search rules)
    (λ c. search rules)
    (λ c. search rules)
    (λ c. search rules)
    (λ c. search rules)
    returns-4
    returns-5
    returns-6
    returns-7
    returns-8
    returns-9
    returns-10
    returns-11
    returns-12
    returns-13)
