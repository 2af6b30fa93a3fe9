-- `trace_entry::record_step` meets its contract: what the step leads to is what is recorded. Assumes nothing.
use mathlib.Core.Path.{◌≡◌, subst}
use mathlib.Core.Bool.{false≢true}
use mathlib.Core.List.{◌∷◌, []}
use mathlib.Core.Logic.{⊎_elim}
use Prim.Native.Nat.{ℕ}
use native.Mathlib.Omega.{arith}
use denote.Enum.Declared.{tag_of}
use types.Run.{OneOf}
use borrow.Author.Rules.{rules}
use Rattle.machine_step.specs.declared.Price.{Price}
use Rattle.machine_step.specs.declared.Next.{Next}
use Rattle.machine_step.specs.declared.Next.TheVariants.{Stops, Goes}
use Rattle.machine_step.specs.contracts.Next as next
use Rattle.trace_entry.proofs.StepLaws.{still-stays, stop-made, stop-costs, stop-stands, step-made, step-costs, step-stands}
use Rattle.trace_entry.proofs.record_step.Statement.{statement}
use Rattle.trace_entry.proofs.record_step.Tie as tie

-- what comes next is neither STOP nor one way
no_stop : (x : Next) → OneOf (0 ∷ 2 ∷ 3 ∷ []) (tag_of next.the_type x) → (p : Price) → x ≡ Stops p → ⊥
no_stop x h p e = ⊎_elim
    (λ (k : ◌≡◌ {A = ℕ} 1 0). omega arith)
    (⊎_elim (λ (k : ◌≡◌ {A = ℕ} 1 2). omega arith) (λ (k : ◌≡◌ {A = ℕ} 1 3). omega arith))
    (subst (λ v. OneOf (0 ∷ 2 ∷ 3 ∷ []) (tag_of next.the_type v)) e h)

no_way : (x : Next) → OneOf (0 ∷ 1 ∷ 3 ∷ []) (tag_of next.the_type x) → (p : Price) → x ≡ Goes p → ⊥
no_way x h p e = ⊎_elim
    (λ (k : ◌≡◌ {A = ℕ} 2 0). omega arith)
    (⊎_elim (λ (k : ◌≡◌ {A = ℕ} 2 1). omega arith) (λ (k : ◌≡◌ {A = ℕ} 2 3). omega arith))
    (subst (λ v. OneOf (0 ∷ 1 ∷ 3 ∷ []) (tag_of next.the_type v)) e h)

returns : tie.Need-returns-in-Stops
returns c =
    let b = c in
    let x = b.step-stepped in
    let took = b.taken_after-asked in
    let s = b in
    let p = c.in-Stops in
    record {
      makes = λ r st. stop-made _ _ _ _ _ _ r st x.result.next x.result.state x.result.blocks x.result.calls _ b.answer_at-answer.ensures x.ensures.0 x.ensures.1.0 p.p took.result (took.ensures.0 _) p.is;
      costs = λ r st h. stop-costs _ _ _ _ _ _ r st x.result.next x.result.state x.result.blocks x.result.calls _ b.answer_at-answer.ensures x.ensures.0 x.ensures.1.0 p.p took.result (took.ensures.0 _) p.is;
      goes_on = λ r st h. stop-stands _ _ _ _ _ _ r st x.result.next x.result.state x.result.blocks x.result.calls _ b.answer_at-answer.ensures x.ensures.0 x.ensures.1.0 p.p took.result (took.ensures.0 _) p.is;
      formed = s.requires.1;
      few = took.ensures.1;
    }

returns-2 : tie.Need-returns-in_default-next
returns-2 c =
    let b = c in
    let x = b.step-stepped in
    let s = b in
    record {
      makes = λ r st. still-stays _ _ _ _ _ _ r st x.result.next x.result.state x.result.blocks x.result.calls _ b.answer_at-answer.ensures x.ensures.0 x.ensures.1.0 (no_stop _ c.in_default.in_default-own.keys2) (no_way _ c.in_default-next.in_default-next-own.keys2);
      costs = λ r st h. absurd (false≢true h);
      goes_on = λ r st h. absurd (false≢true h);
      formed = s.requires.1;
      few = omega arith;
    }

returns-3 : tie.Need-returns
returns-3 c =
    let at-next2 = c in
    let b = at-next2 in
    let at-step = b in
    let at-answer-at = at-step in
    let x = at-step.step-stepped in
    let took = b.taken_after-asked in
    let p = at-next2.in-Goes in
    record {
      makes = λ r st. step-made _ _ _ _ _ _ r st x.result.next x.result.state x.result.blocks x.result.calls _ at-answer-at.answer_at-answer.ensures x.ensures.0 x.ensures.1.0 p.p took.result (took.ensures.0 _) p.is;
      costs = λ r st h. step-costs _ _ _ _ _ _ r st x.result.next x.result.state x.result.blocks x.result.calls _ at-answer-at.answer_at-answer.ensures x.ensures.0 x.ensures.1.0 p.p took.result (took.ensures.0 _) p.is;
      goes_on = λ r st h. step-stands _ _ _ _ _ _ r st x.result.next x.result.state x.result.blocks x.result.calls _ at-answer-at.answer_at-answer.ensures x.ensures.0 x.ensures.1.0 p.p took.result (took.ensures.0 _) p.is;
      formed = x.ensures.1.1.0.0;
      few = took.ensures.1;
    }

pub record_step_spec : {M : Type 1} → statement M
record_step_spec =
    tie.close
    (tie.spec
    (λ c κs. search rules)
    (λ c κs. search rules)
    (λ c κs. search rules)
    (λ c. search rules)
    returns
    (λ c. search rules)
    returns-2
    returns-3)
