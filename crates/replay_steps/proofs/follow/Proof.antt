-- `replay_steps::follow` meets its contract: the line is held against what the step leads to. Assumes nothing.
use mathlib.Core.Path.{◌≡◌, subst}
use mathlib.Core.Bool.{false≢true}
use mathlib.Core.List.{◌∷◌, []}
use mathlib.Core.Logic.{⊎_elim}
use Prim.Native.Nat.{ℕ}
use native.Mathlib.Omega.{arith}
use denote.Enum.Declared.{tag_of}
use types.Run.{OneOf}
use borrow.Author.Rules.{rules}
use Rattle.machine_step.specs.declared.Price.{Price}
use Rattle.machine_step.specs.declared.Next.{Next}
use Rattle.machine_step.specs.declared.Next.TheVariants.{Stops, Goes}
use Rattle.machine_step.specs.contracts.Next as next
use Rattle.replay_steps.proofs.FollowLaws.{still-differs, stop-held, stop-stands, step-held, step-stands, address_same, address-other}
use Rattle.replay_steps.proofs.follow.Statement.{statement}
use Rattle.replay_steps.proofs.follow.Tie as tie

-- what comes next is neither STOP nor one way
no_stop : (x : Next) → OneOf (0 ∷ 2 ∷ 3 ∷ []) (tag_of next.the_type x) → (p : Price) → x ≡ Stops p → ⊥
no_stop x h p e = ⊎_elim
    (λ (k : ◌≡◌ {A = ℕ} 1 0). omega arith)
    (⊎_elim (λ (k : ◌≡◌ {A = ℕ} 1 2). omega arith) (λ (k : ◌≡◌ {A = ℕ} 1 3). omega arith))
    (subst (λ v. OneOf (0 ∷ 2 ∷ 3 ∷ []) (tag_of next.the_type v)) e h)

no_way : (x : Next) → OneOf (0 ∷ 1 ∷ 3 ∷ []) (tag_of next.the_type x) → (p : Price) → x ≡ Goes p → ⊥
no_way x h p e = ⊎_elim
    (λ (k : ◌≡◌ {A = ℕ} 2 0). omega arith)
    (⊎_elim (λ (k : ◌≡◌ {A = ℕ} 2 1). omega arith) (λ (k : ◌≡◌ {A = ℕ} 2 3). omega arith))
    (subst (λ v. OneOf (0 ∷ 1 ∷ 3 ∷ []) (tag_of next.the_type v)) e h)

returns : tie.Need-returns-then-state-at
returns c =
    let b = c in
    let x = b.step-stepped in
    let took = b.taken_after-asked in
    let s = b in
    let p = c.in-Stops in
    record {
      says = λ r st. address_same _ _ (stop-held _ _ _ _ _ _ r st _ _ x.result.next x.result.state x.result.blocks x.result.calls _ b.answer_at-answer.ensures x.ensures.0 x.ensures.1.0 p.p took.result (took.ensures.0 _) p.is) c.if-state-at.true;
      goes_on = λ r st h. stop-stands _ _ _ _ _ _ r st s.args.at s.args.spent x.result.next x.result.state x.result.blocks x.result.calls _ b.answer_at-answer.ensures x.ensures.0 x.ensures.1.0 p.p took.result (took.ensures.0 _) p.is;
      formed = s.requires.1;
      few = took.ensures.1;
    }

returns-2 : tie.Need-returns-else-state-at
returns-2 c =
    let b = c in
    let x = b.step-stepped in
    let took = b.taken_after-asked in
    let s = b in
    let p = c.in-Stops in
    record {
      says = λ r st. address-other _ s.args.state.at s.args.at (stop-held _ _ _ _ _ _ r st s.args.at s.args.spent x.result.next x.result.state x.result.blocks x.result.calls _ b.answer_at-answer.ensures x.ensures.0 x.ensures.1.0 p.p took.result (took.ensures.0 _) p.is) c.if-state-at.false;
      goes_on = λ r st h. stop-stands _ _ _ _ _ _ r st s.args.at s.args.spent x.result.next x.result.state x.result.blocks x.result.calls _ b.answer_at-answer.ensures x.ensures.0 x.ensures.1.0 p.p took.result (took.ensures.0 _) p.is;
      formed = s.requires.1;
      few = took.ensures.1;
    }

returns-3 : tie.Need-returns-in_default-next
returns-3 c =
    let b = c in
    let x = b.step-stepped in
    let s = b in
    record {
      says = λ r st. still-differs _ _ _ _ _ _ r st s.args.at s.args.spent x.result.next x.result.state x.result.blocks x.result.calls _ b.answer_at-answer.ensures x.ensures.0 x.ensures.1.0 (no_stop _ c.in_default.in_default-own.keys2) (no_way _ c.in_default-next.in_default-next-own.keys2);
      goes_on = λ r st h. absurd (false≢true h);
      formed = s.requires.1;
      few = omega arith;
    }

returns-4 : tie.Need-returns-then-state-at-2
returns-4 c =
    let at-next2 = c in
    let b = at-next2 in
    let at-step = b in
    let at-answer-at = at-step in
    let s = at-answer-at in
    let x = at-step.step-stepped in
    let took = b.taken_after-asked in
    let p = at-next2.in-Goes in
    record {
      says = λ r st. address_same _ _ (step-held _ _ _ _ _ _ r st _ _ x.result.next x.result.state x.result.blocks x.result.calls _ at-answer-at.answer_at-answer.ensures x.ensures.0 x.ensures.1.0 p.p took.result (took.ensures.0 _) p.is) c.if-state-at-2.true;
      goes_on = λ r st h. step-stands _ _ _ _ _ _ r st s.args.at s.args.spent x.result.next x.result.state x.result.blocks x.result.calls _ at-answer-at.answer_at-answer.ensures x.ensures.0 x.ensures.1.0 p.p took.result (took.ensures.0 _) p.is;
      formed = x.ensures.1.1.0.0;
      few = took.ensures.1;
    }

returns-5 : tie.Need-returns-else-state-at-2
returns-5 c =
    let at-next2 = c in
    let b = at-next2 in
    let at-step = b in
    let at-answer-at = at-step in
    let s = at-answer-at in
    let x = at-step.step-stepped in
    let took = b.taken_after-asked in
    let p = at-next2.in-Goes in
    record {
      says = λ r st. address-other _ s.args.state.at s.args.at (step-held _ _ _ _ _ _ r st s.args.at s.args.spent x.result.next x.result.state x.result.blocks x.result.calls _ at-answer-at.answer_at-answer.ensures x.ensures.0 x.ensures.1.0 p.p took.result (took.ensures.0 _) p.is) c.if-state-at-2.false;
      goes_on = λ r st h. step-stands _ _ _ _ _ _ r st s.args.at s.args.spent x.result.next x.result.state x.result.blocks x.result.calls _ at-answer-at.answer_at-answer.ensures x.ensures.0 x.ensures.1.0 p.p took.result (took.ensures.0 _) p.is;
      formed = x.ensures.1.1.0.0;
      few = took.ensures.1;
    }

pub follow_spec : {M : Type 1} → statement M
follow_spec =
    tie.close
    (tie.spec
    (λ c κs. search rules)
    (λ c κs. search rules)
    (λ c κs. search rules)
    (λ c. search rules)
    returns
    returns-2
    (λ c. search rules)
    returns-3
    returns-4
    returns-5)
