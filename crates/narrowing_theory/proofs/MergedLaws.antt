-- The merging bound of a plain state is the run, where no primitive is called: one state comes to each address that the run reaches, and none
-- to the others. Assumes nothing.
use mathlib.Core.Path.{◌≡◌, refl, sym, ◌∙◌, ap}
use mathlib.Core.Bool.{Bool, true, false, cond}
use mathlib.Core.List.{List, []}
use mathlib.Core.Logic.{◌⊎◌, inl, inr, ◌≢◌}
use Prim.Native.Nat.{ℕ, zero, suc, ◌+◌, ◌-◌, ◌<◌, ◌≤◌, max}
use native.Mathlib.Omega.{arith}
use lib.Dec.{eqb}
use lib.IntN.{ℤ}
use borrow.Author.Tests.{eqb-true, eqb-false}
use Rattle.refusals.specs.declared.Refusal.{Refusal}
use Rattle.refusals.specs.declared.Refusal.TheVariants.{Spent}
use Rattle.cells.specs.Try.{Try, stuck, done}
use Rattle.cells.specs.Cells.{unknown}
use Rattle.machine.specs.Machine.{State, Price, Next, stops, goes, opens, Code, height, jump, sum, step}
use Rattle.machine.specs.Forward.{Forward}
use Rattle.machine.specs.Targets.{Closed}
use Rattle.machine.proofs.LeadLaws.{goes-there}
use Rattle.machine.proofs.TargetLaws.{step-onward}
use Rattle.bound_theory.specs.Tree.{Report, Verdict, accepted, refused}
use Rattle.bound_theory.specs.Run.{Run, begin, leads, after, judge_run, run}
use Rattle.bound_theory.proofs.TreeLaws.{contradiction}
use Rattle.merge_theory.specs.Merge.{Arrival, arrival, held, join, slot, Table, nowhere, arrive, send, reach, finish, carry, visit, sweep, end, span, only, none, merged}
use Rattle.merge_theory.proofs.FillLaws.{arrive-other, arrive-own}
use Rattle.merge_theory.proofs.PassLaws.{Agree, arrive-slot, sweep-agree}
use Rattle.merge_theory.proofs.Theorems.{run-within-merged}
use Rattle.narrowing_theory.specs.Promises.{Plain, NoCalls, MergedIsRun}
use Rattle.narrowing_theory.proofs.BoundLaws.{same-report}
use Rattle.narrowing_theory.proofs.PlainLaws.{OneWay, is_stuck, is_stop, goes_on, plain_step}
use Rattle.narrowing_theory.proofs.RunLaws.{stopped, gone, left-none, left-stuck, left-stops, left-goes, once-goes, Uncalled, later, same_step, from_start, run-steps}

-- nothing but x has come
abbrev alone : Arrival → Table
alone x = arrive x nowhere

empty-slot : (x : Arrival) (b : ℕ) → (b ≡ x.state.at → ⊥) → alone x b ≡ []
unfolding nowhere
empty-slot x b h = arrive-other x nowhere b h

own-slot : (s : State) (p : Price) → slot (alone (arrival s p) s.at) ≡ held s p
unfolding slot join nowhere
own-slot s p = ap slot (arrive-own (arrival s p) nowhere)

-- what came below counts no more
forgets : (x y : Arrival) (a n : ℕ) → x.state.at < a → Agree a n (arrive y (alone x)) (alone y)
unfolding nowhere
forgets x y a n h = record {
  slots = λ b lo hi.
      arrive-slot y (alone x) b
      ∙ ap (λ ys. cond (eqb b y.state.at) (join (slot ys) y) (slot ys)) (empty-slot x b (λ e. omega arith))
      ∙ sym (arrive-slot y nowhere b);
}

-- what a run has spent
abbrev spent : Run → Price
spent r = record { cycles = r.cycles; words = r.words }

-- the figures so far are those of the run, its height at the state it has come to left out
record Kept (f : Report) (r : Run) : Type 0 where
  cycles : f.cycles ≡ 0
  words : f.words ≡ 0
  depth : max f.depth (height r.state) ≡ r.depth
  steps : f.steps ≡ r.steps

module _ (act : State → Try Next) where
  skips : (x : Arrival) (n a : ℕ) (f : Report) → (a ≡ x.state.at → ⊥) → sweep act (suc n) a (alone x) f ≡ sweep act n (suc a) (alone x) f
  unfolding sweep visit slot
  skips x n a f h = ap (λ xs. visit act (sweep act n (suc a)) a (alone x) f (slot xs)) (empty-slot x a h)

  -- nothing comes any more
  ends : (x : Arrival) (n a : ℕ) (f : Report) → x.state.at < a → sweep act n a (alone x) f ≡ accepted f
  unfolding sweep
  ends x zero a f h = refl
  ends x (suc n) a f h = skips x n a f (λ e. omega arith) ∙ ends x n (suc a) f (omega arith)

  visits : (s : State) (p : Price) (n : ℕ) (f : Report) → sweep act (suc n) s.at (alone (arrival s p)) f ≡ carry (sweep act n (suc s.at)) s.at (alone (arrival s p)) f s p (act s)
  unfolding sweep visit jump
  visits s p n f = ap (visit act (sweep act n (suc s.at)) s.at (alone (arrival s p)) f) (own-slot s p)

-- the first verdict is the second, or the second is refused by 9
abbrev Says : Verdict → Verdict → Type 0
Says v w = (v ≡ w) ⊎ ((a : ℕ) × (w ≡ refused (Spent a)))

says : {v v' w w' : Verdict} → v ≡ v' → w ≡ w' → Says v' w' → Says v w
says e f (inl h) = inl (e ∙ h ∙ sym f)
says e f (inr (a, h)) = inr (a, f ∙ h)

module _ (c : Code) (forward : Forward c) (closed : Closed c) (top : ℕ) (over : end c ≤ top) where
  abbrev act : State → Try Next
  act = step c unknown

  -- the sweep of n addresses from a on says what the run, which has come to one of them, says with b steps more
  abbrev Follows : ℕ → ℕ → Type 0
  Follows n b =
      (a : ℕ) (f : Report) (r : Run) → r.stopped ≡ false → Plain r.state → Uncalled c b r → Kept f r → a ≤ r.state.at → r.state.at < a + n → a + n ≡ suc top →
      Says (sweep act n a (alone (arrival r.state (spent r))) f) (judge_run (r.steps + b) (after c b r))

  -- it has come to this one
  module _ (f : Report) (r : Run) (g : r.stopped ≡ false) (k : Kept f r) (n b : ℕ) (u : Uncalled c (suc b) r) (last : suc r.state.at + n ≡ suc top) where
    makes : Follows n b → (m : Try Next) → leads c r ≡ m → OneWay m →
        Says (carry (sweep act n (suc r.state.at)) r.state.at (alone (arrival r.state (spent r))) f r.state (spent r) m) (judge_run (r.steps + suc b) (after c (suc b) r))
    unfolding carry send finish reach
    makes ih stuck e is_stuck = inl (sym (left-stuck c r g b e))
    makes ih (done (stops p)) e is_stop =
        let h : accepted (record { cycles = max f.cycles (r.cycles + p.cycles); words = max f.words (r.words + p.words); depth = max f.depth (height r.state); steps = suc f.steps; path = [] }) ≡ accepted (stopped r p)
        = same-report [] (omega (arith, k)) (omega (arith, k)) (omega (arith, k)) (omega (arith, k)) in
        inl (ends act (arrival r.state (spent r)) n (suc r.state.at) _ (omega arith) ∙ h ∙ sym (left-stops c r g b p e))
    makes ih (done (goes p t)) e (goes_on h) =
        let o = goes-there (step-onward c forward closed unknown r.state (goes p t) (same_step c b r u ∙ e)) in
        let above : r.state.at < t.at = o.above in
        let inside : t.at ≤ end c = o.inside in
        says
        (sweep-agree act n (suc r.state.at) _ _ _ (forgets (arrival r.state (spent r)) (arrival t (sum (spent r) p)) (suc r.state.at) n (omega arith)))
        (left-goes c r g b p t e)
        (ih (suc r.state.at) (reach r.state f) (gone c r p t) refl h (later c b r (gone c r p t) (once-goes c r g p t e) u)
        (record { cycles = k.cycles; words = k.words; depth = ap (λ d. max d (height t)) k.depth; steps = ap suc k.steps })
        (omega arith) (omega arith) last)
    makes ih (done (opens p s q t)) e x' = elim x' [ ]

  follows : (n b : ℕ) → Follows n b
  follows n zero a f r g e u k lo hi last = inr (r.state.at, left-none c r g)
  follows zero (suc b) a f r g e u k lo hi last = absurd (omega arith)
  follows (suc n) (suc b) a f r g e u k lo hi last = go (eqb a r.state.at) refl (follows n (suc b)) (follows n b)
    where
      go : (t : Bool) → eqb a r.state.at ≡ t → Follows n (suc b) → Follows n b → Says (sweep act (suc n) a (alone (arrival r.state (spent r))) f) (judge_run (r.steps + suc b) (after c (suc b) r))
      go true q on ih =
          let h : a ≡ r.state.at = eqb-true a r.state.at q in
          says
          (ap (λ x. sweep act (suc n) x (alone (arrival r.state (spent r))) f) h ∙ visits act r.state (spent r) n f
          ∙ ap (carry (sweep act n (suc r.state.at)) r.state.at (alone (arrival r.state (spent r))) f r.state (spent r)) (same_step c b r u))
          refl
          (makes f r g k n b u (omega arith) ih (leads c r) refl (plain_step c r e))
      go false q on ih =
          let h : a ≢ r.state.at = eqb-false a r.state.at q in
          says (skips act (arrival r.state (spent r)) n a f h) refl (on (suc a) f r g e u k (omega arith) (omega arith) (omega arith))

merged-says : (c : Code) → Forward c → Closed c → (budget : ℕ) (s : State) (answers : List ℤ) → Plain s → NoCalls c budget s answers → Says (merged c s) (run c budget s answers)
unfolding merged only begin
merged-says c forward closed budget s answers e u =
    says refl (sym (from_start c budget s answers))
    (follows c forward closed (s.at + (end c - s.at)) (omega arith) (span c s) budget s.at none (begin s answers) refl e u
    (record { cycles = refl; words = refl; depth = omega arith; steps = refl })
    (omega arith) (omega arith) (omega arith))

-- which of the two, by BUDGET
pub merged-is-run : MergedIsRun
merged-is-run c forward closed budget s answers e u = let says_so = merged-says c forward closed budget s answers e u in (within says_so, beyond says_so, refuses says_so)
  where
    within : Says (merged c s) (run c budget s answers) → (q : Report) → merged c s ≡ accepted q → q.steps ≤ budget → run c budget s answers ≡ accepted q
    within (inl h) q a le = sym h ∙ a
    within (inr (b, h)) q a le = let (r, k, l) = run-within-merged c forward closed s q a budget le s e answers in contradiction (Spent b) r (sym h ∙ k)

    beyond : Says (merged c s) (run c budget s answers) → (q : Report) → merged c s ≡ accepted q → budget < q.steps → (a : ℕ) × (run c budget s answers ≡ refused (Spent a))
    beyond (inl h) q a le = absurd (omega (arith, run-steps c budget s answers q (sym h ∙ a)))
    beyond (inr k) q a le = k

    refuses : Says (merged c s) (run c budget s answers) → (r : Refusal) → merged c s ≡ refused r → (run c budget s answers ≡ refused r) ⊎ ((a : ℕ) × (run c budget s answers ≡ refused (Spent a)))
    refuses (inl h) r a = inl (sym h ∙ a)
    refuses (inr k) r a = inr k
