-- The merging bound goes by a step's ways, for code that jumps forwards and stays inside: so demand 3 holds of it. Assumes nothing.
use mathlib.Core.Path.{◌≡◌, refl, sym, ◌∙◌, ap, ap₂, subst}
use mathlib.Core.Bool.{Bool, true, false}
use mathlib.Core.Logic.{◌≢◌}
use mathlib.Core.List.{[]}
use Prim.Native.Nat.{ℕ, zero, suc, ◌+◌, ◌-◌, ◌≤◌, ◌<◌}
use native.Mathlib.Omega.{arith}
use lib.Dec.{eqb}
use borrow.Author.Tests.{eqb-true, eqb-false}
use Rattle.cells.specs.Try.{Try, done}
use Rattle.cells.specs.Cells.{unknown}
use Rattle.cells.specs.Order.{same}
use Rattle.cells.proofs.CellLaws.{refines-lawful}
use Rattle.machine.specs.Machine.{State, Price, Next, stops, goes, opens, Code, height, jump, sum, step}
use Rattle.machine.specs.Forward.{Forward}
use Rattle.machine.specs.Targets.{Closed}
use Rattle.machine.proofs.LeadLaws.{Leads, stops-there, goes_to, opens-to}
use Rattle.machine.proofs.TargetLaws.{Onward, step-onward}
use Rattle.machine.proofs.SizeLaws.{step-sized}
use Rattle.machine.proofs.StateLaws.{cellwise-refl}
use Rattle.machine.proofs.StepLaws.{step-law}
use Rattle.bound_theory.specs.Tree.{Report, Verdict, accepted}
use Rattle.bound_theory.specs.Traces.{Move, Transition, goes_on, not_taken, taken}
use Rattle.bound_theory.specs.Promises.{NoGreater, Interruptible, Monotone}
use Rattle.bound_theory.proofs.TreeLaws.{contradiction}
use Rattle.bound_theory.proofs.RunLaws.{Leaves, Ways, stopping, going, opening, Stepwise, stepwise-interruptible}
use Rattle.merge_theory.specs.Merge.{arrival, slot, Table, nowhere, arrive, send, reach, finish, carry, visit, sweep, end, span, only, none, merged}
use Rattle.merge_theory.proofs.SweepLaws.{Within, below-empty, Tables, arrive-law, arrive-up, Less, Verdicts, refused-there, accepted-both, sweep-law}
use Rattle.merge_theory.proofs.FillLaws.{arrive-other}
use Rattle.merge_theory.proofs.AssessLaws.{free, in-cycles, in_words}
use Rattle.merge_theory.proofs.ExactLaws.{only-slot, Pass, way-comes, start-slot, held-made, spent-within}

-- the sweep of one state begins at its address

elsewhere : (s : State) (a : ℕ) → (a ≡ s.at → ⊥) → only s a ≡ []
unfolding only nowhere
elsewhere s a h = arrive-other (arrival s free) nowhere a h

module _ (act : State → Try Next) where
  skip-one : (t : State) (n a : ℕ) (r : Report) → (a ≡ t.at → ⊥) → sweep act (suc n) a (only t) r ≡ sweep act n (suc a) (only t) r
  unfolding sweep visit slot
  skip-one t n a r h = ap (λ xs. visit act (sweep act n (suc a)) a (only t) r (slot xs)) (elsewhere t a h)

  pub skip : (t : State) (n m a : ℕ) (r : Report) → a + n ≡ t.at + m → a ≤ t.at → sweep act n a (only t) r ≡ sweep act m t.at (only t) r
  skip t zero m a r e le =
      let h : a ≡ t.at = omega arith in
      let k : 0 ≡ m = omega arith in
      ap₂ (λ x y. sweep act x y (only t) r) k h
  skip t (suc n) m a r e le = go (eqb a t.at) refl (λ lt. skip t n m (suc a) r (omega arith) lt)
    where
      go : (b : Bool) → eqb a t.at ≡ b → (a < t.at → sweep act n (suc a) (only t) r ≡ sweep act m t.at (only t) r) → sweep act (suc n) a (only t) r ≡ sweep act m t.at (only t) r
      go true h ih =
          let k = eqb-true a t.at h in
          let l : suc n ≡ m = omega arith in
          ap₂ (λ x y. sweep act x y (only t) r) l k
      go false h ih =
          let k : a ≢ t.at = eqb-false a t.at h in
          skip-one t n a r k ∙ ih (omega arith)

less-begun : (d : Price) (s : State) → Less d 1 none (reach s none)
unfolding reach
less-begun d s = omega arith

module _ (c : Code) where
  -- the action of the bound
  abbrev act : State → Try Next
  act = step c unknown

  compare : (d : Price) (k n a : ℕ) (x y : Table) (r q : Report) → Tables d x y → Less d k r q → Verdicts d k (sweep act n a x r) (sweep act n a y q)
  compare d k n a x y r q h l = sweep-law d k act act (λ s t e. step-law refines-lawful c same e) n a x y r q h l

  empty-below : (d : Price) (y : Table) → Tables d nowhere y
  unfolding nowhere slot
  empty-below d y = record { at = λ a. below-empty }

  -- what is accepted is accepted where less has come
  through : (d : Price) (k : ℕ) {v w : Verdict} (q : Report) → Verdicts d k v w → w ≡ accepted q → (r : Report) × (v ≡ accepted r) × Less d k r q
  through d k q refused-there e = contradiction _ _ e
  through d k q (accepted-both {r} {q = u} l) e = let h : u ≡ q = cc in (r, refl, rw h at l)

  nothing-less : (d : Price) → Within d free (sum free d)
  nothing-less d = omega arith

  -- the way to t is there, whatever else is
  here : (t : State) (p : Price) (tab : Table) → Tables p (only t) (arrive (arrival t (sum free p)) tab)
  unfolding only
  here t p tab = arrive-law p _ _ (cellwise-refl (λ a. same) t) (nothing-less p) (empty-below p tab)

  pub monotone : Monotone (merged c)
  unfolding merged only
  monotone t q e s h =
      let w : Within free free free = omega arith in
      let l : Less free 0 none none = omega arith in
      let (r, b, k) = through free 0 q (compare free 0 (span c t) t.at (only s) (only t) none none (arrive-law free _ _ h w (empty-below free nowhere)) l) e in
      (r, ap (λ a. sweep act (suc (end c - a)) a (only s) none) h.at ∙ b, omega (arith, k))

-- the pass from s over the addresses up to that after the last
pub widen : (c : Code) (s : State) {a : ℕ} {n : Next} → Leads (Onward a (end c)) n → Leads (Onward a (s.at + (end c - s.at))) n
widen c s l = go l
  where
    wide : {a : ℕ} {u : State} → Onward a (end c) u → Onward a (s.at + (end c - s.at)) u
    wide o = record { above = o.above; inside = omega (arith, o.inside) }

    go : {a : ℕ} {n : Next} → Leads (Onward a (end c)) n → Leads (Onward a (s.at + (end c - s.at))) n
    go stops-there = stops-there
    go (goes_to o) = goes_to (wide o)
    go (opens-to o o') = opens-to (wide o) (wide o')

abbrev pub pass : (c : Code) → Forward c → Closed c → (s : State) → Pass (step c unknown)
pass c forward closed s = record {
  start = s;
  many = span c s;
  top = s.at + (end c - s.at);
  inside = omega arith;
  last = omega arith;
  rising = λ t n e. widen c s (step-onward c forward closed unknown t n e);
  sized = λ ns t n e h. step-sized ns c unknown t n e h;
}

module _ (c : Code) (forward : Forward c) (closed : Closed c) where
  module _ (s : State) (q : Report) (e : merged c s ≡ accepted q) where
    -- the step from s is made, within the figures
    began : (n : Next) × (act c s ≡ done n) × NoGreater (finish free n (reach s none)) q
    unfolding merged jump
    began = held-made (act c) (pass c forward closed s) q e s.at s (start-slot (act c) (pass c forward closed s))

    root : (height s ≤ q.depth) × (1 ≤ q.steps)
    unfolding finish reach
    root = let (n, f, g) = began in go n g
      where
        go : (n : Next) → NoGreater (finish free n (reach s none)) q → (height s ≤ q.depth) × (1 ≤ q.steps)
        go (stops p) g = omega (arith, g)
        go (goes p t) g = omega (arith, g)
        go (opens p t p' u) g = omega (arith, g)

    -- what a way from s costs is within the figures
    way-within : {m : Move} {t : State} → Transition (act c) s m t → (m.price.cycles ≤ q.cycles) × (m.price.words ≤ q.words)
    unfolding merged jump in-cycles in_words
    way-within {m} {t} w =
        let x = way-comes (act c) (pass c forward closed s) s.at s (start-slot (act c) (pass c forward closed s)) w in
        let k = spent-within (act c) (pass c forward closed s) q e in-cycles t.at _ x in
        let l = spent-within (act c) (pass c forward closed s) q e in_words t.at _ x in
        omega arith

    -- the sweep goes on with the ways of the step
    goes-on-with : (n : Next) → act c s ≡ done n → sweep (act c) (end c - s.at) (suc s.at) (send free n (only s)) (finish free n (reach s none)) ≡ accepted q
    unfolding merged sweep visit carry jump
    goes-on-with n f =
        let g = ap (visit (act c) (sweep (act c) (end c - s.at) (suc s.at)) s.at (only s) none) (only-slot s) in
        let h = ap (carry (sweep (act c) (end c - s.at) (suc s.at)) s.at (only s) none s free) f in
        sym h ∙ sym g ∙ e

    -- a way to t, among those that the sweep goes on with
    leaves : (t : State) (p : Price) (tab : Table) → Onward s.at (end c) t → Tables p (only t) tab → (p.cycles ≤ q.cycles) × (p.words ≤ q.words) →
        sweep (act c) (end c - s.at) (suc s.at) tab (reach s none) ≡ accepted q → Leaves c (merged c) q p t
    unfolding merged
    leaves t p tab o h k f =
        let n = end c - s.at in
        let above : s.at < t.at = o.above in
        let inside : t.at ≤ end c = o.inside in
        let (r, b, l) = through c p 1 q (compare c p 1 n (suc s.at) (only t) tab none (reach s none) h (less-begun p s)) f in
        record {
          fresh = r;
          accepts = sym (skip (act c) t n (span c t) (suc s.at) none (omega arith) above) ∙ b;
          cycles = omega (arith, l, k);
          words = omega (arith, l, k);
          depth = omega (arith, l);
          steps = omega (arith, l);
        }

    each_way : (n : Next) → act c s ≡ done n → Leads (Onward s.at (end c)) n → NoGreater (finish free n (reach s none)) q →
        sweep (act c) (end c - s.at) (suc s.at) (send free n (only s)) (finish free n (reach s none)) ≡ accepted q → Ways c (merged c) q (done n)
    unfolding send finish reach
    each_way (stops p) h l g f = stopping {p = p} (omega (arith, g)) (omega (arith, g))
    each_way (goes p t) h (goes_to o) g f = going (leaves t p _ o (here c t p (only s)) (way-within (goes_on h)) f)
    each_way (opens p t p' u) h (opens-to o o') g f =
        opening
        (leaves t p _ o (here c t p (arrive (arrival u (sum free p')) (only s))) (way-within (not_taken h)) f)
        (leaves u p' _ o' (arrive-up p' _ (here c u p' (only s))) (way-within (taken h)) f)

    ways : Ways c (merged c) q (act c s)
    ways = let (n, f, g) = began in subst (Ways c (merged c) q) (sym f) (each_way n f (step-onward c forward closed unknown s n f) g (goes-on-with n f))

  pub stepwise : Stepwise c (merged c)
  stepwise = record { monotone = monotone c; root = root; ways = λ s q r e. ways s q e }

  -- demand 3
  pub interruptible : Interruptible c (merged c)
  interruptible = stepwise-interruptible c (merged c) stepwise
