-- Where a run is refused, and by which number: a stuck run stays where it is, so the run that BUDGET steps leave tells. Assumes nothing.
use mathlib.Core.Path.{◌≡◌, refl, sym, ◌∙◌, ap}
use mathlib.Core.Bool.{Bool, true, false, true≢false}
use mathlib.Core.List.{List}
use Prim.Native.Nat.{ℕ, zero, suc, ◌≤◌, ◌<◌}
use native.Mathlib.Omega.{arith}
use lib.Dec.{ltb}
use lib.IntN.{ℤ}
use borrow.Author.Tests.{ltb-true, ltb-false, lt-ltb, le-ltb}
use Rattle.refusals.specs.declared.Refusal.TheVariants.{Stuck, Spent}
use Rattle.cells.specs.Try.{Try, stuck, done}
use Rattle.machine.specs.Machine.{State, Next, stops, goes, opens, Code}
use Rattle.bound_theory.specs.Tree.{Report, Verdict, accepted, refused}
use Rattle.bound_theory.specs.Run.{Run, begin, moved, leads, once, after, stuck_at, run_is_stuck, judge_run, run}
use Rattle.bound_theory.specs.Promises.{RunRefusedWhere}
use Rattle.bound_theory.proofs.RunLaws.{nothing-follows, after-still, stopped-verdict}

-- a stuck run is not moved, and has not stopped
stuck-moved : (r : Run) (rest : List ℤ) (b : Bool) (m : Try Next) → stuck_at b m ≡ true → (moved r rest b m ≡ r) × (b ≡ false)
unfolding stuck_at moved
stuck-moved r rest true m e = absurd (true≢false (sym e))
stuck-moved r rest false stuck e = (refl, refl)
stuck-moved r rest false (done (stops p)) e = absurd (true≢false (sym e))
stuck-moved r rest false (done (goes p t)) e = absurd (true≢false (sym e))
stuck-moved r rest false (done (opens p t q u)) e = (refl, refl)

module _ (c : Code) where
  stuck-once : (r : Run) → run_is_stuck c r ≡ true → (once c r ≡ r) × (r.stopped ≡ false)
  unfolding run_is_stuck once
  stuck-once r e = stuck-moved r _ r.stopped (leads c r) e

  -- what a step does to a run: nothing once it has stopped or is stuck, else one more step is made
  data Moved (r r' : Run) : Type 0 where
    has-stopped : r'.stopped ≡ true → r'.steps ≤ suc r.steps → Moved r r'
    was-stuck : run_is_stuck c r ≡ true → r' ≡ r → Moved r r'
    has-moved : r'.stopped ≡ false → r'.steps ≡ suc r.steps → Moved r r'

  by-step : (r : Run) (rest : List ℤ) (b : Bool) (m : Try Next) → r.stopped ≡ b → (stuck_at b m ≡ true → run_is_stuck c r ≡ true) → Moved r (moved r rest b m)
  unfolding moved stuck_at
  by-step r rest true m e h = has-stopped e (omega arith)
  by-step r rest false stuck e h = was-stuck (h refl) refl
  by-step r rest false (done (stops p)) e h = has-stopped refl (omega arith)
  by-step r rest false (done (goes p t)) e h = has-moved refl refl
  by-step r rest false (done (opens p t q u)) e h = was-stuck (h refl) refl

  one-step : (r : Run) → Moved r (once c r)
  unfolding once run_is_stuck
  one-step r = by-step r _ r.stopped (leads c r) refl (λ h. h)

  module _ (s : State) (answers : List ℤ) where
    abbrev runs : ℕ → Run
    runs n = after c n (begin s answers)

    -- after n steps: STOP is made, or all n steps are, or an earlier step is stuck
    data Progress (n : ℕ) : Type 0 where
      finished : (runs n).stopped ≡ true → (runs n).steps ≤ n → Progress n
      going_on : (runs n).stopped ≡ false → (runs n).steps ≡ n → Progress n
      stuck-since : (k : ℕ) → k < n → run_is_stuck c (runs k) ≡ true → runs n ≡ runs k → (runs k).steps ≡ k → Progress n

    moves-on : (n : ℕ) → (runs n).steps ≡ n → Moved (runs n) (runs (suc n)) → Progress (suc n)
    moves-on n k (has-stopped h le) = finished h (omega arith)
    moves-on n k (was-stuck h f) = stuck-since n (omega arith) h f k
    moves-on n k (has-moved h g) = going_on h (omega arith)

    progress : (n : ℕ) → Progress n
    unfolding after begin
    progress zero = going_on refl refl
    progress (suc n) = go (progress n)
      where
        go : Progress n → Progress (suc n)
        go (finished h le) =
            let f : runs (suc n) ≡ runs n = nothing-follows c 1 (runs n) h in
            finished (ap (λ r. r.stopped) f ∙ h) (let e = ap (λ r. r.steps) f in omega arith)
        go (going_on h k) = moves-on n k (one-step (runs n))
        go (stuck-since k lt h f st) = stuck-since k (omega arith) h (ap (once c) f ∙ (stuck-once (runs k) h).0) st

    steps-most : (n : ℕ) → (runs n).steps ≤ n
    steps-most n = go (progress n)
      where
        go : Progress n → (runs n).steps ≤ n
        go (finished h le) = le
        go (going_on h k) = omega arith
        go (stuck-since k lt h f st) = let e = ap (λ r. r.steps) f in omega arith

    -- a stuck run stays
    stays : (k : ℕ) → run_is_stuck c (runs k) ≡ true → (n : ℕ) → k ≤ n → runs n ≡ runs k
    stays k h n le = after-still c k n (begin s answers) le (stuck-once (runs k) h).0

-- ---- the verdict

pub judged-stuck : (budget : ℕ) (r : Run) → r.stopped ≡ false → r.steps < budget → judge_run budget r ≡ refused (Stuck r.state.at)
unfolding judge_run
judged-stuck budget r e h = rw (e, lt-ltb r.steps budget h) refl

pub judged-spent : (budget : ℕ) (r : Run) → r.stopped ≡ false → budget ≤ r.steps → judge_run budget r ≡ refused (Spent r.state.at)
unfolding judge_run
judged-spent budget r e h = rw (e, le-ltb r.steps budget h) refl

-- two verdicts that are not the same
apart : {A : Type 0} {v w x : Verdict} → v ≡ w → v ≡ x → (w ≡ x → ◌≡◌ {A = ℕ} 0 1) → A
apart e f h = let z = h (sym e ∙ f) in absurd (omega arith)

pub run-refused-where : RunRefusedWhere
unfolding run
run-refused-where c budget s answers = (λ a. (to-stuck a, from-stuck a), λ a. (to-spent a, from-spent a), (to-stopped, from-stopped))
  where
    last : Run
    last = after c budget (begin s answers)

    to-stuck : (a : ℕ) → judge_run budget last ≡ refused (Stuck a) → (k : ℕ) × (k < budget) × (run_is_stuck c (after c k (begin s answers)) ≡ true) × ((after c k (begin s answers)).state.at ≡ a)
    to-stuck a e = go (progress c s answers budget)
      where
        go : Progress c s answers budget → (k : ℕ) × (k < budget) × (run_is_stuck c (after c k (begin s answers)) ≡ true) × ((after c k (begin s answers)).state.at ≡ a)
        go (finished h le) = apart (stopped-verdict budget last h) e (λ f. cc)
        go (going_on h k) = apart (judged-spent budget last h (omega arith)) e (λ f. cc)
        go (stuck-since k lt h f st) =
            let r = after c k (begin s answers) in
            let g = judged-stuck budget r (stuck-once c r h).1 (omega arith) in
            let i : judge_run budget r ≡ refused (Stuck a) = ap (judge_run budget) (sym f) ∙ e in
            (k, lt, h, cc)

    from-stuck : (a : ℕ) → (k : ℕ) × (k < budget) × (run_is_stuck c (after c k (begin s answers)) ≡ true) × ((after c k (begin s answers)).state.at ≡ a) → judge_run budget last ≡ refused (Stuck a)
    from-stuck a (k, lt, h, e) =
        let r = after c k (begin s answers) in
        let l = steps-most c s answers k in
        ap (judge_run budget) (stays c s answers k h budget (omega arith)) ∙ judged-stuck budget r (stuck-once c r h).1 (omega arith) ∙ ap (λ x. refused (Stuck x)) e

    to-spent : (a : ℕ) → judge_run budget last ≡ refused (Spent a) → (last.steps ≡ budget) × (last.stopped ≡ false) × (last.state.at ≡ a)
    to-spent a e = go (progress c s answers budget)
      where
        go : Progress c s answers budget → (last.steps ≡ budget) × (last.stopped ≡ false) × (last.state.at ≡ a)
        go (finished h le) = apart (stopped-verdict budget last h) e (λ f. cc)
        go (going_on h k) = let g = judged-spent budget last h (omega arith) in (k, h, cc)
        go (stuck-since k lt h f st) =
            let r = after c k (begin s answers) in
            apart (judged-stuck budget r (stuck-once c r h).1 (omega arith)) (ap (judge_run budget) (sym f) ∙ e) (λ g. cc)

    from-spent : (a : ℕ) → (last.steps ≡ budget) × (last.stopped ≡ false) × (last.state.at ≡ a) → judge_run budget last ≡ refused (Spent a)
    from-spent a (k, h, e) = judged-spent budget last h (omega arith) ∙ ap (λ x. refused (Spent x)) e

    to-stopped : (q : Report) × (judge_run budget last ≡ accepted q) → last.stopped ≡ true
    to-stopped (q, e) = go last.stopped refl
      where
        go : (b : Bool) → last.stopped ≡ b → last.stopped ≡ true
        go true h = h
        go false h = less (ltb last.steps budget) refl
          where
            less : (b : Bool) → ltb last.steps budget ≡ b → last.stopped ≡ true
            less true g = apart (judged-stuck budget last h (ltb-true last.steps budget g)) e (λ f. cc)
            less false g = apart (judged-spent budget last h (ltb-false last.steps budget g)) e (λ f. cc)

    from-stopped : last.stopped ≡ true → (q : Report) × (judge_run budget last ≡ accepted q)
    from-stopped h = (_, stopped-verdict budget last h)
