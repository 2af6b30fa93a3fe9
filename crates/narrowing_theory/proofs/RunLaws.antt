-- What the verdict on a run is, by the step that the run is at; b is what is left of the budget. Assumes nothing.
use mathlib.Core.Path.{◌≡◌, refl, sym, ◌∙◌, ap}
use mathlib.Core.Bool.{Bool, true, false, cond}
use mathlib.Core.List.{List, []}
use Prim.Native.Nat.{ℕ, zero, suc, ◌+◌, ◌≤◌, ◌<◌, max}
use native.Mathlib.Omega.{arith}
use lib.IntN.{ℤ}
use Rattle.refusals.specs.declared.Refusal.{Refusal}
use Rattle.refusals.specs.declared.Refusal.TheVariants.{Stuck, Spent}
use Rattle.cells.specs.Try.{Try, stuck, done}
use Rattle.cells.specs.Cells.{unknown}
use Rattle.machine.specs.Machine.{State, Price, Next, stops, goes, opens, Code, height, step, takes_answer}
use Rattle.bound_theory.specs.Tree.{Report, Verdict, accepted, refused}
use Rattle.bound_theory.specs.Run.{Run, begin, answer, remaining, moved, leads, once, after, judge_run, run}
use Rattle.bound_theory.proofs.TreeLaws.{contradiction}
use Rattle.bound_theory.proofs.RunLaws.{nothing-follows, after-after, after-still, stopped-verdict}
use Rattle.bound_theory.proofs.RunVerdictLaws.{judged-stuck, judged-spent}
use Rattle.narrowing_theory.specs.Promises.{NoCall}
use Rattle.narrowing_theory.proofs.PlainLaws.{step_same}

-- the report on a run that makes STOP at the price p
abbrev pub stopped : Run → Price → Report
stopped r p = record { cycles = r.cycles + p.cycles; words = r.words + p.words; depth = r.depth; steps = suc r.steps; path = [] }

-- the run after a step to t at the price p
abbrev pub gone : Code → Run → Price → State → Run
gone c r p t = record {
  state = t;
  answers = remaining (takes_answer c r.state) r.answers;
  cycles = r.cycles + p.cycles;
  words = r.words + p.words;
  depth = max r.depth (height t);
  steps = suc r.steps;
  stopped = false;
}

module _ (c : Code) where
  -- one step first
  pub after-once : (n : ℕ) (r : Run) → after c (suc n) r ≡ after c n (once c r)
  unfolding after
  after-once n r = let e : suc n ≡ 1 + n = omega arith in ap (λ k. after c k r) e ∙ after-after c 1 n r

  module _ (r : Run) (going : r.stopped ≡ false) where
    -- the verdict on the run with b steps more
    abbrev pub left : ℕ → Verdict
    left b = judge_run (r.steps + b) (after c b r)

    once_is : (m : Try Next) → leads c r ≡ m → once c r ≡ moved r (remaining (takes_answer c r.state) r.answers) false m
    unfolding once
    once_is m e =
        ap (λ b. moved r (remaining (takes_answer c r.state) r.answers) b (leads c r)) going
        ∙ ap (moved r (remaining (takes_answer c r.state) r.answers) false) e

    pub left-none : left 0 ≡ refused (Spent r.state.at)
    unfolding after
    left-none = judged-spent (r.steps + 0) r going (omega arith)

    pub left-stuck : (b : ℕ) → leads c r ≡ stuck → left (suc b) ≡ refused (Stuck r.state.at)
    unfolding after moved
    left-stuck b e = ap (judge_run (r.steps + suc b)) (after-still c 0 (suc b) r (omega arith) (once_is stuck e)) ∙ judged-stuck (r.steps + suc b) r going (omega arith)

    pub left-stops : (b : ℕ) (p : Price) → leads c r ≡ done (stops p) → left (suc b) ≡ accepted (stopped r p)
    unfolding moved
    left-stops b p e =
        let f = once_is (done (stops p)) e in
        ap (judge_run (r.steps + suc b)) (after-once b r ∙ ap (after c b) f ∙ nothing-follows c b _ refl) ∙ stopped-verdict (r.steps + suc b) _ refl

    pub once-goes : (p : Price) (t : State) → leads c r ≡ done (goes p t) → once c r ≡ gone c r p t
    unfolding moved
    once-goes p t e = once_is (done (goes p t)) e

    pub left-goes : (b : ℕ) (p : Price) (t : State) → leads c r ≡ done (goes p t) → left (suc b) ≡ judge_run (suc r.steps + b) (after c b (gone c r p t))
    left-goes b p t e =
        let f : r.steps + suc b ≡ suc r.steps + b = omega arith in
        ap (λ k. judge_run k (after c (suc b) r)) f ∙ ap (judge_run (suc r.steps + b)) (after-once b r ∙ ap (after c b) (once-goes p t e))

  -- no primitive is called by the next n steps
  abbrev pub Uncalled : ℕ → Run → Type 0
  Uncalled n r = (k : ℕ) → k < n → NoCall c (after c k r).state

  pub later : (n : ℕ) (r r' : Run) → once c r ≡ r' → Uncalled (suc n) r → Uncalled n r'
  later n r r' e h k lt = let f : after c (suc k) r ≡ after c k r' = after-once k r ∙ ap (after c k) e in rw f at (h (suc k) (omega arith))

  -- the bound's step and the run's are the same
  pub same_step : (n : ℕ) (r : Run) → Uncalled (suc n) r → step c unknown r.state ≡ leads c r
  unfolding leads after
  same_step n r h = step_same c unknown (answer r.answers) r.state (h 0 (omega arith))

  -- the run of a file
  pub from_start : (budget : ℕ) (s : State) (answers : List ℤ) → judge_run ((begin s answers).steps + budget) (after c budget (begin s answers)) ≡ run c budget s answers
  unfolding run begin
  from_start budget s answers = let e : 0 + budget ≡ budget = omega arith in ap (λ k. judge_run k (after c budget (begin s answers))) e

-- ---- the figures of a run that is accepted

pub judged-figures : (budget : ℕ) (r : Run) (q : Report) → judge_run budget r ≡ accepted q → (r.cycles ≡ q.cycles) × (r.words ≡ q.words) × (r.depth ≡ q.depth) × (r.steps ≡ q.steps)
unfolding judge_run
judged-figures budget r q = by r.stopped _
  where
    by : (b : Bool) (x : Refusal) → cond b (accepted (record { cycles = r.cycles; words = r.words; depth = r.depth; steps = r.steps; path = [] })) (refused x) ≡ accepted q →
        (r.cycles ≡ q.cycles) × (r.words ≡ q.words) × (r.depth ≡ q.depth) × (r.steps ≡ q.steps)
    by true x e = (cc, cc, cc, cc)
    by false x e = contradiction x q e

moved-steps : (r : Run) (rest : List ℤ) (b : Bool) (m : Try Next) → (moved r rest b m).steps ≤ suc r.steps
unfolding moved
moved-steps r rest true m = omega arith
moved-steps r rest false stuck = omega arith
moved-steps r rest false (done (stops p)) = omega arith
moved-steps r rest false (done (goes p t)) = omega arith
moved-steps r rest false (done (opens p t q u)) = omega arith

after-steps : (c : Code) (n : ℕ) (r : Run) → (after c n r).steps ≤ r.steps + n
unfolding after once
after-steps c zero r = omega arith
after-steps c (suc n) r =
    let x = after c n r in
    let h = moved-steps x (remaining (takes_answer c x.state) x.answers) x.stopped (leads c x) in
    omega (arith, h, after-steps c n r)

-- its steps are within BUDGET
pub run-steps : (c : Code) (budget : ℕ) (s : State) (answers : List ℤ) (q : Report) → run c budget s answers ≡ accepted q → q.steps ≤ budget
unfolding run begin
run-steps c budget s answers q e =
    let r = after c budget (begin s answers) in
    omega (arith, (judged-figures budget r q e).3, after-steps c budget (begin s answers))

-- a run has no path
pub run-pathless : (c : Code) (budget : ℕ) (s : State) (answers : List ℤ) (q : Report) → run c budget s answers ≡ accepted q → q.path ≡ []
unfolding run judge_run
run-pathless c budget s answers q e = go (after c budget (begin s answers)).stopped _ _ _ _ _ e
  where
    go : (b : Bool) (k w d n : ℕ) (x : Refusal) → cond b (accepted (record { cycles = k; words = w; depth = d; steps = n; path = [] })) (refused x) ≡ accepted q → q.path ≡ []
    go true k w d n x e = let h : record { cycles = k; words = w; depth = d; steps = n; path = [] } ≡ q = cc in ap (λ r. r.path) (sym h)
    go false k w d n x e = contradiction x q e
