-- The bound of a plain state is the run, where no primitive is called. Assumes nothing.
use mathlib.Core.Path.{◌≡◌, refl, sym, ◌∙◌, ap}
use mathlib.Core.Bool.{false}
use mathlib.Core.List.{List, []}
use Prim.Native.Nat.{ℕ, zero, suc, ◌+◌, ◌≤◌, max}
use native.Mathlib.Omega.{arith}
use lib.IntN.{ℤ}
use Rattle.cells.specs.Try.{Try, stuck, done}
use Rattle.cells.specs.Cells.{unknown}
use Rattle.machine.specs.Machine.{State, Price, Next, stops, goes, opens, Code, height, step}
use Rattle.bound_theory.specs.Tree.{Decision, Report, Verdict, accepted, refused, opening_limit, tree, report, verdict, explore, bound}
use Rattle.bound_theory.specs.Run.{Run, begin, leads, after, judge_run}
use Rattle.bound_theory.proofs.TreeLaws.{tree-root, accepted-complete, complete-accepted}
use Rattle.bound_theory.proofs.PromiseLaws.{fuel-irrelevant}
use Rattle.bound_theory.proofs.ExploreLaws.{before, explore-spent, explore-stuck, explore-stops, explore-goes}
use Rattle.narrowing_theory.specs.Promises.{Plain, LargerBudget, BoundIsRun}
use Rattle.narrowing_theory.proofs.PlainLaws.{OneWay, is_stuck, is_stop, goes_on, plain_step}
use Rattle.narrowing_theory.proofs.RunLaws.{gone, left-none, left-stuck, left-stops, left-goes, once-goes, Uncalled, later, same_step, from_start}

-- what a run has spent, before what is bounded from its state
unfoldable spent-before : Run → Verdict → Verdict
spent-before r (refused x) = refused x
spent-before r (accepted q) = accepted (record { cycles = r.cycles + q.cycles; words = r.words + q.words; depth = max r.depth q.depth; steps = r.steps + q.steps; path = q.path })

pub same-report : {c c' w w' d d' n n' : ℕ} (ds : List Decision) → c ≡ c' → w ≡ w' → d ≡ d' → n ≡ n' →
    accepted (record { cycles = c; words = w; depth = d; steps = n; path = ds }) ≡ accepted (record { cycles = c'; words = w'; depth = d'; steps = n'; path = ds })
same-report ds e f g h = cc

module _ (c : Code) (o : ℕ) where
  -- the root's height is within the depth
  root : (b : ℕ) (s : State) (q : Report) → explore (step c unknown) o b s ≡ accepted q → height s ≤ q.depth
  unfolding explore verdict report
  root b s q e =
      let t = tree (step c unknown) b o s in
      let (w, le, f) = accepted-complete t b (report t) q e in
      rw (← f) (tree-root (step c unknown) b o s).0

  -- a step is spent by the run or comes before what follows
  moves : (r : Run) (p : Price) (t : State) (v : Verdict) → height r.state ≤ r.depth → ((q : Report) → v ≡ accepted q → height t ≤ q.depth) → spent-before r (before r.state p v) ≡ spent-before (gone c r p t) v
  unfolding spent-before before
  moves r p t (refused x) h k = refl
  moves r p t (accepted q) h k = let l = k q refl in same-report q.path (omega arith) (omega arith) (omega arith) (omega arith)

  follows : (b : ℕ) (r : Run) → r.stopped ≡ false → Plain r.state → height r.state ≤ r.depth → Uncalled c b r →
      spent-before r (explore (step c unknown) o b r.state) ≡ judge_run (r.steps + b) (after c b r)
  unfolding spent-before
  follows zero r g e h u = ap (spent-before r) (explore-spent (step c unknown) o r.state) ∙ sym (left-none c r g)
  follows (suc b) r g e h u = go (leads c r) refl (plain_step c r e) (follows b)
    where
      same : step c unknown r.state ≡ leads c r
      same = same_step c b r u

      go : (m : Try Next) → leads c r ≡ m → OneWay m →
          ((r : Run) → r.stopped ≡ false → Plain r.state → height r.state ≤ r.depth → Uncalled c b r → spent-before r (explore (step c unknown) o b r.state) ≡ judge_run (r.steps + b) (after c b r)) →
          spent-before r (explore (step c unknown) o (suc b) r.state) ≡ judge_run (r.steps + suc b) (after c (suc b) r)
      go stuck f is_stuck ih = ap (spent-before r) (explore-stuck (step c unknown) b o r.state (same ∙ f)) ∙ sym (left-stuck c r g b f)
      go (done (stops p)) f is_stop ih =
          ap (spent-before r) (explore-stops (step c unknown) b o r.state p (same ∙ f))
          ∙ same-report [] refl refl (omega arith) (omega arith) ∙ sym (left-stops c r g b p f)
      go (done (goes p t)) f (goes_on k) ih =
          ap (spent-before r) (explore-goes (step c unknown) b o r.state t p (same ∙ f))
          ∙ moves r p t (explore (step c unknown) o b t) h (root b t)
          ∙ ih (gone c r p t) refl k (omega arith) (later c b r (gone c r p t) (once-goes c r g p t f) u) ∙ sym (left-goes c r g b p t f)
      go (done (opens p s q t)) f x' ih = elim x' [ ]

-- nothing is spent at the start
begun : (s : State) (answers : List ℤ) (v : Verdict) → ((q : Report) → v ≡ accepted q → height s ≤ q.depth) → spent-before (begin s answers) v ≡ v
unfolding spent-before begin
begun s answers (refused x) h = refl
begun s answers (accepted q) h = let l = h q refl in same-report q.path (omega arith) (omega arith) (omega arith) (omega arith)

pub bound-is-run : BoundIsRun
unfolding bound begin
bound-is-run c budget s answers e u =
    sym (begun s answers (explore (step c unknown) opening_limit budget s) (root c opening_limit budget s))
    ∙ follows c opening_limit budget (begin s answers) refl e (omega arith) u
    ∙ from_start c budget s answers

-- ---- a larger BUDGET: the tree is complete within the smaller one

pub larger-budget : LargerBudget
unfolding bound explore verdict
larger-budget c budget larger le s q e =
    let t = tree (step c unknown) larger opening_limit s in
    let (w, fits, same) = accepted-complete t budget (report t) q (fuel-irrelevant c budget larger s le ∙ e) in
    complete-accepted t larger (report t) w (omega arith) ∙ ap accepted same
