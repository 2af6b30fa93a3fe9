-- What is promised of the bytes of a decision, from the laws of both bounds. Assumes nothing.
use Prim.Native.Nat.{ℕ, ◌≤◌}
use mathlib.Core.Path.{◌≡◌, refl, sym, ap}
use mathlib.Core.Bool.{Bool, true, false, cond}
use mathlib.Core.List.{List}
use mathlib.Core.Logic.{◌⊎◌, inl, inr}
use native.Mathlib.Omega.{arith}
use lib.ListN.{length}
use Rattle.refusals.specs.declared.Refusal.{Refusal}
use Rattle.refusals.specs.Refusals.{place}
use Rattle.text.specs.Text.{lines}
use Rattle.bound_theory.specs.Tree.{Report, Verdict, opening_limit, bound}
use Rattle.bound_theory.specs.Tree as verdicts
use Rattle.bound_theory.proofs.PromiseLaws.{interruptible, bound-exact}
use Rattle.bound_theory.proofs.PlaceLaws.{bound-place}
use Rattle.merge_theory.specs.Merge.{merged}
use Rattle.merge_theory.proofs.Theorems.{merged-interruptible, merged-exact}
use Rattle.file_format.specs.Routine.{Routine, read_bound}
use Rattle.file_format.proofs.RowLaws.{read-passes}
use Rattle.file_format.proofs.RangeLaws.{tick-small}
use Rattle.file_format.proofs.BranchLaws.{passing-forward, passing-closed}
use Rattle.file_format.proofs.PlaceLaws.{read-bound-place, confined, start_small}
use Rattle.report_theory.proofs.SizeLaws.{ticks, bound-limited, merged-limited}
use Rattle.report.proofs.ReportLaws.{bound-small}
use Rattle.answers.specs.Answers.{reported, refused, memory_limit}
use Rattle.answers.proofs.AnswerLaws.{never, from-reading, place-from}
use Rattle.decide_report.specs.declared.Source.{Source}
use Rattle.decide_report.specs.declared.Source.TheVariants.{First, Merging, Split}
use Rattle.decide_report.specs.Decision.{fits, over, undecided, decision_text}
use Rattle.decide_entry.specs.Answers.{for_size, by_merging, decided, decide_routine, decide_answer}
use Rattle.decide_entry.specs.Promises.{Gives, Decided, KeptRuns, KeepsTick, OverTick, UndecidedTick, DecisionsKept}
use Rattle.decide_report.proofs.DecisionLaws.{ruled-fits, ruled-over, ruled-undecided, says-ruling, decision-fits, decision-some}

-- ---- what a decision comes from

record From (x : Routine) (bs : List ℕ) : Type 0 where
  source : Source
  report : Report
  gives : Gives x source report
  prints : bs ≡ decision_text source x.tick report

module _ (x : Routine) where
  first : Verdict
  first = bound x.code x.budget x.start

  second : Verdict
  second = merged x.code x.start

  from-merging : (bs : List ℕ) (r : Refusal) → first ≡ verdicts.refused r → for_size r ≡ true → (v : Verdict) → second ≡ v → by_merging x.tick r v ≡ reported bs → From x bs
  unfolding by_merging Gives first second
  from-merging bs r e s (verdicts.accepted q) m h = record { source = Merging; report = q; gives = (r, e, s, m); prints = let k : decision_text Merging x.tick q ≡ bs = cc in sym k }
  from-merging bs r e s (verdicts.refused y) m h = never r bs h

  from-size : (bs : List ℕ) (r : Refusal) → first ≡ verdicts.refused r → (b : Bool) → for_size r ≡ b → cond b (by_merging x.tick r second) (refused r) ≡ reported bs → From x bs
  from-size bs r e true s h = from-merging bs r e s second refl h
  from-size bs r e false s h = never r bs h

  from_first : (bs : List ℕ) (v : Verdict) → first ≡ v → decided x.tick v second ≡ reported bs → From x bs
  unfolding decided Gives first
  from_first bs (verdicts.accepted q) e h = record { source = First; report = q; gives = e; prints = let k : decision_text First x.tick q ≡ bs = cc in sym k }
  from_first bs (verdicts.refused r) e h = from-size bs r e (for_size r) refl h

  from-decided : (bs : List ℕ) → decide_routine x ≡ reported bs → From x bs
  unfolding decide_routine first second
  from-decided bs h = from_first bs first refl h

  -- a refusal is the first bound's
  refused-merging : (r y : Refusal) (v : Verdict) → by_merging x.tick r v ≡ refused y → r ≡ y
  unfolding by_merging
  refused-merging r y (verdicts.accepted q) h = never y (decision_text Merging x.tick q) (sym h)
  refused-merging r y (verdicts.refused z) h = cc

  refused-size : (r y : Refusal) (b : Bool) → cond b (by_merging x.tick r second) (refused r) ≡ refused y → r ≡ y
  refused-size r y true h = refused-merging r y second h
  refused-size r y false h = cc

  refused-first : (y : Refusal) (v : Verdict) → decided x.tick v second ≡ refused y → v ≡ verdicts.refused y
  unfolding decided
  refused-first y (verdicts.accepted q) h = never y (decision_text First x.tick q) (sym h)
  refused-first y (verdicts.refused r) h = ap verdicts.refused (refused-size r y (for_size r) h)

  pub decided-refused : (y : Refusal) → decide_routine x ≡ refused y → bound x.code x.budget x.start ≡ verdicts.refused y
  unfolding decide_routine second
  decided-refused y h = refused-first y (bound x.code x.budget x.start) h

-- ---- the promises

module _ (text : List ℕ) (n : ℕ) (bs : List ℕ) (e : decide_answer text n ≡ reported bs) where
  record Of : Type 0 where
    x : Routine
    source : Source
    q : Report
    is : Decided text bs x source q
    lent : memory_limit ≤ n

  of : Of
  unfolding decide_answer
  of =
      let a = from-reading decide_routine (read_bound text) memory_limit n bs e in
      let d = from-decided a.routine bs a.gives in
      record { x = a.routine; source = d.source; q = d.report; is = record { reads = a.reads; gives = d.gives; prints = d.prints }; lent = a.lent }

  safe : (x : Routine) (source : Source) (q : Report) → Decided text bs x source q → q.cycles ≤ x.tick → KeptRuns x q
  unfolding Gives bound
  safe x First q is h s g answers m = let k = interruptible x.code opening_limit x.budget x.start q is.gives s g answers m in
      record { moves = k.moves; cycles = omega (arith, k.cycles); words = omega (arith, k.words); depth = k.depth; heights = k.heights; steps = k.steps; stops = k.stops }
  safe x Merging q is h s g answers m =
      let p = read-passes text x is.reads in
      let forward = rw (← p.1) at (passing-forward (lines text) p.0) in
      let closed = rw (← p.1) at (passing-closed (lines text) p.0) in
      let k = merged-interruptible x.code forward closed x.start q is.gives.3 s g answers m in
      record { moves = k.moves; cycles = omega (arith, k.cycles); words = omega (arith, k.words); depth = k.depth; heights = k.heights; steps = k.steps; stops = k.stops }
  safe x Split q is h s g answers m = absurd is.gives

  pub keeps : KeepsTick text bs
  keeps says =
      let d = of in
      let h = ruled-fits d.source d.x.tick d.q.cycles (says-ruling d.source d.x.tick d.q fits bs d.is.prints says) in
      (d.x, d.source, d.q, d.is, safe d.x d.source d.q d.is h)

  pub over-tick : OverTick text bs
  unfolding Gives
  over-tick says =
      let d = of in
      let h = ruled-over d.source d.x.tick d.q.cycles (says-ruling d.source d.x.tick d.q over bs d.is.prints says) in
      let is : Decided text bs d.x First d.q = rw h.0 at d.is in
      (d.x, d.q, d.q.cycles, is, (bound-exact d.x.code d.x.budget d.x.start d.q is.gives).cycles, h.1)

  -- it is never decided by cases
  by-merging : (x : Routine) (source : Source) (q : Report) → Decided text bs x source q → (source ≡ Merging) ⊎ (source ≡ Split) → source ≡ Merging
  unfolding Gives
  by-merging x source q is (inl e) = e
  by-merging x source q is (inr e) = let k : Decided text bs x Split q = rw e at is in absurd k.gives

  pub undecided-tick : UndecidedTick text bs
  unfolding Gives
  undecided-tick says =
      let d = of in
      let h = ruled-undecided d.source d.x.tick d.q.cycles (says-ruling d.source d.x.tick d.q undecided bs d.is.prints says) in
      let is : Decided text bs d.x Merging d.q = rw (by-merging d.x d.source d.q d.is h.0) at d.is in
      let p = read-passes text d.x is.reads in
      let forward = rw (← p.1) at (passing-forward (lines text) p.0) in
      let closed = rw (← p.1) at (passing-closed (lines text) p.0) in
      (d.x, d.q, d.q.cycles, is, (merged-exact d.x.code forward closed d.x.start d.q is.gives.3).cycles, h.1)

  -- ---- its size

  sized : (x : Routine) (source : Source) (q : Report) → Decided text bs x source q → length (decision_text source x.tick q) ≤ memory_limit
  unfolding Gives
  sized x First q is =
      let p = read-passes text x is.reads in
      decision-fits First x.tick q (rw p.1 (tick-small p.0)) (bound-small x.tick q (ticks text x p.0 p.1) (bound-limited text x p.0 p.1 q is.gives))
  sized x Merging q is =
      let p = read-passes text x is.reads in
      decision-fits Merging x.tick q (rw p.1 (tick-small p.0)) (bound-small x.tick q (ticks text x p.0 p.1) (merged-limited text x p.0 p.1 q is.gives.3))
  sized x Split q is = absurd is.gives

  pub decide-reported : (1 ≤ length bs) × (length bs ≤ memory_limit) × (memory_limit ≤ n)
  decide-reported =
      let d = of in
      let l = ap length d.is.prints in
      (omega (arith, l, decision-some d.source d.x.tick d.q), omega (arith, l, sized d.x d.source d.q d.is), d.lent)

-- ---- its refusals

pub decide-place : (text : List ℕ) (n : ℕ) (r : Refusal) → decide_answer text n ≡ refused r → place r ≤ 62000
unfolding decide_answer
decide-place text n r =
    place-from 62000 decide_routine (read_bound text) memory_limit n r (λ r e. omega (arith, read-bound-place text r e)) (λ x e f.
    let (p, is, short) = read-passes text x e in
    bound-place 62000 x.code (rw is (confined (lines text) p)) x.budget x.start (rw is (start_small (lines text) p)) r (decided-refused x r f))

pub decisions-kept : DecisionsKept
decisions-kept text n bs e = (keeps text n bs e, over-tick text n bs e, undecided-tick text n bs e)
