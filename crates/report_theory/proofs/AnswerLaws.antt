-- The promises of the answers of the bound, of the merging bound and of the run, from the laws of the layers below. Assumes nothing.
use mathlib.Core.Path.{◌≡◌, refl, sym, ap, ◌∙◌}
use mathlib.Core.Bool.{true}
use mathlib.Core.List.{List, [], ◌∷◌}
use mathlib.Core.Logic.{inl, inr}
use Rattle.std.specs.Prelude.{Some as some}
use Prim.Native.Nat.{ℕ, ◌≤◌, ◌<◌}
use native.Mathlib.Omega.{arith}
use lib.Dec.{ltb}
use lib.ListN.{length}
use borrow.Author.Tests.{lt-ltb, le-ltb}
use Rattle.refusals.specs.declared.Refusal.{Refusal}
use Rattle.refusals.specs.Refusals.{place}
use Rattle.text.specs.Text.{Line, lines, all}
use Rattle.text.proofs.TextLaws.{Every, more}
use Rattle.machine.specs.Forward.{Forward}
use Rattle.machine.specs.Targets.{Closed}
use Rattle.bound_theory.specs.Tree.{Report, Verdict, opening_limit, bound}
use Rattle.bound_theory.specs.Tree as verdicts
use Rattle.bound_theory.specs.Run.{begin, after, run}
use Rattle.bound_theory.specs.Promises.{NoGreater, SinglePass}
use Rattle.bound_theory.proofs.PromiseLaws.{interruptible, bound-exact, run-within-bound}
use Rattle.bound_theory.proofs.PlaceLaws.{bound-place, run-place}
use Rattle.bound_theory.proofs.ForwardLaws.{forward-once}
use Rattle.merge_theory.specs.Merge.{merged}
use Rattle.merge_theory.specs.Ways.{table}
use Rattle.merge_theory.specs.Promises.{NotSmaller}
use Rattle.merge_theory.proofs.Theorems.{merged-interruptible, run-within-merged, merged-not-smaller, refused-for-size, merged-covers-paths, table-gathered, merged-exact}
use Rattle.merge_theory.proofs.FigureLaws.{merged-place}
use Rattle.narrowing_theory.proofs.RunLaws.{judged-figures}
use Rattle.file_format.specs.Layout.{body, lines_of_code}
use Rattle.file_format.specs.Routine.{Routine, Reading, routine_of, read_bound, read_run}
use Rattle.file_format.specs.Routine as readings
use Rattle.file_format.specs.Rows.{Passes}
use Rattle.file_format.proofs.RowLaws.{read-passes, run-passes}
use Rattle.file_format.proofs.RangeLaws.{tick-positive}
use Rattle.file_format.proofs.BranchLaws.{passing-forward, passing-closed}
use Rattle.file_format.proofs.PlaceLaws.{read-bound-place, read-run-place, confined, start_small}
use Rattle.file_format.proofs.SpellingLaws.{accepted-ascii}
use Rattle.file_format.proofs.AnswerLaws.{SameButAnswers, same-but-answers}
use Rattle.report.specs.Report.{bound_text, run_text}
use Rattle.report.proofs.ReportLaws.{share-nearest, bound-small, bound-fits, run_fits}
use Rattle.answers.specs.Answers.{reported, refused, memory_limit, lending, of_reading, answer_of, report_length}
use Rattle.answers.proofs.AnswerLaws.{never, from-reading, place-from, reading-passed}
use Rattle.report_theory.proofs.SizeLaws.{code-length, ticks, bound-limited, merged-limited, run-limited}
use Rattle.report_theory.specs.Answers.{of_verdict, bound_routine, merge_routine, run_routine, bound_answer, merge_answer, run_answer}
use Rattle.report_theory.specs.Promises.{BoundReported, MergeReported, NearestShare, WithinReport, RunAccepted, FilledIn, FilledCells, AnswersIrrelevant, PassingIsAscii, PassingIsSinglePass, SafeReport, SafeMerge, AboveMerge, ExactReport, ExactMerge}

-- ---- what a report comes from

record FromVerdict (text : Report → List ℕ) (v : Verdict) (bs : List ℕ) : Type 0 where
  report : Report
  accepts : v ≡ verdicts.accepted report
  prints : text report ≡ bs

from-verdict : (text : Report → List ℕ) (v : Verdict) (bs : List ℕ) → of_verdict text v ≡ reported bs → FromVerdict text v bs
unfolding of_verdict
from-verdict text (verdicts.accepted q) bs e = record { report = q; accepts = refl; prints = cc }
from-verdict text (verdicts.refused r) bs e = never r bs e

pub from-refused : (text : Report → List ℕ) (v : Verdict) (r : Refusal) → of_verdict text v ≡ refused r → v ≡ verdicts.refused r
unfolding of_verdict
from-refused text (verdicts.accepted q) r e = never r (text q) (sym e)
from-refused text (verdicts.refused x) r e = let h : x ≡ r = cc in ap verdicts.refused h

-- SHARE
nearest-share : (text : List ℕ) (x : Routine) → read_bound text ≡ readings.routine x → (q : Report) → NearestShare x q
nearest-share text x e q = let p = read-passes text x e in share-nearest x.tick q.cycles (rw p.1 (tick-positive p.0))

-- ---- demands 2 and 3

-- demands 2 and 3
abbrev pub ReportsKept : Type 0
ReportsKept = (text : List ℕ) (n : ℕ) (bytes : List ℕ) → bound_answer text n ≡ reported bytes → SafeReport text bytes × ExactReport text bytes

abbrev pub MergesKept : Type 0
MergesKept = (text : List ℕ) (n : ℕ) (bytes : List ℕ) → merge_answer text n ≡ reported bytes → SafeMerge text bytes × ExactMerge text bytes × AboveMerge text bytes

-- every run of a file that fills in a bounded one is accepted, and within its report
abbrev pub RunsKept : Type 0
RunsKept =
    ((text : List ℕ) (n : ℕ) (bytes : List ℕ) → run_answer text n ≡ reported bytes → WithinReport text bytes)
    × ((text : List ℕ) (n : ℕ) → RunAccepted text n (report_length (answer_of (run_answer text n))))

pub reports-kept : ReportsKept
unfolding bound_answer bound_routine bound
reports-kept text n bs e =
    let a = from-reading bound_routine (read_bound text) memory_limit n bs e in
    let x = a.routine in
    let v = from-verdict (bound_text x.tick) (bound x.code x.budget x.start) bs a.gives in
    let is : BoundReported text bs x v.report = record { reads = a.reads; accepts = v.accepts; prints = sym v.prints } in (
      (x, v.report, is, λ s h answers m. interruptible x.code opening_limit x.budget x.start v.report v.accepts s h answers m),
      (x, v.report, is, bound-exact x.code x.budget x.start v.report v.accepts, nearest-share text x a.reads v.report),
    )

pub merges-kept : MergesKept
unfolding merge_answer merge_routine bound_answer bound_routine
merges-kept text n bs e =
    let a = from-reading merge_routine (read_bound text) memory_limit n bs e in
    let x = a.routine in
    let v = from-verdict (bound_text x.tick) (merged x.code x.start) bs a.gives in
    let p = read-passes text x a.reads in
    let forward = rw (← p.1) at (passing-forward (lines text) p.0) in
    let closed = rw (← p.1) at (passing-closed (lines text) p.0) in
    let is : MergeReported text bs x v.report = record { reads = a.reads; accepts = v.accepts; prints = sym v.prints } in (
      (x, v.report, is, λ s h answers m. merged-interruptible x.code forward closed x.start v.report v.accepts s h answers m),
      (
        x,
        v.report,
        is,
        table x.code x.start,
        table-gathered x.code forward closed x.start,
        merged-exact x.code forward closed x.start v.report v.accepts,
        nearest-share text x a.reads v.report,
      ),
      (
        x,
        v.report,
        is,
        merged-covers-paths x.code forward closed x.start v.report v.accepts,
        λ m first f. beside x v.report a.reads forward closed v.accepts m first f,
        λ m r h f.
            refused-for-size x.code forward closed x.budget x.start v.report r v.accepts
            (from-refused (bound_text x.tick) (bound x.code x.budget x.start) r (sym (reading-passed bound_routine (read_bound text) memory_limit m h x a.reads) ∙ f)),
      ),
    )
  where
    -- the first bound of the same text
    beside : (x : Routine) (q : Report) → read_bound text ≡ readings.routine x → Forward x.code → Closed x.code → merged x.code x.start ≡ verdicts.accepted q →
        (m : ℕ) (first : List ℕ) → bound_answer text m ≡ reported first → (r : Report) × BoundReported text first x r × NotSmaller r q
    beside x q reads forward closed accepts m first f =
        let a = from-reading bound_routine (read_bound text) memory_limit m first f in
        let same : a.routine ≡ x = cc a.reads in
        let v = from-verdict (bound_text x.tick) (bound x.code x.budget x.start) first (ap bound_routine (sym same) ∙ a.gives) in
        (v.report, record { reads = reads; accepts = v.accepts; prints = sym v.prints }, merged-not-smaller x.code forward closed x.budget x.start v.report q v.accepts accepts)

-- ---- two files

run-single-pass : (text : List ℕ) (y : Routine) → read_run text ≡ readings.routine y → Forward y.code × Closed y.code
run-single-pass text y e = let p = run-passes text y e in rw p.2 (passing-forward (lines text) p.0, passing-closed (lines text) p.0)

-- the run of y under the bound of x
filled_in : (x y : Routine) (q : Report) → bound x.code x.budget x.start ≡ verdicts.accepted q → FilledIn y x →
    (r : Report) × (run y.code y.budget y.start y.answers ≡ verdicts.accepted r) × NoGreater r q
filled_in x y q a h =
    let a' : bound y.code y.budget x.start ≡ verdicts.accepted q = rw (h.code, h.budget) a in
    run-within-bound y.code y.budget x.start q a' y.start h.start y.answers

-- the run of y beside the merging bound of x, under any BUDGET
module _ (x y : Routine) (forward : Forward y.code) (closed : Closed y.code) (q : Report) (a : merged x.code x.start ≡ verdicts.accepted q) (h : FilledCells y x) where
  same_code : merged y.code x.start ≡ verdicts.accepted q
  same_code = rw h.code a

  merged-filled : q.steps ≤ y.budget → (r : Report) × (run y.code y.budget y.start y.answers ≡ verdicts.accepted r) × NoGreater r q
  merged-filled le = run-within-merged y.code forward closed x.start q same_code y.budget le y.start h.start y.answers

  merged-within : (r : Report) → run y.code y.budget y.start y.answers ≡ verdicts.accepted r → NoGreater r q
  unfolding run
  merged-within r e =
      let safe = merged-interruptible y.code forward closed x.start q same_code y.start h.start y.answers y.budget in
      let f = judged-figures y.budget (after y.code y.budget (begin y.start y.answers)) r e in
      record { cycles = omega (arith, safe.cycles, f); words = omega (arith, safe.words, f); depth = omega (arith, safe.depth, f); steps = omega (arith, safe.steps, f) }

pub runs-kept : RunsKept
unfolding run_answer run_routine of_reading of_verdict answer_of report_length
runs-kept = (within, accepts)
  where
    within : (text : List ℕ) (n : ℕ) (bytes : List ℕ) → run_answer text n ≡ reported bytes → WithinReport text bytes
    within text n bytes e =
        let a = from-reading run_routine (read_run text) memory_limit n bytes e in
        let y = a.routine in
        let v = from-verdict run_text (run y.code y.budget y.start y.answers) bytes a.gives in (
          y,
          v.report,
          record { reads = a.reads; accepts = v.accepts; prints = sym v.prints },
          λ x q b h. let (r, f, le) = filled_in x y q b h in let same : r ≡ v.report = cc v.accepts in rw same at le,
          λ x q b h. let (f, g) = run-single-pass text y a.reads in merged-within x y f g q b h v.report v.accepts,
        )

    accepts : (text : List ℕ) (n : ℕ) → RunAccepted text n (report_length (answer_of (run_answer text n)))
    accepts text n y e lent = (
      λ x q a h. let (r, b, le) = filled_in x y q a h in told (r, b),
      λ x q a h le. let (f, g) = run-single-pass text y e in let (r, b, l) = merged-filled x y f g q a h le in told (r, b),
    )
      where
        told : (r : Report) × (run y.code y.budget y.start y.answers ≡ verdicts.accepted r) → (m : ℕ) × (report_length (answer_of (run_answer text n)) ≡ some m)
        told (r, b) = (length (run_text r), rw (le-ltb n memory_limit lent, e, b) refl)

pub answers-irrelevant : AnswersIrrelevant
unfolding bound_answer merge_answer of_reading bound_routine merge_routine
answers-irrelevant text text' x x' e e' h k n =
    let p = (read-passes text x e).1 in
    let p' = (read-passes text' x' e').1 in
    let s : SameButAnswers x x' = rw (p, p') (same-but-answers (lines text) (lines text') h k) in
    (rw (e, e', s.0, s.1, s.2, s.3) refl, rw (e, e', s.1, s.2, s.3) refl)

-- ---- ASCII

every-all : (bs : List ℕ) → Every (λ b. b < 128) bs → all (λ b. ltb b 128) bs ≡ true
unfolding all
every-all [] h = refl
every-all (b ∷ bs) (more h hs) = rw (lt-ltb b 128 h) (every-all bs hs)

pub passing-is-ascii : PassingIsAscii
passing-is-ascii text x e = every-all text (accepted-ascii text (read-passes text x e).0)

-- ---- no jump backwards

passes-once : (ls : List Line) → Passes ls → Forward (routine_of ls).code × Closed (routine_of ls).code × SinglePass (routine_of ls).code (length (lines_of_code (body ls)))
passes-once ls p = let f = passing-forward ls p in (f, passing-closed ls p, rw (code-length ls) at (forward-once (routine_of ls).code f))

pub passing-is-single-pass : PassingIsSinglePass
passing-is-single-pass text x (inl e) = let p = read-passes text x e in rw p.1 (passes-once (lines text) p.0)
passing-is-single-pass text x (inr e) = let p = run-passes text x e in rw p.2 (passes-once (lines text) p.0)

-- ---- 128 bytes

-- a report has from 1 byte to the limit, and is given where the limit is lent, if that holds of what is printed for each routine that is read
module _ (print : Routine → Report → List ℕ) (verdict : Routine → Verdict) (m : Reading) where
  abbrev Sized : Type 0
  Sized = (x : Routine) (q : Report) → m ≡ readings.routine x → verdict x ≡ verdicts.accepted q → (1 ≤ length (print x q)) × (length (print x q) ≤ memory_limit)

  verdict-reported : Sized → (n : ℕ) (bs : List ℕ) → lending memory_limit n (of_reading (λ x. of_verdict (print x) (verdict x)) m) ≡ reported bs → (1 ≤ length bs) × (length bs ≤ memory_limit) × (memory_limit ≤ n)
  verdict-reported sized n bs e =
      let a = from-reading (λ x. of_verdict (print x) (verdict x)) m memory_limit n bs e in
      let v = from-verdict (print a.routine) (verdict a.routine) bs a.gives in
      let (least, fits) = sized a.routine v.report a.reads v.accepts in
      rw (← v.prints) (least, fits, a.lent)

bound_some : (tick : ℕ) (q : Report) → 1 ≤ length (bound_text tick q)
unfolding bound_text
bound_some tick q = omega arith

run-some : (q : Report) → 1 ≤ length (run_text q)
unfolding run_text
run-some q = omega arith

module _ (text : List ℕ) (n : ℕ) (bs : List ℕ) where
  pub bound-reported : bound_answer text n ≡ reported bs → (1 ≤ length bs) × (length bs ≤ memory_limit) × (memory_limit ≤ n)
  unfolding bound_answer bound_routine
  bound-reported =
      verdict-reported (λ x. bound_text x.tick) (λ x. bound x.code x.budget x.start) (read_bound text) (λ x q reads accepts.
      let p = read-passes text x reads in
      (bound_some x.tick q, bound-fits x.tick q (bound-small x.tick q (ticks text x p.0 p.1) (bound-limited text x p.0 p.1 q accepts)))) n bs

  pub merge-reported : merge_answer text n ≡ reported bs → (1 ≤ length bs) × (length bs ≤ memory_limit) × (memory_limit ≤ n)
  unfolding merge_answer merge_routine
  merge-reported =
      verdict-reported (λ x. bound_text x.tick) (λ x. merged x.code x.start) (read_bound text) (λ x q reads accepts.
      let p = read-passes text x reads in
      (bound_some x.tick q, bound-fits x.tick q (bound-small x.tick q (ticks text x p.0 p.1) (merged-limited text x p.0 p.1 q accepts)))) n bs

  pub run-reported : run_answer text n ≡ reported bs → (1 ≤ length bs) × (length bs ≤ memory_limit) × (memory_limit ≤ n)
  unfolding run_answer run_routine
  run-reported =
      verdict-reported (λ x. run_text) (λ x. run x.code x.budget x.start x.answers) (read_run text) (λ x q reads accepts.
      let p = run-passes text x reads in
      let s = bound-small x.tick q (ticks text x p.0 p.2) (run-limited text x p.0 p.2 q accepts) in
      (run-some q, run_fits q s.cycles s.words s.depth s.steps)) n bs

-- ---- places

module _ (text : List ℕ) (n : ℕ) (r : Refusal) where
  pub bound-refusal-place : bound_answer text n ≡ refused r → place r ≤ 62000
  unfolding bound_answer bound_routine
  bound-refusal-place =
      place-from 62000 bound_routine (read_bound text) memory_limit n r (λ r e. omega (arith, read-bound-place text r e)) (λ x e f.
      let (p, is, short) = read-passes text x e in
      let v = from-refused (bound_text x.tick) (bound x.code x.budget x.start) r f in
      bound-place 62000 x.code (rw is (confined (lines text) p)) x.budget x.start (rw is (start_small (lines text) p)) r v)

  pub merge-refusal-place : merge_answer text n ≡ refused r → place r ≤ 62000
  unfolding merge_answer merge_routine
  merge-refusal-place =
      place-from 62000 merge_routine (read_bound text) memory_limit n r (λ r e. omega (arith, read-bound-place text r e)) (λ x e f.
      let (p, is, short) = read-passes text x e in
      let v = from-refused (bound_text x.tick) (merged x.code x.start) r f in
      merged-place 62000 x.code (rw is (confined (lines text) p).past) x.start (rw is (start_small (lines text) p)) r v)

  pub run-refusal-place : run_answer text n ≡ refused r → place r ≤ 62000
  unfolding run_answer run_routine
  run-refusal-place =
      place-from 62000 run_routine (read_run text) memory_limit n r (λ r e. omega (arith, read-run-place text r e)) (λ x e f.
      let (p, known, is, short) = run-passes text x e in
      let v = from-refused run_text (run x.code x.budget x.start x.answers) r f in
      run-place 62000 x.code (rw is (confined (lines text) p)) x.budget x.start (rw is (start_small (lines text) p)) x.answers r v)
