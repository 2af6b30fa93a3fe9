-- Knowing more, and knowing all, of files. Assumes nothing.
use mathlib.Core.Path.{◌≡◌, refl, sym, ap, ◌∙◌}
use mathlib.Core.List.{List}
use Prim.Native.Nat.{ℕ, ◌≤◌}
use Rattle.refusals.specs.declared.Refusal.TheVariants.{Spent}
use Rattle.text.specs.Text.{lines}
use Rattle.bound_theory.specs.Tree.{Report, Verdict, accepted, refused, bound}
use Rattle.bound_theory.specs.Run.{run}
use Rattle.merge_theory.specs.Merge.{merged}
use Rattle.merge_theory.proofs.Theorems.{merged-monotone}
use Rattle.narrowing_theory.proofs.Theorems.{bound-monotone, larger-budget, bound-is-run, merged-is-run}
use Rattle.narrowing_theory.proofs.RunLaws.{run-pathless}
use Rattle.file_format.specs.Routine.{Routine, read_bound, read_run}
use Rattle.file_format.specs.Routine as readings
use Rattle.file_format.proofs.RowLaws.{read-passes, passes-read, run-passes}
use Rattle.file_format.proofs.BranchLaws.{passing-forward, passing-closed}
use Rattle.file_format.proofs.KnownLaws.{known_start}
use Rattle.report.specs.Report.{bound_text, run_text}
use Rattle.answers.specs.Answers.{memory_limit}
use Rattle.answers.proofs.AnswerLaws.{reading-passed}
use Rattle.report_theory.specs.Answers.{of_verdict, bound_routine, merge_routine, run_routine, bound_answer, merge_answer, run_answer}
use Rattle.report_theory.specs.Promises.{BoundReported, MergeReported}
use Rattle.report_theory.specs.Refined.{NarrowedTexts, RunsKnown, MonotoneReport, MonotoneMerge, KnownReport, KnownMerge}
use Rattle.report_theory.proofs.AnswerLaws.{reports-kept, merges-kept}
use Rattle.report_theory.proofs.KnownLaws.{plain-read}
use Rattle.answers.specs.Terms.{reported}

-- ---- a file that knows more

narrowed-bound : (x : Routine) (q : Report) → bound x.code x.budget x.start ≡ accepted q → NarrowedTexts bound_answer BoundReported (λ budget. x.budget ≤ budget) x q
unfolding bound_answer bound_routine of_verdict
narrowed-bound x q a text y reads h le n lent =
    let a' : bound y.code x.budget x.start ≡ accepted q = rw h.code a in
    let (r, b, k) = bound-monotone y.code y.budget x.start q (larger-budget y.code x.budget y.budget le x.start q a') y.start h.start in
    (bound_text y.tick r, r, reading-passed bound_routine (read_bound text) memory_limit n lent y reads ∙ ap (of_verdict (bound_text y.tick)) b, record { reads = reads; accepts = b; prints = refl }, k)

narrowed-merge : (x : Routine) (q : Report) → merged x.code x.start ≡ accepted q → NarrowedTexts merge_answer MergeReported (λ budget. Unit {0}) x q
unfolding merge_answer merge_routine of_verdict
narrowed-merge x q a text y reads h any n lent =
    let a' : merged y.code x.start ≡ accepted q = rw h.code a in
    let (r, b, le) = merged-monotone y.code x.start q a' y.start h.start in
    (bound_text y.tick r, r, reading-passed merge_routine (read_bound text) memory_limit n lent y reads ∙ ap (of_verdict (bound_text y.tick)) b, record { reads = reads; accepts = b; prints = refl }, le)

-- ---- a file that knows all

pub runs-known : RunsKnown
runs-known text x = (
  λ e. let (p, known, is, short) = run-passes text x e in (passes-read text p short ∙ ap readings.routine (sym is), rw is (known_start p known)),
  λ (e, plain). plain-read text x e plain,
)

-- the answer of the run, by its verdict
run-answered : (text : List ℕ) (x : Routine) (n : ℕ) (v : Verdict) → read_run text ≡ readings.routine x → memory_limit ≤ n → run x.code x.budget x.start x.answers ≡ v → run_answer text n ≡ of_verdict run_text v
unfolding run_answer run_routine
run-answered text x n v reads lent e = reading-passed run_routine (read_run text) memory_limit n lent x reads ∙ ap (of_verdict run_text) e

abbrev pub BoundsRefined : Type 0
BoundsRefined = (text : List ℕ) (n : ℕ) (bytes : List ℕ) → bound_answer text n ≡ reported bytes → MonotoneReport text bytes × KnownReport text bytes

abbrev pub MergesRefined : Type 0
MergesRefined = (text : List ℕ) (n : ℕ) (bytes : List ℕ) → merge_answer text n ≡ reported bytes → MonotoneMerge text bytes × KnownMerge text bytes

pub bounds-refined : BoundsRefined
unfolding of_verdict
bounds-refined text n bytes e =
    let (x, q, is, safe) = (reports-kept text n bytes e).0 in (
      (x, q, is, narrowed-bound x q is.accepts),
      (
        x,
        q,
        is,
        λ plain calls m lent.
            let ran : run x.code x.budget x.start x.answers ≡ accepted q = sym (bound-is-run x.code x.budget x.start x.answers plain calls) ∙ is.accepts in
            (run-answered text x m (accepted q) (plain-read text x is.reads plain) lent ran, run-pathless x.code x.budget x.start x.answers q ran),
      ),
    )

pub merges-refined : MergesRefined
unfolding of_verdict
merges-refined text n bytes e =
    let (x, q, is, safe) = (merges-kept text n bytes e).0 in
    let p = read-passes text x is.reads in
    let forward = rw (← p.1) at (passing-forward (lines text) p.0) in
    let closed = rw (← p.1) at (passing-closed (lines text) p.0) in (
      (x, q, is, narrowed-merge x q is.accepts),
      (
        x,
        q,
        is,
        λ plain calls m lent.
            let reads = plain-read text x is.reads plain in
            let same = merged-is-run x.code forward closed x.budget x.start x.answers plain calls in (
              λ le. run-answered text x m (accepted q) reads lent (same.0 q is.accepts le),
              λ lt. let (a, h) = same.1 q is.accepts lt in (a, run-answered text x m (refused (Spent a)) reads lent h),
            ),
      ),
    )
