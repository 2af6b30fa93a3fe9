-- The statements of `specs/Promises`, each proved by its name. Assumes nothing.
use Rattle.std.specs.Prelude.{Err, Ok, Result, ⊤}
use Prim.Native.Nat.{ℕ, ◌≤◌}
use mathlib.Core.Path.{◌≡◌, refl, sym, ap, ◌∙◌}
use mathlib.Core.Bool.{Bool, true, false, cond}
use mathlib.Core.List.{List}
use lib.Dec.{ltb}
use borrow.Author.Tests.{ltb-true, ltb-false}
use Rattle.refusals.specs.declared.Refusal.TheVariants.{ReportMemory}
use Rattle.text.specs.Text.{lines}
use Rattle.bound_theory.specs.Tree.{Report, accepted}
use Rattle.bound_theory.specs.Tree as verdicts
use Rattle.bound_theory.specs.Promises.{NoGreater}
use Rattle.file_format.specs.Routine.{Routine, Reading, read_bound}
use Rattle.file_format.specs.Routine as readings
use Rattle.file_format.proofs.RowLaws.{read-passes}
use Rattle.file_format.proofs.RangeLaws.{tick-positive}
use Rattle.file_format.proofs.BranchLaws.{passing-forward, passing-closed}
use Rattle.report.specs.Report.{bound_text}
use Rattle.report.proofs.ReportLaws.{share-nearest}
use Rattle.answers.specs.Answers.{reported, refused, memory_limit, of_reading}
use Rattle.report_theory.specs.Answers.{of_verdict, merge_answer}
use Rattle.report_theory.specs.Promises.{MergeReported}
use Rattle.report_theory.proofs.AnswerLaws.{merges-kept, merge-reported, from-refused}
use Rattle.split_theory.specs.Split.{split}
use Rattle.split_theory.proofs.Theorems.{split-interruptible, split-exact, split-cases, split-not-above, split-among, split-monotone, split-refused}
use Rattle.split_cuts.specs.Cuts.{cuts_of}
use Rattle.split_entry.specs.Answers.{cuts_checked, checked, cases_routine, split_routine, split_answer}
use Rattle.split_entry.specs.Promises.{SplitReported, by_memory, by_file, by_cuts, by_case, SplitRefusal, SplitsKept, SplitAccepted, SplitsRefused}
use Rattle.split_entry.proofs.FunctionLaws.{cuts-passed, split-passed, from-split, split-reported, split-refusal-place}
use Rattle.split_entry.proofs.NameLaws.{cuts-alike}
use Rattle.refusals.specs.Library.{length}
use Rattle.bound_theory.specs.Terms.{Refusal, place}

-- a report of a routine under cuts that pass
answers : (text cuts : List ℕ) (x : Routine) → read_bound text ≡ readings.routine x → cuts_checked text cuts ≡ Ok tt → (r : Report) → split x.code (cuts_of cuts) x.start ≡ accepted r →
    (n : ℕ) → memory_limit ≤ n → split_answer text cuts n ≡ reported (bound_text x.tick r)
unfolding cases_routine of_verdict
answers text cuts x reads passes r a n h =
    split-passed text cuts n h x reads ∙ cuts-passed text cuts x passes ∙ ap (of_verdict (bound_text x.tick)) a

pub splits-kept : SplitsKept
splits-kept text cuts n bytes e =
    let a = from-split text cuts n bytes e in
    let x = a.routine in
    let g = a.gives in
    let q = g.report in
    let p = read-passes text x a.reads in
    let forward = rw (← p.1) at (passing-forward (lines text) p.0) in
    let closed = rw (← p.1) at (passing-closed (lines text) p.0) in
    let is : SplitReported text cuts bytes x q = record { reads = a.reads; passes = a.passes; accepts = g.accepts; prints = g.prints } in (
      (x, q, is, λ s h answers m. split-interruptible x.code forward closed (cuts_of cuts) x.start q g.accepts s h answers m),
      (
        x,
        q,
        is,
        split-exact x.code (cuts_of cuts) x.start q g.accepts,
        λ t h. split-cases (cuts_of cuts) x.start t h,
        share-nearest x.tick q.cycles (rw p.1 (tick-positive p.0)),
      ),
      (x, q, is, λ m other f. beside x q a.reads g.accepts m other f),
      (
        x,
        q,
        is,
        λ more passes among m h.
            let (r, b, le) = split-among x.code (cuts_of cuts) (cuts_of more) among x.start q g.accepts in
            (bound_text x.tick r, r, answers text more x a.reads passes r b m h, record { reads = a.reads; passes = passes; accepts = b; prints = refl }, le),
      ),
      (
        x,
        q,
        is,
        λ narrower y reads h any m l.
            let passes = cuts-alike narrower text y x reads a.reads h cuts ∙ a.passes in
            let a' : split y.code (cuts_of cuts) x.start ≡ accepted q = rw h.code g.accepts in
            let (r, b, le) = split-monotone y.code (cuts_of cuts) x.start q a' y.start h.start in
            (bound_text y.tick r, r, answers narrower cuts y reads passes r b m l, record { reads = reads; passes = passes; accepts = b; prints = refl }, le),
      ),
    )
  where
    -- the merging bound of the same text
    beside : (x : Routine) (q : Report) → read_bound text ≡ readings.routine x → split x.code (cuts_of cuts) x.start ≡ accepted q →
        (m : ℕ) (other : List ℕ) → merge_answer text m ≡ reported other → (r : Report) × MergeReported text other x r × NoGreater q r
    beside x q reads accepts m other f =
        let (y, r, is, safe) = (merges-kept text m other f).0 in
        let same : y ≡ x = cc is.reads in
        let is' : MergeReported text other x r = rw same at is in
        let (u, b, le) = split-not-above x.code (cuts_of cuts) x.start r is'.accepts in
        let one : u ≡ q = cc in
        (r, is', rw one at le)

pub split-accepted : SplitAccepted
split-accepted text cuts n other e passes =
    let (x, q, is, safe) = (merges-kept text n other e).0 in
    let (least, fits, lent) = merge-reported text n other e in
    let (r, b, le) = split-not-above x.code (cuts_of cuts) x.start q is.accepts in
    (bound_text x.tick r, answers text cuts x is.reads passes r b n lent)

pub splits-refused : SplitsRefused
unfolding split_answer of_reading split_routine checked cases_routine
splits-refused text cuts n r e = go (ltb n memory_limit) refl (read_bound text) refl e
  where
    routine : memory_limit ≤ n → (x : Routine) → read_bound text ≡ readings.routine x → (v : Result ⊤ Refusal) → cuts_checked text cuts ≡ v → checked v (cases_routine cuts x) ≡ refused r → SplitRefusal text cuts n r
    routine l x reads (Ok tt) h e =
        let (u, k, m) = split-refused x.code (cuts_of cuts) x.start r (from-refused (bound_text x.tick) (split x.code (cuts_of cuts) x.start) r e) in
        by_case l x reads h u k m
    routine l x reads (Err y) h e = let g : y ≡ r = cc in by_cuts l x reads (h ∙ ap Err g)

    go : (b : Bool) → ltb n memory_limit ≡ b → (m : Reading) → read_bound text ≡ m → cond b (refused ReportMemory) (of_reading (split_routine text cuts) m) ≡ refused r → SplitRefusal text cuts n r
    go true h m q e = let g : ReportMemory ≡ r = cc in by_memory (ltb-true n memory_limit h) (sym g)
    go false h (readings.unread y) q e = let g : y ≡ r = cc in by_file (ltb-false n memory_limit h) (q ∙ ap readings.unread g)
    go false h (readings.routine x) q e = routine (ltb-false n memory_limit h) x q (cuts_checked text cuts) refl e

-- a report has from 1 to 128 bytes, and no place is above 62,000
abbrev pub SplitsFit : Type 0
SplitsFit = (text cuts : List ℕ) (n : ℕ) (bytes : List ℕ) → split_answer text cuts n ≡ reported bytes → (1 ≤ length bytes) × (length bytes ≤ memory_limit) × (memory_limit ≤ n)

abbrev pub SplitPlaces : Type 0
SplitPlaces = (text cuts : List ℕ) (n : ℕ) (r : Refusal) → split_answer text cuts n ≡ refused r → place r ≤ 62000

pub splits-fit : SplitsFit
splits-fit text cuts n bytes e = split-reported text cuts n bytes e

pub split_places : SplitPlaces
split_places text cuts n r e = split-refusal-place text cuts n r e
