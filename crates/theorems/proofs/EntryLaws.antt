-- What holds of all entry points, and of one beside another. Assumes nothing.
use Prim.Native.Nat.{ℕ}
use mathlib.Core.Path.{◌≡◌, refl, sym, ap, ◌∙◌}
use mathlib.Core.Bool.{Bool, true, false, cond}
use mathlib.Core.List.{List, ◌++◌, append_assoc}
use mathlib.Core.Logic.{◌↔◌, inl}
use native.Mathlib.Omega.{arith}
use lib.Dec.{ltb}
use Rattle.refusals.specs.declared.Refusal.{Refusal}
use Rattle.refusals.specs.declared.Refusal.TheVariants.{ReportMemory}
use Rattle.text.specs.Text.{lines, Line}
use Rattle.bound_theory.specs.Run.{run}
use Rattle.bound_theory.specs.Tree.{accepted, refused, bound}
use Rattle.bound_theory.specs.Tree as bounds
use Rattle.file_format.specs.Layout.{body}
use Rattle.file_format.specs.Routine.{read_bound, read_run}
use Rattle.file_format.specs.Routine as readings
use Rattle.report.specs.Report.{bound_text, run_text}
use Rattle.answers.specs.Answers.{Answer, reported, memory_limit, of_reading}
use Rattle.answers.specs.Answers as answers
use Rattle.answers.proofs.AnswerLaws.{lent-enough, never}
use Rattle.report_theory.specs.Answers.{of_verdict, bound_routine, run_routine, bound_answer, run_answer}
use Rattle.report_theory.proofs.AnswerLaws.{bound-reported, merge-reported, run-reported, bound-refusal-place, merge-refusal-place, run-refusal-place}
use Rattle.preview_entry.proofs.PreviewLaws.{preview-reported, preview-place}
use Rattle.words_entry.specs.Answers.{conversion_limit}
use Rattle.words_entry.proofs.FunctionLaws.{import-reported, import-place, export-reported, export-place}
use Rattle.replay_entry.proofs.FunctionLaws.{replay-reported, replay-place}
use Rattle.explain_lines.specs.Listing.{shown_lines, listing}
use Rattle.explain_entry.specs.Answers.{explanation_limit, worst_moves, entry_names, explanation_text, explained, explain_routine, explain_answer}
use Rattle.explain_entry.proofs.Theorems.{explanations-fit, explain-place}
use Rattle.explain_merge_entry.proofs.Theorems.{merge-explanations-fit, explain-merge-place}
use Rattle.split_entry.proofs.Theorems.{splits-fit, split_places}
use Rattle.nearest_entry.proofs.FunctionLaws.{nearest-reported, nearest-place}
use Rattle.generate_entry.specs.Answers.{generator_limit}
use Rattle.generate_entry.proofs.FunctionLaws.{generate-reported, generate-place}
use Rattle.decide_entry.specs.Answers.{decide_routine, decide_answer}
use Rattle.decide_entry.proofs.PromiseLaws.{decided-refused, decide-reported, decide-place}
use Rattle.decide_split_entry.proofs.FunctionLaws.{decide-split-reported}
use Rattle.decide_split_entry.proofs.Theorems.{decide-split-place}
use Rattle.trace_theory.specs.Trace.{trace, trace_text}
use Rattle.trace_entry.specs.Answers.{trace_memory, of_run, trace_routine, trace_answer}
use Rattle.trace_entry.proofs.Theorems.{traces-fit, trace-place}
use Rattle.c_interface.proofs.FunctionLaws.{told, bound-limits, merge-limits, run-limits, import-limits, export-limits, replay-limits, preview-limits, nearest-limits, generate-limits, decide-limits, explain-limits, explain-merge-limits, split-limits, decide-split-limits, trace-limits}
use Rattle.theorems.specs.EntryPoints.{bounding, merging, running, previewing, deciding, tracing, explaining, explaining-merge, splitting, deciding-split, importing, exporting, replaying, seeking, generating, ReportsFit, PlacesSmall, AnswersTold, DecisionRefused, ExplainsBound, TraceRefused}

-- ---- every public function

pub reports-fit : ReportsFit
reports-fit bounding text n bs e = bound-reported text n bs e
reports-fit merging text n bs e = merge-reported text n bs e
reports-fit running text n bs e = run-reported text n bs e
reports-fit previewing (text, address, instruction) n bs e = preview-reported text instruction address n bs e
reports-fit deciding text n bs e = decide-reported text n bs e
reports-fit tracing text n bs e = traces-fit text n bs e
reports-fit explaining text n bs e = explanations-fit text n bs e
reports-fit explaining-merge text n bs e = merge-explanations-fit text n bs e
reports-fit splitting (text, cuts) n bs e = splits-fit text cuts n bs e
reports-fit deciding-split (text, cuts) n bs e = decide-split-reported text cuts n bs e
reports-fit importing (words, primitives) n bs e = import-reported words primitives n bs e
reports-fit exporting text n bs e = export-reported text n bs e
reports-fit replaying (text, trace) n bs e = replay-reported text trace n bs e
reports-fit seeking text n bs e = nearest-reported text n bs e
reports-fit generating seed n bs e = generate-reported seed n bs e

pub places-small : PlacesSmall
places-small bounding text n r e = inl (bound-refusal-place text n r e)
places-small merging text n r e = inl (merge-refusal-place text n r e)
places-small running text n r e = inl (run-refusal-place text n r e)
places-small previewing (text, address, instruction) n r e = preview-place text instruction address n r e
places-small deciding text n r e = inl (decide-place text n r e)
places-small tracing text n r e = inl (trace-place text n r e)
places-small explaining text n r e = inl (explain-place text n r e)
places-small explaining-merge text n r e = inl (explain-merge-place text n r e)
places-small splitting (text, cuts) n r e = inl (split_places text cuts n r e)
places-small deciding-split (text, cuts) n r e = inl (decide-split-place text cuts n r e)
places-small importing (words, primitives) n r e = inl (omega (arith, import-place words primitives n r e))
places-small exporting text n r e = inl (omega (arith, export-place text n r e))
places-small replaying (text, trace) n r e = inl (omega (arith, replay-place text trace n r e))
places-small seeking text n r e = inl (nearest-place text n r e)
places-small generating seed n r e = inl (omega (arith, generate-place seed n r e))

-- the number that C gets
pub answers-told : AnswersTold
answers-told bounding text text' n n' h h' = told memory_limit _ _ (bound-limits text n) (bound-limits text' n')
answers-told merging text text' n n' h h' = told memory_limit _ _ (merge-limits text n) (merge-limits text' n')
answers-told running text text' n n' h h' = told memory_limit _ _ (run-limits text n) (run-limits text' n')
answers-told previewing (text, address, instruction) (text', address', instruction') n n' h h' =
    told memory_limit _ _ (preview-limits text instruction address n h) (preview-limits text' instruction' address' n' h')
answers-told deciding text text' n n' h h' = told memory_limit _ _ (decide-limits text n) (decide-limits text' n')
answers-told tracing text text' n n' h h' = told trace_memory _ _ (trace-limits text n) (trace-limits text' n')
answers-told explaining text text' n n' h h' = told explanation_limit _ _ (explain-limits text n) (explain-limits text' n')
answers-told explaining-merge text text' n n' h h' = told explanation_limit _ _ (explain-merge-limits text n) (explain-merge-limits text' n')
answers-told splitting (text, cuts) (text', cuts') n n' h h' = told memory_limit _ _ (split-limits text cuts n) (split-limits text' cuts' n')
answers-told deciding-split (text, cuts) (text', cuts') n n' h h' = told memory_limit _ _ (decide-split-limits text cuts n) (decide-split-limits text' cuts' n')
answers-told importing (words, primitives) (words', primitives') n n' h h' = told conversion_limit _ _ (import-limits words primitives n) (import-limits words' primitives' n')
answers-told exporting text text' n n' h h' = told conversion_limit _ _ (export-limits text n) (export-limits text' n')
answers-told replaying (text, trace) (text', trace') n n' h h' = told memory_limit _ _ (replay-limits text trace n) (replay-limits text' trace' n')
answers-told seeking text text' n n' h h' = told memory_limit _ _ (nearest-limits text n) (nearest-limits text' n')
answers-told generating seed seed' n n' h h' = told generator_limit _ _ (generate-limits seed n) (generate-limits seed' n')

-- ---- the decision beside the first bound

pub decision-refused : DecisionRefused
unfolding decide_answer bound_answer of_reading bound_routine of_verdict
decision-refused text n r = go (ltb n memory_limit) (read_bound text)
  where
    go : (b : Bool) (m : readings.Reading) → cond b (answers.refused ReportMemory) (of_reading decide_routine m) ≡ answers.refused r → cond b (answers.refused ReportMemory) (of_reading bound_routine m) ≡ answers.refused r
    go true m e = e
    go false (readings.unread y) e = e
    go false (readings.routine x) e = ap (of_verdict (bound_text x.tick)) (decided-refused x r e)

-- ---- an explanation beside the bound

-- of a reading, by its cases
record Beside (a b : Answer) : Type 0 where
  refuses : (r : Refusal) → (a ≡ answers.refused r) ↔ (b ≡ answers.refused r)
  begins : (bs : List ℕ) → a ≡ reported bs → (report : List ℕ) × (rest : List ℕ) × (b ≡ reported report) × (bs ≡ report ++ rest)

verdict-beside : (ls : List Line) (x : readings.Routine) (v : bounds.Verdict) → Beside (explained ls x v) (of_verdict (bound_text x.tick) v)
unfolding explained of_verdict explanation_text
verdict-beside ls x (accepted q) = record {
  refuses = λ r. (λ e. never r _ (sym e), λ e. never r _ (sym e));
  begins = λ bs e.
      let f : explanation_text ls x q ≡ bs = cc in
      (bound_text x.tick q, entry_names ++ listing ls x.code.first (shown_lines (worst_moves x q)), refl, sym f ∙ append_assoc (bound_text x.tick q) entry_names (listing ls x.code.first (shown_lines (worst_moves x q))));
}
verdict-beside ls x (refused y) = record { refuses = λ r. (λ e. e, λ e. e); begins = λ bs e. never y bs e }

reading-beside : (ls : List Line) (m : readings.Reading) → Beside (of_reading (explain_routine ls) m) (of_reading bound_routine m)
unfolding of_reading explain_routine bound_routine
reading-beside ls (readings.unread y) = record { refuses = λ r. (λ e. e, λ e. e); begins = λ bs e. never y bs e }
reading-beside ls (readings.routine x) = verdict-beside ls x (bound x.code x.budget x.start)

pub explains-bound : ExplainsBound
unfolding explain_answer bound_answer
explains-bound text n h =
    let a = lent-enough explanation_limit n (of_reading (explain_routine (body (lines text))) (read_bound text)) h in
    let b = lent-enough memory_limit n (of_reading bound_routine (read_bound text)) (omega arith) in
    let k = reading-beside (body (lines text)) (read_bound text) in
    rw (a, b) (k.refuses, k.begins)

-- ---- a trace beside the run

verdict-refused : (made : List ℕ) (v : bounds.Verdict) (r : Refusal) → (of_run made v ≡ answers.refused r) ↔ (of_verdict run_text v ≡ answers.refused r)
unfolding of_run of_verdict
verdict-refused made (accepted q) r = (λ e. never r _ (sym e), λ e. never r _ (sym e))
verdict-refused made (refused y) r = (λ e. e, λ e. e)

reading-refused-too : (m : readings.Reading) (r : Refusal) → (of_reading trace_routine m ≡ answers.refused r) ↔ (of_reading run_routine m ≡ answers.refused r)
unfolding of_reading trace_routine run_routine
reading-refused-too (readings.unread y) r = (λ e. e, λ e. e)
reading-refused-too (readings.routine x) r = verdict-refused (trace_text (trace x.code x.budget x.start x.answers)) (run x.code x.budget x.start x.answers) r

pub trace-refused : TraceRefused
unfolding trace_answer run_answer
trace-refused text n h r =
    let a = lent-enough trace_memory n (of_reading trace_routine (read_run text)) h in
    let b = lent-enough memory_limit n (of_reading run_routine (read_run text)) (omega arith) in
    rw (a, b) (reading-refused-too (read_run text) r)
