-- The functions that users call, and what is promised of all of them, or of the answers of one next to those of another.
use Rattle.std.specs.Prelude.{◌≤◌, ◌<◌, ◌++◌, ◌⊎◌, ◌↔◌, ◌≡◌}
use Rattle.refusals.specs.Library.{ℕ, length, List}
use Rattle.answers.specs.Terms.{Answer, reported, refused, memory_limit, Refusal, BadName, lines}
use Rattle.refusals.specs.Refusals.{place}
use Rattle.answers.specs.Answers.{answer_of, report_length}
use Rattle.words_inverse.specs.Sections.{replaced, primitives_line}
use Rattle.generate_entry.specs.Answers.{generator_limit, generate_answer}
use Rattle.words_entry.specs.Answers.{conversion_limit, import_answer, export_answer}
use Rattle.words_entry.specs.Promises.{BeginsAtZero}
use Rattle.replay_entry.specs.Answers.{replay_answer}
use Rattle.nearest_entry.specs.Answers.{nearest_answer}
use Rattle.report_theory.specs.Answers.{bound_answer, merge_answer, run_answer}
use Rattle.report_theory.specs.Promises.{ExactReport, SafeReport, WithinReport, RunAccepted, ExactMerge, SafeMerge, AboveMerge}
use Rattle.report_theory.specs.Refined.{MonotoneReport, KnownReport, MonotoneMerge, KnownMerge}
use Rattle.preview_entry.specs.Answers.{preview_answer}
use Rattle.explain_entry.specs.Answers.{explanation_limit, explain_answer}
use Rattle.explain_merge_entry.specs.Answers.{explain_merge_answer}
use Rattle.decide_entry.specs.Answers.{decide_answer}
use Rattle.trace_entry.specs.Answers.{trace_memory, trace_answer}
use Rattle.split_entry.specs.Answers.{split_answer}
use Rattle.decide_split_entry.specs.Answers.{decide_split_answer}
use Rattle.c_answers.specs.Told.{AnswerTold}

pub data Function : Type 0 where
  bounding merging running previewing deciding tracing explaining explaining-merge splitting deciding-split importing exporting replaying seeking generating : Function

-- an entry point: what it is given, its answer where n bytes are lent, the bytes that are enough for what it reports, and the address that it is
-- given, which is 0 where it is given none
pub record EntryPoint : Type 1 where
  pub Given : Type 0
  pub answer : Given → ℕ → Answer
  pub enough : ℕ
  pub addressed : Given → ℕ

-- one that is given a text
abbrev pub on_text : (List ℕ → ℕ → Answer) → ℕ → EntryPoint
on_text answer enough = record { Given = List ℕ; answer = answer; enough = enough; addressed = λ text. 0 }

-- one that is given two texts, or words and the line of primitives
abbrev pub on_two : (List ℕ → List ℕ → ℕ → Answer) → ℕ → EntryPoint
on_two answer enough = record { Given = List ℕ × List ℕ; answer = λ given. answer given.0 given.1; enough = enough; addressed = λ given. 0 }

abbrev pub entry : Function → EntryPoint
entry bounding = on_text bound_answer memory_limit
entry merging = on_text merge_answer memory_limit
entry running = on_text run_answer memory_limit
entry previewing = record {
  Given = List ℕ × ℕ × List ℕ;
  answer = λ given. preview_answer given.0 given.1 given.2;
  enough = memory_limit;
  addressed = λ given. given.1;
}
entry deciding = on_text decide_answer memory_limit
entry tracing = on_text trace_answer trace_memory
entry explaining = on_text explain_answer explanation_limit
entry explaining-merge = on_text explain_merge_answer explanation_limit
entry splitting = on_two split_answer memory_limit
entry deciding-split = on_two decide_split_answer memory_limit
entry importing = on_two import_answer conversion_limit
entry exporting = on_text export_answer conversion_limit
entry replaying = on_two replay_answer memory_limit
entry seeking = on_text nearest_answer memory_limit
entry generating = record { Given = ℕ; answer = generate_answer; enough = generator_limit; addressed = λ seed. 0 }

-- lent report memory holds, after an accepted call, exactly the report and then its former bytes: what is reported always fits, and with fewer
-- bytes lent nothing is reported
abbrev pub ReportsFit : Type 0
ReportsFit =
    (f : Function) (given : (entry f).Given) (n : ℕ) (bytes : List ℕ) → (entry f).answer given n ≡ reported bytes →
    (1 ≤ length bytes) × (length bytes ≤ (entry f).enough) × ((entry f).enough ≤ n)

-- two answers of one function that give C one number are the same refusal, or reports of one length; an address has 32 bits
abbrev pub AnswersTold : Type 0
AnswersTold =
    (f : Function) (given given' : (entry f).Given) (n n' : ℕ) → (entry f).addressed given < 4294967296 → (entry f).addressed given' < 4294967296 →
    AnswerTold ((entry f).answer given n) ((entry f).answer given' n')

-- no place is above 62,000 but a preview's address: a line is 32,769 at most, the code and its targets are within 0 to 62,000, and a word's
-- index is 2,048 at most
abbrev pub PlacesSmall : Type 0
PlacesSmall =
    (f : Function) (given : (entry f).Given) (n : ℕ) (r : Refusal) → (entry f).answer given n ≡ refused r →
    (place r ≤ 62000) ⊎ (r ≡ BadName ((entry f).addressed given))

-- of the bytes of every report on a text
abbrev pub Reported : (List ℕ → ℕ → Answer) → (List ℕ → List ℕ → Type 0) → Type 0
Reported answers P = (text : List ℕ) (n : ℕ) (bytes : List ℕ) → answers text n ≡ reported bytes → P text bytes

-- demands 2 and 3, and document 02 §14, of the first bound
abbrev pub ReportsExact : Type 0
ReportsExact = Reported bound_answer ExactReport

abbrev pub ReportsSafe : Type 0
ReportsSafe = Reported bound_answer SafeReport

abbrev pub ReportsMonotone : Type 0
ReportsMonotone = Reported bound_answer MonotoneReport

abbrev pub ReportsKnown : Type 0
ReportsKnown = Reported bound_answer KnownReport

-- the same of the merging bound, and document 02 §9
abbrev pub MergesExact : Type 0
MergesExact = Reported merge_answer ExactMerge

abbrev pub MergesSafe : Type 0
MergesSafe = Reported merge_answer SafeMerge

abbrev pub MergesAbove : Type 0
MergesAbove = Reported merge_answer AboveMerge

abbrev pub MergesMonotone : Type 0
MergesMonotone = Reported merge_answer MonotoneMerge

abbrev pub MergesKnown : Type 0
MergesKnown = Reported merge_answer KnownMerge

-- the run of a file that fills in a bounded one is within its report, and is refused by neither 7 nor 9
abbrev pub RunsWithin : Type 0
RunsWithin = Reported run_answer WithinReport

abbrev pub RunsAccepted : Type 0
RunsAccepted = (text : List ℕ) (n : ℕ) → RunAccepted text n (report_length (answer_of (run_answer text n)))

-- "An import followed by a bound gives what the written file gives" (document 02 §2)
abbrev pub ImportsBound : Type 0
ImportsBound =
    (text words made : List ℕ) (n m k : ℕ) → BeginsAtZero text → export_answer text n ≡ reported words → import_answer words (primitives_line (lines text)) m ≡ reported made →
    (bound_answer (replaced (lines text) made) k ≡ bound_answer text k) × (run_answer (replaced (lines text) made) k ≡ run_answer text k) × (merge_answer (replaced (lines text) made) k ≡ merge_answer text k)

-- one answer is refused exactly where the other is, and as it is
abbrev pub AsRefused : Answer → Answer → Type 0
AsRefused a b = (r : Refusal) → (a ≡ refused r) ↔ (b ≡ refused r)

-- "A file that is refused to begin with is refused the same way here." (document 02 §13): the search refuses what the first bound refuses
abbrev pub RefusedAlike : Type 0
RefusedAlike = (text : List ℕ) (n : ℕ) → AsRefused (nearest_answer text n) (bound_answer text n)

-- where a decision is refused, the first bound refuses the text, and by the same refusal
abbrev pub DecisionRefused : Type 0
DecisionRefused = (text : List ℕ) (n : ℕ) (r : Refusal) → decide_answer text n ≡ refused r → bound_answer text n ≡ refused r

-- where enough is lent, an explanation is refused as the bound is, and begins with the bound's report
abbrev pub ExplainsBound : Type 0
ExplainsBound =
    (text : List ℕ) (n : ℕ) → explanation_limit ≤ n →
    AsRefused (explain_answer text n) (bound_answer text n)
    × ((bs : List ℕ) → explain_answer text n ≡ reported bs → (report : List ℕ) × (rest : List ℕ) × (bound_answer text n ≡ reported report) × (bs ≡ report ++ rest))

-- where enough is lent, a trace is refused exactly as the run is
abbrev pub TraceRefused : Type 0
TraceRefused = (text : List ℕ) (n : ℕ) → trace_memory ≤ n → AsRefused (trace_answer text n) (run_answer text n)
