-- When a call of the bound, of the merging bound and of the run is refused, by which number and at which place: refused in the listed cases
-- and in no other (demand 2). (document 01, Refusal table; document 02 §8 and §9)
use Rattle.std.specs.Prelude.{◌≤◌, ◌<◌, ◌∷◌, ◌↔◌, ◌≡◌, Err, None, Result, Some}
use Rattle.refusals.specs.Library.{ℕ, length, true, false, List}
use Rattle.bound_theory.specs.Terms.{Refusal, ReportMemory, TextLength, Stuck, Spent, number, place, opening_limit, Run, begin, after, run_is_stuck, unknown, step}
use Rattle.answers.specs.Terms.{Routine, refused, memory_limit, Line, lines}
use Rattle.bound_theory.specs.Traces.{Listed}
use Rattle.merge_theory.specs.Promises.{Decides}
use Rattle.file_format.specs.Rows.{refused_line}
use Rattle.file_format.specs.Routine.{routine_of, Check, bound_checks, run_checks, text_limit}
use Rattle.report_theory.specs.Answers.{bound_answer, merge_answer, run_answer}

-- "Checked in the order of the rows, each over the whole file, earliest line first": no row before refuses a line, and n is the earliest that
-- this one refuses
pub data FirstRow (ls : List Line) (r : Refusal) : List Check → Type 0 where
  this : {c : Check} {cs : List Check} {n : ℕ} → refused_line c.row ls ≡ Some n → r ≡ c.refusal n → FirstRow ls r (c ∷ cs)
  later : {c : Check} {cs : List Check} → refused_line c.row ls ≡ None → FirstRow ls r cs → FirstRow ls r (c ∷ cs)

-- the refusals of a call on a text with so many bytes lent: rows 10 and 1, then the rows given, then those of its routine
pub data ListedCase (rows : List Check) (Ends : Routine → Refusal → Type 0) (text : List ℕ) (lent : ℕ) (r : Refusal) : Type 0 where
  -- "report memory under 128 bytes"
  few_bytes : lent < memory_limit → r ≡ ReportMemory → ListedCase rows Ends text lent r
  -- "text over 32,768 bytes"
  long_text : memory_limit ≤ lent → text_limit < length text → r ≡ TextLength → ListedCase rows Ends text lent r
  -- rows 2 to 6 and 13, in the run 11 too
  row_refuses : memory_limit ≤ lent → length text ≤ text_limit → FirstRow (lines text) r rows → ListedCase rows Ends text lent r
  -- 7, 8, 9 and 14, where no row refuses a line
  ends : memory_limit ≤ lent → length text ≤ text_limit → ((x : Refusal) → FirstRow (lines text) x rows → ⊥) → Ends (routine_of (lines text)) r → ListedCase rows Ends text lent r

-- of the bound: "among 7, 8 and 9 the section on exploring decides"
abbrev pub BoundRefused : List ℕ → ℕ → Refusal → Type 0
BoundRefused = ListedCase bound_checks (λ x. Listed (step x.code unknown) opening_limit x.budget x.start)

-- of the merging bound: "the lowest address with a 14 or a 7 decides" (document 02 §9)
abbrev pub MergeRefused : List ℕ → ℕ → Refusal → Type 0
MergeRefused = ListedCase bound_checks (λ x. Decides x.code x.start)

-- the run of a routine after n steps
abbrev pub run_of : Routine → ℕ → Run
run_of x n = after x.code n (begin x.start x.answers)

-- of a run: 7 at a stuck step among the first BUDGET, 9 where BUDGET steps are made and STOP is none of them, at the "address of the first step
-- not made"
pub data RunEnds (x : Routine) (r : Refusal) : Type 0 where
  is_stuck : (k : ℕ) → k < x.budget → run_is_stuck x.code (run_of x k) ≡ true → r ≡ Stuck (run_of x k).state.at → RunEnds x r
  is_spent : (run_of x x.budget).steps ≡ x.budget → (run_of x x.budget).stopped ≡ false → r ≡ Spent (run_of x x.budget).state.at → RunEnds x r

abbrev pub RunRefused : List ℕ → ℕ → Refusal → Type 0
RunRefused = ListedCase run_checks RunEnds

-- a call is refused in the listed cases and in no other
abbrev pub AnswersListed : Type 0
AnswersListed =
    (text : List ℕ) (n : ℕ) (r : Refusal) →
    ((bound_answer text n ≡ refused r) ↔ BoundRefused text n r) × ((merge_answer text n ≡ refused r) ↔ MergeRefused text n r) × ((run_answer text n ≡ refused r) ↔ RunRefused text n r)

-- ---- as it is told

-- a refusal by the number n at the place a
abbrev pub Numbered : (Refusal → Type 0) → ℕ → ℕ → Type 0
Numbered P n a = (r : Refusal) × P r × (number r ≡ n) × (place r ≡ a)

-- the answer is one
abbrev pub Refuses : Result ℕ Refusal → ℕ → ℕ → Type 0
Refuses told = Numbered (λ r. told ≡ Err r)

-- refused in the listed cases and in no other: each case with its number and its place
abbrev pub ListedAlone : (ℕ → ℕ → Type 0) → (Refusal → Type 0) → Type 0
ListedAlone Told P = (n a : ℕ) → Told n a ↔ Numbered P n a
