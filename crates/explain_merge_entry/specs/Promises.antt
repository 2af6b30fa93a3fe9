-- What an explanation of the merging bound says, as statements. `proofs/Theorems` proves each by its name.
use Rattle.std.specs.Prelude.{◌≤◌, ◌++◌, ◌↔◌, ◌≡◌}
use Rattle.refusals.specs.Library.{ℕ, List}
use Rattle.bound_theory.specs.Terms.{Report, accepted, Move, word_sum}
use Rattle.answers.specs.Terms.{body, Routine, routine, read_bound, reported, refused, Refusal, lines}
use Rattle.merge_theory.specs.Merge.{merged}
use Rattle.merge_way.specs.Promises.{Costliest}
use Rattle.report.specs.Report.{bound_text}
use Rattle.explain_lines.specs.Listing.{shown_lines, listing}
use Rattle.report_theory.specs.Answers.{merge_answer}
use Rattle.explain_entry.specs.Answers.{explanation_limit, entry_names}
use Rattle.explain_entry.specs.Promises.{last_cycles, last_words}
use Rattle.explain_merge_entry.specs.Answers.{explain_merge_answer}

-- the bytes that explain the merging bound of a text: of the routine x, which it accepts with the report q
pub record ExplainsMerge (text bs : List ℕ) (x : Routine) (q : Report) (moves : List Move) : Type 0 where
  pub reads : read_bound text ≡ routine x
  pub accepts : merged x.code x.start ≡ accepted q
  -- the moves are a costliest way through the merged states: its cost is CYCLES, before each move the sum so far is the largest of all
  -- ways to its address, and the addresses rise
  pub way : Costliest x.code x.start q moves
  -- and the bytes list them after the report, one line for each
  pub prints : bs ≡ bound_text x.tick q ++ entry_names ++ listing (body (lines text)) x.code.first (shown_lines moves)
  -- the last line's CYCLES is the report's
  pub last : last_cycles (shown_lines moves) ≡ q.cycles
  -- the last line's WORDS is the sum of the words of all moves
  pub words : last_words (shown_lines moves) ≡ word_sum moves

-- so of every explanation of the merging bound
abbrev pub MergeExplanationsKept : Type 0
MergeExplanationsKept = (text : List ℕ) (n : ℕ) (bs : List ℕ) → explain_merge_answer text n ≡ reported bs → (x : Routine) × (q : Report) × (moves : List Move) × ExplainsMerge text bs x q moves

-- where enough is lent, an explanation of the merging bound is refused as that bound is, and begins with its report
abbrev pub ExplainsMergingBound : Type 0
ExplainsMergingBound =
    (text : List ℕ) (n : ℕ) → explanation_limit ≤ n →
    ((r : Refusal) → (explain_merge_answer text n ≡ refused r) ↔ (merge_answer text n ≡ refused r))
    × ((bs : List ℕ) → explain_merge_answer text n ≡ reported bs → (report : List ℕ) × (rest : List ℕ) × (merge_answer text n ≡ reported report) × (bs ≡ report ++ rest))
