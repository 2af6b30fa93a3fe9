-- What an explanation says, as statements. `proofs/Theorems` proves each by its name.
use Rattle.std.specs.Prelude.{◌∷◌, ◌++◌, ◌≡◌}
use Rattle.refusals.specs.Library.{ℕ, suc, List, []}
use Rattle.bound_theory.specs.Terms.{Decision, Report, accepted, bound, Move, word_sum, Transition, done, unknown, nth, Code, step}
use Rattle.answers.specs.Terms.{body, Routine, routine, read_bound, reported, lines}
use Rattle.report.specs.Report.{bound_text}
use Rattle.explain_walk.specs.Promises.{WorstTrace}
use Rattle.explain_lines.specs.Listing.{Shown, shown_lines, listing}
use Rattle.explain_entry.specs.Answers.{entry_names, explain_answer}

-- CYCLES of the last line
unfoldable pub last_cycles : List Shown → ℕ
last_cycles [] = 0
last_cycles (e ∷ []) = e.cycles
last_cycles (e ∷ f ∷ es) = last_cycles (f ∷ es)

-- WORDS of the last line
unfoldable pub last_words : List Shown → ℕ
last_words [] = 0
last_words (e ∷ []) = e.words
last_words (e ∷ f ∷ es) = last_words (f ∷ es)

-- the letters of WAY, in order
unfoldable pub ways : List Shown → List Decision
ways [] = []
ways (e ∷ es) = e.way ++ ways es

-- the address b follows from the address a by a step
pub record FollowsBy (c : Code) (a b : ℕ) : Type 0 where
  pub move : Move
  pub next : Move
  pub steps : Transition (step c unknown) move.state move next.state
  pub from : a ≡ move.state.at
  pub to : b ≡ next.state.at

-- the bytes that explain a text: of the routine x, which the bound accepts with the report q
pub record Explains (text bs : List ℕ) (x : Routine) (q : Report) (moves : List Move) : Type 0 where
  pub reads : read_bound text ≡ routine x
  pub accepts : bound x.code x.budget x.start ≡ accepted q
  -- the moves are the maximum trace of Definition 11
  pub worst : WorstTrace x.code x.start q moves
  -- and the bytes list them, one line for each
  pub prints : bs ≡ bound_text x.tick q ++ entry_names ++ listing (body (lines text)) x.code.first (shown_lines moves)
  -- the last line's CYCLES is the report's (Lemma 12)
  pub last : last_cycles (shown_lines moves) ≡ q.cycles
  -- the last line's WORDS is the sum of the words of all moves
  pub words : last_words (shown_lines moves) ≡ word_sum moves
  -- the letters of WAY are PATH
  pub path : ways (shown_lines moves) ≡ q.path
  -- each line's address follows from the one before
  pub follows : (k : ℕ) (d e : Shown) → nth k (shown_lines moves) ≡ done d → nth (suc k) (shown_lines moves) ≡ done e → FollowsBy x.code d.at e.at

-- so of every explanation
abbrev pub ExplanationsKept : Type 0
ExplanationsKept = (text : List ℕ) (n : ℕ) (bs : List ℕ) → explain_answer text n ≡ reported bs → (x : Routine) × (q : Report) × (moves : List Move) × Explains text bs x q moves
