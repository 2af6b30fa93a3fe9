-- The answer of an explanation to a routine file and to a length of lent memory: the steps of the worst path.
use Rattle.std.specs.Prelude.{◌++◌}
use Rattle.refusals.specs.Library.{ℕ, length, List}
use Rattle.bound_theory.specs.Terms.{Report, Verdict, bound, Move, unknown, step}
use Rattle.answers.specs.Terms.{body, Routine, read_bound, Answer, reported, refused, lending, of_reading, bytes, Line, lines}
use Rattle.bound_theory.specs.Tree as verdicts
use Rattle.report.specs.Report.{bound_text}
use Rattle.explain_walk.specs.Walk.{follow}
use Rattle.explain_lines.specs.Listing.{shown_lines, listing}

-- Lent memory under 65,536 bytes is refusal 10
abbrev pub explanation_limit : ℕ
explanation_limit = 65536

-- the steps from the start by the decisions of PATH: no more of them than the code has lines. They are the maximum trace of Definition 11
-- (`WalksWorst` in the specs of `explain_walk`)
unfoldable pub worst_moves : Routine → Report → List Move
worst_moves x q = follow (step x.code unknown) (length x.code.instructions) q.path x.start

-- "a line of names"
abbrev pub entry_names : List ℕ
entry_names = bytes "AT OP ARG CYCLES WORDS DEPTH WAY\n"

-- the report's two lines, then one line for each step of the maximum trace, under a line of names; ls are the lines after the layout
unfoldable pub explanation_text : List Line → Routine → Report → List ℕ
explanation_text ls x q = bound_text x.tick q ++ entry_names ++ listing ls x.code.first (shown_lines (worst_moves x q))

-- of the bound's verdict: what is explained, or the bound's refusal
unfoldable pub explained : List Line → Routine → Verdict → Answer
explained ls x (verdicts.accepted q) = reported (explanation_text ls x q)
explained ls x (verdicts.refused r) = refused r

-- the answer for a routine
unfoldable pub explain_routine : List Line → Routine → Answer
explain_routine ls x = explained ls x (bound x.code x.budget x.start)

-- the answer to a text and to n lent bytes
unfoldable pub explain_answer : List ℕ → ℕ → Answer
explain_answer text n = lending explanation_limit n (of_reading (explain_routine (body (lines text))) (read_bound text))
