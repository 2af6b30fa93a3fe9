-- The answer of an explanation of the merging bound to a routine file and to a length of lent memory: a costliest way through the merged
-- states.
use Rattle.std.specs.Prelude.{◌++◌}
use Rattle.refusals.specs.Library.{ℕ, List}
use Rattle.answers.specs.Terms.{body, Routine, read_bound, Answer, reported, refused, lending, of_reading, Line, lines}
use Rattle.bound_theory.specs.Tree.{Report, Verdict}
use Rattle.bound_theory.specs.Tree as verdicts
use Rattle.merge_theory.specs.Merge.{merged}
use Rattle.merge_way.specs.Way.{costliest_way}
use Rattle.report.specs.Report.{bound_text}
use Rattle.explain_lines.specs.Listing.{shown_lines, listing}
use Rattle.explain_entry.specs.Answers.{explanation_limit, entry_names}

-- the merging bound's two lines, then one line for each move of the costliest way, under a line of names; ls are the lines after the layout
unfoldable pub merge_explanation_text : List Line → Routine → Report → List ℕ
merge_explanation_text ls x q = bound_text x.tick q ++ entry_names ++ listing ls x.code.first (shown_lines (costliest_way x.code x.start))

-- of the merging bound's verdict: what is explained, or the bound's refusal
unfoldable pub merge_explained : List Line → Routine → Verdict → Answer
merge_explained ls x (verdicts.accepted q) = reported (merge_explanation_text ls x q)
merge_explained ls x (verdicts.refused r) = refused r

-- the answer for a routine
unfoldable pub explain_merge_routine : List Line → Routine → Answer
explain_merge_routine ls x = merge_explained ls x (merged x.code x.start)

-- the answer to a text and to n lent bytes
unfoldable pub explain_merge_answer : List ℕ → ℕ → Answer
explain_merge_answer text n = lending explanation_limit n (of_reading (explain_merge_routine (body (lines text))) (read_bound text))
