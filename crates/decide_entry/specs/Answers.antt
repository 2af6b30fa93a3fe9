-- The decision's answer to a routine file and to a length of lent memory. (docs/ROUTINE-FILE.md, The decision)
use Rattle.refusals.specs.Library.{ℕ, eqb, Bool, true, cond, List}
use Rattle.bound_theory.specs.Terms.{number, Verdict, bound}
use Rattle.answers.specs.Terms.{Routine, read_bound, Answer, reported, refused, lending, of_reading, memory_limit, Refusal}
use Rattle.bound_theory.specs.Tree as verdicts
use Rattle.merge_theory.specs.Merge.{merged}
use Rattle.decide_report.specs.declared.Source.TheVariants.{First, Merging}
use Rattle.decide_report.specs.Decision.{decision_text}

-- the first bound has too much to walk: it refuses by 8 or 9
unfoldable pub for_size : Refusal → Bool
for_size r = cond (eqb (number r) 8) true (eqb (number r) 9)

-- by the merging bound, where the first refuses by r for its size: the merging bound reports, or otherwise: the first bound's refusal
unfoldable pub by_merging : ℕ → Refusal → Verdict → Answer
by_merging tick r (verdicts.accepted q) = reported (decision_text Merging tick q)
by_merging tick r (verdicts.refused s) = refused r

-- by the verdicts of both bounds: the first bound reports; else the merging bound where the first refuses by 8 or 9; otherwise: the
-- first bound's refusal
unfoldable pub decided : ℕ → Verdict → Verdict → Answer
decided tick (verdicts.accepted q) second = reported (decision_text First tick q)
decided tick (verdicts.refused r) second = cond (for_size r) (by_merging tick r second) (refused r)

-- the answer for a routine
unfoldable pub decide_routine : Routine → Answer
decide_routine x = decided x.tick (bound x.code x.budget x.start) (merged x.code x.start)

-- the answer to a text and to n lent bytes: memory under 128 bytes is refusal 10; then the file's 1 to 6 and 13.
unfoldable pub decide_answer : List ℕ → ℕ → Answer
decide_answer text n = lending memory_limit n (of_reading decide_routine (read_bound text))
