-- What is proved of the merging bound, by the names of specs/Promises. Nothing else needs to be read of proofs/. Assumes nothing.
use mathlib.Core.List.{[]}
use native.Mathlib.Omega.{arith}
use Rattle.cells.specs.Cells.{unknown}
use Rattle.machine.specs.Machine.{step}
use Rattle.bound_theory.specs.Run.{begin, after, run}
use Rattle.bound_theory.proofs.RunLaws.{stopped-verdict}
use Rattle.merge_theory.specs.Merge.{merged}
use Rattle.merge_theory.specs.Ways.{table}
use Rattle.merge_theory.specs.Promises.{MergedInterruptible, RunWithinMerged, MergedMonotone, MergedNotSmaller, RefusedForSize, MergedCoversPaths, TableGathered, OneTable, MergedExact, MergedRefusedWhere, MergedAcceptedWhere}
use Rattle.merge_theory.proofs.StepwiseLaws as stepwise-laws
use Rattle.merge_theory.proofs.StepwiseLaws.{pass}
use Rattle.merge_theory.proofs.CompareLaws as compare-laws
use Rattle.merge_theory.proofs.AssessLaws.{in-cycles, in_words}
use Rattle.merge_theory.proofs.ExactLaws as exact-laws
use Rattle.merge_theory.proofs.TableLaws as table-laws

pub merged-interruptible : MergedInterruptible
merged-interruptible c f g = stepwise-laws.interruptible c f g

pub run-within-merged : RunWithinMerged
unfolding run
run-within-merged c f g t q a budget le s e answers =
    let r = after c budget (begin s answers) in
    let safe = stepwise-laws.interruptible c f g t q a s e answers budget in (
      record { cycles = r.cycles; words = r.words; depth = r.depth; steps = r.steps; path = [] },
      stopped-verdict budget r (safe.stops le),
      record { cycles = omega (arith, safe.cycles); words = omega (arith, safe.words); depth = safe.depth; steps = safe.steps },
    )

pub merged-monotone : MergedMonotone
merged-monotone c = stepwise-laws.monotone c

pub merged-not-smaller : MergedNotSmaller
merged-not-smaller c f g = compare-laws.not-smaller c (merged c) (stepwise-laws.stepwise c f g)

pub refused-for-size : RefusedForSize
refused-for-size c f g = compare-laws.refused-for-size c (merged c) (stepwise-laws.stepwise c f g)

-- where the first bound is refused by 8 or 9 too
pub merged-covers-paths : MergedCoversPaths
merged-covers-paths c f g = compare-laws.covers-paths c (merged c) (stepwise-laws.stepwise c f g)

pub table-gathered : TableGathered
unfolding table exact-laws.came
table-gathered c f g s = record {
  comes = exact-laws.comes-where (step c unknown) (pass c f g s);
  merges = λ a m p e. exact-laws.together (step c unknown) (pass c f g s) a e;
  parts = exact-laws.parts-where (step c unknown) (pass c f g s);
  nothing = exact-laws.nothing-where (step c unknown) (pass c f g s);
}

pub one_table : OneTable
one_table c f g s came came' h k = table-laws.one_table c f s came came' h k

pub merged-exact : MergedExact
unfolding merged table exact-laws.came in-cycles in_words
merged-exact c f g s q e = record {
  cycles = exact-laws.largest (step c unknown) (pass c f g s) q e in-cycles;
  words = exact-laws.largest (step c unknown) (pass c f g s) q e in_words;
  depth = exact-laws.depth-exact (step c unknown) (pass c f g s) q e;
  steps = exact-laws.steps-exact (step c unknown) (pass c f g s) q e;
  path = exact-laws.path-exact (step c unknown) (pass c f g s) q e;
}

pub merged-refused-where : MergedRefusedWhere
unfolding merged table exact-laws.came
merged-refused-where c f g s r = (
  λ e. (table c s, table-gathered c f g s, exact-laws.first-fault (step c unknown) (pass c f g s) r e),
  λ (came, h, k). exact-laws.fault-refused (step c unknown) (pass c f g s) r (table-laws.first-there c f s came (table c s) h (table-gathered c f g s) r k),
)

pub merged-accepted-where : MergedAcceptedWhere
unfolding merged table exact-laws.came
merged-accepted-where c f g s = (
  λ (q, e). exact-laws.no-fault (step c unknown) (pass c f g s) q e,
  exact-laws.faultless (step c unknown) (pass c f g s),
)
