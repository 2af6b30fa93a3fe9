-- What is promised to users, proved, by the names of `specs/Promises` and in its order. Assumes nothing.
use mathlib.Core.Path.{ap}
use Rattle.text_decimals.proofs.DecimalLaws.{decimal-read}
use Rattle.cells.specs.Order.{same}
use Rattle.cells.proofs.CellLaws.{refines-trans}
use Rattle.cells.proofs.Theorems as cell-theorems
use Rattle.machine.proofs.StateLaws.{cellwise-refl, cellwise-trans}
use Rattle.machine.proofs.Theorems as machine-theorems
use Rattle.bound_theory.specs.Tree.{opening_limit, bound}
use Rattle.bound_theory.proofs.PromiseLaws as promise-laws
use Rattle.bound_theory.proofs.RunLaws as run-laws
use Rattle.bound_theory.proofs.TraceLaws as trace-laws
use Rattle.bound_theory.proofs.RunVerdictLaws as run-verdict-laws
use Rattle.bound_theory.proofs.ForwardLaws as forward-laws
use Rattle.merge_theory.proofs.Theorems as merge-theorems
use Rattle.narrowing_theory.proofs.Theorems as refinement-theorems
use Rattle.relocation_theory.proofs.Theorems as relocation-theorems
use Rattle.merge_way.proofs.Theorems as way-theorems
use Rattle.split_theory.proofs.Theorems as split-theory-theorems
use Rattle.narrowing_ranges.proofs.Theorems as range-theorems
use Rattle.report.proofs.ReportLaws as report-laws
use Rattle.report_theory.specs.Answers.{bound_answer, merge_answer, run_answer}
use Rattle.report_theory.proofs.AnswerLaws as answer-laws
use Rattle.report_theory.proofs.ListedLaws as listed-laws
use Rattle.report_theory.proofs.RefinedLaws as refined-laws
use Rattle.words_entry.proofs.Theorems as conversion-theorems
use Rattle.replay_steps.proofs.Theorems as replay-theorems
use Rattle.replay_entry.proofs.Theorems as conformance-theorems
use Rattle.preview_copy.proofs.Theorems as patch-theorems
use Rattle.preview_entry.proofs.PreviewLaws as preview-laws
use Rattle.generate_file.proofs.Theorems as generator-theorems
use Rattle.nearest_search.proofs.Theorems as search-theorems
use Rattle.nearest_entry.proofs.Theorems as sensitivity-theorems
use Rattle.decide_entry.proofs.PromiseLaws as decision-laws
use Rattle.explain_walk.proofs.Theorems as walk-theorems
use Rattle.explain_entry.proofs.Theorems as explanation-theorems
use Rattle.explain_merge_entry.proofs.Theorems as merge-explanation-theorems
use Rattle.split_entry.proofs.Theorems as split-theorems
use Rattle.split_entry.proofs.ListedLaws as split-listed-laws
use Rattle.decide_split_entry.proofs.Theorems as split-decision-theorems
use Rattle.trace_theory.proofs.Theorems as trace-theory-theorems
use Rattle.trace_entry.proofs.Theorems as trace-theorems
use Rattle.theorems.proofs.EntryLaws as entry-laws
use Rattle.theorems.proofs.NearestLaws as nearest-laws
use Rattle.theorems.specs.Promises as page

-- ---- demand 1

pub reports-fit : page.ReportsFit
reports-fit = entry-laws.reports-fit

pub answers-told : page.AnswersTold
answers-told = entry-laws.answers-told

pub places-small : page.PlacesSmall
places-small = entry-laws.places-small

-- ---- demand 2

pub reports-exact : page.ReportsExact
reports-exact text n bytes e = (answer-laws.reports-kept text n bytes e).1

pub bound-exact : page.BoundExact
bound-exact = promise-laws.bound-exact

pub one-maximum : page.OneMaximum
one-maximum = promise-laws.one-maximum

pub steps-listed : page.StepsListed
steps-listed = promise-laws.steps-listed

pub fuel-irrelevant : page.FuelIrrelevant
fuel-irrelevant = promise-laws.fuel-irrelevant

pub answers-listed : page.AnswersListed
answers-listed = listed-laws.answers-listed

pub accepted-where : page.AcceptedWhere
accepted-where = promise-laws.accepted-where

pub refused-where : page.RefusedWhere
refused-where = promise-laws.refused-where

pub run-refused-where : page.RunRefusedWhere
run-refused-where = run-verdict-laws.run-refused-where

pub passing-is-ascii : page.PassingIsAscii
passing-is-ascii = answer-laws.passing-is-ascii

pub answers-irrelevant : page.AnswersIrrelevant
answers-irrelevant = answer-laws.answers-irrelevant

pub written-reads-back : page.WrittenReadsBack
written-reads-back = decimal-read

-- ---- demand 3

pub reports-safe : page.ReportsSafe
reports-safe text n bytes e = (answer-laws.reports-kept text n bytes e).0

pub bound-interruptible : page.BoundInterruptible
unfolding bound
bound-interruptible c budget = promise-laws.interruptible c opening_limit budget

pub nothing-follows : page.NothingFollows
nothing-follows = run-laws.nothing-follows

pub runs-trace : page.RunsTrace
runs-trace = trace-laws.runs-trace

pub theorem14 : page.Theorem14
theorem14 = trace-laws.theorem14

pub runs-within : page.RunsWithin
runs-within = (answer-laws.runs-kept).0

pub runs-accepted : page.RunsAccepted
runs-accepted = (answer-laws.runs-kept).1

pub run-within-bound : page.RunWithinBound
run-within-bound = promise-laws.run-within-bound

-- ---- document 02

pub imports-bound : page.ImportsBound
imports-bound text words made n m k b e g =
    let f = conversion-theorems.imports-replace text words made n m b e g in
    (ap (λ t. bound_answer t k) f, ap (λ t. run_answer t k) f, ap (λ t. merge_answer t k) f)

pub exports-import : page.ExportsImport
exports-import = conversion-theorems.exports-import

pub imports-replace : page.ImportsReplace
imports-replace = conversion-theorems.imports-replace

pub imports-export : page.ImportsExport
imports-export = conversion-theorems.imports-export

pub import-refused-where : page.ImportRefusedWhere
import-refused-where = conversion-theorems.import-refused-where

pub imported-where : page.ImportedWhere
imported-where = conversion-theorems.imported-where

pub imports-mean : page.ImportsMean
imports-mean = conversion-theorems.imports-mean

pub exports-taken : page.ExportsTaken
exports-taken = conversion-theorems.exports-taken

pub same-words : page.SameWords
same-words = conversion-theorems.same-words

pub imports-lower : page.ImportsLower
imports-lower = conversion-theorems.imports-lower

pub bound-raised : page.BoundRaised
bound-raised = relocation-theorems.bound-raised

pub merged-raised : page.MergedRaised
merged-raised = relocation-theorems.merged-raised

pub run-raised : page.RunRaised
run-raised = relocation-theorems.run-raised

pub order-reflexive : page.OrderReflexive
order-reflexive s = cellwise-refl (λ a. same) s

pub order-transitive : page.OrderTransitive
order-transitive s t u e f = cellwise-trans (λ a b c h k. refines-trans h k) e f

pub results_agree : page.ResultsAgree
results_agree = cell-theorems.results_agree

pub step-refines : page.StepRefines
step-refines = machine-theorems.step-refines

pub step-plain : page.StepPlain
step-plain = machine-theorems.step-plain

pub agrees-where : page.AgreesWhere
agrees-where = replay-theorems.agrees-where

pub differs-where : page.DiffersWhere
differs-where = replay-theorems.differs-where

pub replays-kept : page.ReplaysKept
replays-kept = conformance-theorems.replays-kept

pub spent-within : page.SpentWithin
spent-within = replay-theorems.spent-within-run

pub spent-within-bound : page.SpentWithinBound
spent-within-bound = replay-theorems.spent-within-bound

pub share-nearest : page.ShareNearest
share-nearest tick cycles h = (report-laws.share-nearest tick cycles h, λ n. report-laws.share-unique tick cycles n h)

pub passing-is-single-pass : page.PassingIsSinglePass
passing-is-single-pass = answer-laws.passing-is-single-pass

pub forward-once : page.ForwardOnce
forward-once = forward-laws.forward-once

pub merges-exact : page.MergesExact
merges-exact text n bytes e = (answer-laws.merges-kept text n bytes e).1

pub merged-exact : page.MergedExact
merged-exact = merge-theorems.merged-exact

pub table-gathered : page.TableGathered
table-gathered = merge-theorems.table-gathered

pub one_table : page.OneTable
one_table = merge-theorems.one_table

pub merged-refused-where : page.MergedRefusedWhere
merged-refused-where = merge-theorems.merged-refused-where

pub merged-accepted-where : page.MergedAcceptedWhere
merged-accepted-where = merge-theorems.merged-accepted-where

pub merges-safe : page.MergesSafe
merges-safe text n bytes e = (answer-laws.merges-kept text n bytes e).0

pub merged-interruptible : page.MergedInterruptible
merged-interruptible = merge-theorems.merged-interruptible

pub merges-above : page.MergesAbove
merges-above text n bytes e = (answer-laws.merges-kept text n bytes e).2

pub merged-covers-paths : page.MergedCoversPaths
merged-covers-paths = merge-theorems.merged-covers-paths

pub merged-not-smaller : page.MergedNotSmaller
merged-not-smaller = merge-theorems.merged-not-smaller

pub refused-for-size : page.RefusedForSize
refused-for-size = merge-theorems.refused-for-size

pub run-within-merged : page.RunWithinMerged
run-within-merged = merge-theorems.run-within-merged

pub previews-kept : page.PreviewsKept
previews-kept = preview-laws.previews-kept

pub copy-replaces-one : page.CopyReplacesOne
copy-replaces-one = patch-theorems.copy-replaces-one

pub in-code-where : page.InCodeWhere
in-code-where = patch-theorems.in-code-where

pub same-instruction-keeps : page.SameInstructionKeeps
same-instruction-keeps = patch-theorems.same-instruction-keeps

pub file-passes : page.FilePasses
file-passes = generator-theorems.file-read

pub file-fits : page.FileFits
file-fits = generator-theorems.file-fits

pub file-runs : page.FileRuns
file-runs = generator-theorems.file-runs

pub every-unary : page.EveryUnary
every-unary = cell-theorems.every_unary

pub every-binary : page.EveryBinary
every-binary = cell-theorems.every_binary

pub every-comparison : page.EveryComparison
every-comparison = cell-theorems.every_comparison

pub every-condition : page.EveryCondition
every-condition = cell-theorems.every-condition

pub opens-where : page.OpensWhere
opens-where = machine-theorems.opens-where

pub bound-never-above : page.BoundNeverAbove
bound-never-above = range-theorems.bound_never_above

pub merged-never-above : page.MergedNeverAbove
merged-never-above = range-theorems.merged_never_above

pub bound-not-above-former : page.BoundNotAboveFormer
bound-not-above-former = range-theorems.bound-not-above-former

pub merged-not-above-former : page.MergedNotAboveFormer
merged-not-above-former = range-theorems.merged-not-above-former

pub runs-known : page.RunsKnown
runs-known = refined-laws.runs-known

pub nearest-kept : page.NearestKept
nearest-kept = sensitivity-theorems.nearest-kept

pub found-moves : page.FoundMoves
found-moves = search-theorems.found-moves

pub none_moves : page.NoneMoves
none_moves = search-theorems.none_moves

pub named-in-order : page.NamedInOrder
named-in-order = sensitivity-theorems.named-in-order

pub changed-named : page.ChangedNamed
changed-named = sensitivity-theorems.changed-named

pub tried-reads : page.TriedReads
tried-reads = sensitivity-theorems.tried-reads

pub refused-alike : page.RefusedAlike
refused-alike = nearest-laws.refused-alike

pub reports-monotone : page.ReportsMonotone
reports-monotone text n bytes e = (refined-laws.bounds-refined text n bytes e).0

pub merges-monotone : page.MergesMonotone
merges-monotone text n bytes e = (refined-laws.merges-refined text n bytes e).0

pub bound-monotone : page.BoundMonotone
bound-monotone = refinement-theorems.bound-monotone

pub merged-monotone : page.MergedMonotone
merged-monotone = merge-theorems.merged-monotone

pub refines-where : page.RefinesWhere
refines-where = refinement-theorems.refines-where

pub larger-budget : page.LargerBudget
larger-budget = refinement-theorems.larger-budget

pub reports-known : page.ReportsKnown
reports-known text n bytes e = (refined-laws.bounds-refined text n bytes e).1

pub merges-known : page.MergesKnown
merges-known text n bytes e = (refined-laws.merges-refined text n bytes e).1

pub bound-is-run : page.BoundIsRun
bound-is-run = refinement-theorems.bound-is-run

pub merged-is-run : page.MergedIsRun
merged-is-run = refinement-theorems.merged-is-run

-- ---- beyond the documents

pub decisions-kept : page.DecisionsKept
decisions-kept = decision-laws.decisions-kept

pub decision-refused : page.DecisionRefused
decision-refused = entry-laws.decision-refused

pub explanations-kept : page.ExplanationsKept
explanations-kept = explanation-theorems.explanations-kept

pub walks-worst : page.WalksWorst
walks-worst = walk-theorems.walks-worst

pub explains-bound : page.ExplainsBound
explains-bound = entry-laws.explains-bound

pub merge-explanations-kept : page.MergeExplanationsKept
merge-explanations-kept = merge-explanation-theorems.merge-explanations-kept

pub way-costliest : page.WayCostliest
way-costliest = way-theorems.way-costliest

pub spent-largest : page.SpentLargest
spent-largest = way-theorems.spent-largest

pub origins-recorded : page.OriginsRecorded
origins-recorded = way-theorems.origins-recorded

pub explains-merging-bound : page.ExplainsMergingBound
explains-merging-bound = merge-explanation-theorems.explains-merging-bound

pub splits-kept : page.SplitsKept
splits-kept = split-theorems.splits-kept

pub split-interruptible : page.SplitInterruptible
split-interruptible = split-theory-theorems.split-interruptible

pub split-cases : page.SplitCases
split-cases = split-theory-theorems.split-cases

pub split-exact : page.SplitExact
split-exact = split-theory-theorems.split-exact

pub split-accepted : page.SplitAccepted
split-accepted = split-theorems.split-accepted

pub split-not-above : page.SplitNotAbove
split-not-above = split-theory-theorems.split-not-above

pub split-among : page.SplitAmong
split-among = split-theory-theorems.split-among

pub split-monotone : page.SplitMonotone
split-monotone = split-theory-theorems.split-monotone

pub splits-refused : page.SplitsRefused
splits-refused = split-theorems.splits-refused

pub split-refused : page.SplitRefused
split-refused = split-theory-theorems.split-refused

pub splits-listed : page.SplitsListed
splits-listed = split-listed-laws.splits-listed

pub split-refused-where : page.SplitRefusedWhere
split-refused-where = split-theory-theorems.split-refused-where

pub split-decisions-kept : page.SplitDecisionsKept
split-decisions-kept = split-decision-theorems.split-decisions-kept

pub split-decision-refused : page.SplitDecisionRefused
split-decision-refused = split-decision-theorems.split-decision-refused

pub traces-kept : page.TracesKept
traces-kept = trace-theorems.traces-kept

pub trace-agrees : page.TraceAgrees
trace-agrees = trace-theory-theorems.trace-agrees

pub trace-adds : page.TraceAdds
trace-adds = trace-theory-theorems.trace-adds

pub trace-refused : page.TraceRefused
trace-refused = entry-laws.trace-refused
