-- What is promised to users, in the order of the customer's papers: the three demands of document 01, the change requests of document 02, and
-- what was added. First in each group stands what is said of texts and bytes, and then what that rests on, said of code, starts and runs. Each
-- promise is stated in the file that is named and passed on here; `proofs/Theorems` proves each by its name, and docs/PROOFS.md is this page in
-- English.

-- ---- demand 1: "The promise of each public function settles its result and every lent byte for all inputs": the contracts, and these
-- lent report memory holds, after an accepted call, exactly the report and then its former bytes: what is reported always fits, and with fewer
-- bytes lent nothing is reported
pub use Rattle.theorems.specs.EntryPoints.{ReportsFit}
-- two answers of one function that give C one number are the same refusal, or reports of one length; an address has 32 bits
pub use Rattle.theorems.specs.EntryPoints.{AnswersTold}
-- no place is above 62,000 but a preview's address: a line is 32,769 at most, the code and its targets are within 0 to 62,000, and a word's
-- index is 2,048 at most
pub use Rattle.theorems.specs.EntryPoints.{PlacesSmall}
-- ---- demand 2
-- "CYCLES is the maximum cost of Definition 5. PATH gives the decisions of Definition 11 at unknown branches"; WORDS, DEPTH, STEPS and SHARE
pub use Rattle.theorems.specs.EntryPoints.{ReportsExact}
pub use Rattle.bound_theory.specs.Promises.{BoundExact}
-- Definitions 5 and 11 have one value each
pub use Rattle.bound_theory.specs.Promises.{OneMaximum}
-- "STEPS is the size of the tree", which is listed in depth-first order, and it does not matter where it is cut off
pub use Rattle.bound_theory.specs.Promises.{StepsListed, FuelIrrelevant}
-- a routine is refused in the listed cases and in no other: a call of the bound, of the merging bound and of the run
pub use Rattle.report_theory.specs.Listed.{AnswersListed}
pub use Rattle.bound_theory.specs.Promises.{AcceptedWhere, RefusedWhere, RunRefusedWhere}
-- "ASCII"
pub use Rattle.report_theory.specs.Promises.{PassingIsAscii}
-- "Once a file passes 1 to 6, the bound does not depend on ANSWER."
pub use Rattle.report_theory.specs.Promises.{AnswersIrrelevant}
-- reading a decimal number that was written gives it back
pub use Rattle.text_decimals.specs.Decimal.{WrittenReadsBack}
-- ---- demand 3
-- an interrupted run is not stuck, its stack has nowhere been deeper than reported, and bounding it afresh from the state reached, under the
-- same budget, is never refused; what is spent and what is bounded afresh are at most what is reported
pub use Rattle.theorems.specs.EntryPoints.{ReportsSafe}
pub use Rattle.bound_theory.specs.Promises.{BoundInterruptible}
-- after STOP nothing is left to bound
pub use Rattle.bound_theory.specs.Promises.{NothingFollows}
-- the run is the trace of Definition 2; Theorem 14 of document 000
pub use Rattle.bound_theory.specs.Promises.{RunsTrace, Theorem14}
-- the run of a file that fills in a bounded one is within its report, and is refused by neither 7 nor 9
pub use Rattle.theorems.specs.EntryPoints.{RunsWithin, RunsAccepted}
pub use Rattle.bound_theory.specs.Promises.{RunWithinBound}
-- ---- document 02
-- §2: "An import followed by a bound gives what the written file gives": the file with the lines made of its own words has its bounds and its run
pub use Rattle.theorems.specs.EntryPoints.{ImportsBound}
pub use Rattle.words_entry.specs.Promises.{ExportsImport, ImportsReplace, ImportsExport}
-- refusal 12 at the least index with a fault, and nowhere else; what the words hold is the code
pub use Rattle.words_entry.specs.Promises.{ImportRefusedWhere, ImportedWhere, ImportsMean}
-- wherever a file begins, its words are taken, and the file made of them passes as it does, and has the same words and the same reports, with
-- the places of 7, 8, 9 and 14 lower by the first address. Below: code at higher addresses
pub use Rattle.words_entry.specs.Promises.{ExportsTaken, SameWords, ImportsLower}
pub use Rattle.relocation_theory.specs.Promises.{BoundRaised, MergedRaised, RunRaised}
-- §3: results agree where cells agree, of the operations and of the step; a state that knows all never opens two ways
pub use Rattle.machine.specs.Promises.{OrderReflexive, OrderTransitive}
pub use Rattle.cells.specs.Covering.{ResultsAgree}
pub use Rattle.machine.specs.Promises.{StepRefines, StepPlain}
-- §4: where AGREES and DIFFERS are printed, and what a trace that agrees has spent
pub use Rattle.replay_steps.specs.Promises.{AgreesWhere, DiffersWhere}
pub use Rattle.replay_entry.specs.Promises.{ReplaysKept}
pub use Rattle.replay_steps.specs.Promises.{SpentWithin, SpentWithinBound}
-- §6: SHARE is the nearest whole number, at an exact half the even one, and no other number is
pub use Rattle.report.specs.Report.{ShareNearest}
-- §8: "only single-pass ticks"
pub use Rattle.report_theory.specs.Promises.{PassingIsSinglePass}
pub use Rattle.bound_theory.specs.Promises.{ForwardOnce}
-- §9: the figures of the merging bound are the largest over the ways through the merged states
pub use Rattle.theorems.specs.EntryPoints.{MergesExact}
pub use Rattle.merge_theory.specs.Promises.{MergedExact, TableGathered, OneTable}
-- "the lowest address with a 14 or a 7 decides"
pub use Rattle.merge_theory.specs.Promises.{MergedRefusedWhere, MergedAcceptedWhere}
-- demand 3, "with the afresh bound being this one"
pub use Rattle.theorems.specs.EntryPoints.{MergesSafe}
pub use Rattle.merge_theory.specs.Promises.{MergedInterruptible}
-- "Where both bounds accept, this one is never the smaller in cycles, words or depth."
pub use Rattle.theorems.specs.EntryPoints.{MergesAbove}
pub use Rattle.merge_theory.specs.Promises.{MergedCoversPaths, MergedNotSmaller, RefusedForSize, RunWithinMerged}
-- §10: a report of a preview is one of the copy, with all that is promised of it; the copy has one instruction replaced
pub use Rattle.preview_entry.specs.Promises.{PreviewsKept}
pub use Rattle.preview_copy.specs.Promises.{CopyReplacesOne, InCodeWhere, SameInstructionKeeps}
-- §11: the file of a seed is refused by no row, fits, and is run or refused by 11
pub use Rattle.generate_file.specs.Promises.{FilePasses, FileFits, FileRuns}
-- §12: operations, comparisons and conditions over ranges; neither bound is above what it is with `?` for each wider range, or was before ranges
pub use Rattle.cells.specs.Promises.{EveryUnary, EveryBinary, EveryComparison, EveryCondition}
pub use Rattle.machine.specs.Promises.{OpensWhere}
pub use Rattle.narrowing_ranges.specs.Ranges.{BoundNeverAbove, MergedNeverAbove}
pub use Rattle.narrowing_ranges.specs.Former.{BoundNotAboveFormer, MergedNotAboveFormer}
-- "A run refuses a range of more than one number as it does `?`."
pub use Rattle.report_theory.specs.Refined.{RunsKnown}
-- §13: the change that is printed moves the bound, and no change before it does; `NONE` where none does
pub use Rattle.nearest_entry.specs.Promises.{NearestKept}
pub use Rattle.nearest_search.specs.Promises.{FoundMoves, NoneMoves}
-- "The cell's name and its new value are printed.": the names are the file's own, in its order, and the text with that value reads as the routine
-- that was tried
pub use Rattle.nearest_entry.specs.Promises.{NamedInOrder, ChangedNamed, TriedReads}
-- "A file that is refused to begin with is refused the same way here.": the search refuses what the first bound refuses
pub use Rattle.theorems.specs.EntryPoints.{RefusedAlike}
-- §14: "if the second is accepted, so is the first under the same BUDGET, and its cycles, words, depth and steps are no greater"
pub use Rattle.theorems.specs.EntryPoints.{ReportsMonotone, MergesMonotone}
pub use Rattle.narrowing_theory.specs.Promises.{BoundMonotone}
pub use Rattle.merge_theory.specs.Promises.{MergedMonotone}
pub use Rattle.narrowing_theory.specs.Promises.{RefinesWhere, LargerBudget}
-- "If every cell is a single number or a handle and no primitive is called, the reported cycles are those of the run"
pub use Rattle.theorems.specs.EntryPoints.{ReportsKnown, MergesKnown}
pub use Rattle.narrowing_theory.specs.Promises.{BoundIsRun, MergedIsRun}
-- ---- beyond the documents
-- what FITS, OVER and UNDECIDED say of the file; where a decision is refused, the first bound refuses the text, and by the same refusal
pub use Rattle.decide_entry.specs.Promises.{DecisionsKept}
pub use Rattle.theorems.specs.EntryPoints.{DecisionRefused}
-- the steps of an explanation are the maximum trace of Definition 11
pub use Rattle.explain_entry.specs.Promises.{ExplanationsKept}
pub use Rattle.explain_walk.specs.Promises.{WalksWorst}
-- where enough is lent, an explanation is refused as the bound is, and begins with the bound's report
pub use Rattle.theorems.specs.EntryPoints.{ExplainsBound}
-- the lines of an explanation of the merging bound are a costliest way through its merged states. Below: that way, of code
pub use Rattle.explain_merge_entry.specs.Promises.{MergeExplanationsKept}
pub use Rattle.merge_way.specs.Promises.{WayCostliest, SpentLargest, OriginsRecorded}
-- where enough is lent, it is refused as the merging bound is, and begins with its report
pub use Rattle.explain_merge_entry.specs.Promises.{ExplainsMergingBound}
-- the bound by cases: demand 3 with the afresh bound being this one under the same cuts; each figure is the largest over the cases, and every
-- plain start is in one of them; never above the merging bound; more cuts never give more, and knowing more never costs more
pub use Rattle.split_entry.specs.Promises.{SplitsKept}
pub use Rattle.split_theory.specs.Promises.{SplitInterruptible, SplitCases, SplitExact}
-- accepted wherever the merging bound is
pub use Rattle.split_entry.specs.Promises.{SplitAccepted}
pub use Rattle.split_theory.specs.Promises.{SplitNotAbove, SplitAmong, SplitMonotone}
-- refused where the memory, the file, the cuts or a case is, and as that is
pub use Rattle.split_entry.specs.Promises.{SplitsRefused}
pub use Rattle.split_theory.specs.Promises.{SplitRefused}
-- a call is refused in the listed cases and in no other: of several cases that are refused the first decides, the numbers below first
pub use Rattle.split_entry.specs.Listed.{SplitsListed}
pub use Rattle.split_theory.specs.Promises.{SplitRefusedWhere}
-- what FITS and UNDECIDED say of the file and its cuts; a decision by cases is refused exactly where the bound by cases is, and as it is
pub use Rattle.decide_split_entry.specs.Promises.{SplitDecisionsKept, SplitDecisionRefused}
-- the trace of a run, replayed with its file, says AGREES, and adds up to the run's figures
pub use Rattle.trace_entry.specs.Promises.{TracesKept}
pub use Rattle.trace_theory.specs.Promises.{TraceAgrees, TraceAdds}
-- where enough is lent, a trace is refused exactly as the run is
pub use Rattle.theorems.specs.EntryPoints.{TraceRefused}
