-- The statements on files that know more, and on a file that knows all, are not empty: case 2 of document 01, with ACCU `?`, `0..1008` and 7, by
-- computation. Assumes nothing.
use mathlib.Core.Path.{◌≡◌, refl}
use mathlib.Core.List.{List, [], ◌∷◌}
use Prim.Native.Nat.{ℕ, ◌≤◌}
use native.Mathlib.Omega.{arith}
use Rattle.bound_theory.specs.Tree.{Report}
use Rattle.bound_theory.specs.Promises.{NoGreater}
use Rattle.cells.specs.declared.Cell.{Cell}
use Rattle.merge_theory.specs.Merge as merges
use Rattle.merge_cells.specs.Merge as cell-merges
use Rattle.cells.specs.Order.{Refines}
use Rattle.machine.specs.Order.{Cellwise}
use Rattle.narrowing_theory.proofs.Examples as states
use Rattle.report_theory.specs.Answers as reports-of
use Rattle.console.specs.Line as console
use Rattle.answers.specs.Answers as answers
use Rattle.cells.specs.Cells as cells
use Rattle.text_decimals.specs.Decimal as decimals
use Rattle.instructions.specs.Kinds as kinds
use Rattle.file_format.specs.Layout as layout
use Rattle.machine.specs.Lists as lists
use Rattle.machine.specs.Machine as machine
use Rattle.numbers.specs.Numbers as numbers
use Rattle.refusals.specs.Refusals as refusals
use Rattle.report.specs.Report as reports
use Rattle.file_format.specs.Routine as routines
use Rattle.file_format.specs.Rows as rows
use Rattle.bound_theory.specs.Run as run
use Rattle.text.specs.Text as text
use Rattle.bound_theory.specs.Tree as tree
use Rattle.cells.specs.Try as try
use Rattle.narrowing_theory.specs.Promises.{Plain}
use Rattle.report_theory.specs.Promises.{BoundReported, MergeReported}
use Rattle.report_theory.specs.Refined.{Narrows, MonotoneReport, KnownReport, MonotoneMerge, KnownMerge}
use Rattle.theorems.proofs.Cases.{file, one_branch, report, case2}
use Rattle.report_theory.proofs.RefinedLaws.{runs-known, bounds-refined, merges-refined}

-- case 2 with ACCU `0..1008`
unfoldable pub counted : List ℕ
counted = one_branch "1000 1000" "0 0" "0..1008"

-- case 2 with ACCU 7 and another TICK
unfoldable pub seven : List ℕ
seven = one_branch "1000 2000" "0 0" "7"

-- what both files hold
abbrev holding : ℕ → Cell → routines.Routine
holding tick accu = record { budget = 1000; tick = tick; code = states.code; start = states.start accu; answers = [] }

abbrev Computed : Type 0
Computed =
    (reports-of.bound_answer case2 128 ≡ answers.reported (file (report "6 0 0 3 6 T")))
    × (reports-of.merge_answer case2 128 ≡ answers.reported (file (report "6 0 0 2 6 -")))
    × (reports-of.bound_answer seven 128 ≡ answers.reported (file (report "6 0 0 2 3 -")))
    × (reports-of.merge_answer seven 128 ≡ answers.reported (file (report "6 0 0 2 3 -")))
    × (routines.read_bound case2 ≡ routines.routine (holding 1000 cells.unknown))
    × (routines.read_bound seven ≡ routines.routine (holding 2000 states.seven))
    × (routines.read_run seven ≡ routines.routine (holding 2000 states.seven))
    × (reports-of.bound_answer counted 128 ≡ answers.reported (file (report "6 0 0 3 6 T")))
    × (reports-of.merge_answer counted 128 ≡ answers.reported (file (report "6 0 0 2 6 -")))
    × (routines.read_bound counted ≡ routines.routine (holding 1000 states.count))

pub computed : Computed
unfolding case2 counted seven states.code refusals.number refusals.place text.equals text.parted_by text.line_words text.lines_of text.lines text.find text.among text.all text.distinct decimals.digits_from decimals.natural decimals.numeral decimals.digits decimals.decimal numbers.wrap numbers.holds try.◌>>=◌ cells.between cells.calculate₁ cells.calculate₂ cells.results cells.least₁ cells.range₁ cells.always cells.negated cells.judged cells.wider cells.range₂ cells.map₁ cells.compare_handles cells.combine_handles cells.map₂ cells.operate₁ cells.operate₂ cells.condition_in cells.condition cells.handled cells.block kinds.kinds kinds.kind_names kinds.operand lists.nth lists.put lists.without machine.height machine.price_of machine.fetch machine.jump machine.load machine.restack machine.store machine.push machine.pop machine.get_field machine.set_field machine.advance machine.ahead machine.with_extra machine.ways machine.opposite machine.perform machine.prepare machine.execute machine.step machine.takes machine.takes_answer tree.expand tree.tree tree.address tree.steps tree.size tree.cycles tree.words tree.depth tree.worse tree.path tree.report tree.refusal tree.judge tree.verdict tree.explore tree.bound run.begin run.answer run.remaining run.moved run.leads run.once run.after run.stuck_at run.run_is_stuck run.bounded_afresh run.judge_run run.run layout.is_answer layout.body layout.up_to_answer layout.past_answer layout.lines_of_code layout.answer_lines layout.answer_roles layout.code_roles layout.body_roles layout.roles layout.list layout.text_at layout.listed rows.is_numeral rows.value_of rows.value rows.known_of rows.block_of rows.span_of rows.spanned rows.hashed rows.cell_word rows.is_cell rows.cell_in_range rows.is_single rows.cell_present rows.is_name rows.stack_names rows.cell_names rows.equal_lists rows.is_field rows.sizes_from rows.block_sizes rows.total rows.argument_of rows.on_argument rows.argument_laid_out rows.argument_in_range rows.argument_named rows.argument_reaches rows.extra_range rows.extras_in_range rows.column_in_range rows.column_laid_out rows.on_cells rows.on_code rows.names_laid_out rows.values_laid_out rows.code_laid_out rows.is_laid_out rows.code_in_range rows.in_range rows.well_named rows.first_at rows.code_named rows.named rows.priced rows.reaches rows.argument_forward rows.code_is_forward rows.forward rows.all_known rows.test rows.earliest rows.refused_line routines.inside routines.price_list routines.argument_value routines.instruction_of kinds.kind_at machine.instruction routines.code_in routines.cell_of routines.cells_of routines.blocks_in_line routines.start_of routines.routine_of routines.or_else routines.checked routines.limited routines.read_bound routines.read_run reports.share reports.path_text reports.figures reports.bound_text reports.run_text reports.refusal_line reports.refusal_text reports-of.of_verdict answers.of_reading reports-of.bound_routine reports-of.run_routine reports-of.bound_answer reports-of.run_answer answers.memory console.printed merges.merge_lists merges.merge_states merges.larger merges.settle merges.join merges.slot merges.nowhere merges.arrive merges.send merges.reach merges.finish merges.carry merges.visit merges.sweep merges.only merges.merged cell-merges.merge_values cell-merges.merge_cells reports-of.merge_routine reports-of.merge_answer
computed = (refl, refl, refl, refl, refl, refl, refl, refl, refl, refl)

-- ---- each statement at these files

narrows : (tick tick' : ℕ) {a b : Cell} → Cellwise Refines (states.start a) (states.start b) → Narrows (holding tick a) (holding tick' b)
narrows tick tick' r = record { code = refl; start = r }

-- a report on a text is one on the routine that it holds, with the figures of its bound
module _ (text bytes : List ℕ) (x : routines.Routine) (q : Report) (reads : routines.read_bound text ≡ routines.routine x) where
  same-bound : tree.bound x.code x.budget x.start ≡ tree.accepted q → (y : routines.Routine) (p : Report) → BoundReported text bytes y p → (y ≡ x) × (p ≡ q)
  same-bound e y p is =
      let h : y ≡ x = cc is.reads in
      let f : tree.bound x.code x.budget x.start ≡ tree.accepted p = rw h at is.accepts in
      (h, cc)

  same-merge : merges.merged x.code x.start ≡ tree.accepted q → (y : routines.Routine) (p : Report) → MergeReported text bytes y p → (y ≡ x) × (p ≡ q)
  same-merge e y p is =
      let h : y ≡ x = cc is.reads in
      let f : merges.merged x.code x.start ≡ tree.accepted p = rw h at is.accepts in
      (h, cc)

-- that a text is answered by a report on y with figures no greater than q
abbrev BoundWithin : List ℕ → routines.Routine → Report → Type 0
BoundWithin text y q = (bytes : List ℕ) × (r : Report) × (reports-of.bound_answer text 128 ≡ answers.reported bytes) × BoundReported text bytes y r × NoGreater r q

abbrev MergeWithin : List ℕ → routines.Routine → Report → Type 0
MergeWithin text y q = (bytes : List ℕ) × (r : Report) × (reports-of.merge_answer text 128 ≡ answers.reported bytes) × MergeReported text bytes y r × NoGreater r q

-- the first statement, of a text and of another that holds y
module _ (text bytes : List ℕ) (x : routines.Routine) (q : Report) (reads : routines.read_bound text ≡ routines.routine x)
    (other : List ℕ) (y : routines.Routine) (others : routines.read_bound other ≡ routines.routine y) (n : Narrows y x) (le : x.budget ≤ y.budget) where
  bound-within : tree.bound x.code x.budget x.start ≡ tree.accepted q → reports-of.bound_answer text 128 ≡ answers.reported bytes → BoundWithin other y q
  bound-within e a = go (bounds-refined text 128 bytes a).0
    where
      go : MonotoneReport text bytes → BoundWithin other y q
      go (z, p, is, more) = let (h, k) = same-bound text bytes x q reads e z p is in (rw (h, k) at more) other y others n le 128 (omega arith)

  merge-within : merges.merged x.code x.start ≡ tree.accepted q → reports-of.merge_answer text 128 ≡ answers.reported bytes → MergeWithin other y q
  merge-within e a = go (merges-refined text 128 bytes a).0
    where
      go : MonotoneMerge text bytes → MergeWithin other y q
      go (z, p, is, more) = let (h, k) = same-merge text bytes x q reads e z p is in (rw (h, k) at more) other y others n tt 128 (omega arith)

-- knowing that ACCU is in 0..1008, and that it is 7
pub narrowed :
    (BoundWithin counted (holding 1000 states.count) (states.figures 6 3 (tree.T ∷ [])) × MergeWithin counted (holding 1000 states.count) (states.figures 6 2 []))
    × (BoundWithin seven (holding 2000 states.seven) (states.figures 6 3 (tree.T ∷ [])) × MergeWithin seven (holding 2000 states.seven) (states.figures 6 2 []))
narrowed = (
  (
    bound-within case2 _ (holding 1000 cells.unknown) _ computed.4 counted (holding 1000 states.count) computed.9 (narrows 1000 1000 states.count-narrower) (omega arith) (states.computed).0 computed.0,
    merge-within case2 _ (holding 1000 cells.unknown) _ computed.4 counted (holding 1000 states.count) computed.9 (narrows 1000 1000 states.count-narrower) (omega arith) (states.computed).3 computed.1,
  ),
  (
    bound-within counted _ (holding 1000 states.count) _ computed.9 seven (holding 2000 states.seven) computed.5 (narrows 2000 1000 states.seven-in-count) (omega arith) (states.computed).1 computed.7,
    merge-within counted _ (holding 1000 states.count) _ computed.9 seven (holding 2000 states.seven) computed.5 (narrows 2000 1000 states.seven-in-count) (omega arith) (states.computed).4 computed.8,
  ),
)

-- knowing all, with no call
pub known :
    ((reports-of.run_answer seven 128 ≡ answers.reported (reports.run_text (states.figures 6 2 []))) × ((states.figures 6 2 []).path ≡ []))
    × (reports-of.run_answer seven 128 ≡ answers.reported (reports.run_text (states.figures 6 2 [])))
known = (of-bound (bounds-refined seven 128 _ computed.2).1, of-merge (merges-refined seven 128 _ computed.3).1)
  where
    plain : Plain (states.start states.seven)
    plain = ((runs-known seven (holding 2000 states.seven)).0 computed.6).1

    of-bound : KnownReport seven (file (report "6 0 0 2 3 -")) → (reports-of.run_answer seven 128 ≡ answers.reported (reports.run_text (states.figures 6 2 []))) × ((states.figures 6 2 []).path ≡ [])
    of-bound (x, q, is, more) =
        let (h, k) = same-bound seven _ (holding 2000 states.seven) (states.figures 6 2 []) computed.5 (states.computed).2 x q is in
        (rw (h, k) at more) plain states.case2-calls-nothing 128 (omega arith)

    of-merge : KnownMerge seven (file (report "6 0 0 2 3 -")) → reports-of.run_answer seven 128 ≡ answers.reported (reports.run_text (states.figures 6 2 []))
    of-merge (x, q, is, more) =
        let (h, k) = same-merge seven _ (holding 2000 states.seven) (states.figures 6 2 []) computed.5 (states.computed).5 x q is in
        ((rw (h, k) at more) plain states.case2-calls-nothing 128 (omega arith)).0 (omega arith)
