-- Every row of the table, by computation: one proof. Assumes nothing.
use mathlib.Core.Path.{◌≡◌, refl}
use mathlib.Core.Bool.{true}
use Rattle.refusals.specs.Refusals as refusals
use Rattle.text.specs.Text as text
use Rattle.text_decimals.specs.Decimal as decimals
use Rattle.numbers.specs.Numbers as numbers
use Rattle.cells.specs.Try as try
use Rattle.cells.specs.Cells as cells
use Rattle.instructions.specs.Kinds as kinds
use Rattle.machine.specs.Lists as lists
use Rattle.machine.specs.Machine as machine
use Rattle.bound_theory.specs.Tree as tree
use Rattle.bound_theory.specs.Run as run
use Rattle.file_format.specs.Layout as layout
use Rattle.file_format.specs.Rows as rows
use Rattle.file_format.specs.Routine as routines
use Rattle.report.specs.Report as reports
use Rattle.answers.specs.Answers as answers
use Rattle.report_theory.specs.Answers as reported
use Rattle.console.specs.Line as console
use Rattle.test_cases.specs.Table.{table, answered, passes}

pub table-passes : text.all passes table ≡ true
unfolding passes answered refusals.number refusals.place text.equals text.parted_by text.line_words text.lines_of text.lines text.find text.among text.all text.distinct decimals.digits_from decimals.natural decimals.numeral decimals.digits decimals.decimal numbers.wrap numbers.holds try.◌>>=◌ cells.between cells.calculate₁ cells.calculate₂ cells.results cells.least₁ cells.range₁ cells.always cells.negated cells.judged cells.wider cells.range₂ cells.map₁ cells.compare_handles cells.combine_handles cells.map₂ cells.operate₁ cells.operate₂ cells.condition_in cells.condition cells.handled cells.block kinds.kinds kinds.kind_names kinds.operand lists.nth lists.put lists.without machine.height machine.price_of machine.fetch machine.jump machine.load machine.restack machine.store machine.push machine.pop machine.get_field machine.set_field machine.advance machine.ahead machine.with_extra machine.ways machine.opposite machine.perform machine.prepare machine.execute machine.step machine.takes machine.takes_answer tree.expand tree.tree tree.address tree.steps tree.size tree.cycles tree.words tree.depth tree.worse tree.path tree.report tree.refusal tree.judge tree.verdict tree.explore tree.bound run.begin run.answer run.remaining run.moved run.leads run.once run.after run.stuck_at run.run_is_stuck run.bounded_afresh run.judge_run run.run layout.is_answer layout.body layout.up_to_answer layout.past_answer layout.lines_of_code layout.answer_lines layout.answer_roles layout.code_roles layout.body_roles layout.roles layout.list layout.text_at layout.listed rows.is_numeral rows.value_of rows.value rows.known_of rows.block_of rows.span_of rows.spanned rows.hashed rows.cell_word rows.is_cell rows.cell_in_range rows.is_single rows.cell_present rows.is_name rows.stack_names rows.cell_names rows.equal_lists rows.is_field rows.sizes_from rows.block_sizes rows.total rows.argument_of rows.on_argument rows.argument_laid_out rows.argument_in_range rows.argument_named rows.argument_reaches rows.extra_range rows.extras_in_range rows.column_in_range rows.column_laid_out rows.on_cells rows.on_code rows.names_laid_out rows.values_laid_out rows.code_laid_out rows.is_laid_out rows.code_in_range rows.in_range rows.well_named rows.first_at rows.code_named rows.named rows.priced rows.reaches rows.argument_forward rows.code_is_forward rows.forward rows.all_known rows.test rows.earliest rows.refused_line routines.inside routines.price_list routines.argument_value routines.instruction_of kinds.kind_at machine.instruction routines.code_in routines.cell_of routines.cells_of routines.blocks_in_line routines.start_of routines.routine_of routines.or_else routines.checked routines.limited routines.read_bound routines.read_run reports.share reports.path_text reports.figures reports.bound_text reports.run_text reports.refusal_line reports.refusal_text reported.of_verdict answers.of_reading reported.bound_routine reported.run_routine reported.bound_answer reported.run_answer answers.memory console.printed
table-passes = refl
