-- The starred cases of document 01, "Cases on the edges", with a line of zeros for the extras, and those of document 02: one table of files
-- and what is printed for them, and one proof. Assumes nothing.
use mathlib.Core.Path.{◌≡◌, refl}
use mathlib.Core.List.{List, [], ◌∷◌, ◌++◌}
use Prim.Native.Nat.{ℕ}
use Prim.Native.String.{String}
use lib.IntN.{ℤ, pos, negsuc}
use Rattle.refusals.specs.Refusals as refusals
use Rattle.text.specs.Text as text
use Rattle.text_decimals.specs.Decimal as decimals
use Rattle.numbers.specs.Numbers as numbers
use Rattle.cells.specs.Try as try
use Rattle.cells.specs.Cells as cells
use Rattle.cells.specs.Order.{Allowed, end, cons}
use Rattle.cells.proofs.CellLaws.{known-allowed, number-allowed}
use Rattle.cells.specs.declared.Cell.{Cell}
use Rattle.instructions.specs.Kinds as kinds
use Rattle.machine.specs.Lists as lists
use Rattle.machine.specs.Machine as machine
use Rattle.machine.specs.Order.{Cellwise}
use Rattle.bound_theory.specs.Tree as tree
use Rattle.bound_theory.specs.Run as run
use Rattle.bound_theory.specs.Promises.{Safe}
use Rattle.bound_theory.proofs.Interrupted as interrupted
use Rattle.file_format.specs.Layout as layout
use Rattle.file_format.specs.Rows as rows
use Rattle.file_format.specs.Routine as routines
use Rattle.report.specs.Report as reports
use Rattle.answers.specs.Answers as answers
use Rattle.report_theory.specs.Answers as reports-of
use Rattle.console.specs.Line as console
use Rattle.report_theory.specs.Promises.{exploring, BoundReported, SafeRuns}
use Rattle.report_theory.proofs.AnswerLaws.{reports-kept}

-- a file by its lines
abbrev pub file : List String → List ℕ
file [] = []
file (l ∷ ls) = text.bytes l ++ text.bytes "\n" ++ file ls

-- the published file, with its TICK, its S0 and its answers
abbrev published : String → String → List String → List ℕ
published limits start answered =
    file
    ("BUDGET TICK" ∷ limits ∷
    "C_CALL1 BRANCHIF CONST2 ADDINT STOP" ∷ "10 5 2 7 1" ∷ "0 0 0 0 0" ∷ "0 0 0 0 0" ∷
    "READ" ∷ "40" ∷ "4" ∷
    "ACCU S0" ∷ start ∷
    "-" ∷ "-" ∷
    "AT OP ARG" ∷ "0 C_CALL1 READ" ∷ "1 BRANCHIF 4" ∷ "2 CONST2 -" ∷ "3 ADDINT -" ∷ "4 STOP -" ∷ answered)

-- a file with no primitive and no block: the limits, the kinds with their cycles, words and extras, the cells, the code
abbrev small : String → String → String → String → String → String → String → List String → List ℕ
small limits kinds cycles words extras names cells code =
    file ("BUDGET TICK" ∷ limits ∷ kinds ∷ cycles ∷ words ∷ extras ∷ "-" ∷ "-" ∷ "-" ∷ names ∷ cells ∷ "-" ∷ "-" ∷ "AT OP ARG" ∷ code)

-- case 2, with its limits, its extras and its accumulator
abbrev pub one_branch : String → String → String → List ℕ
one_branch limits extras accu = small limits "BRANCHIF STOP" "5 1" "0 0" extras "ACCU" accu ("0 BRANCHIF 1" ∷ "1 STOP -" ∷ [])

-- case 3, with its limits and its cycles
abbrev one_stop : String → String → List ℕ
one_stop limits cycles = small limits "STOP" cycles "0" "0" "ACCU" "0" ("0 STOP -" ∷ [])

-- case 4, with its extras
abbrev two_calls : String → List ℕ
two_calls extras =
    file
    ("BUDGET TICK" ∷ "1000 1000" ∷
    "BRANCHIF C_CALL1 STOP" ∷ "1 1 1" ∷ "0 0 0" ∷ extras ∷
    "A B" ∷ "10 4" ∷ "1 9" ∷
    "ACCU" ∷ "?" ∷
    "-" ∷ "-" ∷
    "AT OP ARG" ∷ "0 BRANCHIF 3" ∷ "1 C_CALL1 A" ∷ "2 STOP -" ∷ "3 C_CALL1 B" ∷ "4 STOP -" ∷ [])

pub case1 : List ℕ
case1 = published "1000 1000" "0 ?" []

pub case1-half : List ℕ
case1-half = published "1000 2000" "0 ?" []

unfoldable pub case2 : List ℕ
case2 = one_branch "1000 1000" "0 0" "?"

pub case2-spent : List ℕ
case2-spent = one_branch "2 1000" "0 0" "?"

pub case2-exact : List ℕ
case2-exact = one_branch "3 1000" "0 0" "?"

pub case3 : List ℕ
case3 = one_stop "1000 1000" "0"

pub case4 : List ℕ
case4 = two_calls "0 0 0"

pub case6 : List ℕ
case6 = small "1000 1000" "ADDINT ACC0 STOP" "1 1 1" "0 0 0" "0 0 0" "ACCU S0" "? 5" ("0 ADDINT -" ∷ "1 ACC0 -" ∷ "2 STOP -" ∷ [])

pub case7 : List ℕ
case7 = published "1000 1000" "0 0" ("ANSWER" ∷ "7" ∷ [])

-- document 02 §1: case 2 with an extra of 3, and its runs; case 4 with an extra of 5, of 6 (a tie) and of 7

pub jump-bound : List ℕ
jump-bound = one_branch "1000 1000" "3 0" "?"

pub jump-taken : List ℕ
jump-taken = one_branch "1000 1000" "3 0" "1"

pub jump-not-taken : List ℕ
jump-not-taken = one_branch "1000 1000" "3 0" "0"

pub jump-below : List ℕ
jump-below = two_calls "5 0 0"

pub jump-tie : List ℕ
jump-tie = two_calls "6 0 0"

pub jump-above : List ℕ
jump-above = two_calls "7 0 0"

-- document 02 §3: an operation on two cells, with two blocks, and a branch that shows what it gives
abbrev operated : String → String → List ℕ
operated operation cells =
    file
    ("BUDGET TICK" ∷ "1000 1000" ∷
    "EQ NEQ GEINT BRANCHIF CONST1 STOP" ∷ "2 2 2 5 7 1" ∷ "0 0 0 0 0 0" ∷ "0 0 0 0 0 0" ∷
    "-" ∷ "-" ∷ "-" ∷
    "ACCU S0" ∷ cells ∷
    "B0.0 B1.0" ∷ "0 0" ∷
    "AT OP ARG" ∷ operation ∷ "1 BRANCHIF 3" ∷ "2 CONST1 -" ∷ "3 STOP -" ∷ [])

pub eq-equal : List ℕ
eq-equal = operated "0 EQ -" "#1 #1"

pub eq-unlike : List ℕ
eq-unlike = operated "0 EQ -" "#0 #1"

pub neq-equal : List ℕ
neq-equal = operated "0 NEQ -" "#1 #1"

pub neq-unlike : List ℕ
neq-unlike = operated "0 NEQ -" "#0 #1"

pub eq_number : List ℕ
eq_number = operated "0 EQ -" "#0 0"

pub eq-unknown : List ℕ
eq-unknown = operated "0 EQ -" "? #0"

pub geint-handles : List ℕ
geint-handles = operated "0 GEINT -" "#0 #1"

-- document 02 §6: a half with an odd whole part; case 1 has one with an even whole part (case1-half)

pub share-34 : List ℕ
share-34 = one_stop "1000 2000" "67"

-- document 02 §7: a file with a cell, a field, a line with an argument and an answer, each at an end of the range of numbers or just outside it
abbrev numbered : String → String → String → String → List ℕ
numbered accu field line answer =
    file
    ("BUDGET TICK" ∷ "1000 1000" ∷
    "OFFSETINT STOP" ∷ "2 1" ∷ "0 0" ∷ "0 0" ∷
    "-" ∷ "-" ∷ "-" ∷
    "ACCU" ∷ accu ∷
    "B0.0" ∷ field ∷
    "AT OP ARG" ∷ line ∷ "1 STOP -" ∷ "ANSWER" ∷ answer ∷ [])

pub at-the-ends : List ℕ
at-the-ends = numbered "1073741823" "-1073741824" "0 OFFSETINT -1073741824" "1073741823"

pub cell-outside : List ℕ
cell-outside = numbered "1073741824" "0" "0 OFFSETINT 0" "0"

pub field-outside : List ℕ
field-outside = numbered "0" "-1073741825" "0 OFFSETINT 0" "0"

pub argument-outside : List ℕ
argument-outside = numbered "0" "0" "0 OFFSETINT 1073741824" "0"

pub answer-outside : List ℕ
answer-outside = numbered "0" "0" "0 OFFSETINT 0" "-1073741825"

-- document 02 §8: case 2 with a branch to its own address, where the number 0 would end the loop and where its cell is unknown; and with a
-- later branch past the code
abbrev own_address : String → List String → List ℕ
own_address accu rest = small "1000 1000" "BRANCHIF STOP" "5 1" "0 0" "0 0" "ACCU" accu ("0 BRANCHIF 0" ∷ rest)

pub back-known : List ℕ
back-known = own_address "0" ("1 STOP -" ∷ [])

pub back-unknown : List ℕ
back-unknown = own_address "?" ("1 STOP -" ∷ [])

pub back-outside : List ℕ
back-outside = own_address "0" ("1 BRANCHIF 2" ∷ [])

-- document 02 §12: a range in the accumulator or in S0, compared with a number, and a branch that shows what the comparison gives
abbrev compared : String → List ℕ
compared cells = operated "0 GEINT -" cells

pub range-every : List ℕ
range-every = compared "0..1008 0"

pub range_none : List ℕ
range_none = compared "0..1008 1009"

pub range-some : List ℕ
range-some = compared "0..1008 1008"

pub unknown-every : List ℕ
unknown-every = compared "? -1073741824"

pub range-of-one : List ℕ
range-of-one = compared "5..5 0"

pub range-down : List ℕ
range-down = compared "6..5 0"

pub range-past : List ℕ
range-past = compared "0 0..1073741824"

pub three-stops : List ℕ
three-stops = compared "1...2 0"

pub one_end : List ℕ
one_end = compared "1.. 0"

pub unknown-end : List ℕ
unknown-end = compared "?..2 0"

pub handle-ends : List ℕ
handle-ends = compared "#0..#1 0"

pub field-range : List ℕ
field-range = numbered "0" "0..1" "0 OFFSETINT 0" "0"

-- what the bound or the run prints for a file with 128 lent bytes
abbrev Bounds : List ℕ → List String → Type 0
Bounds text expected = console.printed (reports-of.bound_answer text 128) ≡ file expected

abbrev Runs : List ℕ → List String → Type 0
Runs text expected = console.printed (reports-of.run_answer text 128) ≡ file expected

abbrev pub report : String → List String
report values = "CYCLES WORDS DEPTH STEPS SHARE PATH" ∷ values ∷ []

abbrev run_report : String → List String
run_report values = "CYCLES WORDS DEPTH STEPS" ∷ values ∷ []

-- the cell with a number that stands as it is
abbrev cell : ℤ → Cell
cell z = cells.range z 0

abbrev state : ℕ → ℤ → List Cell → machine.State
state at accu stack = record { at = at; accu = cell accu; stack = stack; blocks = [] }

-- the one step of a kind with an argument, 0 where it takes none, from an accumulator and a stack, leaves another accumulator and an empty stack
abbrev Gives : String → ℤ → ℤ → List Cell → ℤ → Type 0
Gives kind argument accu stack expected =
    let price : machine.Price = record { cycles = 1; words = 0 } in
    let code : machine.Code = record { first = 0; instructions = machine.instruction (kinds.kind_at (text.find (text.bytes kind) kinds.kind_names)) argument price 0 ∷ [] } in
    machine.step code cells.unknown (state 0 accu stack) ≡ try.done (machine.goes price (state 1 expected []))

abbrev Starred : Type 0
Starred =
    Bounds case1 (report "65 4 1 6 65 N")
    × Bounds case1-half (report "65 4 1 6 32 N")
    × Bounds case2 (report "6 0 0 3 6 T")
    × Bounds case2-spent ("REFUSED 9 1" ∷ [])
    × Bounds case2-exact (report "6 0 0 3 6 T")
    × Bounds case3 (report "0 0 0 1 0 -")
    × Bounds case4 (report "13 9 0 5 13 N")
    -- case 5: 1073741823 plus 1 is -1073741824, and NEGINT of -1073741824 is itself
    × Gives "ADDINT" (pos 0) (pos 1073741823) (cell (pos 1) ∷ []) (negsuc 1073741823)
    × Gives "NEGINT" (pos 0) (negsuc 1073741823) [] (negsuc 1073741823)
    -- the other operations that wrap, and OFFSETINT below the range too
    × Gives "SUBINT" (pos 0) (negsuc 1073741823) (cell (pos 1) ∷ []) (pos 1073741823)
    × Gives "OFFSETINT" (pos 1) (pos 1073741823) [] (negsuc 1073741823)
    × Gives "OFFSETINT" (negsuc 0) (negsuc 1073741823) [] (pos 1073741823)
    × Gives "BOOLNOT" (pos 0) (negsuc 1073741822) [] (negsuc 1073741823)
    × Bounds at-the-ends (report "3 0 0 2 3 -")
    × Bounds cell-outside ("REFUSED 3 11" ∷ [])
    × Bounds field-outside ("REFUSED 3 13" ∷ [])
    × Bounds argument-outside ("REFUSED 3 15" ∷ [])
    × Bounds answer-outside ("REFUSED 3 18" ∷ [])
    × Bounds case6 ("REFUSED 7 1" ∷ [])
    × Runs case7 (run_report "56 4 1 3")
    × Bounds jump-bound (report "9 0 0 3 9 T")
    × Runs jump-taken (run_report "9 0 0 2")
    × Runs jump-not-taken (run_report "6 0 0 2")
    × Bounds jump-below (report "13 9 0 5 13 N")
    × Bounds jump-tie (report "13 9 0 5 13 T")
    × Bounds jump-above (report "14 9 0 5 14 T")
    -- one way only: the comparison of two handles is known
    × Bounds eq-equal (report "8 0 1 3 8 -")
    × Bounds eq-unlike (report "15 0 1 4 15 -")
    × Bounds neq-equal (report "15 0 1 4 15 -")
    × Bounds neq-unlike (report "8 0 1 3 8 -")
    × Runs eq-unlike (run_report "15 0 1 4")
    × Bounds eq_number ("REFUSED 7 0" ∷ [])
    × Bounds eq-unknown ("REFUSED 7 0" ∷ [])
    × Bounds geint-handles ("REFUSED 7 0" ∷ [])
    × Bounds share-34 (report "67 0 0 1 34 -")
    -- the largest TICK and CYCLES that `report::share` takes; the two largest exact halves with that TICK; the largest SHARE
    × (reports.share 4000000000 8589934592000000 ≡ 2147483648)
    × (reports.share 4000000000 8589934590000000 ≡ 2147483648)
    × (reports.share 4000000000 8589934586000000 ≡ 2147483646)
    × (reports.share 1 8589934592000000 ≡ 8589934592000000000)
    -- after 6 and before 11, at the line
    × Bounds back-known ("REFUSED 13 15" ∷ [])
    × Runs back-known ("REFUSED 13 15" ∷ [])
    × Runs back-unknown ("REFUSED 13 15" ∷ [])
    × Bounds back-outside ("REFUSED 6 16" ∷ [])
    -- "1 if it holds for every pair of numbers in the two ranges, 0 if for none, else 0 to 1"
    × Bounds range-every (report "8 0 1 3 8 -")
    × Bounds range_none (report "15 0 1 4 15 -")
    × Bounds range-some (report "15 0 1 5 15 N")
    × Bounds unknown-every (report "8 0 1 3 8 -")
    × Runs range-of-one (run_report "8 0 1 3")
    -- "A run refuses a range of more than one number as it does `?`."
    × Runs range-every ("REFUSED 11 11" ∷ [])
    × Runs field-range ("REFUSED 11 13" ∷ [])
    × Bounds field-range (report "3 0 0 2 3 -")
    × Bounds range-down ("REFUSED 3 11" ∷ [])
    × Bounds range-past ("REFUSED 3 11" ∷ [])
    × Bounds three-stops ("REFUSED 2 11" ∷ [])
    × Bounds one_end ("REFUSED 2 11" ∷ [])
    × Bounds unknown-end ("REFUSED 2 11" ∷ [])
    × Bounds handle-ends ("REFUSED 2 11" ∷ [])

-- ---- demand 3 of a file: case 1, and its file with S0 known and one answer (case 7)

-- what the published file holds, with its start and its answers
abbrev holding : machine.State → List ℤ → routines.Routine
holding start given = record { budget = 1000; tick = 1000; code = interrupted.code; start = start; answers = given }

abbrev figures : tree.Report
figures = record { cycles = 65; words = 4; depth = 1; steps = 6; path = tree.N ∷ [] }

-- case 1 is answered by a report; case 7 holds the same code, S0 0 and the answer 7
abbrev Published : Type 0
Published =
    (reports-of.bound_answer case1 128 ≡ answers.reported (file (report "65 4 1 6 65 N")))
    × (routines.read_bound case1 ≡ routines.routine (holding (state 0 (pos 0) (cells.unknown ∷ [])) []))
    × (routines.read_run case7 ≡ routines.routine (holding (state 0 (pos 0) (cell (pos 0) ∷ [])) (pos 7 ∷ [])))

computed : Starred × Published
unfolding case1 case1-half case2 case2-spent case2-exact case3 case4 case6 case7 jump-bound jump-taken jump-not-taken jump-below jump-tie jump-above eq-equal eq-unlike neq-equal neq-unlike eq_number eq-unknown geint-handles back-known back-unknown back-outside range-every range_none range-some unknown-every range-of-one range-down range-past three-stops one_end unknown-end handle-ends field-range at-the-ends cell-outside field-outside argument-outside answer-outside share-34 refusals.number refusals.place text.equals text.parted_by text.line_words text.lines_of text.lines text.find text.among text.all text.distinct decimals.digits_from decimals.natural decimals.numeral decimals.digits decimals.decimal numbers.wrap numbers.holds try.◌>>=◌ cells.between cells.calculate₁ cells.calculate₂ cells.results cells.least₁ cells.range₁ cells.always cells.negated cells.judged cells.wider cells.range₂ cells.map₁ cells.compare_handles cells.combine_handles cells.map₂ cells.operate₁ cells.operate₂ cells.condition_in cells.condition cells.handled cells.block kinds.kinds kinds.kind_names kinds.operand lists.nth lists.put lists.without machine.height machine.price_of machine.fetch machine.jump machine.load machine.restack machine.store machine.push machine.pop machine.get_field machine.set_field machine.advance machine.ahead machine.with_extra machine.ways machine.opposite machine.perform machine.prepare machine.execute machine.step machine.takes machine.takes_answer tree.expand tree.tree tree.address tree.steps tree.size tree.cycles tree.words tree.depth tree.worse tree.path tree.report tree.refusal tree.judge tree.verdict tree.explore tree.bound run.begin run.answer run.remaining run.moved run.leads run.once run.after run.stuck_at run.run_is_stuck run.bounded_afresh run.judge_run run.run layout.is_answer layout.body layout.up_to_answer layout.past_answer layout.lines_of_code layout.answer_lines layout.answer_roles layout.code_roles layout.body_roles layout.roles layout.list layout.text_at layout.listed rows.is_numeral rows.value_of rows.value rows.known_of rows.block_of rows.span_of rows.spanned rows.hashed rows.cell_word rows.is_cell rows.cell_in_range rows.is_single rows.cell_present rows.is_name rows.stack_names rows.cell_names rows.equal_lists rows.is_field rows.sizes_from rows.block_sizes rows.total rows.argument_of rows.on_argument rows.argument_laid_out rows.argument_in_range rows.argument_named rows.argument_reaches rows.extra_range rows.extras_in_range rows.column_in_range rows.column_laid_out rows.on_cells rows.on_code rows.names_laid_out rows.values_laid_out rows.code_laid_out rows.is_laid_out rows.code_in_range rows.in_range rows.well_named rows.first_at rows.code_named rows.named rows.priced rows.reaches rows.argument_forward rows.code_is_forward rows.forward rows.all_known rows.test rows.earliest rows.refused_line routines.inside routines.price_list routines.argument_value routines.instruction_of kinds.kind_at machine.instruction interrupted.code routines.code_in routines.cell_of routines.cells_of routines.blocks_in_line routines.start_of routines.routine_of routines.or_else routines.checked routines.limited routines.read_bound routines.read_run reports.share reports.path_text reports.figures reports.bound_text reports.run_text reports.refusal_line reports.refusal_text reports-of.of_verdict answers.of_reading reports-of.bound_routine reports-of.run_routine reports-of.bound_answer reports-of.run_answer answers.memory console.printed
computed = ((refl, refl, refl, refl, refl, refl, refl, refl, refl, refl, refl, refl, refl, refl, refl, refl, refl, refl, refl, refl, refl, refl, refl, refl, refl, refl, refl, refl, refl, refl, refl, refl, refl, refl, refl, refl, refl, refl, refl, refl, refl, refl, refl, refl, refl, refl, refl, refl, refl, refl, refl, refl, refl, refl, refl, refl, refl), (refl, refl, refl))

pub starred : Starred
starred = computed.0

-- the report on case 1, by the routine that it holds and its figures
safe-report : (x : routines.Routine) (q : tree.Report) (bytes : List ℕ) → routines.read_bound case1 ≡ routines.routine x → tree.bound x.code x.budget x.start ≡ tree.accepted q →
    (y : routines.Routine) (p : tree.Report) → BoundReported case1 bytes y p → SafeRuns exploring y p → SafeRuns exploring x q
safe-report x q bytes e f y p is safe =
    let same : y ≡ x = cc is.reads in
    let g : tree.bound x.code x.budget x.start ≡ tree.accepted p = rw same at is.accepts in
    let alike : p ≡ q = cc in
    rw (same, alike) at safe

is-allowed : Cellwise Allowed (state 0 (pos 0) (cell (pos 0) ∷ [])) (state 0 (pos 0) (cells.unknown ∷ []))
unfolding numbers.wrap
is-allowed = record { at = refl; accu = known-allowed (pos 0); stack = cons (number-allowed (pos 0)) end; blocks = end }

-- the published file, run with S0 0 and the answer 7, and interrupted after any number of steps: what is spent and what is bounded afresh are within
-- 65 cycles and 4 words, the stack is nowhere higher than 1, and STOP is made within 6 steps
pub published-interrupted : Published × ((n : ℕ) →
    let begun = run.begin (state 0 (pos 0) (cell (pos 0) ∷ [])) (pos 7 ∷ []) in
    Safe interrupted.code (tree.bound interrupted.code 1000) figures begun n (run.after interrupted.code n begun))
unfolding numbers.wrap
published-interrupted =
    let (e, reads, runs) = computed.1 in
    let (y, p, is, safe) = (reports-kept case1 128 _ e).0 in
    (computed.1, safe-report (holding (state 0 (pos 0) (cells.unknown ∷ [])) []) figures _ reads (interrupted.interrupted).0 y p is safe _ is-allowed (pos 7 ∷ []))
