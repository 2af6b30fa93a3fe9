-- Worked examples of the refusal table: its small examples, and texts that two rows refuse or one row twice, where the earlier row decides and within a row
-- the earlier line. Assumes nothing.
use mathlib.Core.Path.{◌≡◌, refl}
use mathlib.Core.List.{List, [], ◌++◌}
use Prim.Native.Nat.{ℕ}
use Prim.Native.String.{String}
use Rattle.refusals.specs.declared.Refusal.TheVariants.{Layout, OutOfRange, BadName, Unpriced, NoTarget, Backward, UnknownCell}
use Rattle.text.specs.Text as text
use Rattle.text_decimals.specs.Decimal as decimals
use Rattle.instructions.specs.Kinds as table
use Rattle.file_format.specs.Layout as layout
use Rattle.file_format.specs.Rows as rows
use Rattle.file_format.specs.Routine as routines
use Rattle.file_format.specs.Routine.{unread, read_bound, read_run}

-- a file with its limits, its kinds and their extras, its cell and its code
abbrev file : String → String → String → String → String → List ℕ
file limits kinds extras accu code =
    text.bytes "BUDGET TICK\n" ++ text.bytes limits ++ text.bytes "\n" ++ text.bytes kinds
    ++ text.bytes "\n1\n0\n" ++ text.bytes extras ++ text.bytes "\n-\n-\n-\nACCU\n" ++ text.bytes accu ++ text.bytes "\n-\n-\nAT OP ARG\n" ++ text.bytes code ++ text.bytes "\n"

pub examples :
    -- "empty text: line 1"
    (read_bound [] ≡ unread (Layout 1))
    -- "BUDGET 0", and a name that is unknown too
    × (read_bound (file "0 5" "HALT" "0" "0" "0 STOP -") ≡ unread (OutOfRange 2))
    -- a leading zero, and a BUDGET of 0 too
    × (read_bound (file "0 5" "STOP" "0" "01" "0 STOP -") ≡ unread (Layout 11))
    -- a handle to an absent block on line 11, and an unknown OP on line 15
    × (read_bound (file "9 5" "STOP" "0" "#0" "0 HALT x") ≡ unread (BadName 11))
    -- "STOP not on line 3"
    × (read_bound (file "9 5" "PUSH" "0" "0" "0 STOP -") ≡ unread (Unpriced 15))
    -- "BRANCH 5 in 0 to 4": a target one past the code
    × (read_bound (file "9 5" "BRANCH" "0" "0" "0 BRANCH 1") ≡ unread (NoTarget 15))
    -- "Other kinds must hold 0 there, or refusal 3": BRANCH too, and an unknown name, which row 4 would refuse; BRANCHIF may hold 1
    × (read_bound (file "9 5" "BRANCH" "1" "0" "0 BRANCH 0") ≡ unread (OutOfRange 6))
    × (read_bound (file "9 5" "HALT" "1" "0" "0 STOP -") ≡ unread (OutOfRange 6))
    × (read_bound (file "9 5" "BRANCHIF" "1" "0" "0 STOP -") ≡ unread (Unpriced 15))
    × (read_bound (file "9 5" "BRANCHIFNOT" "65536" "0" "0 STOP -") ≡ unread (OutOfRange 6))
    -- "A branch to its own address or a lower one", of each of the three kinds and whatever the first address is; the place is the line
    × (read_bound (file "9 5" "BRANCH" "0" "0" "7 BRANCH 7") ≡ unread (Backward 15))
    × (read_bound (file "9 5" "BRANCHIF" "0" "0" "0 BRANCHIF 1\n1 BRANCHIF 0") ≡ unread (Backward 16))
    × (read_bound (file "9 5" "BRANCHIFNOT" "0" "0" "0 BRANCHIFNOT 1\n1 BRANCHIFNOT 1") ≡ unread (Backward 16))
    -- "after 6 and before 11": a target past the code on line 16 and a jump backwards on line 15; a jump backwards and a `?` on line 11, of the run
    × (read_bound (file "9 5" "BRANCH" "0" "0" "0 BRANCH 0\n1 BRANCH 2") ≡ unread (NoTarget 16))
    × (read_run (file "9 5" "BRANCH" "0" "?" "0 BRANCH 0") ≡ unread (Backward 15))
    -- "ACCU `?`", of the run
    × (read_run (file "9 5" "STOP" "0" "?" "0 STOP -") ≡ unread (UnknownCell 11))
    × (read_bound (file "9 5" "BRANCH" "0" "0" "0 BRANCH 9\n1 STOP -") ≡ unread (Unpriced 16))
    × (read_bound (file "9 5" "BRANCH" "0" "0" "7 BRANCH 6") ≡ unread (NoTarget 15))
unfolding text.equals text.parted_by text.line_words text.lines_of text.lines text.find text.among text.all text.distinct decimals.digits_from decimals.natural decimals.numeral decimals.digits decimals.decimal table.kinds table.kind_names layout.is_answer layout.body layout.up_to_answer layout.lines_of_code layout.answer_roles layout.code_roles layout.body_roles layout.roles layout.list layout.text_at layout.listed rows.is_numeral rows.value_of rows.value rows.known_of rows.block_of rows.span_of rows.spanned rows.hashed rows.cell_word rows.is_cell rows.cell_in_range rows.is_single rows.cell_present rows.is_name rows.stack_names rows.cell_names rows.equal_lists rows.is_field rows.sizes_from rows.block_sizes rows.total table.kind_at rows.argument_of rows.on_argument rows.argument_laid_out rows.argument_in_range rows.argument_named rows.argument_reaches rows.extra_range rows.extras_in_range rows.column_in_range rows.column_laid_out rows.on_cells rows.on_code rows.names_laid_out rows.values_laid_out rows.code_laid_out rows.is_laid_out rows.code_in_range rows.in_range rows.well_named rows.first_at rows.code_named rows.named rows.priced rows.reaches rows.argument_forward rows.code_is_forward rows.forward rows.all_known rows.test rows.earliest rows.refused_line routines.or_else routines.checked routines.limited routines.read_bound routines.read_run
examples = (refl, refl, refl, refl, refl, refl, refl, refl, refl, refl, refl, refl, refl, refl, refl, refl, refl, refl)
