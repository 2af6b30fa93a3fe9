-- `file_lines::word_passes` meets its contract. Assumes nothing.
use mathlib.Core.Path.{ap, ◌∙◌}
use native.Mathlib.Omega.{arith}
use Rattle.numbers.specs.Numbers.{within}
use Rattle.file_format.specs.Rows.{value}
use Rattle.file_lines.specs.HeldLines.{word_test}
use Rattle.file_lines.proofs.LineLaws.{arm, filled, near-range}
use borrow.Author.Rules.{rules}
use Rattle.file_lines.proofs.word_passes.Statement.{statement}
use Rattle.file_lines.proofs.word_passes.Tie as tie

enum_told : tie.Need-enum_told-1
enum_told c = search rules

is-within-requires : tie.Need-is_within-requires
is-within-requires c κs = near-range 0 65535 (omega arith) (omega arith) c.cycle_counts.ensures

is-within-requires-2 : tie.Need-is_within-requires-in-Words
is-within-requires-2 c κs = near-range 0 255 (omega arith) (omega arith) c.word_counts.ensures

returns : tie.Need-returns-in-Filled
unfolding word_test
returns c =
    arm (λ t. word_test t c.args.w.now) c.in-Filled.is (filled c.args.w.now)

returns-2 : tie.Need-returns-in-Numeral
unfolding word_test
returns-2 c =
    arm (λ t. word_test t c.args.w.now) c.in-Numeral.is c.is_numeral.ensures

returns-3 : tie.Need-returns-in-Cycles
unfolding word_test
returns-3 c =
    arm (λ t. word_test t c.args.w.now) c.in-Cycles.is (c.is_within.ensures ∙ ap (λ r. within r (value c.args.w.now)) c.cycle_counts.ensures)

returns-4 : tie.Need-returns-in-Words
unfolding word_test
returns-4 c =
    arm (λ t. word_test t c.args.w.now) c.in-Words.is (c.is_within-in-Words.ensures ∙ ap (λ r. within r (value c.args.w.now)) c.word_counts.ensures)

returns-5 : tie.Need-returns-in-Cell
unfolding word_test
returns-5 c =
    arm (λ t. word_test t c.args.w.now) c.in-Cell.is c.is_cell.ensures

returns-6 : tie.Need-returns-in-CellRange
unfolding word_test
returns-6 c =
    arm (λ t. word_test t c.args.w.now) c.in-CellRange.is c.cell_in_range.ensures

returns-7 : tie.Need-returns-in-Present
unfolding word_test
returns-7 c =
    arm (λ t. word_test t c.args.w.now) c.in-Present.is c.cell_present.ensures

returns-8 : tie.Need-returns-in-Known
unfolding word_test
returns-8 c =
    arm (λ t. word_test t c.args.w.now) c.in-Known.is c.is_single.ensures

returns-9 : tie.Need-returns-in-Primitive
unfolding word_test
returns-9 c =
    arm (λ t. word_test t c.args.w.now) c.in-Primitive.is c.is_name.ensures

pub word_passes_spec : {M : Type 1} → statement M
word_passes_spec =
    tie.close
    (tie.spec
    enum_told
    (λ c. search rules)
    (λ c κs. search rules)
    (λ c. search rules)
    (λ c κs. search rules)
    is-within-requires
    (λ c. search rules)
    (λ c κs. search rules)
    is-within-requires-2
    (λ c. search rules)
    (λ c κs. search rules)
    (λ c. search rules)
    (λ c κs. search rules)
    (λ c. search rules)
    (λ c. search rules)
    (λ c κs. search rules)
    (λ c. search rules)
    (λ c κs. search rules)
    (λ c. search rules)
    (λ c κs. search rules)
    returns
    returns-2
    returns-3
    returns-4
    returns-5
    returns-6
    returns-7
    returns-8
    returns-9)
