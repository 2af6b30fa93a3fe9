-- `file_lines::values_in_range` meets its contract. Assumes nothing.
use Rattle.file_format.specs.Layout.{list}
use Rattle.file_format.specs.Rows.{column_in_range}
use Rattle.file_lines.specs.HeldLines.{word_test}
use Rattle.file_lines.proofs.LineLaws.{arm}
use borrow.Author.Rules.{rules}
use Rattle.file_lines.proofs.values_in_range.Statement.{statement}
use Rattle.file_lines.proofs.values_in_range.Tie as tie

enum_told : tie.Need-enum_told-1
enum_told c = search rules

returns : tie.Need-returns-in-Limit
unfolding column_in_range word_test
returns c =
    arm (λ k. column_in_range k (list c.args.names.now) (list c.args.line.now)) c.in-Limit.is c.limits_in_range.ensures

returns-2 : tie.Need-returns-in-Cycles
unfolding column_in_range word_test
returns-2 c =
    arm (λ k. column_in_range k (list c.args.names.now) (list c.args.line.now)) c.in-Cycles.is c.all_listed.ensures

returns-3 : tie.Need-returns-in-Words
unfolding column_in_range word_test
returns-3 c =
    arm (λ k. column_in_range k (list c.args.names.now) (list c.args.line.now)) c.in-Words.is c.all_listed-in-Words.ensures

returns-4 : tie.Need-returns-in-Extra
unfolding column_in_range
returns-4 c =
    arm (λ k. column_in_range k (list c.args.names.now) (list c.args.line.now)) c.in-Extra.is c.extras_listed.ensures

returns-5 : tie.Need-returns-in-Cell
unfolding column_in_range word_test
returns-5 c =
    arm (λ k. column_in_range k (list c.args.names.now) (list c.args.line.now)) c.in-Cell.is c.all_listed-in-Cell.ensures

pub values_in_range_spec : {M : Type 1} → statement M
values_in_range_spec =
    tie.close
    (tie.spec
    enum_told
    (λ c κs. search rules)
    (λ c. search rules)
    (λ c κs. search rules)
    (λ c. search rules)
    (λ c κs. search rules)
    (λ c. search rules)
    (λ c κs. search rules)
    (λ c. search rules)
    (λ c κs. search rules)
    returns
    returns-2
    returns-3
    returns-4
    returns-5)
