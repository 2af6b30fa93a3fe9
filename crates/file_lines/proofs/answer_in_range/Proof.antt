-- `file_lines::answer_in_range` meets its contract. Assumes nothing.
use mathlib.Core.Path.{sym, ap, subst, ◌∙◌}
use Rattle.numbers.specs.Numbers.{within}
use Rattle.file_format.specs.Rows.{value}
use Rattle.file_values.specs.HeldValues.{Near}
use Rattle.file_values.proofs.ValueLaws.{near-numbers}
use borrow.Author.Rules.{rules}
use Rattle.file_lines.proofs.answer_in_range.Statement.{statement}
use Rattle.file_lines.proofs.answer_in_range.Tie as tie

is-within-requires : tie.Need-is_within-requires
is-within-requires c κs = subst Near (sym c.number_range.ensures) near-numbers

returns : tie.Need-returns
returns c =
    c.is_within.ensures ∙ ap (λ r. within r (value c.args.line.now)) c.number_range.ensures

pub answer_in_range_spec : {M : Type 1} → statement M
answer_in_range_spec = tie.close (tie.spec (λ c κs. search rules) is-within-requires returns)
