-- `split_cuts::in_range` meets its contract. Assumes nothing.
use mathlib.Core.Path.{sym, ap₂, subst, ◌∙◌}
use Rattle.numbers.specs.Numbers.{within}
use Rattle.file_format.specs.Rows.{value}
use Rattle.file_values.specs.HeldValues.{Near}
use Rattle.file_values.proofs.ValueLaws.{near-numbers}
use Rattle.split_cuts.proofs.CutsLaws.{names-ranged, cut-ranged}
use borrow.Author.Rules.{rules}
use Rattle.split_cuts.proofs.in_range.Statement.{statement}
use Rattle.split_cuts.proofs.in_range.Tie as tie

is-within-requires : tie.Need-is_within-requires
is-within-requires c κs = subst Near (sym c.number_range.ensures) near-numbers

returns : tie.Need-returns-then-k-eq0
returns c = let start = c in sym (names-ranged start.args.k start.args.line.now c.if-k-eq0.true)

returns-2 : tie.Need-returns
returns-2 c =
    let start = c in
    c.is_within.ensures
    ∙ ap₂ (λ r w. within r (value w)) c.number_range.ensures c.word_at-from.ensures
    ∙ sym (cut-ranged start.args.k start.args.line.now c.if-k-eq0.false)

pub in_range_spec : {M : Type 1} → statement M
in_range_spec = tie.close (tie.spec returns (λ c κs. search rules) (λ c κs. search rules) is-within-requires returns-2)
