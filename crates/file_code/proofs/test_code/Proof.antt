-- `file_code::test_code` meets its contract. Assumes nothing.
use mathlib.Core.Path.{◌≡◌, sym, ap, subst, ◌∙◌}
use Rattle.file_format.specs.Layout.{list}
use Rattle.file_format.specs.Rows.{value, argument_of, argument_laid_out, argument_in_range, argument_named, argument_reaches, argument_forward, code_is_forward, first_addresses}
use lib.IntN.{pos, ◌+ℤ◌}
use mathlib.Core.Bool.{true}
use mir.Syntax.{w64}
use mir.Val.{of_z, to_z}
use mir.ValLaws.{to_z-of_z}
use Rattle.numbers.specs.Numbers.{within, same}
use Rattle.file_values.specs.HeldValues.{Near}
use Rattle.file_code.proofs.CodeLaws.{near-at-range, on_line, laid-line, ranged-line, named-line}
use borrow.Author.Rules.{rules}
use Rattle.file_code.proofs.test_code.Statement.{statement}
use Rattle.file_code.proofs.test_code.Tie as tie

-- the first address, as it is lent on
in-range : (start : tie.Start) → within first_addresses (to_z w64 (of_z w64 start.args.first)) ≡ true
in-range start = ap (within first_addresses) (to_z-of_z w64 start.args.first start.ranges.first) ∙ start.requires.0

test-argument-requires : tie.Need-test_argument-argument-requires
test-argument-requires c κs = let s = c in (in-range s.before.before.before, (s.requires.1.0, s.requires.1.1))

is-read-within-requires : tie.Need-is_read_within-requires
is-read-within-requires c κs = subst Near (sym c.at_range.ensures) (near-at-range c.args.k)

is-address-requires : tie.Need-is_address-requires
is-address-requires c κs = let s = c in (in-range s.before.before.before.before.before.before.before.before.before.before.before, s.requires.1.0.1)

returns : tie.Need-returns
unfolding code_is_forward
returns c = λ line word w kind.
    let r = c in
    let t = r in
    let start = t in
    let a = start.args in
    let ps = list a.primitives.now in
    let e = t.test_argument-argument.ensures in
    let z = to_z-of_z w64 a.first start.ranges.first in
    let n = r.read_numeral-n.ensures in
    record {
      layout = laid-line a.k line word (c.is_spelt.ensures _ n) (on_line argument_laid_out line w kind e.layout) c.both-spelt.ensures c.both-layout.ensures;
      range = ranged-line a.k line word c.at_range.ensures (c.is_read_within.ensures _ n) (on_line argument_in_range line w kind e.range) c.both-range.ensures;
      name = named-line a.k line word a.first ps (c.is_address.ensures _ n ∙ ap (λ x. same (value a.own.now) (x +ℤ pos a.k)) z) (c.is_known.ensures _ kind) (on_line (argument_named ps) line w kind e.name) c.both-known.ensures c.both-name.ensures;
      target = on_line (argument_reaches a.first a.count) line w kind (e.target ∙ ap (λ x. argument_of (argument_reaches x a.count a.w.now) a.kind) z);
      forward = on_line (argument_forward (a.first +ℤ pos a.k)) line w kind (e.forward ∙ ap (λ x. argument_of (argument_forward (x +ℤ pos a.k) a.w.now) a.kind) z);
    }

pub test_code_spec : {M : Type 1} → statement M
test_code_spec =
    tie.close
    (tie.spec
    test-argument-requires
    (λ c κs. search rules)
    (λ c κs. search rules)
    (λ c κs. search rules)
    (λ c κs. search rules)
    (λ c κs. search rules)
    is-read-within-requires
    (λ c κs. search rules)
    is-address-requires
    (λ c κs. search rules)
    (λ c κs. search rules)
    (λ c κs. search rules)
    returns)
