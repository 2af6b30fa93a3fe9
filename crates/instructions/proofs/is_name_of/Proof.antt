-- `instructions::is_name_of` meets its contract: a name stands from its start up to the space before the next. Assumes nothing.
use Prim.Native.Nat.{◌-◌, ◌<◌}
use mathlib.Core.Path.{ap, ap₂, ◌∙◌}
use native.Mathlib.Omega.{arith}
use lib.ListN.{take, drop}
use Rattle.text.specs.Text.{equals}
use Rattle.instructions.proofs.NameLaws.{start-less, start-low}
use borrow.Author.Rules.{rules}
use Rattle.instructions.proofs.is_name_of.Statement.{statement}
use Rattle.instructions.proofs.is_name_of.Tie as tie

-- a start is before the next
before-next : (c : tie.After-name_start-next) → c.name_start-start.result < c.name_start-next.result
before-next c = let s = c in omega (arith, c.name_start-start.ensures, c.name_start-next.ensures, start-less s.args.k s.requires.2)

sub_same : tie.Need-overflow_sub-next
sub_same c = omega (arith, before-next c)

sub-same-2 : tie.Need-slice_bounds-same-count
sub-same-2 c = omega (arith, before-next c)

part-same-start : tie.Need-slice_bounds-same-start
part-same-start c = omega (arith, before-next c)

part-same-end : tie.Need-slice_bounds-same-end
part-same-end c = let s = c in omega (arith, c.name_start-next.ensures, start-low s.args.k s.requires.2, s.requires.1.size)

returns : tie.Need-returns
returns c =
    let n = c in
    let s = n in
    c.same.ensures
    ∙ ap₂ (λ i j. equals s.args.w.now (take (j - 1 - i) (drop i s.args.names.now))) n.name_start-start.ensures n.name_start-next.ensures
    ∙ ap (equals s.args.w.now) (s.requires.1.at_start s.args.k s.requires.2)

pub is_name_of_spec : {M : Type 1} → statement M
is_name_of_spec =
    tie.close
    (tie.spec
    (λ c κs. search rules)
    (λ c. search rules)
    (λ c κs. search rules)
    sub_same
    sub-same-2
    part-same-start
    part-same-end
    (λ c κs. search rules)
    returns)
