-- `instructions::put_name_in` meets its contract: a name stands from its start up to the space before the next. Assumes nothing.
use Prim.Native.Nat.{◌+◌, ◌-◌, ◌≤◌, ◌<◌}
use mathlib.Core.Path.{◌≡◌, sym, ap, ap₂, subst, ◌∙◌}
use native.Mathlib.Omega.{arith}
use lib.ListN.{length, take, drop}
use Rattle.text_decimals.specs.Memory.{over}
use Rattle.instructions.specs.Kinds.{kind_at}
use Rattle.instructions.proofs.NameLaws.{start-less, start-low}
use borrow.Author.Rules.{rules}
use Rattle.instructions.proofs.put_name_in.Statement.{statement}
use Rattle.instructions.proofs.put_name_in.Tie as tie

abbrev start : tie.After-name_start-next → tie.Start
start c = c.before.before.before.before

-- a start is before the next
before-next : (c : tie.After-name_start-next) → c.name_start-start.result < c.name_start-next.result
before-next c = let s = start c in omega (arith, c.name_start-start.ensures, c.name_start-next.ensures, start-less s.args.k s.requires.1.0)

-- what is put is the name
named : (c : tie.After-name_start-next) → take (c.name_start-next.result - 1 - c.name_start-start.result) (drop c.name_start-start.result (start c).args.names.now) ≡ (kind_at (start c).args.k).name
named c =
    let s = start c in
    ap₂ (λ i j. take (j - 1 - i) (drop i s.args.names.now)) c.name_start-start.ensures c.name_start-next.ensures ∙ s.requires.0.1.at_start s.args.k s.requires.1.0

sub-put : tie.Need-overflow_sub-next
sub-put c = omega (arith, before-next c.before)

sub-put-2 : tie.Need-slice_bounds-put-count
sub-put-2 c = omega (arith, before-next c.before)

part-put-start : tie.Need-slice_bounds-put-start
part-put-start c = omega (arith, before-next c.before)

part-put-end : tie.Need-slice_bounds-put-end
part-put-end c = let s = start c.before in omega (arith, c.name_start-next.ensures, start-low s.args.k s.requires.1.0, s.requires.0.1.size)

put-requires : tie.Need-put-requires
put-requires c κs =
    let n = c in
    let s = start n.before.before in
    subst (λ t. s.args.at + length t ≤ length s.args.out.now) (sym (named n.before.before)) s.requires.1.1

returns : tie.Need-returns
returns c =
    let p = c in
    let n = p in
    let a = (start n.before.before.before.before.before).args in
    (p.put.ensures.0 ∙ ap (λ t. a.at + length t) (named n.before.before.before.before.before), p.put.ensures.1 ∙ ap (over a.out.now a.at) (named n.before.before.before.before.before))

pub put_name_in_spec : {M : Type 1} → statement M
put_name_in_spec =
    tie.close
    (tie.spec
    (λ c κs. search rules)
    (λ c. search rules)
    (λ c κs. search rules)
    sub-put
    sub-put-2
    part-put-start
    part-put-end
    put-requires
    (λ c. search rules)
    returns)
