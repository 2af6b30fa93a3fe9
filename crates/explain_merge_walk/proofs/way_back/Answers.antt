-- The goals of `explain_merge_walk::way_back`.
use Prim.Native.Nat.{◌+◌, ◌-◌}
use mathlib.Core.Path.{◌≡◌, sym, ap, ◌∙◌}
use native.Mathlib.Omega.{arith}
use Rattle.merge_origins.specs.declared.Last.{Last}
use Rattle.merge_origins.specs.HeldOrigins.{last_at}
use Rattle.explain_merge_walk.proofs.BackLaws.{backing-starts, backing-ends, backing-rests, backing-next}
use Rattle.explain_merge_walk.proofs.way_back.Goals as goal

pub loop-init : goal.loop-init
loop-init c = backing-starts c.args.kept.now c.args.most _ c.args.goals.now (omega arith) c.requires.2 c.requires.3

pub returns-then-l-eq0-clause-by_index : goal.returns-then-l-eq0-clause-by_index
returns-then-l-eq0-clause-by_index c =
    let way : c.last_of-l.result.way ≡ (last_at c.args.kept.now c.loop.goal).way = ap (λ (l : Last). l.way) c.last_of-l.ensures in
    backing-rests c.loop.invariant (omega arith) (sym way ∙ c.if-l-eq0.true)

pub loop-preserved : goal.loop-preserved
loop-preserved c =
    let l = c.loop in
    let a = c.args in
    let left : a.most - (l.counter + 1) ≡ a.most - l.counter - 1 = omega arith in
    let way : c.last_of-l.result.way ≡ (last_at a.kept.now l.goal).way = ap (λ (l : Last). l.way) c.last_of-l.ensures in
    rw (left, c.last_of-l.ensures) (backing-next l.invariant c.requires.1 (omega arith) (λ z. c.if-l-eq0.false (way ∙ z)))

pub returns-clause-by_index : goal.returns-clause-by_index
returns-clause-by_index c = backing-ends c.loop.invariant (omega arith)
