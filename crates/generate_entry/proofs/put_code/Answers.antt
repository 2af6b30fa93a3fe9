-- A turn writes one line more, and after line n all are written.
use Rattle.std.proofs.Common.{◌≡◌, ◌+◌, subst, arith}
use Rattle.instructions.specs.declared.Argument.TheVariants.{Target}
use Rattle.instructions.specs.Kinds.{kind_at}
use Rattle.generate_entry.proofs.RowingLaws.{Coding, aims-before, coding-starts, coding-next, coding-ends, kind-under}
use Rattle.generate_entry.proofs.put_code.Goals as goal

pub loop-k-init : goal.loop-k-init
loop-k-init c = coding-starts c.args.seed c.args.n c.requires.0 c.args.out.now c.args.at (omega (arith, c.requires.2)) c.next-t.ensures c.after-u.ensures

pub put_line-e-requires : goal.put_line-e-requires
put_line-e-requires c = (
  kind-under c.args.n c.loop-k.k c.next-c.result c.kind_of-kind.ensures,
  omega arith,
  omega arith,
  λ q. aims-before c.args.n c.loop-k.k c.next-c.result (subst (λ m. (kind_at m).argument ≡ Target) c.kind_of-kind.ensures q),
  omega arith,
)

pub loop-k-preserved : goal.loop-k-preserved
loop-k-preserved c =
    coding-next c.args.seed c.args.n c.requires.0 c.loop-k.invariant (omega arith) (omega arith) c.next-c.ensures c.next-d.ensures c.kind_of-kind.ensures
    (c.put_line-e.ensures.value, c.put_line-e.ensures.out_after) c.put_line-e.auto.out

-- after line n
last : (c : goal.Else-k-n) → Coding c.args.seed c.args.n c.args.out.now c.args.at c.put_line-e.new.out c.put_line-e.result c.next-c.result c.next-d.result (c.loop-k.k + 1)
last c =
    coding-next c.args.seed c.args.n c.requires.0 c.loop-k.invariant (omega arith) (omega arith) c.next-c.ensures c.next-d.ensures c.kind_of-kind.ensures
    (c.put_line-e.ensures.value, c.put_line-e.ensures.out_after) c.put_line-e.auto.out

pub returns-2-clause-value : goal.returns-2-clause-value
returns-2-clause-value c = (coding-ends c.args.seed c.args.n c.requires.0 (last c) (omega arith)).0

pub returns-2-clause-out_after : goal.returns-2-clause-out_after
returns-2-clause-out_after c = (coding-ends c.args.seed c.args.n c.requires.0 (last c) (omega arith)).1
