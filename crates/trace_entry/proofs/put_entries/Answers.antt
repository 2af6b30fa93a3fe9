-- A turn writes the line of one step more, and all are written once no step is left or the run makes none.
use Rattle.std.proofs.Common.{arith}
use Rattle.trace_entry.proofs.WritingLaws.{writing-starts, writing-ends, writing-stuck, writing-room, writing-stops, writing-next}
use Rattle.trace_entry.proofs.put_entries.Goals as goal

pub loop-init : goal.loop-init
loop-init c = writing-starts _ _ _ _ c.args.at c.args.start c.args.initial _ (omega (arith, c.requires.answers_in_bounds)) c.requires.program.1.formed c.requires.program.1.steps (omega arith)

pub returns-then-not-step-clause-value : goal.returns-then-not-step-clause-value
returns-then-not-step-clause-value c = (writing-stuck c.loop.invariant (omega arith) c.record_step-step.result c.record_step-step.ensures c.if-not-step.true).0

pub returns-then-not-step-clause-out_after : goal.returns-then-not-step-clause-out_after
returns-then-not-step-clause-out_after c = (writing-stuck c.loop.invariant (omega arith) c.record_step-step.result c.record_step-step.ensures c.if-not-step.true).1

pub put_entry-e-requires : goal.put_entry-e-requires
put_entry-e-requires c = writing-room c.loop.invariant (omega arith) c.record_step-step.result c.record_step-step.ensures c.if-not-step.false c.requires.answers_in_bounds

pub returns-then-step-clause-value : goal.returns-then-step-clause-value
returns-then-step-clause-value c =
    (writing-stops c.loop.invariant (omega arith) c.record_step-step.result c.record_step-step.ensures c.if-not-step.false (c.put_entry-e.ensures.value, c.put_entry-e.ensures.out_after) c.if-step.true).0

pub returns-then-step-clause-out_after : goal.returns-then-step-clause-out_after
returns-then-step-clause-out_after c =
    (writing-stops c.loop.invariant (omega arith) c.record_step-step.result c.record_step-step.ensures c.if-not-step.false (c.put_entry-e.ensures.value, c.put_entry-e.ensures.out_after) c.if-step.true).1

pub loop-preserved : goal.loop-preserved
loop-preserved c =
    writing-next c.loop.invariant (omega arith) c.record_step-step.result c.record_step-step.ensures c.if-not-step.false (c.put_entry-e.ensures.value, c.put_entry-e.ensures.out_after) c.if-step.false
    c.put_entry-e.auto.out (omega arith)

pub returns-clause-value : goal.returns-clause-value
returns-clause-value c = (writing-ends c.loop.invariant (omega arith)).0

pub returns-clause-out_after : goal.returns-clause-out_after
returns-clause-out_after c = (writing-ends c.loop.invariant (omega arith)).1
