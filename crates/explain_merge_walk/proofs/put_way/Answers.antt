-- The goals of `explain_merge_walk::put_way`.
use mathlib.Core.Path.{◌≡◌, ap, ◌∙◌}
use native.Mathlib.Omega.{arith}
use lib.ListN.{get_or}
use Rattle.text.specs.Text.{no_line, lines}
use Rattle.explain_merge_walk.proofs.LineLaws.{writing-ends, writing-room, writing-next}
use Rattle.explain_merge_walk.proofs.put_way.Goals as goal

pub put_entry-e-requires : goal.put_entry-e-requires
put_entry-e-requires c =
    let l = c.last_of-l in
    let line : c.line_under-line.result.now ≡ (get_or (lines c.args.body.now) l.result.row no_line).text =
    c.line_under-line.ensures ∙ ap (λ n. (get_or (lines c.args.body.now) n no_line).text) c.seek-cursor.ensures.1 in
    writing-room c.loop-goal.invariant.writing (omega arith) c.requires.1 l.result l.ensures c.line_under-line.result.now line c.requires.3

pub loop-goal-preserved : goal.loop-goal-preserved
loop-goal-preserved c =
    let l = c.last_of-l in
    let put = c.put_entry-e in
    let line : c.line_under-line.result.now ≡ (get_or (lines c.args.body.now) l.result.row no_line).text =
    c.line_under-line.ensures ∙ ap (λ n. (get_or (lines c.args.body.now) n no_line).text) c.seek-cursor.ensures.1 in
    record {
      writing = writing-next c.loop-goal.invariant.writing (omega arith) c.requires.1 l.result l.ensures c.line_under-line.result.now line (put.ensures.value, put.ensures.out_after) put.auto.out;
      cursor = c.seek-cursor.ensures.0;
    }

pub returns : goal.returns
returns c =
    let done = writing-ends c.loop-goal.invariant.writing (omega arith) in
    record { value = done.0; out_after = done.1 }
