-- The goals of `explain_lines::put_walk`.
use Prim.Native.Nat.{◌+◌, ◌-◌}
use mathlib.Core.Path.{◌≡◌, ◌∙◌}
use native.Mathlib.Omega.{arith}
use Rattle.text.specs.Text.{lines}
use Rattle.machine_state.specs.HeldProgram.{first_address_of, lines_in}
use Rattle.explain_lines.specs.Listing.{code_text}
use Rattle.explain_lines.proofs.LineLaws.{line-there}
use Rattle.explain_lines.proofs.CursorLaws.{stands-first}
use Rattle.explain_lines.proofs.WalkLaws.{writing-starts, writing-ends, writing-stuck, writing-room, writing-stops, writing-next}
use Rattle.explain_lines.proofs.put_walk.Goals as goal

pub loop-init : goal.loop-init
loop-init c =
    let all : lines_in c.args.code.now - 0 ≡ lines_in c.args.code.now = omega arith in
    record {
      writing = rw all (writing-starts _ _ _ _ _ c.args.at c.args.start c.args.initial c.args.path _ (omega (arith, c.requires.start_in_bounds)) c.requires.program.1 c.requires.program.0.lines);
      cursor = stands-first c.args.body.now;
    }

pub returns-then-not-walked : goal.returns-then-not-walked
returns-then-not-walked c =
    let w = c.walk-walked in
    let done = writing-stuck c.loop.invariant.writing (omega arith) w.result w.ensures c.if-not-walked.true in
    record { value = done.0; out_after = done.1 }

pub put_entry-e-requires : goal.put_entry-e-requires
put_entry-e-requires c =
    let w = c.walk-walked in
    let line : c.line_under-line.result.now ≡ code_text (lines c.args.body.now) (first_address_of c.args.code.now) c.loop.state.at = c.line_under-line.ensures ∙ line-there _ _ _ (c.seek-cursor.ensures.1 ∙ c.line_of.ensures) in
    writing-room c.loop.invariant.writing (omega arith) w.result w.ensures c.if-not-walked.false c.line_under-line.result.now line c.requires.start_in_bounds

pub returns-then-walked : goal.returns-then-walked
returns-then-walked c =
    let w = c.walk-walked in
    let line : c.line_under-line.result.now ≡ code_text (lines c.args.body.now) (first_address_of c.args.code.now) c.loop.state.at = c.line_under-line.ensures ∙ line-there _ _ _ (c.seek-cursor.ensures.1 ∙ c.line_of.ensures) in
    let put = c.put_entry-e.ensures in
    let done = writing-stops c.loop.invariant.writing (omega arith) w.result w.ensures c.if-not-walked.false c.line_under-line.result.now line (put.value, put.out_after) c.if-walked.true in
    record { value = done.0; out_after = done.1 }

pub loop-preserved : goal.loop-preserved
loop-preserved c =
    let w = c.walk-walked in
    let line : c.line_under-line.result.now ≡ code_text (lines c.args.body.now) (first_address_of c.args.code.now) c.loop.state.at = c.line_under-line.ensures ∙ line-there _ _ _ (c.seek-cursor.ensures.1 ∙ c.line_of.ensures) in
    let put = c.put_entry-e.ensures in
    let left : lines_in c.args.code.now - (c.loop.counter + 1) ≡ lines_in c.args.code.now - c.loop.counter - 1 = omega arith in
    record {
      writing = rw left (writing-next c.loop.invariant.writing (omega arith) w.result w.ensures c.if-not-walked.false c.line_under-line.result.now line (put.value, put.out_after) c.if-walked.false c.put_entry-e.auto.out);
      cursor = c.seek-cursor.ensures.0;
    }

pub returns : goal.returns
returns c =
    let done = writing-ends c.loop.invariant.writing (omega arith) in
    record { value = done.0; out_after = done.1 }
