-- What is printed is what the answer and its memory say.
use Rattle.std.proofs.Common.{◌∙◌, length}
use Rattle.trace_entry.specs.Answers.{trace_answer}
use Rattle.console.proofs.PrintLaws.{line-held, line-printed}
use Rattle.trace.proofs.answer.Goals as goal

pub put_line-requires : goal.put_line-requires
put_line-requires c = line-held (trace_answer c.args.text.now (length c.args.out.now)) c.args.out.now c.trace-answer.ensures.value c.trace-answer.ensures.out_after c.requires

pub returns-clause-out_after : goal.returns-clause-out_after
returns-clause-out_after c = c.put_line.ensures.bytes_after ∙ line-printed (trace_answer c.args.text.now (length c.args.out.now)) c.args.out.now c.trace-answer.ensures.value c.trace-answer.ensures.out_after
