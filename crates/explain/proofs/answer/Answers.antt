-- What is printed is what the answer and its memory say.
use Rattle.std.proofs.Common.{◌∙◌, length}
use Rattle.explain_entry.specs.Answers.{explain_answer}
use Rattle.console.proofs.PrintLaws.{line-held, line-printed}
use Rattle.explain.proofs.answer.Goals as goal

pub put_line-requires : goal.put_line-requires
put_line-requires c = line-held (explain_answer c.args.text.now (length c.args.out.now)) c.args.out.now c.explain-answer.ensures.value c.explain-answer.ensures.out_after c.requires

pub returns-clause-out_after : goal.returns-clause-out_after
returns-clause-out_after c = c.put_line.ensures.bytes_after ∙ line-printed (explain_answer c.args.text.now (length c.args.out.now)) c.args.out.now c.explain-answer.ensures.value c.explain-answer.ensures.out_after
