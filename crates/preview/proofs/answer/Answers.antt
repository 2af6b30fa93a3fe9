-- What is printed is what the answer and its memory say.
use Rattle.std.proofs.Common.{◌∙◌, length}
use Rattle.preview_entry.specs.Answers.{preview_answer}
use Rattle.console.proofs.PrintLaws.{line-held, line-printed}
use Rattle.preview.proofs.answer.Goals as goal

pub put_line-requires : goal.put_line-requires
put_line-requires c = line-held (preview_answer c.args.text.now c.args.address c.args.instruction.now (length c.args.out.now)) c.args.out.now c.preview-answer.ensures.value c.preview-answer.ensures.out_after c.requires

pub returns-clause-out_after : goal.returns-clause-out_after
returns-clause-out_after c = c.put_line.ensures.bytes_after ∙ line-printed (preview_answer c.args.text.now c.args.address c.args.instruction.now (length c.args.out.now)) c.args.out.now c.preview-answer.ensures.value c.preview-answer.ensures.out_after
