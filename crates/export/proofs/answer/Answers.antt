-- What is printed is what the answer and its memory say.
use Rattle.std.proofs.Common.{◌∙◌, length}
use Rattle.words_entry.specs.Answers.{export_answer}
use Rattle.console.proofs.PrintLaws.{line-held, line-printed}
use Rattle.export.proofs.answer.Goals as goal

pub put_line-requires : goal.put_line-requires
put_line-requires c = line-held (export_answer c.args.text.now (length c.args.out.now)) c.args.out.now c.export-answer.ensures.value c.export-answer.ensures.out_after c.requires

pub returns-clause-out_after : goal.returns-clause-out_after
returns-clause-out_after c = c.put_line.ensures.bytes_after ∙ line-printed (export_answer c.args.text.now (length c.args.out.now)) c.args.out.now c.export-answer.ensures.value c.export-answer.ensures.out_after
