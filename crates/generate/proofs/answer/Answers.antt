-- What is printed is what the answer and its memory say.
use Rattle.std.proofs.Common.{◌∙◌, length}
use Rattle.generate_entry.specs.Answers.{generate_answer}
use Rattle.console.proofs.PrintLaws.{line-held, line-printed}
use Rattle.generate.proofs.answer.Goals as goal

pub put_line-requires : goal.put_line-requires
put_line-requires c = line-held (generate_answer c.args.seed (length c.args.out.now)) c.args.out.now c.generate-answer.ensures.value c.generate-answer.ensures.out_after c.requires

pub returns-clause-out_after : goal.returns-clause-out_after
returns-clause-out_after c = c.put_line.ensures.bytes_after ∙ line-printed (generate_answer c.args.seed (length c.args.out.now)) c.args.out.now c.generate-answer.ensures.value c.generate-answer.ensures.out_after
