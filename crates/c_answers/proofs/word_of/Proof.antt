-- `c_answers::word_of` meets its contract. Assumes nothing.
use Rattle.c_answers.specs.Told.{word_of}
use Rattle.file_lines.proofs.LineLaws.{arm}
use Rattle.c_answers.proofs.ToldLaws.{word-reported}
use borrow.Author.Rules.{rules}
use Rattle.c_answers.proofs.word_of.Statement.{statement}
use Rattle.c_answers.proofs.word_of.Tie as tie

returns : tie.Need-returns-in-Ok
returns c = word-reported _ _ c.in-Ok.is

returns-2 : tie.Need-returns-in-Err
returns-2 c = arm word_of c.in-Err.is c.refusal_word.ensures

pub word_of_spec : {M : Type 1} → statement M
word_of_spec =
    tie.close
    (tie.spec (λ c. search rules) (λ c. search rules) (λ c κs. search rules) returns returns-2)
