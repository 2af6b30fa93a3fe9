-- `file_code::after_word` meets its contract. Assumes nothing.
use Rattle.text.specs.Text.{line_words}
use borrow.Author.Rules.{rules}
use Rattle.file_code.proofs.WholeLaws.{after_more, after_none}
use Rattle.file_code.proofs.after_word.Statement.{statement}
use Rattle.file_code.proofs.after_word.Tie as tie

returns : tie.Need-returns-then-e-line
unfolding line_words
returns c = after_more _ _ c.requires c.if-e-line.true

returns-2 : tie.Need-returns
unfolding line_words
returns-2 c = after_none _ _ c.requires c.if-e-line.false

pub after_word_spec : {M : Type 1} → statement M
after_word_spec =
    tie.close
    (tie.spec
    (λ c. search rules)
    (λ c. search rules)
    (λ c. search rules)
    (λ c. search rules)
    returns
    (λ c. search rules)
    returns-2)
