-- `words::put_word` meets its contract. Assumes nothing.
use Rattle.words.specs.Words.{bytes_of}
use borrow.Author.Rules.{rules}
use Rattle.words.proofs.put_word.Statement.{statement}
use Rattle.words.proofs.put_word.Tie as tie

returns : tie.Need-returns
unfolding bytes_of
returns c = let p = c.put.ensures in (p.0, p.1)

pub put_word_spec : {M : Type 1} → statement M
put_word_spec =
    tie.close
    (tie.spec
    (λ c. search rules)
    (λ c. search rules)
    (λ c. search rules)
    (λ c. search rules)
    (λ c. search rules)
    (λ c κs. search rules)
    (λ c. search rules)
    returns)
