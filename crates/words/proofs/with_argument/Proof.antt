-- `words::with_argument` meets its contract. Assumes nothing.
use mathlib.Core.Path.{sym, ap, ◌∙◌}
use mir.Syntax.{w32}
use mir.ValLaws.{to_z-of_z}
use Rattle.numbers.specs.Numbers.{signed}
use Rattle.words.specs.Words.{word_bits}
use Rattle.words.specs.Held.{instruction}
use Rattle.words.proofs.HeadLaws.{argument-short, argument-read}
use borrow.Author.Rules.{rules}
use Rattle.words.proofs.with_argument.Statement.{statement}
use Rattle.words.proofs.with_argument.Tie as tie

returns : tie.Need-returns-then-words-lt4
returns c = let a = c.args in sym (argument-short a.k a.words.now c.if-words-lt4.true)

returns-2 : tie.Need-returns
returns-2 c =
    let a = c.args in
    ap (instruction a.k) (to_z-of_z w32 _ (search rules) ∙ c.signed.ensures ∙ ap (signed word_bits) c.first_word.ensures)
    ∙ sym (argument-read a.k a.words.now c.if-words-lt4.false)

pub with_argument_spec : {M : Type 1} → statement M
with_argument_spec = tie.close (tie.spec returns (λ c κs. search rules) (λ c κs. search rules) returns-2)
