-- `words::read_head` meets its contract.
use mathlib.Core.Path.{sym, ap, ◌∙◌}
use Rattle.instructions.specs.Opcodes.{kind_coded}
use Rattle.instructions.proofs.OpcodeLaws.{opcode-of-kind}
use Rattle.words.specs.Words.{words_of}
use Rattle.words.specs.Held.{with_argument}
use Rattle.words.proofs.WordLaws.{part-is}
use Rattle.words.proofs.HeadLaws.{head-short, head-unknown, head-argument, head_plain}
use Rattle.words.proofs.read_head.Goals as goal

pub returns-then-words-lt4 : goal.returns-then-words-lt4
returns-then-words-lt4 c = sym (head-short c.args.words.now c.if-words-lt4.true)

pub returns-in_err-k : goal.returns-in_err-k
returns-in_err-k c =
    let e = ap kind_coded (sym c.first_word.ensures) ∙ sym c.kind_coded.ensures ∙ c.in_err-k.was in
    c.from_residual.ensures ∙ sym (head-unknown c.args.words.now c.if-words-lt4.false e)

pub has_argument-requires : goal.has_argument-requires
has_argument-requires c = (opcode-of-kind _ _ (sym c.kind_coded.ensures ∙ c.in_ok-k.was)).0

pub returns-then-has_argument : goal.returns-then-has_argument
returns-then-has_argument c =
    let words = c.args.words.now in
    let e = ap kind_coded (sym c.first_word.ensures) ∙ sym c.kind_coded.ensures ∙ c.in_ok-k.was in
    let t = sym c.has_argument.ensures ∙ c.if-has_argument.true in
    c.with_argument.ensures ∙ ap (λ bs. with_argument c.in_ok-k.k (words_of bs)) (part-is words 4) ∙ sym (head-argument words c.if-words-lt4.false _ e t)

pub returns : goal.returns
returns c =
    let e = ap kind_coded (sym c.first_word.ensures) ∙ sym c.kind_coded.ensures ∙ c.in_ok-k.was in
    let t = sym c.has_argument.ensures ∙ c.if-has_argument.false in
    sym (head_plain c.args.words.now c.if-words-lt4.false _ e t)
