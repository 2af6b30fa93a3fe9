-- `words::code_fault` meets its contract: the first pass, and the second where the first finds nothing. Assumes nothing.
use Rattle.std.specs.Prelude.{None}
use mathlib.Core.Path.{◌≡◌, sym, ◌∙◌}
use Rattle.words.specs.Words.{words_of}
use Rattle.words.specs.Decoding.{word_fault}
use Rattle.words.proofs.OffsetLaws.{readable_of, fault-first, fault-then}
use borrow.Author.Rules.{rules}
use Rattle.words.proofs.code_fault.Statement.{statement}
use Rattle.words.proofs.code_fault.Tie as tie

-- nothing is found in the first pass
none : (c : tie.In-None) → word_fault c.args.listed (words_of c.args.words.now) ≡ None
none c = sym c.word_fault.ensures ∙ c.in-None.is

enum_told : tie.Need-enum_told-1
enum_told c = search rules

numbers-of-requires : tie.Need-numbers_of-numbers-requires
numbers-of-requires c κs = readable_of _ _ (none c)

offset-fault-requires : tie.Need-offset_fault-requires
offset-fault-requires c κs = (readable_of _ _ (none c.before.before), c.numbers_of-numbers.ensures)

returns : tie.Need-returns-in-Some
returns c = sym (fault-first _ _ _ (sym c.word_fault.ensures ∙ c.in-Some.is))

returns-2 : tie.Need-returns-in-None
returns-2 c = c.offset_fault.ensures ∙ sym (fault-then _ _ (none c.before.before.before))

pub code_fault_spec : {M : Type 1} → statement M
code_fault_spec =
    tie.close
    (tie.spec
    (λ c κs. search rules)
    (λ c. search rules)
    enum_told
    numbers-of-requires
    (λ c. search rules)
    offset-fault-requires
    returns
    returns-2)
