-- `file_names::is_field` meets its contract. Assumes nothing.
use mathlib.Core.Path.{sym, ◌∙◌}
use Rattle.file_names.proofs.NameLaws.{no_block, no_place, short-field, long-field}
use borrow.Author.Rules.{rules}
use Rattle.file_names.proofs.is_field.Statement.{statement}
use Rattle.file_names.proofs.is_field.Tie as tie

returns : tie.Need-returns-then-k-ge8
returns c = sym (no_block _ _ _ c.if-k-ge8.true)

returns-2 : tie.Need-returns-then-n-ge16
returns-2 c = sym (no_place _ _ _ c.if-n-ge16.true)

returns-3 : tie.Need-returns-then-n-lt10
returns-3 c = c.same.ensures ∙ sym (short-field _ _ _ c.if-k-ge8.false c.if-n-lt10.true)

returns-4 : tie.Need-returns
returns-4 c = c.same-2.ensures ∙ sym (long-field _ _ _ c.if-k-ge8.false c.if-n-lt10.false c.if-n-ge16.false)

pub is_field_spec : {M : Type 1} → statement M
is_field_spec =
    tie.close
    (tie.spec
    returns
    returns-2
    (λ c. search rules)
    (λ c. search rules)
    (λ c. search rules)
    (λ c. search rules)
    (λ c. search rules)
    (λ c κs. search rules)
    returns-3
    (λ c. search rules)
    (λ c. search rules)
    (λ c. search rules)
    (λ c. search rules)
    (λ c. search rules)
    (λ c κs. search rules)
    returns-4)
