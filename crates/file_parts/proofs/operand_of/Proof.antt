-- `file_parts::operand_of` meets its contract. Assumes nothing.
use mathlib.Core.Path.{◌≡◌, sym, ap, ◌∙◌}
use mir.Syntax.{w32}
use mir.ValLaws.{to_z-of_z}
use Rattle.numbers.specs.declared.Range.{Range}
use Rattle.file_format.specs.Rows.{value}
use Rattle.file_format.specs.Routine.{inside}
use Rattle.instructions.specs.declared.Argument.{Argument}
use Rattle.instructions.specs.Kinds.{kind_at}
use Rattle.instructions.proofs.ColumnLaws.{target-range}
use Rattle.file_parts.proofs.WordLaws.{numbers_fit, addresses-fit}
use Rattle.file_parts.proofs.EntryLaws.{operand-absent, operand-target, operand-primitive, operand-within}
use borrow.Author.Rules.{rules}
use Rattle.file_parts.proofs.operand_of.Statement.{statement}
use Rattle.file_parts.proofs.operand_of.Tie as tie

-- the kind takes what it is said to take
takes : (start : tie.Start) {a : Argument} → start.args.takes ≡ a → (kind_at start.args.k).argument ≡ a
takes start e = sym start.requires.1 ∙ e

number-of-requires : tie.Need-number_of-requires
number-of-requires c κs = addresses-fit _ (target-range c.range_at.ensures c.requires.1 c.in-Target.is)

number-of-requires-2 : tie.Need-number_of-requires-in-Within
number-of-requires-2 c κs = numbers_fit _ c.number_range.ensures

returns : tie.Need-returns-in-Absent
returns c =
    let start = c in
    λ ps. to_z-of_z w32 _ (search rules) ∙ c.fixed_at.ensures ∙ operand-absent (kind_at start.args.k) ps start.args.w.now (takes start.before.before.before c.in-Absent.is)

returns-2 : tie.Need-returns-in-Target
returns-2 c =
    let start = c in
    let q = c.in-Target.is in
    λ ps. to_z-of_z w32 _ (search rules) ∙ c.number_of.ensures ∙ ap (λ (r : Range). inside r (value start.args.w.now)) (target-range c.range_at.ensures start.requires.1 q)
    ∙ operand-target (kind_at start.args.k) ps start.args.w.now (takes start.before.before.before.before q)

returns-3 : tie.Need-returns-in-Primitive
returns-3 c =
    let start = c in
    λ ps. to_z-of_z w32 _ (search rules) ∙ c.fixed_at-in-Primitive.ensures ∙ operand-primitive (kind_at start.args.k) ps start.args.w.now (takes start.before.before.before c.in-Primitive.is)

returns-4 : tie.Need-returns-in-Within
returns-4 c =
    let start = c in
    λ ps. to_z-of_z w32 _ (search rules) ∙ c.number_of-in-Within.ensures ∙ ap (λ (r : Range). inside r (value start.args.w.now)) c.number_range.ensures
    ∙ operand-within (kind_at start.args.k) ps start.args.w.now _ (takes start.before.before.before.before c.in-Within.is)

pub operand_of_spec : {M : Type 1} → statement M
operand_of_spec =
    tie.close
    (tie.spec
    (λ c. search rules)
    (λ c κs. search rules)
    (λ c. search rules)
    (λ c κs. search rules)
    number-of-requires
    (λ c. search rules)
    (λ c κs. search rules)
    (λ c. search rules)
    (λ c κs. search rules)
    number-of-requires-2
    returns
    returns-2
    returns-3
    returns-4)
