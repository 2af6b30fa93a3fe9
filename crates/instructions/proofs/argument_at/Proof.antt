-- `instructions::argument_at` meets its contract: an argument is known by its code and its range.
-- Assumes nothing.
use mathlib.Core.Path.{sym, ap, ◌∙◌}
use native.Mathlib.Omega.{arith}
use borrow.Author.Tests.{ltb-false}
use Rattle.instructions.specs.HeldColumns.{argument_code}
use Rattle.instructions.specs.Kinds.{kind_at}
use Rattle.instructions.proofs.ColumnLaws.{decoded, decoded-is, code-bound}
use borrow.Author.Rules.{rules}
use Rattle.instructions.proofs.argument_at.Statement.{statement}
use Rattle.instructions.proofs.argument_at.Tie as tie

returns : tie.Need-returns-then-not-takes_at
returns c =
    let a = (kind_at c.args.k).argument in
    decoded-is 0 a (omega (arith, ltb-false 0 (argument_code a) (sym c.takes_at.ensures ∙ c.if-not-takes_at.true)))

returns-2 : tie.Need-returns-in-0
returns-2 c = decoded-is 0 _ (sym c.in-0.is ∙ c.argument_code_at.ensures)

returns-3 : tie.Need-returns-in-1
returns-3 c = ap (decoded 1) c.range_at.ensures ∙ decoded-is 1 _ (sym c.in-1.is ∙ c.argument_code_at.ensures)

returns-4 : tie.Need-returns-in-2
returns-4 c = decoded-is 2 _ (sym c.in-2.is ∙ c.argument_code_at.ensures)

returns-5 : tie.Need-returns-in_default
returns-5 c =
    let a = (kind_at c.args.k).argument in
    let e = c.argument_code_at.ensures in
    decoded-is 3 a (omega (arith, code-bound a, c.in_default.in_default-own.rest.1, c.in_default.in_default-own.rest.0.1, c.in_default.in_default-own.rest.0.0.1))

pub argument_at_spec : {M : Type 1} → statement M
argument_at_spec =
    tie.close
    (tie.spec
    (λ c κs. search rules)
    returns
    (λ c κs. search rules)
    (λ c κs. search rules)
    returns-2
    returns-3
    returns-4
    returns-5)
