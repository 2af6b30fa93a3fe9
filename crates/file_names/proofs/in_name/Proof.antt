-- `file_names::in_name` meets its contract. Assumes nothing.
use mathlib.Core.Path.{refl, sym, ◌∙◌}
use borrow.Author.Rules.{rules}
use Rattle.file_names.proofs.in_name.Statement.{statement}
use Rattle.file_names.proofs.in_name.Tie as tie

returns : tie.Need-returns-then-is_capital
returns c = rw (sym c.is_capital.ensures ∙ c.if-is_capital.true) refl

returns-2 : tie.Need-returns-then-is_digit
returns-2 c = rw (sym c.is_capital.ensures ∙ c.if-is_capital.false, sym c.is_digit.ensures ∙ c.if-is_digit.true) refl

returns-3 : tie.Need-returns
returns-3 c = rw (sym c.is_capital.ensures ∙ c.if-is_capital.false, sym c.is_digit.ensures ∙ c.if-is_digit.false) refl

pub in_name_spec : {M : Type 1} → statement M
in_name_spec = tie.close (tie.spec (λ c κs. search rules) returns (λ c κs. search rules) returns-2 returns-3)
