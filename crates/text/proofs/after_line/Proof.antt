-- `text::after_line` meets its contract. Assumes nothing.
use native.Mathlib.Omega.{arith}
use borrow.Author.Rules.{rules}
use Rattle.text.proofs.LineLaws.{line-length, next_more, next-none}
use Rattle.text.proofs.after_line.Statement.{statement}
use Rattle.text.proofs.after_line.Tie as tie

returns : tie.Need-returns-then-e-s
returns c = (next_more _ _ (line-length _ c.requires) c.if-e-s.true, omega arith)

returns-2 : tie.Need-returns
returns-2 c = (next-none _ _ (line-length _ c.requires) c.if-e-s.false, omega arith)

pub after_line_spec : {M : Type 1} → statement M
after_line_spec =
    tie.close
    (tie.spec
    (λ c. search rules)
    (λ c. search rules)
    (λ c. search rules)
    (λ c. search rules)
    returns
    (λ c. search rules)
    returns-2)
