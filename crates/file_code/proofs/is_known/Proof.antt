-- `file_code::is_known` meets its contract. Assumes nothing.
use mathlib.Core.Path.{sym, ◌∙◌}
use Rattle.file_lines.proofs.KindLaws.{name-known, name-unknown}
use borrow.Author.Rules.{rules}
use Rattle.file_code.proofs.is_known.Statement.{statement}
use Rattle.file_code.proofs.is_known.Tie as tie

returns : tie.Need-returns-in_default
returns c = λ w e. sym (name-unknown w (sym e ∙ c.in_default.is))

returns-2 : tie.Need-returns
returns-2 c = λ w e. sym (name-known w (sym e ∙ c.in-Some.is))

pub is_known_spec : {M : Type 1} → statement M
is_known_spec = tie.close (tie.spec (λ c. search rules) (λ c. search rules) returns returns-2)
