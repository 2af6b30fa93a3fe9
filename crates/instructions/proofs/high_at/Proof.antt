-- `instructions::high_at` meets its contract: the column is `map` of the rule over the table, by computation.
-- Assumes nothing.
use mathlib.Core.Path.{refl}
use mir.Syntax.{w64}
use Rattle.instructions.specs.Kinds.{kinds}
use Rattle.instructions.specs.HeldColumns.{range_of}
use Rattle.instructions.proofs.ColumnLaws.{integer-at}
use borrow.Author.Rules.{rules}
use Rattle.instructions.proofs.high_at.Statement.{statement}
use Rattle.instructions.proofs.high_at.Tie as tie

returns : tie.Need-returns
unfolding kinds range_of
returns c = integer-at w64 (λ r. (range_of r.argument).high) refl c.args.k c.requires

pub high_at_spec : {M : Type 1} → statement M
high_at_spec = tie.close (tie.spec (λ c. search rules) (λ c. search rules) returns)
