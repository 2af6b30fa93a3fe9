-- `file_parts::slot_of` meets its contract. Assumes nothing.
use mathlib.Core.Path.{refl}
use Rattle.file_lines.proofs.LineLaws.{arm}
use Rattle.file_parts.specs.HeldParts.{slot_of}
use borrow.Author.Rules.{rules}
use Rattle.file_parts.proofs.slot_of.Statement.{statement}
use Rattle.file_parts.proofs.slot_of.Tie as tie

mul-result : tie.Need-overflow_mul-result
mul-result c = let h = c.requires _ c.in-Some.is in search rules

returns : tie.Need-returns-in-Some
returns c = arm slot_of c.in-Some.is refl

pub slot_of_spec : {M : Type 1} → statement M
slot_of_spec = tie.close (tie.spec (λ c. search rules) mul-result (λ c. search rules) returns (λ c. search rules))
