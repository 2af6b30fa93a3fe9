-- `file_parts::number_of` meets its contract. Assumes nothing.
use mathlib.Core.Path.{◌≡◌, sym, subst, ◌∙◌}
use mir.Syntax.{w32, w64}
use mir.Val.{SFits, of_z, to_z}
use mir.ValLaws.{to_z-of_z}
use Rattle.file_format.specs.Rows.{value}
use Rattle.file_format.specs.Routine.{inside}
use Rattle.file_values.proofs.ValueLaws.{inside-fits}
use Rattle.file_parts.proofs.WordLaws.{near}
use borrow.Author.Rules.{rules}
use Rattle.file_parts.proofs.number_of.Statement.{statement}
use Rattle.file_parts.proofs.number_of.Tie as tie

held : (c : tie.After-number_in-z) → to_z w64 (of_z w64 c.number_in-z.result) ≡ inside c.args.range (value c.args.w.now)
held c = to_z-of_z w64 _ (search rules) ∙ c.number_in-z.ensures

fits : (c : tie.After-number_in-z) → SFits w32 (to_z w64 (of_z w64 c.number_in-z.result))
fits c = let start = c in subst (SFits w32) (sym (held c)) (inside-fits start.args.range (value start.args.w.now) start.requires.0 start.requires.1)

number-in-requires : tie.Need-number_in-z-requires
number-in-requires c κs = near _ c.requires.0 c.requires.1

cast-result : tie.Need-overflow_cast-result
cast-result c = fits c

returns : tie.Need-returns
returns c = to_z-of_z w32 _ (fits c) ∙ held c

pub number_of_spec : {M : Type 1} → statement M
number_of_spec = tie.close (tie.spec number-in-requires cast-result returns)
