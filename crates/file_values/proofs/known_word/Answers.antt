-- `file_values::known_word` meets its contract. Assumes nothing.
use mathlib.Core.Path.{sym, ap, ◌∙◌}
use mir.Syntax.{w64}
use mir.ValLaws.{to_z-of_z}
use Rattle.file_format.specs.declared.CellWord.TheVariants.{Known}
use Rattle.file_format.specs.Rows.{known_of}
use borrow.Author.Rules.{rules}
use Rattle.file_values.proofs.known_word.Goals as goal

pub returns-in-None : goal.returns-in-None
unfolding known_of
returns-in-None c = sym (ap known_of c.in-None.is)

pub returns-in-Some : goal.returns-in-Some
unfolding known_of
returns-in-Some c = ap Known (to_z-of_z w64 _ (search rules)) ∙ sym (ap known_of c.in-Some.is)
