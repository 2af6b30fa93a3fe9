-- `file_values::block_word` meets its contract. Assumes nothing.
use mathlib.Core.Path.{sym, ap, ◌∙◌}
use mir.Syntax.{w64}
use mir.ValLaws.{to_z-of_z}
use Rattle.file_format.specs.declared.CellWord.TheVariants.{Block}
use Rattle.file_format.specs.Rows.{block_of}
use borrow.Author.Rules.{rules}
use Rattle.file_values.proofs.block_word.Goals as goal

pub returns-in-None : goal.returns-in-None
unfolding block_of
returns-in-None c = sym (ap block_of c.in-None.is)

pub returns-in-Some : goal.returns-in-Some
unfolding block_of
returns-in-Some c = ap Block (to_z-of_z w64 _ (search rules)) ∙ sym (ap block_of c.in-Some.is)
