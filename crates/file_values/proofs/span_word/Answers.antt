-- `file_values::span_word` meets its contract. Assumes nothing.
use Rattle.std.specs.Prelude.{Option, ℤ}
use mathlib.Core.Path.{◌≡◌, refl, sym, ap₂, ◌∙◌}
use mir.Syntax.{w64}
use mir.ValLaws.{to_z-of_z}
use Rattle.file_format.specs.declared.CellWord.{CellWord}
use Rattle.file_format.specs.declared.CellWord.TheVariants.{Span}
use Rattle.file_format.specs.Rows.{span_of}
use borrow.Author.Rules.{rules}
use Rattle.file_values.proofs.span_word.Goals as goal

matched : (m n : Option ℤ) {m' n' : Option ℤ} {x : CellWord} → m ≡ m' → n ≡ n' → x ≡ span_of m' n' → x ≡ span_of m n
matched m n p q e = e ∙ sym (ap₂ span_of p q)

pub returns-in-None : goal.returns-in-None
unfolding span_of
returns-in-None c = matched _ _ c.in-None.is refl refl

pub returns-in-None-n : goal.returns-in-None-n
unfolding span_of
returns-in-None-n c = matched _ _ c.in-Some.is c.in-None-n.is refl

pub returns-in-Some-n : goal.returns-in-Some-n
unfolding span_of
returns-in-Some-n c = matched _ _ c.in-Some.is c.in-Some-n.is (ap₂ Span (to_z-of_z w64 _ (search rules)) (to_z-of_z w64 _ (search rules)))
