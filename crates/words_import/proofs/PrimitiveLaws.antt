-- Laws of the primitives line: what each test of it means. Assumes nothing.
use Rattle.std.specs.Prelude.{Err, Ok}
use mathlib.Core.Path.{◌≡◌, refl, ap, ◌∙◌}
use mathlib.Core.Bool.{true, false, cond, ◌&&◌}
use mathlib.Core.List.{List}
use Prim.Native.Nat.{ℕ}
use Rattle.refusals.specs.declared.Refusal.TheVariants.{Layout, BadName}
use Rattle.text.specs.Text.{bytes, equals, line_words, all, distinct}
use Rattle.file_format.specs.declared.Section.TheVariants.{Primitives as primitives}
use Rattle.file_format.specs.Layout.{list}
use Rattle.file_format.specs.Rows.{names_laid_out, well_named, is_name}
use Rattle.file_lines.specs.declared.WordTest.TheVariants.{Filled, Primitive}
use Rattle.file_lines.specs.HeldLines.{word_test}
use Rattle.words.specs.Import.{line_laid_out, line_verdict}

module _ (text : List ℕ) where
  pub line-spaced : all (word_test Filled) (line_words text) ≡ false → line_verdict text ≡ Err (Layout 1)
  unfolding word_test line_laid_out line_verdict
  line-spaced e = rw e refl

  pub line-many : all (word_test Filled) (line_words text) ≡ true → names_laid_out primitives text ≡ false → line_verdict text ≡ Err (Layout 1)
  unfolding word_test line_laid_out line_verdict
  line-many e f = rw (e, f) refl

  module _ (e : all (word_test Filled) (line_words text) ≡ true) (f : names_laid_out primitives text ≡ true) where
    laid_out : line_verdict text ≡ cond (well_named primitives (list text)) (Ok tt) (Err (BadName 1))
    unfolding word_test line_laid_out line_verdict
    laid_out = rw (e, f) refl

    pub line-none : equals text (bytes "-") ≡ true → line_verdict text ≡ Ok tt
    unfolding list well_named all distinct
    line-none g = laid_out ∙ rw g refl

    module _ (g : equals text (bytes "-") ≡ false) where
      listed-words : well_named primitives (list text) ≡ (all is_name (line_words text) && distinct (line_words text))
      unfolding list well_named
      listed-words = rw g refl

      named : line_verdict text ≡ cond (all is_name (line_words text) && distinct (line_words text)) (Ok tt) (Err (BadName 1))
      named = laid_out ∙ ap (λ b. cond b (Ok tt) (Err (BadName 1))) listed-words

      pub line-misspelt : all (word_test Primitive) (line_words text) ≡ false → line_verdict text ≡ Err (BadName 1)
      unfolding word_test
      line-misspelt h = named ∙ rw h refl

      pub line-repeated : all (word_test Primitive) (line_words text) ≡ true → distinct (line_words text) ≡ false → line_verdict text ≡ Err (BadName 1)
      unfolding word_test
      line-repeated h k = named ∙ rw (h, k) refl

      pub line-fine : all (word_test Primitive) (line_words text) ≡ true → distinct (line_words text) ≡ true → line_verdict text ≡ Ok tt
      unfolding word_test
      line-fine h k = named ∙ rw (h, k) refl
