-- Laws of a file's lines: the section of the code is its names line and its code lines, and put back in its place it makes the file.
-- Assumes nothing.
use mathlib.Core.Path.{◌≡◌, refl, sym, ap, ◌∙◌}
use mathlib.Core.Bool.{Bool}
use mathlib.Core.List.{List, [], ◌∷◌, ◌++◌, append_assoc}
use Prim.Native.Nat.{ℕ, ◌+◌, ◌<◌, ◌≤◌}
use native.Mathlib.Omega.{arith}
use lib.ListN.{length, get_or, take, drop, take-append-drop}
use lib.Seq.{drop-cons}
use Rattle.text.specs.Text.{bytes, Line, no_line, lines, lines_text}
use Rattle.text.proofs.TextLaws.{equals-path}
use Rattle.file_format.specs.declared.Section.TheVariants.{Instructions as instructions}
use Rattle.file_format.specs.declared.Role.{Role}
use Rattle.file_format.specs.declared.Role.TheVariants.{Names as names}
use Rattle.file_format.specs.declared.Row.TheVariants.{Layout as Layout-row}
use Rattle.file_format.specs.Layout.{layout, body, lines_of_code, body_roles, roles, text_at}
use Rattle.file_format.specs.Rows.{names_laid_out, is_laid_out, test, Passes}
use Rattle.file_format.proofs.RowLaws.{Covered, passed, row-covered, passes-laid-out, lines-ended}
use Rattle.file_format.proofs.CodeLineLaws.{code-take}
use Rattle.words_inverse.specs.Sections.{lines_before, section_length, code_section, replaced}
use Rattle.text.proofs.JoinLaws.{lines-append, text-of-lines}

-- ---- the names line of the code

-- every role of the layout has its line
covered-length : {t : Role → Line → Bool} (rs bs : List Role) {ls : List Line} → Covered t (rs ++ bs) ls → length rs ≤ length ls
covered-length [] bs c = omega arith
covered-length (r ∷ rs) bs (passed p c) = let h = covered-length rs bs c in omega arith

-- it is the last of the layout
names-last : {t : Role → Line → Bool} (bs : List Role) {ls : List Line} → Covered t (layout ++ bs) ls → text_at (names instructions) layout ls ≡ (get_or ls lines_before no_line).text
unfolding text_at
names-last bs (passed _ (passed _ (passed _ (passed _ (passed _ (passed _ (passed _ (passed _ (passed _ (passed _ (passed _ (passed _ (passed _ (passed _ c)))))))))))))) = refl

module _ {ls : List Line} (p : Passes ls) where
  covered : Covered (test Layout-row ls) (layout ++ body_roles (body ls)) ls
  unfolding roles
  covered = row-covered Layout-row ls p.layout

  long : lines_before < length ls
  long = covered-length layout (body_roles (body ls)) covered

  pub names-line : (get_or ls lines_before no_line).text ≡ bytes "AT OP ARG"
  unfolding is_laid_out names_laid_out
  names-line = sym (names-last (body_roles (body ls)) covered) ∙ equals-path (text_at (names instructions) layout ls) (bytes "AT OP ARG") (passes-laid-out p (names instructions) refl)

  -- the section of the code, line by line
  pub section-lines : take (section_length ls) (drop lines_before ls) ≡ get_or ls lines_before no_line ∷ lines_of_code (body ls)
  unfolding body
  section-lines =
      ap (take (section_length ls)) (drop-cons ls lines_before no_line long)
      ∙ ap (λ ms. get_or ls lines_before no_line ∷ ms) (sym (code-take (body ls)))

  pub section-text : code_section ls ≡ bytes "AT OP ARG\n" ++ lines_text (lines_of_code (body ls))
  unfolding code_section lines_text
  section-text = ap lines_text section-lines ∙ ap (λ t. t ++ bytes "\n" ++ lines_text (lines_of_code (body ls))) names-line

-- ---- the section in its place

pub replaced-same : (ls : List Line) → replaced ls (code_section ls) ≡ lines_text ls
unfolding replaced code_section
replaced-same ls =
    let before = take lines_before ls in
    let rest = drop lines_before ls in
    let n = section_length ls in
    append_assoc (lines_text before) (lines_text (take n rest)) (lines_text (drop n rest))
    ∙ ap (λ t. lines_text before ++ t) (sym (lines-append (take n rest) (drop n rest)) ∙ ap lines_text (take-append-drop n rest))
    ∙ sym (lines-append before rest)
    ∙ ap lines_text (take-append-drop lines_before ls)

pub replaced-whole : (text : List ℕ) → Passes (lines text) → replaced (lines text) (code_section (lines text)) ≡ text
replaced-whole text p = replaced-same (lines text) ∙ text-of-lines text (lines-ended (lines text) p.layout)
