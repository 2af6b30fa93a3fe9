-- "Once a file passes 1 to 6, the bound does not depend on ANSWER.": the routine but for its answers is read off the lines of the
-- layout and the code lines alone. Assumes nothing.
use mathlib.Core.Path.{◌≡◌, refl, sym, ap, ◌∙◌}
use mathlib.Core.Bool.{cond}
use mathlib.Core.List.{List, [], ◌∷◌}
use lib.ListN.{length, take}
use Rattle.text.specs.Text.{Line}
use Rattle.file_format.specs.declared.Section.{Section}
use Rattle.file_format.specs.declared.Role.{Role}
use Rattle.file_format.specs.Layout.{layout, body, lines_of_code, list, is_role, text_at, listed}
use Rattle.file_format.specs.Rows.{first_at}
use Rattle.file_format.specs.Routine.{Routine, price_list, code_in, routine_of}

-- the two routines differ in their answers at most
abbrev pub SameButAnswers : Routine → Routine → Type 0
SameButAnswers x y = (x.budget ≡ y.budget) × (x.tick ≡ y.tick) × (x.code ≡ y.code) × (x.start ≡ y.start)

-- the line of a role is among as many lines as there are roles
text-among : (r : Role) (rs : List Role) (ls : List Line) → text_at r rs (take (length rs) ls) ≡ text_at r rs ls
unfolding text_at
text-among r [] ls = refl
text-among r (x ∷ xs) [] = refl
text-among r (x ∷ xs) (l ∷ ls) = ap (cond (is_role r x) l.text) (text-among r xs ls)

-- the first address is that of the first code line
pub first_code : (ls : List Line) → first_at (lines_of_code ls) ≡ first_at ls
unfolding first_at lines_of_code
first_code [] = refl
first_code (l ∷ ls) = refl

module _ (ls ms : List Line) (e : take (length layout) ls ≡ take (length layout) ms) (c : lines_of_code (body ls) ≡ lines_of_code (body ms)) where
  same-listed : (r : Role) → listed r ls ≡ listed r ms
  unfolding listed
  same-listed r = ap list (sym (text-among r layout ls) ∙ ap (text_at r layout) e ∙ text-among r layout ms)

  same-prices : (s : Section) → price_list s ls ≡ price_list s ms
  unfolding price_list
  same-prices s = simp same-listed

  same_first : first_at (body ls) ≡ first_at (body ms)
  same_first = sym (first_code (body ls)) ∙ ap first_at c ∙ first_code (body ms)

  same_code : code_in ls ≡ code_in ms
  unfolding code_in
  same_code = simp (same_first, same-prices, same-listed, c)

  pub same-but-answers : SameButAnswers (routine_of ls) (routine_of ms)
  unfolding routine_of
  same-but-answers = (simp same-listed, simp same-listed, same_code, simp (same_code, same-listed))
