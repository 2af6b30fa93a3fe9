-- Which line of the layout holds a role, what a line lists, and the range of AT. Assumes nothing.
use Prim.Native.Nat.{ℕ, zero, suc, ◌+◌, ◌-◌, ◌<◌, ◌≤◌}
use mathlib.Core.Path.{◌≡◌, refl, sym, ap, ap₂, subst, ◌∙◌}
use mathlib.Core.Bool.{Bool, true, false, cond, ◌||◌}
use mathlib.Core.List.{List, [], ◌∷◌}
use mathlib.Core.Logic.{⊎_elim}
use native.Mathlib.Omega.{arith}
use native.Mathlib.Nat.{eq-or-lt_of_le}
use native.Mathlib.Numerals.{add-one}
use lib.Dec.{eqb}
use lib.ListN.{length, get_or, set, take, drop, length-drop, drop_of_length-le}
use lib.Seq.{drop-cons, drop-drop, take_all, get_or-set_same, get_or-set_other}
use types.Run.{OneOf, miss}
use denote.Enum.Declared.{tag_of}
use borrow.Author.Tests.{eqb-true, eqb-false, eq-eqb, ne_eqb}
use Rattle.text.specs.Text.{bytes, equals, line_words, Line, lines, no_line}
use Rattle.text.proofs.TextLaws.{Every, none, more}
use Rattle.text.proofs.ScanLaws.{first_length}
use Rattle.text.proofs.LineLaws.{next_more, next-none}
use Rattle.instructions.specs.Kinds.{addresses}
use Rattle.file_format.specs.declared.Section.{Section}
use Rattle.file_format.specs.declared.Column.{Column}
use Rattle.file_format.specs.declared.Role.{Role}
use Rattle.file_format.specs.declared.Role.TheVariants.{Names as names, Values as values, Code as code, Answer as answer}
use Rattle.file_format.specs.Layout.{layout, list, section_place, column_place, is_names, is_values, is_role, text_at}
use Rattle.file_format.specs.Rows.{first_addresses, at_range, on_code}
use Rattle.file_format.specs.contracts.Role.{the_type}

-- ---- roles compared

module _ (s t : Section) (c d : Column) {a b : ℕ} (p : a ≡ section_place s) (q : b ≡ section_place t) where
  pub same-section : {x y : ℕ} → a ≡ b → x ≡ column_place c → y ≡ column_place d → eqb x y ≡ is_values s c (values t d)
  same-section e u v = rw (eq-eqb (section_place s) (section_place t) (sym p ∙ e ∙ q)) (ap₂ eqb u v)

  pub other-section : (a ≡ b → ⊥) → false ≡ is_values s c (values t d)
  other-section f = rw (ne_eqb (section_place s) (section_place t) (λ e. f (p ∙ e ∙ sym q))) refl

-- a line of cells

pub or-true : {a : Bool} (b : Bool) → a ≡ true → true ≡ a || b
or-true b e = sym (ap (λ x. x || b) e)

pub or-false : {a b r : Bool} → a ≡ false → r ≡ b → r ≡ a || b
or-false {b = b} e q = q ∙ sym (ap (λ x. x || b) e)

-- an `else` knows by the variants' numbers which variant a role is not

pub not-names : (s : Section) (r : Role) → OneOf (1 ∷ 2 ∷ 3 ∷ []) (tag_of the_type r) → false ≡ is_names s r
not-names s (names t) o = absurd (miss (1 ∷ 2 ∷ 3 ∷ []) 0 tt o)
not-names s (values t d) o = refl
not-names s (code k) o = refl
not-names s (answer k) o = refl

pub not-values : (s : Section) (c : Column) (r : Role) → OneOf (0 ∷ 2 ∷ 3 ∷ []) (tag_of the_type r) → false ≡ is_values s c r
not-values s c (names t) o = refl
not-values s c (values t d) o = absurd (miss (0 ∷ 2 ∷ 3 ∷ []) 1 tt o)
not-values s c (code k) o = refl
not-values s c (answer k) o = refl

pub not-laid : (r x : Role) → OneOf (1 ∷ 2 ∷ 3 ∷ []) (tag_of the_type r) → OneOf (0 ∷ 2 ∷ 3 ∷ []) (tag_of the_type r) → false ≡ is_role r x
not-laid (names s) x o p = absurd (miss (1 ∷ 2 ∷ 3 ∷ []) 0 tt o)
not-laid (values s c) x o p = absurd (miss (0 ∷ 2 ∷ 3 ∷ []) 1 tt p)
not-laid (code k) x o p = refl
not-laid (answer k) x o p = refl

pub not_code : (t : List ℕ → Bool) (r : Role) (text : List ℕ) → OneOf (0 ∷ 1 ∷ 3 ∷ []) (tag_of the_type r) → true ≡ on_code t r text
unfolding on_code
not_code t (names s) text o = refl
not_code t (values s c) text o = refl
not_code t (code k) text o = absurd (miss (0 ∷ 1 ∷ 3 ∷ []) 2 tt o)
not_code t (answer k) text o = refl

-- ---- the line of a role

module _ (r : Role) where
  no_text : (rs : List Role) → text_at r rs [] ≡ []
  unfolding text_at
  no_text [] = refl
  no_text (x ∷ rs) = refl

  text-first : (x : Role) (rs : List Role) (ls : List Line) → is_role r x ≡ true → text_at r (x ∷ rs) ls ≡ (get_or ls 0 no_line).text
  unfolding text_at
  text-first x rs [] e = refl
  text-first x rs (l ∷ ls) e = ap (λ b. cond b l.text (text_at r rs ls)) e

  text-later : (x : Role) (rs : List Role) (ls : List Line) → is_role r x ≡ false → text_at r (x ∷ rs) ls ≡ text_at r rs (drop 1 ls)
  unfolding text_at
  text-later x rs [] e = no_text (x ∷ rs) ∙ sym (no_text rs)
  text-later x rs (l ∷ ls) e = ap (λ b. cond b l.text (text_at r rs ls)) e

  -- of the lines from i on: it is the first of them, or is sought among the others
  module _ (i : ℕ) (h : i < length layout) (ls : List Line) where
    from-here : text_at r (drop i layout) ls ≡ text_at r (get_or layout i (code 0) ∷ drop (suc i) layout) ls
    from-here = ap (λ rs. text_at r rs ls) (drop-cons layout i (code 0) h)

    pub text-here : is_role r (get_or layout i (code 0)) ≡ true → text_at r (drop i layout) ls ≡ (get_or ls 0 no_line).text
    text-here e = from-here ∙ text-first (get_or layout i (code 0)) (drop (suc i) layout) ls e

    pub text-next : is_role r (get_or layout i (code 0)) ≡ false → text_at r (drop i layout) ls ≡ text_at r (drop (i + 1) layout) (drop 1 ls)
    text-next e = rw (add-one i) (from-here ∙ text-later (get_or layout i (code 0)) (drop (suc i) layout) ls e)

  pub text-none : (ls : List Line) → text_at r [] ls ≡ []
  unfolding text_at
  text-none ls = refl

-- ---- lists

-- a line that lists nothing, and one that lists its words

pub list-none : (s : List ℕ) → equals s (bytes "-") ≡ true → list s ≡ []
unfolding list
list-none s e = rw e refl

pub list-words : (s : List ℕ) → equals s (bytes "-") ≡ false → list s ≡ line_words s
unfolding list
list-words s e = rw e refl

-- ---- the first AT and the later ones

pub at_first : (k : ℕ) → k ≡ 0 → first_addresses ≡ at_range k
at_first zero e = refl
at_first (suc k) e = absurd (omega arith)

pub at-later : (k : ℕ) → (k ≡ 0 → ⊥) → addresses ≡ at_range k
at-later zero e = absurd (e refl)
at-later (suc k) e = refl

-- ---- the line of a role

-- what holds of every line holds of the one that has a role
pub role-every : (P : List ℕ → Type 0) → P [] → (r : Role) (rs : List Role) {ls : List Line} → Every (λ l. P l.text) ls → P (text_at r rs ls)
unfolding text_at
role-every P e r [] h = e
role-every P e r (x ∷ rs) none = e
role-every P e r (x ∷ rs) (more {x = l} {xs = ls} p ps) = go (is_role r x) (role-every P e r rs ps)
  where
    go : (b : Bool) → P (text_at r rs ls) → P (cond b l.text (text_at r rs ls))
    go true h = p
    go false h = h

-- ---- where lines begin

-- what is left from a place on, as the code takes it: `&s[a..]`
pub rest_from : (a : ℕ) (s : List ℕ) → take (length s - a) (drop a s) ≡ drop a s
rest_from a s = take_all (length s - a) (drop a s) (rw length-drop (omega arith))

module _ (text : List ℕ) (at n : ℕ) (q : n ≡ first_length 10 (drop at text)) where
  pub next-begins : n < length (drop at text) → lines (drop (at + n + 1) text) ≡ drop 1 (lines (drop at text))
  next-begins h =
      let e : at + n + 1 ≡ at + (n + 1) = omega arith in
      ap (λ k. lines (drop k text)) e ∙ ap lines (sym (drop-drop (n + 1) at text)) ∙ ap lines (sym (rest_from (n + 1) (drop at text))) ∙ next_more (drop at text) n q h

  pub none-begins : length (drop at text) ≤ n → lines (drop (length text) text) ≡ drop 1 (lines (drop at text))
  none-begins h =
      let all : length text ≤ length text = omega arith in
      ap lines (drop_of_length-le text all) ∙ next-none (drop at text) n q h

-- one more place is put down
pub starts_more : (text : List ℕ) (starts : List ℕ) (i at : ℕ) → i < length layout → length starts ≡ 15
    → ((j : ℕ) → j ≤ i → (get_or starts j 0 ≤ length text) × (lines (drop (get_or starts j 0) text) ≡ drop j (lines text)))
    → at ≤ length text → lines (drop at text) ≡ drop 1 (drop i (lines text))
    → (j : ℕ) → j ≤ i + 1 → (get_or (set starts (i + 1) at) j 0 ≤ length text) × (lines (drop (get_or (set starts (i + 1) at) j 0) text) ≡ drop j (lines text))
starts_more text starts i at h s k a e j l = go (eqb j (i + 1)) refl
  where
    go : (b : Bool) → eqb j (i + 1) ≡ b → (get_or (set starts (i + 1) at) j 0 ≤ length text) × (lines (drop (get_or (set starts (i + 1) at) j 0) text) ≡ drop j (lines text))
    go true q =
        let z : j ≡ i + 1 = eqb-true j (i + 1) q in
        let v : at ≡ get_or (set starts (i + 1) at) j 0 = sym (ap (λ m. get_or (set starts (i + 1) at) m 0) z ∙ get_or-set_same starts (i + 1) at 0 (omega arith)) in
        subst (λ x. (x ≤ length text) × (lines (drop x text) ≡ drop j (lines text))) v (a, e ∙ drop-drop 1 i (lines text) ∙ ap (λ m. drop m (lines text)) (sym z))
    go false q =
        let o = eqb-false j (i + 1) q in
        let v : get_or starts j 0 ≡ get_or (set starts (i + 1) at) j 0 = sym (get_or-set_other starts (i + 1) j at 0 o) in
        subst (λ x. (x ≤ length text) × (lines (drop x text) ≡ drop j (lines text))) v (k j (less (⊎_elim (λ (z : j ≡ i + 1). absurd (o z)) (λ (z : j < i + 1). z) (eq-or-lt_of_le l))))
      where
        less : j < i + 1 → j ≤ i
        less z = omega arith
