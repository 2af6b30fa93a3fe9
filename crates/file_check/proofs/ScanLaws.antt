-- The roles of the lines as a scan meets them: one for each line, and those of the lines that are missing. Assumes nothing.
use Rattle.std.specs.Prelude.{None, Some}
use Prim.Native.Nat.{ℕ, zero, suc, ◌+◌, ◌-◌, ◌<◌, ◌≤◌}
use mathlib.Core.Path.{◌≡◌, refl, sym, ap, ap₂, ◌∙◌}
use mathlib.Core.Bool.{Bool, true, false, cond, ◌&&◌}
use mathlib.Core.List.{List, [], ◌∷◌, ◌++◌}
use mathlib.Core.Logic.{◌⊎◌, inl, inr, ⊎_elim}
use native.Mathlib.Nat.{eq-or-lt_of_le}
use native.Mathlib.Omega.{arith}
use lib.Dec.{leb, ltb, eqb}
use lib.ListN.{length, get_or, drop}
use lib.Seq.{drop-cons}
use borrow.Author.Tests.{le-leb, lt-leb, lt-ltb, le-ltb, eq-eqb, ne_eqb, ltb-true, ltb-false}
use Rattle.text.specs.Text.{bytes, equals, Line}
use Rattle.file_format.specs.declared.Section.TheVariants.{Answers as answers}
use Rattle.file_format.specs.declared.Role.{Role}
use Rattle.file_format.specs.declared.Role.TheVariants.{Names as names, Code as code, Answer as answer}
use Rattle.file_format.specs.Layout.{layout, is_answer, body, answer_roles, code_roles, body_roles, roles}
use Rattle.file_format.specs.Rows.{earliest}
use Rattle.file_check.specs.HeldScan.{HeadingBefore, is_heading, role_of, heading_after, missing}

-- the roles that are left before line i, where the lines that are left are ls
unfoldable pub remaining : ℕ → ℕ → List Line → List Role
remaining i m ls =
    cond (ltb i (length layout)) (drop i layout ++ body_roles (drop (length layout - i) ls)) (cond (ltb 0 m) (answer_roles (i - m - 1) ls) (cond (ltb (length layout) i) (code_roles (i - (length layout)) ls) (body_roles ls)))

-- at the start all of them are
pub remaining-all : (ls : List Line) → remaining 0 0 ls ≡ roles ls
unfolding remaining roles body
remaining-all ls = refl

-- in the layout, at the first code line, at a later one, at an answer

in-layout : (i m : ℕ) (ls : List Line) → i < length layout → remaining i m ls ≡ drop i layout ++ body_roles (drop (length layout - i) ls)
unfolding remaining
in-layout i m ls h = rw (lt-ltb i (length layout) h) refl

at_first : (ls : List Line) → remaining (length layout) 0 ls ≡ body_roles ls
unfolding remaining
at_first ls = refl

at_code : (i : ℕ) (ls : List Line) → length layout < i → remaining i 0 ls ≡ code_roles (i - (length layout)) ls
unfolding remaining
at_code i ls h = rw (le-ltb i (length layout) (omega arith), lt-ltb (length layout) i h) refl

at-answer : (i m : ℕ) (ls : List Line) → length layout < m → m < i → remaining i m ls ≡ answer_roles (i - m - 1) ls
unfolding remaining
at-answer i m ls h k = rw (le-ltb i (length layout) (omega arith), lt-ltb 0 m (omega arith)) refl

answer-more : (k : ℕ) (l : Line) (ls : List Line) → answer_roles k (l ∷ ls) ≡ answer k ∷ answer_roles (suc k) ls
unfolding answer_roles
answer-more zero l ls = refl
answer-more (suc k) l ls = refl

-- a line has the first of them, and the others are left after it

layout-rest : (i : ℕ) (ls : List Line) → (suc i ≡ length layout) ⊎ (suc i < length layout) → drop (suc i) layout ++ body_roles (drop (length layout - suc i) ls) ≡ remaining (i + 1) 0 ls
layout-rest i ls (inl e) = let f : i ≡ length layout - 1 = omega arith in rw f (sym (at_first ls))
layout-rest i ls (inr k) =
    let a : i + 1 ≡ suc i = omega arith in
    rw a (sym (in-layout (suc i) 0 ls k))

layout-more : (i : ℕ) (l : Line) (ls : List Line) → i < length layout → remaining i 0 (l ∷ ls) ≡ role_of i 0 l.text ∷ remaining (i + 1) (heading_after i 0 l.text) ls
unfolding role_of heading_after is_heading
layout-more i l ls h =
    let d : drop i layout ≡ get_or layout i (code 0) ∷ drop (suc i) layout = drop-cons layout i (code 0) h in
    let e : length layout - i ≡ suc (length layout - suc i) = omega arith in
    let f : drop (length layout - i) (l ∷ ls) ≡ drop (length layout - suc i) ls = ap (λ n. drop n (l ∷ ls)) e in
    rw (lt-ltb i (length layout) h, le-ltb (length layout) i (omega arith))
    (in-layout i 0 (l ∷ ls) h ∙ ap₂ (λ rs ms. rs ++ body_roles ms) d f ∙ ap (λ rs. get_or layout i (code 0) ∷ rs) (layout-rest i ls (eq-or-lt_of_le h)))

first_more : (l : Line) (ls : List Line) → remaining (length layout) 0 (l ∷ ls) ≡ role_of (length layout) 0 l.text ∷ remaining ((length layout) + 1) (heading_after (length layout) 0 l.text) ls
unfolding role_of heading_after is_heading body_roles
first_more l ls = at_first (l ∷ ls) ∙ ap (λ rs. code 0 ∷ rs) (sym (at_code (length layout + 1) ls (omega arith)))

code-more : (i : ℕ) (l : Line) (ls : List Line) → length layout < i → remaining i 0 (l ∷ ls) ≡ role_of i 0 l.text ∷ remaining (i + 1) (heading_after i 0 l.text) ls
unfolding role_of heading_after is_heading code_roles is_answer
code-more i l ls h = rw (at_code i (l ∷ ls) h, le-ltb i (length layout) (omega arith), lt-ltb (length layout) i h) (go (equals l.text (bytes "ANSWER")))
  where
    go : (b : Bool) → cond b (names answers ∷ answer_roles 0 ls) (code (i - (length layout)) ∷ code_roles (suc (i - (length layout))) ls) ≡ cond b (names answers) (code (i - (length layout))) ∷ remaining (i + 1) (cond b i 0) ls
    go true = let e : i + 1 - i - 1 ≡ 0 = omega arith in rw (at-answer (i + 1) i ls h (omega arith), e) refl
    go false = let e : suc (i - (length layout)) ≡ i + 1 - (length layout) = omega arith in rw (at_code (i + 1) ls (omega arith), e) refl

answered-more : (i m : ℕ) (l : Line) (ls : List Line) → length layout < m → m < i → remaining i m (l ∷ ls) ≡ role_of i m l.text ∷ remaining (i + 1) (heading_after i m l.text) ls
unfolding role_of heading_after
answered-more i m l ls h k =
    let e : suc (i - m - 1) ≡ i + 1 - m - 1 = omega arith in
    rw (at-answer i m (l ∷ ls) h k, le-ltb i (length layout) (omega arith), lt-ltb 0 m (omega arith), answer-more, at-answer (i + 1) m ls h (omega arith), e) refl

remaining-more : (i m : ℕ) → HeadingBefore i m → (l : Line) (ls : List Line) → remaining i m (l ∷ ls) ≡ role_of i m l.text ∷ remaining (i + 1) (heading_after i m l.text) ls
remaining-more i m k l ls =
    ⊎_elim
    (λ (e : m ≡ 0). rw e (go (ltb i (length layout)) refl))
    (λ (h : (length layout < m) × (m < i)). answered-more i m l ls h.0 h.1)
    k.heading
  where
    past : (length layout ≡ i) ⊎ (length layout < i) → remaining i 0 (l ∷ ls) ≡ role_of i 0 l.text ∷ remaining (i + 1) (heading_after i 0 l.text) ls
    past (inl e) = rw (← e) (first_more l ls)
    past (inr h) = code-more i l ls h

    go : (b : Bool) → ltb i (length layout) ≡ b → remaining i 0 (l ∷ ls) ≡ role_of i 0 l.text ∷ remaining (i + 1) (heading_after i 0 l.text) ls
    go true e = layout-more i l ls (ltb-true i (length layout) e)
    go false e = past (eq-or-lt_of_le (ltb-false i (length layout) e))

-- the line ANSWER stands before, and goes on to do so after another line

pub heading-before : (i m : ℕ) → HeadingBefore i m → 0 < m → m < i
heading-before i m k h = ⊎_elim (λ (e : m ≡ 0). absurd (omega arith)) (λ (p : (length layout < m) × (m < i)). p.1) k.heading

pub heading-start : HeadingBefore 0 0
heading-start = record { heading = inl refl }

pub heading-next : (i m : ℕ) (text : List ℕ) → HeadingBefore i m → HeadingBefore (i + 1) (heading_after i m text)
unfolding heading_after is_heading
heading-next i m text k =
    ⊎_elim
    (λ (e : m ≡ 0). rw e (go (ltb (length layout) i) refl (equals text (bytes "ANSWER"))))
    (λ (p : (length layout < m) × (m < i)). rw (lt-ltb 0 m (omega arith)) (record { heading = inr (p.0, omega arith) }))
    k.heading
  where
    go : (a : Bool) → ltb (length layout) i ≡ a → (b : Bool) → HeadingBefore (i + 1) (cond (a && b) i 0)
    go true e true = record { heading = inr (ltb-true (length layout) i e, omega arith) }
    go true e false = record { heading = inl refl }
    go false e b = record { heading = inl refl }

-- past the last line, a role is left where a line is missing, and else none

module _ (t : Role → Line → Bool) where
  no_line : (n : ℕ) (r : Role) (rs : List Role) → earliest t n (r ∷ rs) [] ≡ Some n
  unfolding earliest
  no_line n r rs = refl

  no-role : (n : ℕ) → earliest t n [] [] ≡ None
  unfolding earliest
  no-role n = refl

  layout-ends : (n i m : ℕ) → i < length layout → earliest t n (remaining i m []) [] ≡ Some n
  layout-ends n i m h =
      let d : drop i layout ≡ get_or layout i (code 0) ∷ drop (suc i) layout = drop-cons layout i (code 0) h in
      ap (λ rs. earliest t n rs []) (in-layout i m [] h ∙ ap (λ rs. rs ++ body_roles (drop (length layout - i) [])) d) ∙ no_line n _ _

  first_ends : (n : ℕ) → earliest t n (remaining (length layout) 0 []) [] ≡ Some n
  unfolding body_roles
  first_ends n = ap (λ rs. earliest t n rs []) (at_first []) ∙ no_line n (code 0) []

  code-ends : (n i : ℕ) → length layout < i → earliest t n (remaining i 0 []) [] ≡ None
  unfolding code_roles
  code-ends n i h = ap (λ rs. earliest t n rs []) (at_code i [] h) ∙ no-role n

  answer-none : (n : ℕ) → earliest t n (answer_roles 0 []) [] ≡ Some n
  unfolding answer_roles
  answer-none n = no_line n (answer 0) []

  answer-some : (n j : ℕ) → earliest t n (answer_roles (suc j) []) [] ≡ None
  unfolding answer_roles
  answer-some n j = no-role n

  answers-end : (n i m : ℕ) → length layout < m → m < i → earliest t n (remaining i m []) [] ≡ cond (eqb i (m + 1)) (Some n) None
  answers-end n i m h k =
      let b : m + 1 ≤ i = omega arith in
      ap (λ rs. earliest t n rs []) (at-answer i m [] h k) ∙
      ⊎_elim
      (λ (e : m + 1 ≡ i). let z : i - m - 1 ≡ 0 = omega arith in rw (z, eq-eqb i (m + 1) (sym e)) (answer-none n))
      (λ (l : m + 1 < i).
      let z : i - m - 1 ≡ suc (i - m - 2) = omega arith in
      rw (z, ne_eqb i (m + 1) (omega arith)) (answer-some n (i - m - 2)))
      (eq-or-lt_of_le b)

  pub scan-ends : (n i m : ℕ) → HeadingBefore i m → earliest t n (remaining i m []) [] ≡ cond (missing i m) (Some n) None
  unfolding missing
  scan-ends n i m k =
      ⊎_elim (λ (e : m ≡ 0). rw e (go (ltb i (length layout)) refl))
      (λ (p : (length layout < m) × (m < i)). rw (lt-leb i (length layout) (omega arith), lt-ltb 0 m (omega arith)) (answers-end n i m p.0 p.1)) k.heading
    where
      past : (length layout ≡ i) ⊎ (length layout < i) → earliest t n (remaining i 0 []) [] ≡ cond (cond (leb i (length layout)) true false) (Some n) None
      past (inl e) = rw (← e) (first_ends n)
      past (inr h) = rw (lt-leb i (length layout) (omega arith)) (code-ends n i h)

      go : (b : Bool) → ltb i (length layout) ≡ b → earliest t n (remaining i 0 []) [] ≡ cond (cond (leb i (length layout)) true false) (Some n) None
      go true e = let h = ltb-true i (length layout) e in rw (le-leb i (length layout) (omega arith)) (layout-ends n i 0 h)
      go false e = past (eq-or-lt_of_le (ltb-false i (length layout) e))

  -- a line that passes is followed by the others, and one that fails is the earliest

  pub scan-fails : (n i m : ℕ) → HeadingBefore i m → (l : Line) (ls : List Line) → t (role_of i m l.text) l ≡ false → earliest t n (remaining i m (l ∷ ls)) (l ∷ ls) ≡ Some n
  unfolding earliest
  scan-fails n i m k l ls e = rw (remaining-more i m k l ls, e) refl

  pub scan-goes : (n i m : ℕ) → HeadingBefore i m → (l : Line) (ls : List Line) → t (role_of i m l.text) l ≡ true
      → earliest t n (remaining i m (l ∷ ls)) (l ∷ ls) ≡ earliest t (suc n) (remaining (i + 1) (heading_after i m l.text) ls) ls
  unfolding earliest
  scan-goes n i m k l ls e = rw (remaining-more i m k l ls, e) refl
