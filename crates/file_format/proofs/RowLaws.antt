-- The rows of the refusal table: a text is read exactly if no row refuses a line, the first row that does decides, and a row that does not
-- row has a line for each role, which passes its test. Assumes nothing.
use Rattle.std.specs.Prelude.{None, Option, Some}
use Prim.Native.Nat.{ℕ, suc, ◌-◌, ◌<◌, ◌≤◌}
use mathlib.Core.Path.{◌≡◌, refl, sym, ap₂, ◌∙◌}
use mathlib.Core.Bool.{Bool, true, false, cond, not, ◌&&◌, false≢true}
use mathlib.Core.List.{List, [], ◌∷◌, ◌++◌}
use native.Mathlib.Omega.{arith}
use lib.Dec.{ltb}
use lib.ListN.{length, length-append, length-drop}
use borrow.Author.Tests.{ltb-false, lt-ltb, le-ltb}
use Rattle.refusals.specs.declared.Refusal.{Refusal}
use Rattle.refusals.specs.declared.Refusal.TheVariants.{TextLength}
use Rattle.text.specs.Text.{is_empty, equals, line_words, Line, lines, all}
use Rattle.text.proofs.TextLaws.{Every, none, more, and_left, and_right, equals-path}
use Rattle.file_format.specs.declared.Section.TheVariants.{Answers as answers}
use Rattle.file_format.specs.declared.Role.{Role}
use Rattle.file_format.specs.declared.Role.TheVariants.{Names as names, Code as code}
use Rattle.file_format.specs.Layout.{layout, is_answer, body, answer_roles, code_roles, body_roles, roles, is_role, text_at}
use Rattle.file_format.specs.declared.Row.{Row}
use Rattle.file_format.specs.declared.Row.TheVariants.{Layout as Layout-row, Range as range-row, Name as name-row, Known as known-row}
use Rattle.file_format.specs.Rows.{Passes, equal_lists, earliest, refused_line, test, is_laid_out, in_range, named}
use Rattle.file_format.specs.Routine.{Routine, routine_of, Reading, unread, routine, or_else, Check, bound_checks, run_checks, checked, text_limit, limited, read_bound, read_run}

-- ---- the rows in their order

bound-checked : (text : List ℕ) → read_bound text ≡ limited text (checked bound_checks (lines text))
unfolding read_bound
bound-checked text = refl

run-checked : (text : List ℕ) → read_run text ≡ limited text (checked run_checks (lines text))
unfolding read_run
run-checked text = refl

-- no row of cs refuses a line
abbrev pub Unrefused : List Line → List Check → Type 0
Unrefused ls cs = Every (λ c. refused_line c.row ls ≡ None) cs

refused-not : {A : Type 0} (r : Refusal) (x : Routine) → unread r ≡ routine x → A
refused-not r x e = let z : ◌≡◌ {A = ℕ} 0 1 = cc in absurd (omega arith)

module _ (ls : List Line) where
  unrefused-checked : {cs : List Check} → Unrefused ls cs → checked cs ls ≡ routine (routine_of ls)
  unfolding checked or_else
  unrefused-checked none = refl
  unrefused-checked (more e es) = rw e (unrefused-checked es)

  checked-unrefused : (cs : List Check) (x : Routine) → checked cs ls ≡ routine x → Unrefused ls cs × (x ≡ routine_of ls)
  unfolding checked or_else
  checked-unrefused [] x e = (none, cc)
  checked-unrefused (c ∷ cs) x e = go (refused_line c.row ls) refl e (checked-unrefused cs x)
    where
      go : (f : Option ℕ) → refused_line c.row ls ≡ f → or_else f c.refusal (checked cs ls) ≡ routine x → (checked cs ls ≡ routine x → Unrefused ls cs × (x ≡ routine_of ls))
          → Unrefused ls (c ∷ cs) × (x ≡ routine_of ls)
      go None q h ih = let r = ih h in (more q r.0, r.1)
      go (Some n) q h ih = refused-not (c.refusal n) x h

  first-checked : (c : Check) (after : List Check) (n : ℕ) → refused_line c.row ls ≡ Some n → {before : List Check} → Unrefused ls before
      → checked (before ++ c ∷ after) ls ≡ unread (c.refusal n)
  unfolding checked or_else
  first-checked c after n q none = rw q refl
  first-checked c after n q (more e es) = rw e (first-checked c after n q es)

-- ---- the limit of a text

module _ (text : List ℕ) (next : Reading) where
  limited-short : length text ≤ text_limit → limited text next ≡ next
  unfolding limited
  limited-short h = rw (le-ltb text_limit (length text) h) refl

  limited-long : text_limit < length text → limited text next ≡ unread TextLength
  unfolding limited
  limited-long h = rw (lt-ltb text_limit (length text) h) refl

  limited-routine : (x : Routine) → limited text next ≡ routine x → (length text ≤ text_limit) × (next ≡ routine x)
  unfolding limited
  limited-routine x e = go (ltb text_limit (length text)) refl e
    where
      go : (b : Bool) → ltb text_limit (length text) ≡ b → cond b (unread TextLength) next ≡ routine x → (length text ≤ text_limit) × (next ≡ routine x)
      go true q h = refused-not TextLength x h
      go false q h = (ltb-false text_limit (length text) q, h)

-- ---- what a text that is read gives

module _ (text : List ℕ) where
  -- rows that let a text through refuse no line
  read-unrefused : (cs : List Check) (x : Routine) → limited text (checked cs (lines text)) ≡ routine x
      → Unrefused (lines text) cs × (x ≡ routine_of (lines text)) × (length text ≤ text_limit)
  read-unrefused cs x e =
      let l = limited-routine text (checked cs (lines text)) x e in
      let c = checked-unrefused (lines text) cs x l.1 in
      (c.0, c.1, l.0)

  unrefused-read : {cs : List Check} → Unrefused (lines text) cs → length text ≤ text_limit → limited text (checked cs (lines text)) ≡ routine (routine_of (lines text))
  unrefused-read {cs} c h = limited-short text (checked cs (lines text)) h ∙ unrefused-checked (lines text) c

module _ (ls : List Line) where
  passing : {cs : List Check} → Unrefused ls (bound_checks ++ cs) → Passes ls × Unrefused ls cs
  passing (more a (more b (more c (more d (more e (more f es)))))) =
      (record { layout = a; range = b; names = c; prices = d; targets = e; forward = f }, es)

  cleared : {cs : List Check} → Passes ls → Unrefused ls cs → Unrefused ls (bound_checks ++ cs)
  cleared p es = more p.layout (more p.range (more p.names (more p.prices (more p.targets (more p.forward es)))))

  only : {c : Check} → Unrefused ls (c ∷ []) → refused_line c.row ls ≡ None
  only (more e none) = e

-- the bound reads a text exactly if rows 2 to 6 and 13 refuse no line, the run exactly if row 11 does not either
pub read-passes : (text : List ℕ) (x : Routine) → read_bound text ≡ routine x → Passes (lines text) × (x ≡ routine_of (lines text)) × (length text ≤ text_limit)
read-passes text x e =
    let r = read-unrefused text bound_checks x (sym (bound-checked text) ∙ e) in
    ((passing (lines text) r.0).0, r.1, r.2)

pub passes-read : (text : List ℕ) → Passes (lines text) → length text ≤ text_limit → read_bound text ≡ routine (routine_of (lines text))
passes-read text p h = bound-checked text ∙ unrefused-read text (cleared (lines text) p none) h

pub run-passes : (text : List ℕ) (x : Routine) → read_run text ≡ routine x
    → Passes (lines text) × (refused_line known-row (lines text) ≡ None) × (x ≡ routine_of (lines text)) × (length text ≤ text_limit)
run-passes text x e =
    let r = read-unrefused text run_checks x (sym (run-checked text) ∙ e) in
    let p = passing (lines text) r.0 in
    (p.0, only (lines text) p.1, r.1, r.2)

-- ---- the order of the rows

-- "text over 32,768 bytes" comes first
pub too_long : (text : List ℕ) → text_limit < length text → (read_bound text ≡ unread TextLength) × (read_run text ≡ unread TextLength)
too_long text h =
    (bound-checked text ∙ limited-long text (checked bound_checks (lines text)) h, run-checked text ∙ limited-long text (checked run_checks (lines text)) h)

-- "Checked in the order of the rows": where the rows before c refuse no line and c does, c decides, whatever the rows after it say.
-- `bound-order` and `run-order` say it of each row of the two readers, where `all` is refl.
module _ (text : List ℕ) (short : length text ≤ text_limit) (before : List Check) (c : Check) (after : List Check) (n : ℕ) where
  row-order : Unrefused (lines text) before → refused_line c.row (lines text) ≡ Some n → limited text (checked (before ++ c ∷ after) (lines text)) ≡ unread (c.refusal n)
  row-order b q = limited-short text (checked (before ++ c ∷ after) (lines text)) short ∙ first-checked (lines text) c after n q b

  pub bound-order : bound_checks ≡ before ++ c ∷ after → Unrefused (lines text) before → refused_line c.row (lines text) ≡ Some n → read_bound text ≡ unread (c.refusal n)
  bound-order all b q = bound-checked text ∙ rw all (row-order b q)

  pub run-order : run_checks ≡ before ++ c ∷ after → Unrefused (lines text) before → refused_line c.row (lines text) ≡ Some n → read_run text ≡ unread (c.refusal n)
  run-order all b q = run-checked text ∙ rw all (row-order b q)

-- ---- what a row gives that refuses no line

-- each role has its line, which passes the test t
pub data Covered (t : Role → Line → Bool) : List Role → List Line → Type 0 where
  rest : {ls : List Line} → Covered t [] ls
  passed : {r : Role} {l : Line} {rs : List Role} {ls : List Line} → t r l ≡ true → Covered t rs ls → Covered t (r ∷ rs) (l ∷ ls)

no_line : {A : Type 0} (n : ℕ) → Some n ≡ None → A
no_line n e = let z : ◌≡◌ {A = ℕ} 0 1 = cc in absurd (omega arith)

earliest-covered : (t : Role → Line → Bool) (n : ℕ) (rs : List Role) (ls : List Line) → earliest t n rs ls ≡ None → Covered t rs ls
unfolding earliest
earliest-covered t n [] ls e = rest
earliest-covered t n (r ∷ rs) [] e = no_line n e
earliest-covered t n (r ∷ rs) (l ∷ ls) e = go (t r l) refl e (earliest-covered t (suc n) rs ls)
  where
    go : (b : Bool) → t r l ≡ b → cond b (earliest t (suc n) rs ls) (Some n) ≡ None → (earliest t (suc n) rs ls ≡ None → Covered t rs ls) → Covered t (r ∷ rs) (l ∷ ls)
    go true q h ih = passed q (ih h)
    go false q h ih = no_line n h

pub row-covered : (row : Row) (ls : List Line) → refused_line row ls ≡ None → Covered (test row ls) (roles ls) ls
unfolding refused_line
row-covered row ls e = earliest-covered (test row ls) 1 (roles ls) ls e

-- every line has a role: what two passed tests give of each line holds of all lines
every-line : {t u : Role → Line → Bool} {P : Line → Type 0} → ((r : Role) (l : Line) → t r l ≡ true → u r l ≡ true → P l)
    → (rs : List Role) (ls : List Line) → length ls ≤ length rs → Covered t rs ls → Covered u rs ls → Every P ls
every-line f [] [] h c d = none
every-line f [] (l ∷ ls) h c d = absurd (omega arith)
every-line f (r ∷ rs) [] h c d = none
every-line f (r ∷ rs) (l ∷ ls) h (passed p c) (passed q d) = more (f r l p q) (every-line f rs ls (omega arith) c d)

answer-roles : (k : ℕ) (ls : List Line) → length ls ≤ length (answer_roles k ls)
unfolding answer_roles
answer-roles k [] = omega arith
answer-roles k (l ∷ ls) = let h = answer-roles (suc k) ls in omega arith

code-roles : (k : ℕ) (ls : List Line) → length ls ≤ length (code_roles k ls)
unfolding code_roles
code-roles k [] = omega arith
code-roles k (l ∷ ls) = go (is_answer l) (code-roles (suc k) ls)
  where
    go : (b : Bool) → length ls ≤ length (code_roles (suc k) ls) → suc (length ls) ≤ length (cond b (names answers ∷ answer_roles 0 ls) (code k ∷ code_roles (suc k) ls))
    go true ih = let h = answer-roles 0 ls in omega arith
    go false ih = omega arith

body-roles : (ls : List Line) → length ls ≤ length (body_roles ls)
unfolding body_roles
body-roles [] = omega arith
body-roles (l ∷ ls) = let h = code-roles 1 ls in omega arith

roles-enough : (ls : List Line) → length ls ≤ length (roles ls)
unfolding roles body
roles-enough ls =
    let h : length ls - length layout ≤ length (body_roles (body ls)) = rw length-drop at (body-roles (body ls)) in
    rw length-append (omega arith)

-- so of each line, where two rows refuse none
pub held-lines : (row row' : Row) (ls : List Line) → refused_line row ls ≡ None → refused_line row' ls ≡ None
    → {P : Line → Type 0} → ((r : Role) (l : Line) → test row ls r l ≡ true → test row' ls r l ≡ true → P l) → Every P ls
held-lines row row' ls e e' f = every-line f (roles ls) ls (roles-enough ls) (row-covered row ls e) (row-covered row' ls e')

-- that r stands in a list, and no such role before it: `refl` shows it of each role of the layout
abbrev pub First : Role → List Role → Type 0
First r [] = ⊥
First r (x ∷ xs) = cond (is_role r x) (r ≡ x) (First r xs)

-- what a passed test gives of a line's text holds of the text of the line that has the role r
held : {t : Role → Line → Bool} (r : Role) (P : List ℕ → Type 0) → ((l : Line) → t r l ≡ true → P l.text)
    → (rs bs : List Role) {ls : List Line} → First r rs → Covered t (rs ++ bs) ls → P (text_at r rs ls)
unfolding text_at
held r P f [] bs s c = absurd s
held {t} r P f (x ∷ rs) bs s (passed {l} {ls} p c) = go (is_role r x) s (λ q. held r P f rs bs q c)
  where
    go : (b : Bool) → cond b (r ≡ x) (First r rs) → (First r rs → P (text_at r rs ls)) → P (cond b l.text (text_at r rs ls))
    go true q ih = f l (rw q p)
    go false q ih = ih q

-- so of each role of the layout, where a row refuses no line
pub held-row : (row : Row) (ls : List Line) → refused_line row ls ≡ None → (r : Role) → First r layout
    → (P : List ℕ → Type 0) → ((l : Line) → test row ls r l ≡ true → P l.text) → P (text_at r layout ls)
unfolding roles
held-row row ls e r s P f = held r P f layout (body_roles (body ls)) s (row-covered row ls e)

-- row 2 also asks of a line that it is ended and that one space parts its words
pub laid_out : (ls : List Line) (r : Role) (l : Line) → test Layout-row ls r l ≡ true → is_laid_out ls r l.text ≡ true
unfolding test
laid_out ls r l h = and_right (l.ended && all (λ w. not (is_empty w)) (line_words l.text)) (is_laid_out ls r l.text) h

spaced : (ls : List Line) (r : Role) (l : Line) → test Layout-row ls r l ≡ true → (l.ended && all (λ w. not (is_empty w)) (line_words l.text)) ≡ true
unfolding test
spaced ls r l h = and_left (l.ended && all (λ w. not (is_empty w)) (line_words l.text)) (is_laid_out ls r l.text) h

pub lines-ended : (ls : List Line) → refused_line Layout-row ls ≡ None → Every (λ l. l.ended ≡ true) ls
lines-ended ls e =
    held-lines Layout-row Layout-row ls e e (λ r l h g. and_left l.ended (all (λ w. not (is_empty w)) (line_words l.text)) (spaced ls r l h))

-- the tests of rows 2, 3 and 4 on the lines of the layout
module _ {ls : List Line} (p : Passes ls) (r : Role) (s : First r layout) where
  pub passes-laid-out : is_laid_out ls r (text_at r layout ls) ≡ true
  passes-laid-out = held-row Layout-row ls p.layout r s (λ x. is_laid_out ls r x ≡ true) (laid_out ls r)

  pub passes-spaced : all (λ w. not (is_empty w)) (line_words (text_at r layout ls)) ≡ true
  passes-spaced =
      held-row Layout-row ls p.layout r s (λ x. all (λ w. not (is_empty w)) (line_words x) ≡ true)
      (λ l h. and_right l.ended (all (λ w. not (is_empty w)) (line_words l.text)) (spaced ls r l h))

  pub passes-range : in_range ls r (text_at r layout ls) ≡ true
  unfolding test
  passes-range = held-row range-row ls p.range r s (λ x. in_range ls r x ≡ true) (λ l h. h)

  pub passes-named : named ls r (text_at r layout ls) ≡ true
  unfolding test
  passes-named = held-row name-row ls p.names r s (λ x. named ls r x ≡ true) (λ l h. h)

-- names that pass for the same are the same
pub lists-path : (xs ys : List (List ℕ)) → equal_lists xs ys ≡ true → xs ≡ ys
unfolding equal_lists
lists-path [] [] e = refl
lists-path [] (y ∷ ys) e = absurd (false≢true e)
lists-path (x ∷ xs) [] e = absurd (false≢true e)
lists-path (x ∷ xs) (y ∷ ys) e =
    ap₂ ◌∷◌ (equals-path x y (and_left (equals x y) (equal_lists xs ys) e)) (lists-path xs ys (and_right (equals x y) (equal_lists xs ys) e))
