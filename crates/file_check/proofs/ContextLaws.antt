-- What a row says of a line, by what it looks at in the other lines. Assumes nothing.
use Prim.Native.Nat.{ℕ, ◌≤◌}
use mathlib.Core.Path.{◌≡◌, refl, sym, ap, ap₂, subst, ◌∙◌}
use mathlib.Core.Bool.{Bool, true, false, not, ◌&&◌}
use mathlib.Core.List.{List, [], ◌∷◌}
use mathlib.Core.Logic.{◌⊎◌, inl, inr}
use native.Mathlib.Omega.{arith}
use lib.IntN.{ℤ, pos}
use types.Run.{OneOf, miss}
use denote.Enum.Declared.{tag_of}
use borrow.Author.Tests.{le-leb}
use lib.Dec.{eqb, ltb}
use lib.ListN.{length}
use Rattle.text.specs.Text.{bytes, is_empty, equals, line_words, Line, among, all, distinct}
use Rattle.text_decimals.specs.Decimal.{numeral}
use Rattle.numbers.specs.Numbers.{within}
use Rattle.file_format.specs.declared.Section.{Section}
use Rattle.file_format.specs.declared.Section.TheVariants.{Limits as limits, Kinds as kinds, Primitives as primitives, Cells as cells, Fields as fields, Instructions as instructions, Answers as answers}
use Rattle.file_format.specs.declared.Column.{Column}
use Rattle.file_format.specs.declared.Role.{Role}
use Rattle.file_format.specs.declared.Role.TheVariants.{Names as names, Values as values, Code as code, Answer as answer}
use Rattle.file_format.specs.declared.Row.TheVariants.{Layout as Layout-row, Range as range-row, Name as name-row, Price as price-row, Target as target_row, Forward as forward-row, Known as known-row}
use Rattle.file_format.specs.Layout.{layout, list, text_at, listed}
use Rattle.file_format.specs.Rows.{equal_lists, block_sizes, total, well_named, test, is_numeral, values_laid_out, is_laid_out, code_laid_out, argument_laid_out, at, on_cells, on_code, code_named, named, op, arg, on_argument, argument_reaches, priced, reaches, code_is_forward, forward, first_addresses, column_in_range, in_range, all_known}
use Rattle.file_names.specs.declared.Blocks.{Blocks}
use Rattle.file_names.specs.HeldNames.{BlocksOf}
use Rattle.file_lines.specs.HeldLines.{word_test}
use Rattle.file_code.specs.HeldCode.{is_whole}
use Rattle.file_lines.specs.declared.WordTest.TheVariants.{Filled, Present, Primitive}
use Rattle.file_lines.proofs.LineLaws.{and-true, and-false, and-through, and-stop}
use Rattle.file_format.specs.contracts.Section.{the_type}
use Rattle.file_format.specs.contracts.Role as roles
use Rattle.file_format.proofs.LayoutLaws.{list-none, list-words}
use Rattle.file_check.specs.declared.Tests.{Tests}
use Rattle.file_check.specs.declared.CodeLine.{CodeLine}
use Rattle.file_check.specs.HeldScan.{Context, Small, Other, line_with}
use Rattle.file_check.specs.HeldChecks.{Due, tested_by}
use Rattle.file_check.proofs.FoundLaws.{address_is}
use Rattle.file_code.specs.declared.Tested.{Tested}
use Rattle.file_code.specs.HeldCode.{CodeTests}
use Rattle.file_format.specs.declared.Row.{Row}
use Rattle.file_check.proofs.ArmLaws.{not-true, not-false}

-- the first address is in its range
pub first-within : (n : ℕ) → n ≤ 60000 → within first_addresses (pos n) ≡ true
first-within n h = rw (le-leb 0 n (omega arith), le-leb n 60000 h) refl

module _ (ls : List Line) (text : List ℕ) (r : Bool) where
  pub laid-values : (s : Section) (c : Column) (ns : List ℕ) → ns ≡ text_at (names s) layout ls → r ≡ values_laid_out c (list ns) (list text) → r ≡ is_laid_out ls (values s c) text
  unfolding is_laid_out listed
  laid-values s c ns e h = h ∙ ap (λ t. values_laid_out c (list t) (list text)) e

  pub ranged-values : (s : Section) (c : Column) (ns : List ℕ) → ns ≡ text_at (names s) layout ls → r ≡ column_in_range c (list ns) (list text) → r ≡ in_range ls (values s c) text
  unfolding in_range listed
  ranged-values s c ns e h = h ∙ ap (λ t. column_in_range c (list t) (list text)) e

  pub named-values : {b : ℕ} → b ≡ length (block_sizes (listed (names fields) ls)) → (o : Role) → Other o → ((s : Section) → o ≡ names s → ⊥) → r ≡ on_cells (word_test (Present b)) o text → r ≡ named ls o text
  unfolding named word_test on_cells
  named-values e (names s) h n q = absurd (n s refl)
  named-values e (values s c) h n q = q ∙ ap (λ n. on_cells (word_test (Present n)) (values s c) text) e
  named-values e (code k) h n q = absurd h
  named-values e (answer k) h n q = q

-- rows 5, 6 and 13 look at code lines alone

module _ (ls : List Line) (text : List ℕ) where
  pub priced-other : (o : Role) → Other o → true ≡ priced ls o text
  unfolding priced on_code
  priced-other (names s) h = refl
  priced-other (values s c) h = refl
  priced-other (code k) h = absurd h
  priced-other (answer k) h = refl

  pub reaches-other : (o : Role) → Other o → true ≡ reaches ls o text
  unfolding reaches on_code
  reaches-other (names s) h = refl
  reaches-other (values s c) h = refl
  reaches-other (code k) h = absurd h
  reaches-other (answer k) h = refl

  pub forward-other : (o : Role) → Other o → true ≡ forward ls o text
  unfolding forward
  forward-other (names s) h = refl
  forward-other (values s c) h = refl
  forward-other (code k) h = absurd h
  forward-other (answer k) h = refl

-- a line is not code, by the variants' numbers
pub not_code : (o : Role) → OneOf (0 ∷ 1 ∷ 3 ∷ []) (tag_of roles.the_type o) → Other o
not_code (names s) h = tt
not_code (values s c) h = tt
not_code (code k) h = absurd (miss (0 ∷ 1 ∷ 3 ∷ []) 2 tt h)
not_code (answer k) h = tt

pub not-names : (o : Role) → OneOf (1 ∷ 2 ∷ 3 ∷ []) (tag_of roles.the_type o) → (s : Section) → o ≡ names s → ⊥
not-names (names s) h t e = absurd (miss (1 ∷ 2 ∷ 3 ∷ []) 0 tt h)
not-names (values s c) h t e = let z : ◌≡◌ {A = ℕ} 0 1 = cc in omega arith
not-names (code k) h t e = let z : ◌≡◌ {A = ℕ} 0 1 = cc in omega arith
not-names (answer k) h t e = let z : ◌≡◌ {A = ℕ} 0 1 = cc in omega arith

-- the rows on a line that is not code
module _ (ls : List Line) (o : Role) (h : Other o) (text : List ℕ) (ended : Bool) {l r n k : Bool} (laid : l ≡ test Layout-row ls o (line_with text ended)) (ranged : r ≡ in_range ls o text)
    (names-are : n ≡ named ls o text) (known : k ≡ all_known o text) where
  pub other-tests : (row : Row) → tested_by row (record { layout = l; range = r; name = n; price = true; target = true; forward = true; known = k }) ≡ test row ls o (line_with text ended)
  unfolding test
  other-tests Layout-row = laid
  other-tests range-row = ranged
  other-tests name-row = names-are
  other-tests price-row = priced-other ls text o h
  other-tests target_row = reaches-other ls text o h
  other-tests forward-row = forward-other ls text o h
  other-tests known-row = known

pub code_other : {A : Type 0} (o : Role) (k : ℕ) → o ≡ code k → Other o → A
code_other o k e h = absurd (subst Other e h)

pub small-code : (o : Role) (k : ℕ) → o ≡ code k → Small o → k ≤ 32768
small-code o k e h = subst Small e h

-- row 2 on a code line by its parts: that a line feed ends it, that it has three words and none is empty, that these are spelt
regroup : (e f c k n a : Bool) → e && (f && c) && (k && n && a) ≡ e && f && (k && c && n && a)
regroup true true true true n a = refl
regroup true true true false n a = refl
regroup true true false true n a = refl
regroup true true false false n a = refl
regroup true false c k n a = refl
regroup false f c k n a = refl

-- the rows on a code line

module _ (ls : List Line) {ks ps : List ℕ} {blocks first count : ℕ} (x : Context ls ks ps blocks first count) (z : ℤ) (is : z ≡ pos first) (k : ℕ) (text : List ℕ) (ended : Bool)
    (t : Tested) {ns : List ℕ} (tested : CodeTests z count (list ns) k text t) {whole layout price due : Bool} (f : whole ≡ is_whole (line_words text)) (l : layout ≡ ended && whole && t.layout)
    (n : due ≡ true → ns ≡ ps) (p : due ≡ true → price ≡ among (op text) (list ks)) where
  pub code-tests : (row : Row) → Due row ls → ((row ≡ name-row) ⊎ (row ≡ price-row) → due ≡ true)
      → tested_by row (record { layout = layout; range = t.range; name = t.name; price = price; target = t.target; forward = t.forward; known = true }) ≡ test row ls (code k) (line_with text ended)
  unfolding test word_test is_whole is_laid_out code_laid_out in_range named priced on_code reaches forward all_known on_cells listed
  code-tests Layout-row d g =
      l
      ∙ ap₂ (λ a b. ended && a && b) f tested.layout
      ∙ regroup ended (all (word_test Filled) (line_words text)) (eqb (length (line_words text)) 3) (ltb k 1024) (is_numeral (numeral (at text))) (on_argument (argument_laid_out (arg text)) text)
  code-tests range-row d g = tested.range
  code-tests name-row d g = tested.name ∙ ap₂ (λ w ns. code_named w (list ns) k text) (is ∙ address_is x d.1) (n (g (inl refl)) ∙ x.primitives_line_is)
  code-tests price-row d g = p (g (inr refl)) ∙ ap (λ ns. among (op text) (list ns)) x.kinds_line
  code-tests target_row d g = tested.target ∙ ap₂ (λ w m. on_argument (argument_reaches w m (arg text)) text) (is ∙ address_is x d.1) x.code_lines
  code-tests forward-row d g = tested.forward ∙ ap (λ w. code_is_forward w k text) (is ∙ address_is x d.1)
  code-tests known-row d g = refl

-- the same of what is the same beside the line's bytes
pub code-tests-at : (ls : List Line) {ks ps : List ℕ} (text : List ℕ) (t : Tests) {a b : CodeLine} → a ≡ b
    → ((blocks : ℕ) → Context ls ks ps blocks a.first a.count → (row : Row) → Due row ls → ((row ≡ name-row) ⊎ (row ≡ price-row) → a.due ≡ true) → tested_by row t ≡ test row ls (code a.k) (line_with text a.ended))
    → (blocks : ℕ) → Context ls ks ps blocks b.first b.count → (row : Row) → Due row ls → ((row ≡ name-row) ⊎ (row ≡ price-row) → b.due ≡ true) → tested_by row t ≡ test row ls (code b.k) (line_with text b.ended)
code-tests-at ls {ks} {ps} text t e h =
    subst (λ (c : CodeLine). (blocks : ℕ) → Context ls ks ps blocks c.first c.count → (row : Row) → Due row ls → ((row ≡ name-row) ⊎ (row ≡ price-row) → c.due ≡ true) → tested_by row t ≡ test row ls (code c.k) (line_with text c.ended)) e h

module _ (ls : List Line) (o : Role) (text : List ℕ) (ended filled : Bool) (f : filled ≡ all (word_test Filled) (line_words text)) where
  pub unended : not ended ≡ true → false ≡ test Layout-row ls o (line_with text ended)
  unfolding test
  unended e = and-stop ended (all (λ w. not (is_empty w)) (line_words text)) (is_laid_out ls o text) (not-true ended e)

  pub unfilled : not ended ≡ false → not filled ≡ true → false ≡ test Layout-row ls o (line_with text ended)
  unfolding test word_test
  unfilled e h =
      let k : all (λ w. not (is_empty w)) (line_words text) ≡ false = sym f ∙ not-true filled h in
      and-through ended (all (λ w. not (is_empty w)) (line_words text)) (is_laid_out ls o text) (not-false ended e) (and-false (is_laid_out ls o text) k)

  pub well-laid : {r : Bool} → not ended ≡ false → not filled ≡ false → r ≡ is_laid_out ls o text → r ≡ test Layout-row ls o (line_with text ended)
  unfolding test word_test
  well-laid e h q =
      let k : all (λ w. not (is_empty w)) (line_words text) ≡ true = sym f ∙ not-false filled h in
      and-through ended (all (λ w. not (is_empty w)) (line_words text)) (is_laid_out ls o text) (not-false ended e) (and-true k q)

-- row 4 on a line of names, which is the empty list or not

module _ (text : List ℕ) where
  pub named_none : (s : Section) → equals text (bytes "-") ≡ true → true ≡ well_named s (list text)
  unfolding well_named all distinct equal_lists block_sizes total
  named_none limits e = refl
  named_none kinds e = rw (list-none text e) refl
  named_none primitives e = rw (list-none text e) refl
  named_none cells e = rw (list-none text e) refl
  named_none fields e = rw (list-none text e) refl
  named_none instructions e = refl
  named_none answers e = refl

  pub named-words : (s : Section) (r : Bool) → equals text (bytes "-") ≡ false → r ≡ well_named s (line_words text) → r ≡ well_named s (list text)
  named-words s r e h = rw (list-words text e) h

  -- the sections whose words row 2 looks at, by the variants' numbers
  pub named-fixed : (s : Section) → OneOf (0 ∷ 5 ∷ 6 ∷ []) (tag_of the_type s) → true ≡ well_named s (list text)
  unfolding well_named
  named-fixed limits o = refl
  named-fixed kinds o = absurd (miss (0 ∷ 5 ∷ 6 ∷ []) 1 tt o)
  named-fixed primitives o = absurd (miss (0 ∷ 5 ∷ 6 ∷ []) 2 tt o)
  named-fixed cells o = absurd (miss (0 ∷ 5 ∷ 6 ∷ []) 3 tt o)
  named-fixed fields o = absurd (miss (0 ∷ 5 ∷ 6 ∷ []) 4 tt o)
  named-fixed instructions o = refl
  named-fixed answers o = refl

  pub named-primitives : {a r : Bool} → a ≡ all (word_test Primitive) (line_words text) → a ≡ true → r ≡ distinct (line_words text) → r ≡ well_named primitives (line_words text)
  unfolding well_named word_test
  named-primitives q e h = and-true (sym q ∙ e) h

  pub unnamed-primitives : {a : Bool} → a ≡ all (word_test Primitive) (line_words text) → a ≡ false → false ≡ well_named primitives (line_words text)
  unfolding well_named word_test
  unnamed-primitives q e = and-false (distinct (line_words text)) (sym q ∙ e)

  pub named-fields : equals text (bytes "-") ≡ false → (b : Blocks) → BlocksOf (block_sizes (list text)) b → (n : ℕ) → n ≡ length (line_words text)
      → eqb b.total n ≡ well_named fields (line_words text)
  unfolding well_named
  named-fields e b h n q = ap₂ eqb (h.sum ∙ ap (λ ws. total (block_sizes ws)) (list-words text e)) q
