-- Laws of the whole file: its lines are those that it is written of, and no row refuses one of them; and how long it is. Assumes nothing.
use mathlib.Core.Path.{◌≡◌, refl, sym, ap, ap₂, subst, ◌∙◌}
use mathlib.Core.Bool.{Bool, true, false, not, ◌&&◌}
use mathlib.Core.List.{List, [], ◌∷◌, ◌++◌, append_assoc, map}
use Prim.Native.Nat.{ℕ, zero, suc, ◌+◌, ◌*◌, ◌<◌, ◌≤◌}
use native.Mathlib.Omega.{arith}
use lib.Dec.{eqb, leb}
use borrow.Author.Tests.{eq-eqb, leb-true, not-true}
use lib.IntN.{pos}
use lib.ListN.{length, length-append, get_or}
use Rattle.text.specs.Text as texts
use Rattle.text.specs.Text.{bytes, is_empty, equals, parted_by, line_words, Line, lines, among, all, distinct, lines_text}
use Rattle.text_decimals.specs.Decimal as decimals
use Rattle.text.proofs.TextLaws.{Every, none, more, every_map, every_append, all-every, and_left, and_right}
use Rattle.text.proofs.LineLaws.{ended_line}
use Rattle.instructions.specs.Kinds.{kinds, kind_names}
use Rattle.file_format.specs.declared.Section.{Section}
use Rattle.file_format.specs.declared.Section.TheVariants as sections
use Rattle.file_format.specs.declared.Column as columns_of
use Rattle.file_format.specs.declared.Column.TheVariants as columns
use Rattle.file_format.specs.declared.Role.{Role}
use Rattle.file_format.specs.declared.Role.TheVariants as roles-of
use Rattle.file_format.specs.declared.Row.{Row}
use Rattle.file_format.specs.declared.Row.TheVariants as rows_of_lem
use Rattle.file_format.specs.Layout.{layout, body, up_to_answer, lines_of_code, code_roles, body_roles, roles, list, holds_cells, text_at, listed}
use Rattle.file_format.specs.Rows as rows
use Rattle.file_format.specs.Rows.{first_at, value, block_sizes, values_laid_out, column_laid_out, column_in_range, is_laid_out, in_range, test, Passes}
use Rattle.file_format.proofs.RowLaws.{Covered, rest, passed}
use Rattle.text.proofs.JoinLaws.{Free, text-free, lines-of-text}
use Rattle.file_format.proofs.OtherFileLaws.{covered-row}
use Rattle.generate_file.specs.declared.Column.{Column}
use Rattle.generate_file.specs.declared.Column.TheVariants.{Names, Limits, Cycles, Words, Extras, Handles}
use Rattle.generate_file.specs.Words.{row_from, row}
use Rattle.generate_file.specs.File.{count, kind_of, accesses, is_open, primitives, code_line, code_from, plain_cells, cells_for, later, limit_lines, kind_prices, primitive_prices, prices, cell_names, field_names, start, file}
use Rattle.generate_file.proofs.WordLaws.{Plain, spaced, row_words, row-length, row_last, row_more, row-short}
use Rattle.generate_file.proofs.RowLaws.{spaced-free, words-spaced, list-spaced, words-filled, value-decimal, limits-laid, cycles-laid, words-laid, extras-laid, limits-ranged, cycles-ranged, words-ranged, extras-ranged, names-row, Fit, fit-cells, cells-laid, cells-ranged, cells-present, row_plain}
use Rattle.generate_file.proofs.CodeLaws.{count-few, code_text, code-line, code_free, code-short, code-words, code-no-answer, Listing, code-laid-out, code-in-range, code-named, code-priced, code-reaches, code_forward}

-- ---- a text by its lines

-- texts one after the other
cat : List (List ℕ) → List ℕ
cat [] = []
cat (p ∷ ps) = p ++ cat ps

-- each is a line and its line feed
data Ended : List (List ℕ) → List (List ℕ) → Type 0 where
  no_line : Ended [] []
  line : {p l : List ℕ} {ps ls : List (List ℕ)} → p ≡ l ++ bytes "\n" → Free 10 l → Ended ps ls → Ended (p ∷ ps) (l ∷ ls)

ended-text : {ps ls : List (List ℕ)} → Ended ps ls → cat ps ≡ lines_text (map ended_line ls)
unfolding cat lines_text
ended-text no_line = refl
ended-text (line e f h) = ap₂ (λ x y. x ++ y) e (ended-text h)

ended-free : {ps ls : List (List ℕ)} → Ended ps ls → Every (λ (l : Line). Free 10 l.text) (map ended_line ls)
ended-free no_line = none
ended-free (line e f h) = more f (ended-free h)

ended-again : (ls : List (List ℕ)) → map (λ (l : Line). ended_line l.text) (map ended_line ls) ≡ map ended_line ls
ended-again [] = refl
ended-again (l ∷ ls) = ap (λ ms. ended_line l ∷ ms) (ended-again ls)

ended-lines : {ps ls : List (List ℕ)} → Ended ps ls → lines (cat ps) ≡ map ended_line ls
ended-lines {ps} {ls} h = ap lines (ended-text h) ∙ lines-of-text (ended-free h) ∙ ended-again ls

-- ---- the lines of code

code_parts : ℕ → ℕ → ℕ → List (List ℕ)
code_parts seed k zero = []
code_parts seed k (suc m) = code_line seed k ∷ code_parts seed (suc k) m

code_texts : ℕ → ℕ → ℕ → List (List ℕ)
code_texts seed k zero = []
code_texts seed k (suc m) = code_text seed k ∷ code_texts seed (suc k) m

code-cat : (seed k m : ℕ) → code_from seed k m ≡ cat (code_parts seed k m)
unfolding code_from cat code_parts
code-cat seed k zero = refl
code-cat seed k (suc m) = ap (λ t. code_line seed k ++ t) (code-cat seed (suc k) m)

code-ended : (seed k m : ℕ) → Ended (code_parts seed k m) (code_texts seed k m)
unfolding code_parts code_texts
code-ended seed k zero = no_line
code-ended seed k (suc m) = line (code-line seed k) (code_free seed k) (code-ended seed (suc k) m)

pub codes-short : (seed k m : ℕ) → k + m ≤ 200 → length (code_from seed k m) ≤ 30 * m
unfolding code_from
codes-short seed k zero h = omega arith
codes-short seed k (suc m) h =
    let a = code-short seed k (omega arith) in
    let b = codes-short seed (suc k) m (omega arith) in
    simp length-append (omega arith)

texts-length : (seed k m : ℕ) → length (map ended_line (code_texts seed k m)) ≡ m
unfolding code_texts
texts-length seed k zero = refl
texts-length seed k (suc m) = ap suc (texts-length seed (suc k) m)

-- none is ANSWER
no-answers : (seed k m : ℕ) → up_to_answer (map ended_line (code_texts seed k m)) ≡ map ended_line (code_texts seed k m)
unfolding up_to_answer code_texts
no-answers seed k zero = refl
no-answers seed k (suc m) = rw (code-no-answer seed k) (ap (λ ls. ended_line (code_text seed k) ∷ ls) (no-answers seed (suc k) m))

-- a test that each passes covers them all
codes-covered : (t : Role → Line → Bool) (seed : ℕ) → ((k : ℕ) → k < 200 → t (roles-of.Code k) (ended_line (code_text seed k)) ≡ true)
    → (k m : ℕ) → k + m ≤ 200 → Covered t (code_roles k (map ended_line (code_texts seed k m))) (map ended_line (code_texts seed k m))
unfolding code_roles code_texts
codes-covered t seed f k zero h = rest
codes-covered t seed f k (suc m) h = rw (code-no-answer seed k) (passed (f k (omega arith)) (codes-covered t seed f (suc k) m (omega arith)))

body-covered : (t : Role → Line → Bool) (seed : ℕ) → ((k : ℕ) → k < 200 → t (roles-of.Code k) (ended_line (code_text seed k)) ≡ true)
    → (m : ℕ) → m < 200 → Covered t (body_roles (map ended_line (code_texts seed 0 (suc m)))) (map ended_line (code_texts seed 0 (suc m)))
unfolding body_roles code_texts
body-covered t seed f m h = passed (f 0 (omega arith)) (codes-covered t seed f 1 m (omega arith))

-- ---- lines of values

module _ {ws : List (List ℕ)} (plain : Every Plain ws) (some : 2 ≤ length ws) where
  many-words : line_words (spaced ws) ≡ ws
  many-words = go some (every_map (λ w p. p.spaceless) plain)
    where
      go : {vs : List (List ℕ)} → 2 ≤ length vs → Every (Free 32) vs → line_words (spaced vs) ≡ vs
      go h none = absurd (omega arith)
      go h (more p ps) = words-spaced (more p ps)

  many-list : list (spaced ws) ≡ ws
  many-list = go some (every_map (λ w p. p.spaceless) plain)
    where
      go : {vs : List (List ℕ)} → 2 ≤ length vs → Every (Free 32) vs → list (spaced vs) ≡ vs
      go h none = absurd (omega arith)
      go h (more p none) = absurd (omega arith)
      go h (more p (more q qs)) = list-spaced (more p (more q qs))

  module _ (s : Section) (c : columns_of.Column) (ls : List Line) where
    values-laid : length ws ≡ length (listed (roles-of.Names s) ls) → column_laid_out c ws ≡ true → test rows_of_lem.Layout ls (roles-of.Values s c) (ended_line (spaced ws)) ≡ true
    unfolding test is_laid_out values_laid_out
    values-laid h k = rw (many-words, words-filled plain, many-list, eq-eqb (length ws) (length (listed (roles-of.Names s) ls)) h, k) refl

    values-ranged : column_in_range c (listed (roles-of.Names s) ls) ws ≡ true → test rows_of_lem.Range ls (roles-of.Values s c) (ended_line (spaced ws)) ≡ true
    unfolding test in_range
    values-ranged k = rw many-list k

-- a line of the layout
abbrev Heads : Role → Type 0
Heads (roles-of.Names s) = Unit
Heads (roles-of.Values s c) = Unit
Heads (roles-of.Code k) = ⊥
Heads (roles-of.Answer k) = ⊥

-- ---- lines of names

-- names that a test shows plain
abbrev is_plain : List ℕ → Bool
is_plain w = all (λ b. not (eqb b 32)) w && all (λ b. not (eqb b 10)) w && not (is_empty w) && leb (length w) 12

plain-name : (w : List ℕ) → is_plain w ≡ true → Plain w
plain-name w e =
    let a = all (λ b. not (eqb b 32)) w in
    let b = all (λ b. not (eqb b 10)) w in
    let c = not (is_empty w) in
    let d = leb (length w) 12 in
    let e₃ = and_left (a && b && c) d e in
    let e₂ = and_left (a && b) c e₃ in
    record {
      spaceless = text-free 32 w (and_left a b e₂);
      feedless = text-free 10 w (and_right a b e₂);
      filled = not-true (is_empty w) (and_right (a && b) c e₃);
      short = leb-true (length w) 12 (and_right (a && b && c) d e);
    }

plain-names : (ws : List (List ℕ)) → all is_plain ws ≡ true → Every Plain ws
plain-names ws e = every_map plain-name (all-every is_plain ws e)

-- the names of the fields
field_words : List (List ℕ)
field_words =
    bytes "B0.0" ∷ bytes "B0.1" ∷ bytes "B0.2" ∷ bytes "B0.3" ∷ bytes "B0.4" ∷ bytes "B0.5" ∷ bytes "B0.6" ∷ bytes "B0.7" ∷ bytes "B0.8" ∷ bytes "B0.9" ∷ bytes "B0.10" ∷ bytes "B0.11" ∷ bytes "B0.12" ∷ bytes "B0.13" ∷ bytes "B0.14" ∷ bytes "B0.15" ∷ bytes "B1.0" ∷ bytes "B1.1" ∷ bytes "B1.2" ∷ bytes "B1.3" ∷ bytes "B1.4" ∷ bytes "B1.5" ∷ bytes "B1.6" ∷ bytes "B1.7" ∷ bytes "B1.8" ∷ bytes "B1.9" ∷ bytes "B1.10" ∷ bytes "B1.11" ∷ bytes "B1.12" ∷ bytes "B1.13" ∷ bytes "B1.14" ∷ bytes "B1.15" ∷ []

primitives-plain : Every Plain primitives
unfolding all
primitives-plain = plain-names primitives refl

cells-plain : Every Plain rows.cell_names
unfolding all rows.cell_names rows.stack_names decimals.decimal decimals.digits
cells-plain = plain-names rows.cell_names refl

cells_count : length rows.cell_names ≡ 33
unfolding rows.cell_names rows.stack_names
cells_count = refl

fields-plain-names : Every Plain field_words
unfolding all field_words
fields-plain-names = plain-names field_words refl

fields-names-count : length field_words ≡ 32
unfolding field_words
fields-names-count = refl

primitives-list : list (spaced primitives) ≡ primitives
primitives-list = many-list primitives-plain (omega arith)

cells-list : list (spaced rows.cell_names) ≡ rows.cell_names
cells-list = many-list cells-plain (omega (arith, cells_count))

fields-list : list (spaced field_words) ≡ field_words
fields-list = many-list fields-plain-names (omega (arith, fields-names-count))

limits-count : length (list (bytes "BUDGET TICK")) ≡ 2
unfolding list line_words parted_by equals
limits-count = refl

blocks-count : length (block_sizes (list (spaced field_words))) ≡ 2
unfolding field_words equals rows.block_sizes rows.is_field rows.sizes_from decimals.decimal decimals.digits
blocks-count = ap (λ ws. length (block_sizes ws)) fields-list

cells-in-sequence : rows.well_named sections.Cells rows.cell_names ≡ true
unfolding rows.well_named equals rows.cell_names rows.stack_names rows.equal_lists decimals.decimal decimals.digits
cells-in-sequence = refl

fields-in-sequence : rows.well_named sections.Fields field_words ≡ true
unfolding rows.well_named field_words equals rows.total rows.block_sizes rows.is_field rows.sizes_from decimals.decimal decimals.digits
fields-in-sequence = refl

primitives-well-named : rows.well_named sections.Primitives primitives ≡ true
unfolding rows.well_named equals all distinct among rows.is_name
primitives-well-named = refl

module _ (ls : List Line) where
  limits-names : test rows_of_lem.Layout ls (roles-of.Names sections.Limits) (ended_line (bytes "BUDGET TICK")) ≡ true
  unfolding test is_laid_out rows.names_laid_out equals line_words parted_by all list
  limits-names = refl

  code-names : test rows_of_lem.Layout ls (roles-of.Names sections.Instructions) (ended_line (bytes "AT OP ARG")) ≡ true
  unfolding test is_laid_out rows.names_laid_out equals line_words parted_by all list
  code-names = refl

  names-laid : (s : Section) {ws : List (List ℕ)} → Every Plain ws → 2 ≤ length ws → rows.names_laid_out s (spaced ws) ≡ true → test rows_of_lem.Layout ls (roles-of.Names s) (ended_line (spaced ws)) ≡ true
  unfolding test is_laid_out
  names-laid s p h e = rw (many-words p h, words-filled p) e

  primitives-names : test rows_of_lem.Layout ls (roles-of.Names sections.Primitives) (ended_line (spaced primitives)) ≡ true
  unfolding rows.names_laid_out
  primitives-names = names-laid sections.Primitives primitives-plain (omega arith) (rw primitives-list refl)

  cells-names : test rows_of_lem.Layout ls (roles-of.Names sections.Cells) (ended_line (spaced rows.cell_names)) ≡ true
  unfolding rows.names_laid_out rows.cell_names
  cells-names = names-laid sections.Cells cells-plain (omega (arith, cells_count)) (ap (λ ws. not (is_empty ws)) cells-list)

  fields-names : test rows_of_lem.Layout ls (roles-of.Names sections.Fields) (ended_line (spaced field_words)) ≡ true
  unfolding rows.names_laid_out
  fields-names = names-laid sections.Fields fields-plain-names (omega (arith, fields-names-count)) refl

  well-named : (s : Section) {ws : List (List ℕ)} → list (spaced ws) ≡ ws → rows.well_named s ws ≡ true → test rows_of_lem.Name ls (roles-of.Names s) (ended_line (spaced ws)) ≡ true
  unfolding test rows.named
  well-named s e h = ap (rows.well_named s) e ∙ h

  -- names that are not looked at, and values that are no cells
  limits-named : test rows_of_lem.Name ls (roles-of.Names sections.Limits) (ended_line (bytes "BUDGET TICK")) ≡ true
  unfolding test rows.named rows.well_named
  limits-named = refl

  code-names-named : test rows_of_lem.Name ls (roles-of.Names sections.Instructions) (ended_line (bytes "AT OP ARG")) ≡ true
  unfolding test rows.named rows.well_named
  code-names-named = refl

  values-named : (s : Section) (c : columns_of.Column) (l : Line) → holds_cells (roles-of.Values s c) ≡ false → test rows_of_lem.Name ls (roles-of.Values s c) l ≡ true
  unfolding test rows.named rows.on_cells
  values-named s c l h = rw h refl

  names-ranged : (s : Section) (l : Line) → test rows_of_lem.Range ls (roles-of.Names s) l ≡ true
  unfolding test in_range
  names-ranged s l = refl

  -- cells that fit
  cells-named : length (block_sizes (listed (roles-of.Names sections.Fields) ls)) ≡ 2 → (s : Section) → holds_cells (roles-of.Values s columns.Cell) ≡ true
      → {ws : List (List ℕ)} → Every Plain ws → 2 ≤ length ws → Every Fit ws → test rows_of_lem.Name ls (roles-of.Values s columns.Cell) (ended_line (spaced ws)) ≡ true
  unfolding test rows.named rows.on_cells
  cells-named e s h p l f = rw (h, many-list p l, e) (cells-present f)

-- the three lines as they are written
names-free : {ws : List (List ℕ)} → Every Plain ws → Free 10 (spaced ws)
names-free p = spaced-free 10 (λ e. unlike e) (every_map (λ w q. q.feedless) p)
  where
    unlike : ◌≡◌ {A = ℕ} 32 10 → ⊥
    unlike e = omega arith

primitives-text : bytes "READ WRITE CLOCK NOISE\n" ≡ spaced primitives ++ bytes "\n"
unfolding spaced
primitives-text = refl

cells-text : cell_names ≡ spaced rows.cell_names ++ bytes "\n"
unfolding spaced rows.cell_names rows.stack_names decimals.decimal decimals.digits
cells-text = refl

fields-text : field_names ≡ spaced field_words ++ bytes "\n"
unfolding spaced field_words
fields-text = refl

-- ---- all lines

-- the parts of the file, and its lines, with those of the code last
regroup : (a b c d e f g h i j k l m n o p q : List ℕ)
    → ((a ++ b ++ c) ++ (d ++ e ++ f) ++ (g ++ h ++ i)) ++ (j ++ k ++ l ++ m ++ n ++ o) ++ p ++ q
    ≡ a ++ (b ++ (c ++ (d ++ (e ++ (f ++ (g ++ (h ++ (i ++ (j ++ ((k ++ l) ++ (m ++ ((n ++ o) ++ (p ++ q)))))))))))))
regroup a b c d e f g h i j k l m n o p q = simp append_assoc

kinds-well-named : rows.well_named sections.Kinds kind_names ≡ true
unfolding rows.well_named all among distinct equals kinds kind_names
kinds-well-named = refl

module _ (seed : ℕ) where
  accu : List (List ℕ)
  accu = row_words (cells_for seed 0) 1 0 (later seed 193)

  entries : List (List ℕ)
  entries = row_words (cells_for seed 1) 32 0 (later seed 194)

  first-fields : List (List ℕ)
  first-fields = row_words (plain_cells seed) 16 0 (later seed 226)

  second-fields : List (List ℕ)
  second-fields = row_words Handles 16 0 (later seed 242)

  parts : List (List ℕ)
  parts =
      bytes "BUDGET TICK\n" ∷ row Limits 2 false (later seed 0)
      ∷ row Names 61 false 0 ∷ row Cycles 61 false (later seed 2) ∷ row Words 61 false (later seed 63) ∷ row Extras 61 false (later seed 124)
      ∷ bytes "READ WRITE CLOCK NOISE\n" ∷ row Cycles 4 false (later seed 185) ∷ row Words 4 false (later seed 189)
      ∷ cell_names ∷ (row (cells_for seed 0) 1 true (later seed 193) ++ row (cells_for seed 1) 32 false (later seed 194))
      ∷ field_names ∷ (row (plain_cells seed) 16 true (later seed 226) ++ row Handles 16 false (later seed 242))
      ∷ bytes "AT OP ARG\n" ∷ code_parts seed 0 (suc (count seed))

  head : List (List ℕ) → List (List ℕ)
  head code =
      bytes "BUDGET TICK" ∷ spaced (row_words Limits 2 0 (later seed 0))
      ∷ spaced (row_words Names 61 0 0) ∷ spaced (row_words Cycles 61 0 (later seed 2)) ∷ spaced (row_words Words 61 0 (later seed 63)) ∷ spaced (row_words Extras 61 0 (later seed 124))
      ∷ spaced primitives ∷ spaced (row_words Cycles 4 0 (later seed 185)) ∷ spaced (row_words Words 4 0 (later seed 189))
      ∷ spaced rows.cell_names
      ∷ spaced (accu ++ entries)
      ∷ spaced field_words
      ∷ spaced (first-fields ++ second-fields)
      ∷ bytes "AT OP ARG" ∷ code

  file-cat : file seed ≡ cat parts
  unfolding file prices limit_lines kind_prices primitive_prices start cat parts
  file-cat =
      ap (λ t. prices seed ++ start seed ++ bytes "AT OP ARG\n" ++ t) (code-cat seed 0 (suc (count seed)))
      ∙ regroup (bytes "BUDGET TICK\n") (row Limits 2 false (later seed 0)) (row Names 61 false 0) (row Cycles 61 false (later seed 2)) (row Words 61 false (later seed 63))
      (row Extras 61 false (later seed 124)) (bytes "READ WRITE CLOCK NOISE\n") (row Cycles 4 false (later seed 185)) (row Words 4 false (later seed 189))
      cell_names (row (cells_for seed 0) 1 true (later seed 193)) (row (cells_for seed 1) 32 false (later seed 194))
      field_names (row (plain_cells seed) 16 true (later seed 226)) (row Handles 16 false (later seed 242)) (bytes "AT OP ARG\n") (cat (code_parts seed 0 (suc (count seed))))

  -- a row, and two of them, without a line feed
  row-free : (c : Column) (n i s : ℕ) → Free 10 (spaced (row_words c n i s))
  row-free c n i s = names-free (row_plain c n i s)

  two-free : (c d : Column) (n m i j s t : ℕ) → Free 10 (spaced (row_words c n i s ++ row_words d m j t))
  two-free c d n m i j s t = names-free (every_append (row_plain c n i s) (row_plain d m j t))

  two-rows : (c d : Column) (n m s t : ℕ) → row_from c (suc n) 0 true s ++ row_from d (suc m) 0 false t ≡ spaced (row_words c (suc n) 0 s ++ row_words d (suc m) 0 t) ++ bytes "\n"
  unfolding row_words
  two-rows c d n m s t = row_more c n 0 s (row_from d (suc m) 0 false t) _ _ (row_last d m 0 t)

  file-ended : Ended parts (head (code_texts seed 0 (suc (count seed))))
  unfolding parts head accu entries first-fields second-fields all
  file-ended =
      line refl (text-free 10 _ refl)
      (line (row_last Limits 1 0 _) (row-free Limits 2 0 _)
      (line (row_last Names 60 0 _) (row-free Names 61 0 _)
      (line (row_last Cycles 60 0 _) (row-free Cycles 61 0 _)
      (line (row_last Words 60 0 _) (row-free Words 61 0 _)
      (line (row_last Extras 60 0 _) (row-free Extras 61 0 _)
      (line primitives-text (names-free primitives-plain)
      (line (row_last Cycles 3 0 _) (row-free Cycles 4 0 _)
      (line (row_last Words 3 0 _) (row-free Words 4 0 _)
      (line cells-text (names-free cells-plain)
      (line (two-rows (cells_for seed 0) (cells_for seed 1) 0 31 _ _) (two-free (cells_for seed 0) (cells_for seed 1) 1 32 0 0 _ _)
      (line fields-text (names-free fields-plain-names)
      (line (two-rows (plain_cells seed) Handles 15 15 _ _) (two-free (plain_cells seed) Handles 16 16 0 0 _ _)
      (line refl (text-free 10 _ refl)
      (code-ended seed 0 (suc (count seed))))))))))))))))

  file-lines : lines (file seed) ≡ map ended_line (head (code_texts seed 0 (suc (count seed))))
  file-lines = ap lines file-cat ∙ ended-lines file-ended

  -- ---- no row refuses one of them

  all_lines : List Line
  all_lines = map ended_line (head (code_texts seed 0 (suc (count seed))))

  -- what they list

  row_list : (c : Column) (n s : ℕ) → 2 ≤ n → list (spaced (row_words c n 0 s)) ≡ row_words c n 0 s
  row_list c n s h = many-list (row_plain c n 0 s) (omega (arith, row-length c n 0 s))

  two-plain : (c d : Column) (n m s t : ℕ) → Every Plain (row_words c n 0 s ++ row_words d m 0 t)
  two-plain c d n m s t = every_append (row_plain c n 0 s) (row_plain d m 0 t)

  two-length : (c d : Column) (n m s t : ℕ) → length (row_words c n 0 s ++ row_words d m 0 t) ≡ n + m
  two-length c d n m s t = length-append (row_words c n 0 s) (row_words d m 0 t) ∙ ap₂ (λ x y. x + y) (row-length c n 0 s) (row-length d m 0 t)

  lists-kinds : listed (roles-of.Names sections.Kinds) all_lines ≡ kind_names
  unfolding listed text_at all_lines head
  lists-kinds = row_list Names 61 0 (omega arith) ∙ names-row

  lists-limits : length (listed (roles-of.Names sections.Limits) all_lines) ≡ 2
  unfolding listed text_at all_lines head
  lists-limits = limits-count

  lists-primitives : listed (roles-of.Names sections.Primitives) all_lines ≡ primitives
  unfolding listed text_at all_lines head
  lists-primitives = primitives-list

  lists-cells : length (listed (roles-of.Names sections.Cells) all_lines) ≡ 33
  unfolding listed text_at all_lines head
  lists-cells = ap length cells-list ∙ cells_count

  lists-fields : length (listed (roles-of.Names sections.Fields) all_lines) ≡ 32
  unfolding listed text_at all_lines head
  lists-fields = ap length fields-list ∙ fields-names-count

  two_blocks : length (block_sizes (listed (roles-of.Names sections.Fields) all_lines)) ≡ 2
  unfolding listed text_at all_lines head
  two_blocks = blocks-count

  begins : first_at (body all_lines) ≡ pos 0
  unfolding body first_at all_lines head code_texts
  begins = ap (λ ws. value (at_of ws)) (code-words seed 0) ∙ value-decimal 0
    where
      at_of : List (List ℕ) → List ℕ
      at_of ws = get_or ws 0 []

  counted : length (lines_of_code (body all_lines)) ≡ suc (count seed)
  unfolding body lines_of_code all_lines head code_texts
  counted = ap suc (ap length (no-answers seed 1 (count seed)) ∙ texts-length seed 1 (count seed))

  listing : Listing all_lines (count seed)
  listing = record { kinds = lists-kinds; primitives = lists-primitives; first = begins; count = counted }

  kinds-count : length (listed (roles-of.Names sections.Kinds) all_lines) ≡ 61
  unfolding kinds kind_names
  kinds-count = ap length lists-kinds

  primitives-count : length (listed (roles-of.Names sections.Primitives) all_lines) ≡ 4
  primitives-count = ap length lists-primitives

  -- the cells fit
  entries_fit : Every Fit (accu ++ entries)
  unfolding accu entries cells_for plain_cells
  entries_fit = every_append (fit-cells (accesses (kind_of seed 0)) (is_open seed) 1 0 (later seed 193)) (fit-cells (accesses (kind_of seed 1)) (is_open seed) 32 0 (later seed 194))

  fields_fit : Every Fit (first-fields ++ second-fields)
  unfolding first-fields second-fields plain_cells
  fields_fit = every_append (fit-cells false (is_open seed) 16 0 (later seed 226)) (fit-cells true false 16 0 (later seed 242))

  entries-plain : Every Plain (accu ++ entries)
  unfolding accu entries
  entries-plain = two-plain (cells_for seed 0) (cells_for seed 1) 1 32 (later seed 193) (later seed 194)

  fields-plain : Every Plain (first-fields ++ second-fields)
  unfolding first-fields second-fields
  fields-plain = two-plain (plain_cells seed) Handles 16 16 (later seed 226) (later seed 242)

  entries-count : length (accu ++ entries) ≡ 33
  unfolding accu entries
  entries-count = two-length (cells_for seed 0) (cells_for seed 1) 1 32 (later seed 193) (later seed 194)

  fields-count : length (first-fields ++ second-fields) ≡ 32
  unfolding first-fields second-fields
  fields-count = two-length (plain_cells seed) Handles 16 16 (later seed 226) (later seed 242)

  -- a line of values of a section with n names
  row_laid : (s : Section) (c : columns_of.Column) (k : Column) (n t : ℕ) → 2 ≤ n → length (listed (roles-of.Names s) all_lines) ≡ n → column_laid_out c (row_words k n 0 t) ≡ true
      → test rows_of_lem.Layout all_lines (roles-of.Values s c) (ended_line (spaced (row_words k n 0 t))) ≡ true
  row_laid s c k n t h e l =
      let m = row-length k n 0 t in
      values-laid (row_plain k n 0 t) (omega arith) s c all_lines (m ∙ sym e) l

  row-ranged : (s : Section) (c : columns_of.Column) (k : Column) (n t : ℕ) → 2 ≤ n → column_in_range c (listed (roles-of.Names s) all_lines) (row_words k n 0 t) ≡ true
      → test rows_of_lem.Range all_lines (roles-of.Values s c) (ended_line (spaced (row_words k n 0 t))) ≡ true
  row-ranged s c k n t h l = let m = row-length k n 0 t in values-ranged (row_plain k n 0 t) (omega arith) s c all_lines l

  kinds-names : test rows_of_lem.Layout all_lines (roles-of.Names sections.Kinds) (ended_line (spaced (row_words Names 61 0 0))) ≡ true
  unfolding rows.names_laid_out
  kinds-names = let m = row-length Names 61 0 0 in names-laid all_lines sections.Kinds (row_plain Names 61 0 0) (omega arith) refl

  kinds-named : test rows_of_lem.Name all_lines (roles-of.Names sections.Kinds) (ended_line (spaced (row_words Names 61 0 0))) ≡ true
  unfolding test rows.named
  kinds-named = ap (rows.well_named sections.Kinds) (row_list Names 61 0 (omega arith) ∙ names-row) ∙ kinds-well-named

  few : count seed < 200
  few = count-few seed

  laid-covered : Covered (test rows_of_lem.Layout all_lines) (roles all_lines) all_lines
  unfolding roles body all_lines head
  laid-covered =
      passed (limits-names all_lines)
      (passed (row_laid sections.Limits columns.Limit Limits 2 (later seed 0) (omega arith) lists-limits (limits-laid 2 0 (later seed 0)))
      (passed kinds-names
      (passed (row_laid sections.Kinds columns.Cycles Cycles 61 (later seed 2) (omega arith) kinds-count (cycles-laid 61 0 (later seed 2)))
      (passed (row_laid sections.Kinds columns.Words Words 61 (later seed 63) (omega arith) kinds-count (words-laid 61 0 (later seed 63)))
      (passed (row_laid sections.Kinds columns.Extra Extras 61 (later seed 124) (omega arith) kinds-count (extras-laid 61 0 (later seed 124)))
      (passed (primitives-names all_lines)
      (passed (row_laid sections.Primitives columns.Cycles Cycles 4 (later seed 185) (omega arith) primitives-count (cycles-laid 4 0 (later seed 185)))
      (passed (row_laid sections.Primitives columns.Words Words 4 (later seed 189) (omega arith) primitives-count (words-laid 4 0 (later seed 189)))
      (passed (cells-names all_lines)
      (passed (values-laid entries-plain (omega (arith, entries-count)) sections.Cells columns.Cell all_lines (entries-count ∙ sym lists-cells) (cells-laid entries_fit))
      (passed (fields-names all_lines)
      (passed (values-laid fields-plain (omega (arith, fields-count)) sections.Fields columns.Cell all_lines (fields-count ∙ sym lists-fields) (cells-laid fields_fit))
      (passed (code-names all_lines)
      (body-covered (test rows_of_lem.Layout all_lines) seed (λ k h. code-laid-out seed k h all_lines listing) (count seed) few))))))))))))))

  ranged-covered : Covered (test rows_of_lem.Range all_lines) (roles all_lines) all_lines
  unfolding roles body all_lines head
  ranged-covered =
      passed (names-ranged all_lines _ _)
      (passed (row-ranged sections.Limits columns.Limit Limits 2 (later seed 0) (omega arith) (limits-ranged _ (later seed 0)))
      (passed (names-ranged all_lines _ _)
      (passed (row-ranged sections.Kinds columns.Cycles Cycles 61 (later seed 2) (omega arith) (cycles-ranged _ 61 0 (later seed 2)))
      (passed (row-ranged sections.Kinds columns.Words Words 61 (later seed 63) (omega arith) (words-ranged _ 61 0 (later seed 63)))
      (passed (row-ranged sections.Kinds columns.Extra Extras 61 (later seed 124) (omega arith) (ap (λ ns. column_in_range columns.Extra ns (row_words Extras 61 0 (later seed 124))) lists-kinds ∙ extras-ranged (later seed 124)))
      (passed (names-ranged all_lines _ _)
      (passed (row-ranged sections.Primitives columns.Cycles Cycles 4 (later seed 185) (omega arith) (cycles-ranged _ 4 0 (later seed 185)))
      (passed (row-ranged sections.Primitives columns.Words Words 4 (later seed 189) (omega arith) (words-ranged _ 4 0 (later seed 189)))
      (passed (names-ranged all_lines _ _)
      (passed (values-ranged entries-plain (omega (arith, entries-count)) sections.Cells columns.Cell all_lines (cells-ranged _ entries_fit))
      (passed (names-ranged all_lines _ _)
      (passed (values-ranged fields-plain (omega (arith, fields-count)) sections.Fields columns.Cell all_lines (cells-ranged _ fields_fit))
      (passed (names-ranged all_lines _ _)
      (body-covered (test rows_of_lem.Range all_lines) seed (λ k h. code-in-range seed k h all_lines listing) (count seed) few))))))))))))))

  named-covered : Covered (test rows_of_lem.Name all_lines) (roles all_lines) all_lines
  unfolding roles body all_lines head
  named-covered =
      passed (limits-named all_lines)
      (passed (values-named all_lines sections.Limits columns.Limit _ refl)
      (passed kinds-named
      (passed (values-named all_lines sections.Kinds columns.Cycles _ refl)
      (passed (values-named all_lines sections.Kinds columns.Words _ refl)
      (passed (values-named all_lines sections.Kinds columns.Extra _ refl)
      (passed (well-named all_lines sections.Primitives primitives-list primitives-well-named)
      (passed (values-named all_lines sections.Primitives columns.Cycles _ refl)
      (passed (values-named all_lines sections.Primitives columns.Words _ refl)
      (passed (well-named all_lines sections.Cells cells-list cells-in-sequence)
      (passed (cells-named all_lines two_blocks sections.Cells refl entries-plain (omega (arith, entries-count)) entries_fit)
      (passed (well-named all_lines sections.Fields fields-list fields-in-sequence)
      (passed (cells-named all_lines two_blocks sections.Fields refl fields-plain (omega (arith, fields-count)) fields_fit)
      (passed (code-names-named all_lines)
      (body-covered (test rows_of_lem.Name all_lines) seed (λ k h. code-named seed k h all_lines listing) (count seed) few))))))))))))))

  -- rows that look at lines of code alone
  only_code : (row : Row) → ((r : Role) → Heads r → (l : Line) → test row all_lines r l ≡ true) → ((k : ℕ) → k < 200 → test row all_lines (roles-of.Code k) (ended_line (code_text seed k)) ≡ true)
      → Covered (test row all_lines) (roles all_lines) all_lines
  unfolding roles body all_lines head
  only_code row f g =
      passed (f _ tt _) (passed (f _ tt _) (passed (f _ tt _) (passed (f _ tt _) (passed (f _ tt _) (passed (f _ tt _) (passed (f _ tt _)
      (passed (f _ tt _) (passed (f _ tt _) (passed (f _ tt _) (passed (f _ tt _) (passed (f _ tt _) (passed (f _ tt _) (passed (f _ tt _)
      (body-covered (test row all_lines) seed g (count seed) few))))))))))))))

  not-priced : (r : Role) → Heads r → (l : Line) → test rows_of_lem.Price all_lines r l ≡ true
  unfolding test rows.priced rows.on_code
  not-priced (roles-of.Names s) h l = refl
  not-priced (roles-of.Values s c) h l = refl
  not-priced (roles-of.Code k) h l = absurd h
  not-priced (roles-of.Answer k) h l = absurd h

  not-aimed : (r : Role) → Heads r → (l : Line) → test rows_of_lem.Target all_lines r l ≡ true
  unfolding test rows.reaches rows.on_code
  not-aimed (roles-of.Names s) h l = refl
  not-aimed (roles-of.Values s c) h l = refl
  not-aimed (roles-of.Code k) h l = absurd h
  not-aimed (roles-of.Answer k) h l = absurd h

  not-forward : (r : Role) → Heads r → (l : Line) → test rows_of_lem.Forward all_lines r l ≡ true
  unfolding test rows.forward
  not-forward (roles-of.Names s) h l = refl
  not-forward (roles-of.Values s c) h l = refl
  not-forward (roles-of.Code k) h l = absurd h
  not-forward (roles-of.Answer k) h l = absurd h

  lines-pass : Passes all_lines
  lines-pass = record {
    layout = covered-row rows_of_lem.Layout all_lines laid-covered;
    range = covered-row rows_of_lem.Range all_lines ranged-covered;
    names = covered-row rows_of_lem.Name all_lines named-covered;
    prices = covered-row rows_of_lem.Price all_lines (only_code rows_of_lem.Price not-priced (λ k h. code-priced seed k h all_lines listing));
    targets = covered-row rows_of_lem.Target all_lines (only_code rows_of_lem.Target not-aimed (λ k h. code-reaches seed k h all_lines listing));
    forward = covered-row rows_of_lem.Forward all_lines (only_code rows_of_lem.Forward not-forward (λ k h. code_forward seed k h all_lines listing));
  }

  pub file-passes : Passes (lines (file seed))
  unfolding all_lines
  file-passes = subst Passes (sym file-lines) lines-pass

-- ---- its length

nine : (a b c d e f g h i : List ℕ) → length ((a ++ b ++ c) ++ (d ++ e ++ f) ++ (g ++ h ++ i)) ≡ (length a + length b + length c) + (length d + length e + length f) + (length g + length h + length i)
nine a b c d e f g h i = simp length-append

six : (a b c d e f : List ℕ) → length (a ++ b ++ c ++ d ++ e ++ f) ≡ length a + length b + length c + length d + length e + length f
six a b c d e f = simp length-append

four : (a b c d : List ℕ) → length (a ++ b ++ c ++ d) ≡ length a + length b + length c + length d
four a b c d = simp length-append

pub prices-short : (seed : ℕ) → length (prices seed) ≤ 3400
unfolding prices limit_lines kind_prices primitive_prices
prices-short seed =
    let e = nine (bytes "BUDGET TICK\n") (row Limits 2 false (later seed 0)) (row Names 61 false 0) (row Cycles 61 false (later seed 2)) (row Words 61 false (later seed 63))
    (row Extras 61 false (later seed 124)) (bytes "READ WRITE CLOCK NOISE\n") (row Cycles 4 false (later seed 185)) (row Words 4 false (later seed 189)) in
    let a : length (bytes "BUDGET TICK\n") ≡ 12 = refl in
    let b : length (bytes "READ WRITE CLOCK NOISE\n") ≡ 23 = refl in
    omega (arith, row-short Limits 2 0 false (later seed 0), row-short Names 61 0 false 0, row-short Cycles 61 0 false (later seed 2), row-short Words 61 0 false (later seed 63), row-short Extras 61 0 false (later seed 124), row-short Cycles 4 0 false (later seed 185), row-short Words 4 0 false (later seed 189))

pub start-short : (seed : ℕ) → length (start seed) ≤ 1200
unfolding start
start-short seed =
    let e = six cell_names (row (cells_for seed 0) 1 true (later seed 193)) (row (cells_for seed 1) 32 false (later seed 194))
    field_names (row (plain_cells seed) 16 true (later seed 226)) (row Handles 16 false (later seed 242)) in
    let a : length cell_names ≡ 123 = refl in
    let b : length field_names ≡ 172 = refl in
    omega (arith, row-short (cells_for seed 0) 1 0 true (later seed 193), row-short (cells_for seed 1) 32 0 false (later seed 194), row-short (plain_cells seed) 16 0 true (later seed 226), row-short Handles 16 0 false (later seed 242))

pub file-short : (seed : ℕ) → length (file seed) ≤ 32768
unfolding file
file-short seed =
    let e = four (prices seed) (start seed) (bytes "AT OP ARG\n") (code_from seed 0 (suc (count seed))) in
    let a : length (bytes "AT OP ARG\n") ≡ 10 = refl in
    let f = count-few seed in
    omega (arith, prices-short seed, start-short seed, codes-short seed 0 (suc (count seed)) (omega arith))
