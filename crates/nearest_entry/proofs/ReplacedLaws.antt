-- Laws of a file with one value of a start or block cell replaced: its lines, that it passes the rows, and its routine. Assumes nothing.
use Rattle.std.specs.Prelude.{None}
use Prim.Native.Nat.{ℕ, zero, suc, ◌+◌, ◌-◌, ◌<◌, ◌≤◌}
use mathlib.Core.Path.{◌≡◌, refl, sym, ap, ap₂, subst, ◌∙◌}
use mathlib.Core.Bool.{Bool, true, false, cond, not, ◌&&◌, false≢true}
use mathlib.Core.List.{List, [], ◌∷◌, ◌++◌, map}
use native.Mathlib.Omega.{arith}
use lib.Dec.{eqb, ltb}
use lib.IntN.{ℤ}
use lib.ListN.{length, get_or, set, drop, length-set, length-map, length-drop, length-append, get_or-append}
use lib.Seq.{drop-set-lt, drop-set-add, take-set-lt, take-set-le, get_or-append-add}
use borrow.Author.Tests.{eq-eqb, ltb-true, ltb-false, not-true}
use Rattle.text.specs.Text.{bytes, is_empty, equals, parted_by, line_words, Line, lines, all, lines_text, joined}
use Rattle.text_decimals.specs.Decimal.{digits_from, natural, numeral, integer}
use Rattle.text.proofs.TextLaws.{Every, none, and_left, and_right, equals-path}
use Rattle.text.proofs.LineLaws.{ended_line}
use Rattle.numbers.specs.Numbers.{numbers, IsNumber}
use Rattle.cells.specs.declared.Cell.{Cell}
use Rattle.cells.specs.Cells.{exactly}
use Rattle.cells.specs.Try.{done}
use Rattle.machine.specs.Machine.{State, height, load, restack, reblock}
use Rattle.file_format.specs.declared.Section.{Section}
use Rattle.file_format.specs.declared.Section.TheVariants.{Limits as limits, Kinds as kinds, Primitives as primitives, Cells as cells, Fields as fields}
use Rattle.file_format.specs.declared.Column.{Column}
use Rattle.file_format.specs.declared.Column.TheVariants.{Limit as limit, Cycles as cycles, Words as words-column, Extra as extra, Cell as cell}
use Rattle.file_format.specs.declared.Role.{Role}
use Rattle.file_format.specs.declared.Role.TheVariants.{Names as names, Values as values, Code as code, Answer as answer}
use Rattle.file_format.specs.declared.Row.{Row}
use Rattle.file_format.specs.declared.Row.TheVariants.{Layout as Layout-row, Range as range-row, Name as name-row, Price as price-row, Target as target_row, Forward as forward-row, Known as known-row}
use Rattle.file_format.specs.Layout.{layout, body, body_roles, roles, list, section_place, column_place, is_role, holds_cells, text_at, listed}
use Rattle.file_format.specs.Rows.{known_of, span_of, spanned, hashed, cell_word, is_cell, cell_in_range, cell_present, block_sizes, total, column_laid_out, column_in_range, on_cells, on_code, values_laid_out, is_laid_out, in_range, named, priced, reaches, forward, test, refused_line, Passes}
use Rattle.file_format.specs.Routine.{inside, price_list, code_in, cell_of, cells_of, blocks_in_line, start_of, Routine, routine_of, routine, text_limit, read_bound}
use Rattle.file_format.proofs.RowLaws.{Covered, rest, passed, row-covered, First, passes-laid-out, passes-spaced, passes-range, passes-named, lines-ended, passes-read}
use Rattle.file_format.proofs.RangeLaws.{inside_is, values-counted}
use Rattle.file_format.proofs.PassingLaws.{code-some, code-among, fields-total}
use Rattle.file_format.proofs.LayoutLaws.{list-none, list-words, role-every}
use Rattle.text.proofs.JoinLaws.{Free, split-free, pieces-every, split-joined, joined-every, every_set, lines-free, lines-set, text-set}
use Rattle.file_format.proofs.OtherFileLaws.{covered-row, test-other}
use Rattle.text_decimals.proofs.SpellingLaws.{integer-free}
use Rattle.file_format.proofs.CellLaws.{integer-cell}
use Rattle.nearest_changes.specs.declared.Position.{Position}
use Rattle.nearest_changes.specs.declared.Position.TheVariants.{Accu, Entry, Field}
use Rattle.nearest_changes.specs.Places.{replace_at, from, fields_from}
use Rattle.nearest_changes.specs.Changes.{number_at}
use Rattle.nearest_changes.proofs.PlaceLaws.{entry-below, field_below}
use Rattle.nearest_changes.proofs.Theorems.{number-within}
use Rattle.nearest_entry.specs.Answers.{name_of}
use Rattle.nearest_entry.specs.Replaced.{Under, with_value}
use Rattle.nearest_entry.proofs.NameLaws.{name-known, height-named, cells-named, places_from, fields-placed, fields-named}

-- ---- one place of a list

module _ {A B : Type 0} (f : A → B) where
  pub map_at : (xs : List A) (i : ℕ) (d : B) (e : A) → i < length xs → get_or (map f xs) i d ≡ f (get_or xs i e)
  map_at [] i d e h = absurd (omega arith)
  map_at (x ∷ xs) zero d e h = refl
  map_at (x ∷ xs) (suc i) d e h = map_at xs i d e (omega arith)

  map-set : (xs : List A) (i : ℕ) (x : A) → map f (set xs i x) ≡ set (map f xs) i (f x)
  map-set [] i x = refl
  map-set (y ∷ ys) zero x = refl
  map-set (y ∷ ys) (suc i) x = ap (λ zs. f y ∷ zs) (map-set ys i x)

all_set : {A : Type 0} (t : A → Bool) (xs : List A) (i : ℕ) (x : A) → all t xs ≡ true → t x ≡ true → all t (set xs i x) ≡ true
unfolding all
all_set t [] i x e h = refl
all_set t (y ∷ ys) zero x e h = ap₂ ◌&&◌ h (and_right (t y) (all t ys) e)
all_set t (y ∷ ys) (suc i) x e h = ap₂ ◌&&◌ (and_left (t y) (all t ys) e) (all_set t ys i x (and_right (t y) (all t ys) e) h)

pub length_from : (k m : ℕ) → length (from k m) ≡ m
unfolding from
length_from k zero = refl
length_from k (suc m) = ap suc (length_from (suc k) m)

pub from_at : (k m i : ℕ) (d : ℕ) → i < m → get_or (from k m) i d ≡ k + i
unfolding from
from_at k zero i d h = absurd (omega arith)
from_at k (suc m) zero d h = omega arith
from_at k (suc m) (suc i) d h = from_at (suc k) m i d (omega arith) ∙ omega arith

-- the place of entry or field i of a row of n
pub place_at : (f : ℕ → Position) (n i : ℕ) → i < n → get_or (map f (from 0 n)) i Accu ≡ f i
place_at f n i h =
    let l = length_from 0 n in
    let z : 0 + i ≡ i = omega arith in
    map_at f (from 0 n) i Accu 0 (omega arith) ∙ ap f (from_at 0 n i 0 h ∙ z)

-- as many cells as words
cells-counted : (ws : List (List ℕ)) → length (cells_of ws) ≡ length ws
unfolding cells_of
cells-counted ws = simp length-map

-- ---- a start with one cell of a line replaced

pub start-set : (first : ℕ) (cs : List Cell) (bs : List (List Cell)) (c : Cell) (i n : ℕ) → length cs ≡ suc n → i < length cs →
    start_of first (set cs i c) bs ≡ replace_at (get_or (Accu ∷ map Entry (from 0 n)) i Accu) c (start_of first cs bs)
unfolding start_of replace_at load restack
start-set first [] bs c i n l h = absurd (omega arith)
start-set first (x ∷ cs) bs c zero n l h = refl
start-set first (x ∷ cs) bs c (suc j) n l h = rw (place_at Entry n j (omega arith)) refl

-- field i of a line of blocks: block k has it as its field n
record FieldAt (first : ℕ) (ns : List ℕ) (cs : List Cell) (c : Cell) (i : ℕ) : Type 0 where
  pub block : ℕ
  pub field : ℕ
  pub placed : get_or (places_from first ns) i Accu ≡ Field (first + block) field
  pub set : blocks_in_line ns (set cs i c) ≡ set (blocks_in_line ns cs) block (set (get_or (blocks_in_line ns cs) block []) field c)

length-map-from : (f : ℕ → Position) (n : ℕ) → length (map f (from 0 n)) ≡ n
length-map-from f n = simp length-map (length_from 0 n)

field_at : (ns : List ℕ) (cs : List Cell) (c : Cell) (first i : ℕ) → i < total ns → FieldAt first ns cs c i
unfolding total places_from blocks_in_line
field_at [] cs c first i h = absurd (omega arith)
field_at (n ∷ ns) cs c first i h = go (ltb i n) refl (λ j. field_at ns (drop n cs) c (suc first) j)
  where
    go : (b : Bool) → ltb i n ≡ b → ((j : ℕ) → j < total ns → FieldAt (suc first) ns (drop n cs) c j) → FieldAt first (n ∷ ns) cs c i
    go true e f =
        let l = ltb-true i n e in
        let m = length-map-from (Field first) n in
        record {
          block = 0;
          field = i;
          placed = get_or-append (map (Field first) (from 0 n)) (places_from (suc first) ns) Accu i (omega arith) ∙ place_at (Field first) n i l ∙ ap (λ k. Field k i) (omega arith);
          set = ap₂ (λ b bs. b ∷ blocks_in_line ns bs) (take-set-lt n cs i c l) (drop-set-lt n cs i c l);
        }
    go false e f =
        let l = ltb-false i n e in
        let j = i - n in
        let q : i ≡ n + j = omega arith in
        let m = length-map-from (Field first) n in
        let z : i ≡ length (map (Field first) (from 0 n)) + j = omega arith in
        let r = f j (omega arith) in
        record {
          block = suc r.block;
          field = r.field;
          placed =
              ap (λ k. get_or (map (Field first) (from 0 n) ++ places_from (suc first) ns) k Accu) z
              ∙ get_or-append-add (map (Field first) (from 0 n)) (places_from (suc first) ns) j Accu
              ∙ r.placed
              ∙ ap (λ k. Field k r.field) (omega arith);
          set =
              ap₂ (λ b bs. b ∷ bs)
              (take-set-le n cs i c l)
              (ap (λ k. blocks_in_line ns (drop n (set cs k c))) q ∙ ap (blocks_in_line ns) (drop-set-add n cs j c) ∙ r.set);
        }

pub blocks-set : (first : ℕ) (ns : List ℕ) (cs fs : List Cell) (c : Cell) (i : ℕ) → i < total ns →
    start_of first cs (blocks_in_line ns (set fs i c)) ≡ replace_at (get_or (places_from 0 ns) i Accu) c (start_of first cs (blocks_in_line ns fs))
unfolding start_of replace_at reblock
blocks-set first ns cs fs c i h =
    let r = field_at ns fs c 0 i h in
    let z : 0 + r.block ≡ r.block = omega arith in
    rw (r.placed, z, r.set) refl

-- ---- one line of the layout replaced

-- whether line k of the lines rs, and none before it, holds r
unfoldable pub holds_at : Role → List Role → ℕ → Bool
holds_at r [] k = false
holds_at r (x ∷ xs) zero = is_role r x
holds_at r (x ∷ xs) (suc k) = not (is_role r x) && holds_at r xs k

text-there : (r : Role) (rs : List Role) (ls : List Line) (k : ℕ) (l : Line) → holds_at r rs k ≡ true → k < length ls → text_at r rs (set ls k l) ≡ l.text
unfolding text_at holds_at
text-there r [] ls k l e h = absurd (false≢true e)
text-there r (x ∷ xs) [] k l e h = absurd (omega arith)
text-there r (x ∷ xs) (m ∷ ms) zero l e h = ap (λ b. cond b l.text (text_at r xs ms)) e
text-there r (x ∷ xs) (m ∷ ms) (suc k) l e h =
    ap (λ b. cond b m.text (text_at r xs (set ms k l))) (not-true (is_role r x) (and_left (not (is_role r x)) (holds_at r xs k) e))
    ∙ text-there r xs ms k l (and_right (not (is_role r x)) (holds_at r xs k) e) (omega arith)

text-other : (r : Role) (rs : List Role) (ls : List Line) (k : ℕ) (l : Line) → is_role r (get_or rs k (code 0)) ≡ false → text_at r rs (set ls k l) ≡ text_at r rs ls
unfolding text_at
text-other r [] ls k l e = refl
text-other r (x ∷ xs) [] k l e = refl
text-other r (x ∷ xs) (m ∷ ms) zero l e = rw e refl
text-other r (x ∷ xs) (m ∷ ms) (suc k) l e = ap (cond (is_role r x) m.text) (text-other r xs ms k l e)

-- ms are the lines ls but for a line of cells
record Framed (ls ms : List Line) : Type 0 where
  pub names : (t : Section) → listed (names t) ms ≡ listed (names t) ls
  pub columns : (t : Section) (c : Column) → eqb (column_place c) 4 ≡ false → listed (values t c) ms ≡ listed (values t c) ls
  pub body : body ms ≡ body ls

and-false : (a : Bool) → (a && false) ≡ false
and-false true = refl
and-false false = refl

framed : (ls : List Line) (s : Section) (k : ℕ) (l : Line) → k < length layout → get_or layout k (code 0) ≡ values s cell → Framed ls (set ls k l)
unfolding listed body
framed ls s k l h e = record {
  names = λ t. ap list (text-other (names t) layout ls k l (ap (is_role (names t)) e));
  columns = λ t c q. ap list (text-other (values t c) layout ls k l (ap (is_role (values t c)) e ∙ ap (λ b. eqb (section_place t) (section_place s) && b) q ∙ and-false (eqb (section_place t) (section_place s))));
  body = drop-set-lt (length layout) ls k l h;
}

module _ {ls ms : List Line} (f : Framed ls ms) where
  -- the tests of all lines are the same
  test-framed : (row : Row) (r : Role) (l : Line) → test row ms r l ≡ test row ls r l
  unfolding test is_laid_out in_range named priced reaches forward on_code
  test-framed row (names s) l = test-other ls ms f.names row (names s) refl l
  test-framed row (values s c) l = test-other ls ms f.names row (values s c) refl l
  test-framed row (answer k) l = test-other ls ms f.names row (answer k) refl l
  test-framed Layout-row (code k) l = refl
  test-framed range-row (code k) l = refl
  test-framed name-row (code k) l = rw (f.body, f.names primitives) refl
  test-framed price-row (code k) l = rw (f.names kinds) refl
  test-framed target_row (code k) l = rw f.body refl
  test-framed forward-row (code k) l = rw f.body refl
  test-framed known-row (code k) l = refl

  roles-framed : roles ms ≡ roles ls
  unfolding roles
  roles-framed = ap (λ bs. layout ++ body_roles bs) f.body

  -- and so is the code
  code-framed : code_in ms ≡ code_in ls
  unfolding code_in price_list
  code-framed =
      simp (
        f.body,
        f.names kinds,
        f.names primitives,
        f.columns kinds cycles refl,
        f.columns kinds words-column refl,
        f.columns kinds extra refl,
        f.columns primitives cycles refl,
        f.columns primitives words-column refl,
      )

module _ {t u : Role → Line → Bool} (same : (r : Role) (l : Line) → u r l ≡ t r l) where
  covered-kept : {rs : List Role} {ls : List Line} → Covered t rs ls → Covered u rs ls
  covered-kept rest = rest
  covered-kept (passed {r} {l} p c) = passed (same r l ∙ p) (covered-kept c)

  covered-set : (k : ℕ) (l : Line) {rs : List Role} {ls : List Line} → u (get_or rs k (code 0)) l ≡ true → Covered t rs ls → Covered u rs (set ls k l)
  covered-set k l e rest = rest
  covered-set zero l e (passed p c) = passed e (covered-kept c)
  covered-set (suc k) l e (passed {r} {l = m} p c) = passed (same r m ∙ p) (covered-set k l e c)

-- a row lets the lines through where it let them through before, and lets the new line through
row-set : (row : Row) (ls : List Line) (k : ℕ) (l : Line) → Framed ls (set ls k l) → refused_line row ls ≡ None → test row (set ls k l) (get_or (roles ls) k (code 0)) l ≡ true → refused_line row (set ls k l) ≡ None
row-set row ls k l f e t =
    let ms = set ls k l in
    let c : Covered (test row ms) (roles ls) ms = covered-set (test-framed f row) k l t (row-covered row ls e) in
    covered-row row ms (subst (λ rs. Covered (test row ms) rs ms) (sym (roles-framed f)) c)

-- ---- the new line

-- a line that lists something lists its words
listed-words : (text : List ℕ) → 0 < length (list text) → list text ≡ line_words text
listed-words text h = go (equals text (bytes "-")) refl
  where
    go : (b : Bool) → equals text (bytes "-") ≡ b → list text ≡ line_words text
    go true e = let z = ap length (list-none text e) in absurd (omega arith)
    go false e = list-words text e

-- `-` is no cell
dash : all (λ w. is_cell (cell_word w)) (line_words (bytes "-")) ≡ false
unfolding all line_words parted_by is_cell cell_word hashed spanned span_of known_of numeral natural digits_from equals
dash = refl

cells-listed : (text : List ℕ) (ws : List (List ℕ)) → line_words text ≡ ws → all (λ w. is_cell (cell_word w)) ws ≡ true → list text ≡ ws
cells-listed text ws e a = go (equals text (bytes "-")) refl
  where
    go : (b : Bool) → equals text (bytes "-") ≡ b → list text ≡ ws
    go true q =
        let d : line_words (bytes "-") ≡ ws = ap line_words (sym (equals-path text (bytes "-") q)) ∙ e in
        absurd (false≢true (sym dash ∙ ap (all (λ w. is_cell (cell_word w))) d ∙ a))
    go false q = list-words text q ∙ e

-- an integer is some word
integer-some : (z : ℤ) → not (is_empty (integer z)) ≡ true
unfolding cell_word hashed equals is_cell
integer-some z = go (integer z) (ap is_cell (integer-cell z))
  where
    go : (w : List ℕ) → is_cell (cell_word w) ≡ true → not (is_empty w) ≡ true
    go [] e = absurd (false≢true e)
    go (x ∷ xs) e = refl

-- line k, counted from 0, is that of the values of section s, which are cells
pub record CellLine (s : Section) (k : ℕ) : Type 0 where
  pub first : First (values s cell) layout
  pub holds : holds_cells (values s cell) ≡ true
  pub at : holds_at (values s cell) layout k ≡ true
  pub role : (bs : List Role) → get_or (layout ++ bs) k (code 0) ≡ values s cell
  pub laid : get_or layout k (code 0) ≡ values s cell
  pub inside : k < length layout

line-eleven : CellLine cells 10
unfolding holds_at
line-eleven = record { first = refl; holds = refl; at = refl; role = λ bs. refl; laid = refl; inside = omega arith }

line-thirteen : CellLine fields 12
unfolding holds_at
line-thirteen = record { first = refl; holds = refl; at = refl; role = λ bs. refl; laid = refl; inside = omega arith }

-- the value at place i replaced
module _ (text : List ℕ) (p : Passes (lines text)) (s : Section) (k : ℕ) (line : CellLine s k) (i : ℕ) (h : i < length (listed (values s cell) (lines text))) (v : ℤ) (is : IsNumber v) where
  abbrev ls : List Line
  ls = lines text

  abbrev vs : List (List ℕ)
  vs = listed (values s cell) ls

  abbrev ws : List (List ℕ)
  ws = set vs i (integer v)

  abbrev new : List ℕ
  new = joined 32 ws

  abbrev ms : List Line
  ms = set ls k (ended_line new)

  there : k < length ls
  unfolding body
  there =
      let a = code-some ls p.layout in
      let b = code-among (body ls) in
      let d = length-drop (length layout) ls in
      let l = line.inside in
      omega arith

  old-words : vs ≡ line_words (text_at (values s cell) layout ls)
  unfolding listed
  old-words = listed-words (text_at (values s cell) layout ls) (omega arith)

  parted : Every (Free 32) ws
  unfolding line_words
  parted = every_set (subst (Every (Free 32)) (sym old-words) (split-free 32 (text_at (values s cell) layout ls))) (integer-free 32 (λ e. omega arith) (omega arith) v) i

  one_line : Every (Free 10) ws
  unfolding line_words
  one_line =
      every_set
      (subst (Every (Free 10)) (sym old-words) (pieces-every 32 (role-every (Free 10) none (values s cell) layout (lines-free text))))
      (integer-free 10 (λ e. omega arith) (omega arith) v)
      i

  pub new-free : Free 10 new
  new-free = joined-every 32 (λ e. omega arith) one_line

  new-words : line_words new ≡ ws
  unfolding line_words
  new-words = split-joined 32 (let l = length-set vs i (integer v) in omega arith) parted

  all-cells : all (λ w. is_cell (cell_word w)) ws ≡ true
  unfolding is_laid_out values_laid_out column_laid_out is_cell listed
  all-cells =
      all_set (λ w. is_cell (cell_word w)) vs i (integer v)
      (and_right (eqb (length vs) (length (listed (names s) ls))) (all (λ w. is_cell (cell_word w)) vs) (passes-laid-out p (values s cell) line.first))
      (ap is_cell (integer-cell v))

  pub new-list : list new ≡ ws
  new-list = cells-listed new ws new-words all-cells

  frame : Framed ls ms
  frame = framed ls s k (ended_line new) line.inside line.laid

  -- the three rows that look at a line of cells
  test-laid : test Layout-row ms (values s cell) (ended_line new) ≡ true
  unfolding test is_laid_out values_laid_out column_laid_out
  test-laid =
      let spaces : all (λ w. not (is_empty w)) (line_words new) ≡ true =
      ap (all (λ w. not (is_empty w))) new-words
      ∙ all_set (λ w. not (is_empty w)) vs i (integer v) (ap (all (λ w. not (is_empty w))) old-words ∙ passes-spaced p (values s cell) line.first) (integer-some v) in
      let count : length (list new) ≡ length (listed (names s) ms) =
      ap length new-list ∙ length-set vs i (integer v) ∙ values-counted p s cell line.first ∙ ap length (sym (frame.names s)) in
      ap₂ ◌&&◌ spaces (ap₂ ◌&&◌ (eq-eqb (length (list new)) (length (listed (names s) ms)) count) (ap (all (λ w. is_cell (cell_word w))) new-list ∙ all-cells))

  test-ranged : test range-row ms (values s cell) (ended_line new) ≡ true
  unfolding test in_range column_in_range cell_in_range listed
  test-ranged =
      ap (all (λ w. cell_in_range (cell_word w))) new-list
      ∙ all_set (λ w. cell_in_range (cell_word w)) vs i (integer v) (passes-range p (values s cell) line.first) (ap cell_in_range (integer-cell v) ∙ number-within v is)

  test-named : test name-row ms (values s cell) (ended_line new) ≡ true
  unfolding test named on_cells cell_present listed
  test-named =
      let n = length (block_sizes (listed (names fields) ls)) in
      let old : all (λ w. cell_present n (cell_word w)) vs ≡ true = rw line.holds at (passes-named p (values s cell) line.first) in
      let new : all (λ w. cell_present n (cell_word w)) ws ≡ true = all_set (λ w. cell_present n (cell_word w)) vs i (integer v) old (ap (cell_present n) (integer-cell v)) in
      rw (line.holds, new-list, frame.names fields) new

  tested : (row : Row) → test row ms (values s cell) (ended_line new) ≡ true → test row ms (get_or (roles ls) k (code 0)) (ended_line new) ≡ true
  unfolding roles
  tested row e = ap (λ r. test row ms r (ended_line new)) (line.role (body_roles (body ls))) ∙ e

  pub passes-set : Passes ms
  unfolding test priced reaches forward on_code
  passes-set = record {
    layout = row-set Layout-row ls k (ended_line new) frame p.layout (tested Layout-row test-laid);
    range = row-set range-row ls k (ended_line new) frame p.range (tested range-row test-ranged);
    names = row-set name-row ls k (ended_line new) frame p.names (tested name-row test-named);
    prices = row-set price-row ls k (ended_line new) frame p.prices (tested price-row refl);
    targets = row-set target_row ls k (ended_line new) frame p.targets (tested target_row refl);
    forward = row-set forward-row ls k (ended_line new) frame p.forward (tested forward-row refl);
  }

  -- the cells of the line
  pub cells-set : cells_of (listed (values s cell) ms) ≡ set (cells_of vs) i (exactly v)
  unfolding cells_of listed cell_of
  cells-set =
      ap (λ t. map (λ w. cell_of (cell_word w)) (list t)) (text-there (values s cell) layout ls k (ended_line new) line.at there)
      ∙ ap (map (λ w. cell_of (cell_word w))) new-list
      ∙ map-set (λ w. cell_of (cell_word w)) vs i (integer v)
      ∙ ap (set (map (λ w. cell_of (cell_word w)) vs) i) (ap cell_of (integer-cell v) ∙ ap exactly (inside_is numbers v (number-within v is)))

  pub lines_new : lines (lines_text ms) ≡ ms
  lines_new = lines-set text new k (lines-ended ls p.layout) new-free

  -- the routine, where the start is t
  pub routine-set : (t : State) → (routine_of ms).start ≡ t →
      routine_of ms ≡ record { budget = (routine_of ls).budget; tick = (routine_of ls).tick; code = (routine_of ls).code; start = t; answers = (routine_of ls).answers }
  unfolding routine_of
  routine-set t e =
      let r : (routine_of ms).start ≡ t = e in
      ap (λ x. record { budget = (routine_of ms).budget; tick = (routine_of ms).tick; code = (routine_of ms).code; start = x; answers = (routine_of ms).answers }) r
      ∙ simp (frame.columns limits limit refl, code-framed frame, frame.body)

-- ---- the text that is tried

abbrev pub with_start : State → Routine → Routine
with_start t x = record { budget = x.budget; tick = x.tick; code = x.code; start = t; answers = x.answers }

-- the place that has the name at place i
named-place : (ps : List Position) (ws : List (List ℕ)) (i : ℕ) (q : Position) → map name_of ps ≡ ws → i < length ws → get_or ws i [] ≡ name_of q → get_or ps i Accu ≡ q
named-place ps ws i q e h n =
    let l : length (map name_of ps) ≡ length ps = simp length-map in
    let m = ap length e in
    name-known (get_or ps i Accu) q (sym (map_at name_of ps i [] Accu (omega arith)) ∙ ap (λ (vs : List (List ℕ)). get_or vs i []) e ∙ n)

module _ (text : List ℕ) (p : Passes (lines text)) (q : Position) (i : ℕ) (v : ℤ) (is : IsNumber v) where
  abbrev before : State
  before = (routine_of (lines text)).start

  abbrev after : State
  after = replace_at q (exactly v) before

  read_set : (s : Section) (k : ℕ) (line : CellLine s k) (h : i < length (listed (values s cell) (lines text))) → (routine_of (ms text p s k line i h v is)).start ≡ after →
      length (lines_text (ms text p s k line i h v is)) ≤ text_limit → read_bound (lines_text (ms text p s k line i h v is)) ≡ routine (with_start after (routine_of (lines text)))
  read_set s k line h e short =
      let l = lines_new text p s k line i h v is in
      passes-read (lines_text (ms text p s k line i h v is)) (subst Passes (sym l) (passes-set text p s k line i h v is)) short
      ∙ ap (λ ns. routine (routine_of ns)) l
      ∙ ap routine (routine-set text p s k line i h v is after e)

  -- line 11
  module _ (h : i < length (listed (values cells cell) (lines text))) (n : get_or (listed (names cells) (lines text)) i [] ≡ name_of q) where
    cells-moved : (routine_of (ms text p cells 10 line-eleven i h v is)).start ≡ after
    unfolding routine_of listed
    cells-moved =
        let ls = lines text in
        let f = frame text p cells 10 line-eleven i h v is in
        let c = values-counted p cells cell refl in
        let cs = cells_of (listed (values cells cell) ls) in
        let l : length cs ≡ suc (height before) = cells-counted (listed (values cells cell) ls) ∙ c ∙ sym (height-named p) in
        let e = named-place (Accu ∷ map Entry (from 0 (height before))) (listed (names cells) ls) i q (cells-named p) (omega arith) n in
        let other : listed (values fields cell) (ms text p cells 10 line-eleven i h v is) ≡ listed (values fields cell) ls = ap list (text-other (values fields cell) layout ls 10 _ refl) in
        rw (code-framed f, cells-set text p cells 10 line-eleven i h v is, f.names fields, other)
        (start-set (code_in ls).first cs (blocks_in_line (block_sizes (listed (names fields) ls)) (cells_of (listed (values fields cell) ls))) (exactly v) i (height before) l (omega (arith, cells-counted (listed (values cells cell) ls)))
        ∙ ap (λ r. replace_at r (exactly v) before) e)

    pub cells-read : length (with_value (lines text) Accu i v) ≤ text_limit → read_bound (with_value (lines text) Accu i v) ≡ routine (with_start after (routine_of (lines text)))
    unfolding with_value
    cells-read short =
        let t = text-set (lines text) (new text p cells 10 line-eleven i h v is) 10 (there text p cells 10 line-eleven i h v is) in
        subst (λ bs. length bs ≤ text_limit → read_bound bs ≡ routine (with_start after (routine_of (lines text)))) t (read_set cells 10 line-eleven h cells-moved) short

  -- line 13
  module _ (h : i < length (listed (values fields cell) (lines text))) (n : get_or (listed (names fields) (lines text)) i [] ≡ name_of q) where
    fields-moved : (routine_of (ms text p fields 12 line-thirteen i h v is)).start ≡ after
    unfolding routine_of listed
    fields-moved =
        let ls = lines text in
        let f = frame text p fields 12 line-thirteen i h v is in
        let c = values-counted p fields cell refl in
        let t = fields-total p in
        let sizes = block_sizes (listed (names fields) ls) in
        let e = named-place (fields_from 0 before.blocks) (listed (names fields) ls) i q (fields-named p) (omega arith) n in
        let other : listed (values cells cell) (ms text p fields 12 line-thirteen i h v is) ≡ listed (values cells cell) ls = ap list (text-other (values cells cell) layout ls 12 _ refl) in
        rw (code-framed f, cells-set text p fields 12 line-thirteen i h v is, f.names fields, other)
        (blocks-set (code_in ls).first sizes (cells_of (listed (values cells cell) ls)) (cells_of (listed (values fields cell) ls)) (exactly v) i (omega arith)
        ∙ ap (λ r. replace_at r (exactly v) before) (ap (λ ps. get_or ps i Accu) (sym (fields-placed p)) ∙ e))

    pub fields_read : length (with_value (lines text) (Field 0 0) i v) ≤ text_limit → read_bound (with_value (lines text) (Field 0 0) i v) ≡ routine (with_start after (routine_of (lines text)))
    unfolding with_value
    fields_read short =
        let t = text-set (lines text) (new text p fields 12 line-thirteen i h v is) 12 (there text p fields 12 line-thirteen i h v is) in
        subst (λ bs. length bs ≤ text_limit → read_bound bs ≡ routine (with_start after (routine_of (lines text)))) t (read_set fields 12 line-thirteen h fields-moved) short

-- of any place
pub place_read : (text : List ℕ) (p : Passes (lines text)) (q : Position) (i : ℕ) (v : ℤ) → IsNumber v → Under (lines text) q i → length (with_value (lines text) q i v) ≤ text_limit →
    read_bound (with_value (lines text) q i v) ≡ routine (with_start (replace_at q (exactly v) (routine_of (lines text)).start) (routine_of (lines text)))
unfolding with_value
place_read text p Accu i v is u short = cells-read text p Accu i v is (omega (arith, values-counted p cells cell refl, u.there)) u.name short
place_read text p (Entry m) i v is u short = cells-read text p (Entry m) i v is (omega (arith, values-counted p cells cell refl, u.there)) u.name short
place_read text p (Field k m) i v is u short = fields_read text p (Field k m) i v is (omega (arith, values-counted p fields cell refl, u.there)) u.name short

-- ---- each cell that holds a number has a name

field-listed : (bs : List (List Cell)) (first k n : ℕ) → k < length bs → n < length (get_or bs k []) → (i : ℕ) × (i < length (fields_from first bs)) × (get_or (fields_from first bs) i Accu ≡ Field (first + k) n)
unfolding fields_from
field-listed [] first k n h l = absurd (omega arith)
field-listed (b ∷ bs) first zero n h l =
    let m = length-map-from (Field first) (length b) in
    let a = length-append (map (Field first) (from 0 (length b))) (fields_from (suc first) bs) in
    (n, omega arith, get_or-append (map (Field first) (from 0 (length b))) (fields_from (suc first) bs) Accu n (omega arith) ∙ place_at (Field first) (length b) n l ∙ ap (λ j. Field j n) (omega arith))
field-listed (b ∷ bs) first (suc k) n h l =
    let r = field-listed bs (suc first) k n (omega arith) l in
    let s = length-append (map (Field first) (from 0 (length b))) (fields_from (suc first) bs) in
    let u = r.1 in (
      length (map (Field first) (from 0 (length b))) + r.0,
      omega arith,
      get_or-append-add (map (Field first) (from 0 (length b))) (fields_from (suc first) bs) r.0 Accu ∙ r.2 ∙ ap (λ j. Field j n) (omega arith),
    )

module _ {ls : List Line} (p : Passes ls) where
  under : (ps : List Position) (ws : List (List ℕ)) → map name_of ps ≡ ws → (i : ℕ) (q : Position) → i < length ps → get_or ps i Accu ≡ q → (i < length ws) × (get_or ws i [] ≡ name_of q)
  under ps ws e i q h r =
      let l : length (map name_of ps) ≡ length ps = simp length-map in
      let m = ap length e in
      (omega arith, ap (λ (vs : List (List ℕ)). get_or vs i []) (sym e) ∙ map_at name_of ps i [] Accu h ∙ ap name_of r)

  pub place-named : (q : Position) (z : ℤ) → number_at q (routine_of ls).start ≡ done z → (i : ℕ) × Under ls q i
  place-named Accu z e = let u = under (Accu ∷ map Entry (from 0 (height (routine_of ls).start))) (listed (names cells) ls) (cells-named p) 0 Accu (omega arith) refl in (0, record { there = u.0; name = u.1 })
  place-named (Entry m) z e =
      let s = (routine_of ls).start in
      let h = entry-below s m z e in
      let l = length-map-from Entry (height s) in
      let u = under (Accu ∷ map Entry (from 0 (height s))) (listed (names cells) ls) (cells-named p) (suc m) (Entry m) (omega arith) (place_at Entry (height s) m h) in
      (suc m, record { there = u.0; name = u.1 })
  place-named (Field k m) z e =
      let s = (routine_of ls).start in
      let h = field_below s k m z e in
      let r = field-listed s.blocks 0 k m h.0 h.1 in
      let u = under (fields_from 0 s.blocks) (listed (names fields) ls) (fields-named p) r.0 (Field k m) r.1 (r.2 ∙ ap (λ j. Field j m) (omega arith)) in
      (r.0, record { there = u.0; name = u.1 })
