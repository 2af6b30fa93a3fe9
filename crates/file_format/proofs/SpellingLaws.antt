-- "ASCII": an accepted text is, with no check of its own, since each of its words is a fixed word, a number, a cell or a name that the
-- rows know. Assumes nothing.
use Rattle.std.specs.Prelude.{None, Option, Some, ℤ}
use Prim.Native.Nat.{ℕ, zero, suc, ◌+◌, ◌<◌}
use mathlib.Core.Path.{◌≡◌, refl, ap, subst, ◌∙◌}
use mathlib.Core.Bool.{Bool, true, false, cond, ◌&&◌, false≢true}
use mathlib.Core.List.{List, [], ◌∷◌, ◌++◌}
use native.Mathlib.Omega.{arith}
use lib.Dec.{eqb, leb, ltb, lit<}
use lib.ListN.{length, get_or, take, drop, take-append-drop}
use borrow.Author.Tests.{eqb-true, leb-true, ltb-true}
use Rattle.text.specs.Text.{bytes, equals, line_words, Line, lines, among, all, distinct}
use Rattle.text_decimals.specs.Decimal.{numeral, is_digit, digits, decimal}
use Rattle.text.proofs.TextLaws.{Every, more, every_append, every-left, every_map, all-every, and_left, and_right, equals-path, among-every, split-every, lines-every}
use Rattle.text_decimals.proofs.DecimalLaws.{digit-ascii, decimal-digits, numeral-ascii}
use Rattle.instructions.specs.Kinds.{kind_names, kind_at}
use Rattle.instructions.specs.declared.Argument.{Argument}
use Rattle.instructions.specs.declared.Argument.TheVariants.{Absent, Target, Primitive, Within}
use Rattle.instructions.specs.Kinds as table
use Rattle.file_format.specs.declared.Section.{Section}
use Rattle.file_format.specs.declared.Section.TheVariants.{Limits as limits, Kinds as kinds, Primitives as primitives, Cells as cells, Fields as fields, Instructions as instructions, Answers as answers}
use Rattle.file_format.specs.declared.Column.{Column}
use Rattle.file_format.specs.declared.Column.TheVariants.{Limit as limit, Cycles as cycles, Words as words-column, Extra as extra, Cell as cell}
use Rattle.file_format.specs.declared.Role.{Role}
use Rattle.file_format.specs.declared.Role.TheVariants.{Names as names, Values as values, Code as code, Answer as answer}
use Rattle.file_format.specs.Layout.{list, listed}
use Rattle.file_format.specs.declared.CellWord.TheVariants.{Unknown as unknown}
use Rattle.file_format.specs.declared.Row.TheVariants.{Layout as Layout-row, Name as name-row}
use Rattle.file_format.specs.Rows.{values_laid_out, code_laid_out, code_named, is_numeral, known_of, block_of, span_of, stop, spanned, hashed, cell_word, is_cell, is_capital, in_name, is_name, stack_names, cell_names, is_field, sizes_from, block_sizes, total, at, op, arg, argument_laid_out, argument_named, column_laid_out, names_laid_out, is_laid_out, well_named, named, test, Passes}
use Rattle.file_format.proofs.RowLaws.{held-lines, laid_out, passes-named, lists-path}
use Rattle.file_format.proofs.CodeLaws.{CodeLaidOut, code-laid-out, CodeNamed, code-named, kind-there, on-kind}

abbrev Ascii : List ℕ → Type 0
Ascii w = Every (λ b. b < 128) w

-- ---- words

-- closed words: `refl` shows the test
is_ascii : List ℕ → Bool
is_ascii w = all (λ b. ltb b 128) w

ascii : (w : List ℕ) → is_ascii w ≡ true → Ascii w
unfolding is_ascii
ascii w e = every_map (λ b. ltb-true b 128) (all-every (λ b. ltb b 128) w e)

asciis : (ws : List (List ℕ)) → all is_ascii ws ≡ true → Every Ascii ws
asciis ws e = every_map ascii (all-every is_ascii ws e)

fixed : (w s : List ℕ) → is_ascii s ≡ true → equals w s ≡ true → Ascii w
fixed w s a e = rw (equals-path w s e) (ascii s a)

spelt-ascii : (w : List ℕ) → is_numeral (numeral w) ≡ true → Ascii w
unfolding is_numeral
spelt-ascii w e = go (numeral w) refl e
  where
    go : (n : Option ℤ) → numeral w ≡ n → is_numeral n ≡ true → Ascii w
    go None q h = absurd (false≢true h)
    go (Some z) q h = numeral-ascii w z q

known-spelt : (n : Option ℤ) → is_cell (known_of n) ≡ true → is_numeral n ≡ true
unfolding is_cell known_of is_numeral
known-spelt None e = e
known-spelt (Some z) e = refl

block-spelt : (n : Option ℤ) → is_cell (block_of n) ≡ true → is_numeral n ≡ true
unfolding is_cell block_of is_numeral
block-spelt None e = e
block-spelt (Some z) e = refl

-- two full stops between two parts
parts-ascii : (n : ℕ) (w : List ℕ) → Ascii (take n w) → get_or w n 0 ≡ 46 → get_or w (suc n) 0 ≡ 46 → Ascii (drop (suc (suc n)) w) → Ascii w
parts-ascii n [] a p q b = Every.none
parts-ascii zero (x ∷ []) a p q b = more {x = x} (omega arith) Every.none
parts-ascii zero (x ∷ y ∷ ws) a p q b = more {x = x} (omega arith) (more {x = y} (omega arith) b)
parts-ascii (suc n) (x ∷ ws) (more h a) p q b = more {x = x} h (parts-ascii n ws a p q b)

span-spelt : (m n : Option ℤ) → is_cell (span_of m n) ≡ true → (is_numeral m ≡ true) × (is_numeral n ≡ true)
unfolding is_cell span_of is_numeral
span-spelt None n e = absurd (false≢true e)
span-spelt (Some lo) None e = absurd (false≢true e)
span-spelt (Some lo) (Some hi) e = (refl, refl)

spanned-ascii : (w : List ℕ) → is_cell (spanned w) ≡ true → Ascii w
unfolding spanned
spanned-ascii w e = go (eqb (get_or w (stop w) 0) 46) refl (eqb (get_or w (stop w + 1) 0) 46) refl e
  where
    plain : is_cell (known_of (numeral w)) ≡ true → Ascii w
    plain h = spelt-ascii w (known-spelt (numeral w) h)

    go : (a : Bool) → eqb (get_or w (stop w) 0) 46 ≡ a → (b : Bool) → eqb (get_or w (stop w + 1) 0) 46 ≡ b
        → is_cell (cond (a && b) (span_of (numeral (take (stop w) w)) (numeral (drop (stop w + 2) w))) (known_of (numeral w))) ≡ true → Ascii w
    go true p true q h =
        let s = span-spelt (numeral (take (stop w) w)) (numeral (drop (stop w + 2) w)) h in
        let one : suc (stop w) ≡ stop w + 1 = omega arith in
        let two : stop w + 2 ≡ suc (suc (stop w)) = omega arith in
        parts-ascii (stop w) w (spelt-ascii (take (stop w) w) s.0) (eqb-true (get_or w (stop w) 0) 46 p)
        (ap (λ (k : ℕ). get_or w k 0) one ∙ eqb-true (get_or w (stop w + 1) 0) 46 q)
        (subst (λ (k : ℕ). Ascii (drop k w)) two (spelt-ascii (drop (stop w + 2) w) s.1))
    go true p false q h = plain h
    go false p b q h = plain h

hashed-ascii : (w : List ℕ) → is_cell (hashed w) ≡ true → Ascii w
unfolding is_cell hashed
hashed-ascii [] e = Every.none
hashed-ascii (d ∷ ds) e = go (eqb d 35) refl e
  where
    go : (b : Bool) → eqb d 35 ≡ b → is_cell (cond b (block_of (numeral ds)) (spanned (d ∷ ds))) ≡ true → Ascii (d ∷ ds)
    go true q h = let k = eqb-true d 35 q in more {x = d} (omega arith) (spelt-ascii ds (block-spelt (numeral ds) h))
    go false q h = spanned-ascii (d ∷ ds) h

cell-ascii : (w : List ℕ) → is_cell (cell_word w) ≡ true → Ascii w
unfolding cell_word is_ascii all
cell-ascii w e = go (equals w (bytes "?")) refl e
  where
    go : (b : Bool) → equals w (bytes "?") ≡ b → is_cell (cond b unknown (hashed w)) ≡ true → Ascii w
    go true q h = fixed w (bytes "?") refl q
    go false q h = hashed-ascii w h

-- ---- names

capital-ascii : (c : ℕ) → is_capital c ≡ true → c < 128
capital-ascii c e = let h = leb-true c 90 (and_right (leb 65 c) (leb c 90) e) in omega arith

in-name-ascii : (c : ℕ) → in_name c ≡ true → c < 128
in-name-ascii c e = go (is_capital c) refl e
  where
    digit : (b : Bool) → is_digit c ≡ b → cond b true (eqb c 95) ≡ true → c < 128
    digit true q h = digit-ascii c q
    digit false q h = let k = eqb-true c 95 h in omega arith

    go : (b : Bool) → is_capital c ≡ b → cond b true (cond (is_digit c) true (eqb c 95)) ≡ true → c < 128
    go true q h = capital-ascii c q
    go false q h = digit (is_digit c) refl h

name-ascii : (w : List ℕ) → is_name w ≡ true → Ascii w
unfolding is_name
name-ascii [] e = Every.none
name-ascii (c ∷ cs) e =
    let h = and_left (is_capital c && all in_name cs) (ltb (length cs) 8) e in
    more (capital-ascii c (and_left (is_capital c) (all in_name cs) h)) (every_map in-name-ascii (all-every in_name cs (and_right (is_capital c) (all in_name cs) h)))

decimal-ascii : (n : ℕ) → Ascii (decimal n)
decimal-ascii n = every_map digit-ascii (decimal-digits n)

field-ascii : (k n : ℕ) (w : List ℕ) → is_field k n w ≡ true → Ascii w
unfolding is_field is_ascii all
field-ascii k n w e =
    let name = bytes "B" ++ decimal k ++ bytes "." ++ decimal n in
    rw (equals-path w name (and_right (ltb k 8 && ltb n 16) (equals w name) e))
    (every_append (every_append (every_append (ascii (bytes "B") refl) (decimal-ascii k)) (ascii (bytes ".") refl)) (decimal-ascii n))

-- the names of fields up to the first that is out of sequence are those that the sizes count
sizes-ascii : (k n : ℕ) (ws : List (List ℕ)) → total (sizes_from k n ws) ≡ n + length ws → Every Ascii ws
unfolding sizes_from total
sizes-ascii k n [] e = Every.none
sizes-ascii k n (w ∷ ws) e = go (is_field k n w) refl (is_field (suc k) 0 w) refl e (sizes-ascii k (suc n) ws) (sizes-ascii (suc k) 1 ws)
  where
    go : (b : Bool) → is_field k n w ≡ b → (c : Bool) → is_field (suc k) 0 w ≡ c
        → total (cond b (sizes_from k (suc n) ws) (cond c (n ∷ sizes_from (suc k) 1 ws) (n ∷ []))) ≡ n + suc (length ws)
        → (total (sizes_from k (suc n) ws) ≡ suc n + length ws → Every Ascii ws)
        → (total (sizes_from (suc k) 1 ws) ≡ 1 + length ws → Every Ascii ws)
        → Every Ascii (w ∷ ws)
    go true q c r h ih₁ ih₂ = more (field-ascii k n w q) (ih₁ (omega arith))
    go false q true r h ih₁ ih₂ = more (field-ascii (suc k) 0 w r) (ih₂ (omega arith))
    go false q false r h ih₁ ih₂ = absurd (omega arith)

fields-ascii : (ws : List (List ℕ)) → total (block_sizes ws) ≡ length ws → Every Ascii ws
unfolding block_sizes total
fields-ascii [] e = Every.none
fields-ascii (w ∷ ws) e = go (is_field 0 0 w) refl e
  where
    go : (b : Bool) → is_field 0 0 w ≡ b → total (cond b (sizes_from 0 1 ws) []) ≡ suc (length ws) → Every Ascii (w ∷ ws)
    go true q h = more (field-ascii 0 0 w q) (sizes-ascii 0 1 ws (omega arith))
    go false q h = absurd (omega arith)

kind-names-ascii : Every Ascii kind_names
unfolding kind_names table.kinds is_ascii all
kind-names-ascii = asciis kind_names refl

cell-names-ascii : Every Ascii cell_names
unfolding cell_names stack_names decimal digits is_ascii all
cell-names-ascii = asciis cell_names refl

primitives-ascii : (ws : List (List ℕ)) → well_named primitives ws ≡ true → Every Ascii ws
unfolding well_named
primitives-ascii ws e = every_map name-ascii (all-every is_name ws (and_left (all is_name ws) (distinct ws) e))

-- ---- lines

list-ascii : (text : List ℕ) → Every Ascii (list text) → Ascii text
unfolding list line_words is_ascii all
list-ascii text h = go (equals text (bytes "-")) refl h
  where
    go : (b : Bool) → equals text (bytes "-") ≡ b → Every Ascii (cond b [] (line_words text)) → Ascii text
    go true q k = fixed text (bytes "-") refl q
    go false q k = split-every 32 (lit< tt) text k

names-ascii : (s : Section) (text : List ℕ) → names_laid_out s text ≡ true → well_named s (list text) ≡ true → Ascii text
unfolding names_laid_out well_named is_ascii all
names-ascii limits text h k = fixed text (bytes "BUDGET TICK") refl h
names-ascii kinds text h k =
    list-ascii text
    (every_map (λ w e. among-every w kind_names e kind-names-ascii) (all-every (λ w. among w kind_names) (list text) (and_left (all (λ w. among w kind_names) (list text)) (distinct (list text)) k)))
names-ascii primitives text h k = list-ascii text (primitives-ascii (list text) k)
names-ascii cells text h k =
    let ws = list text in
    list-ascii text (rw (lists-path ws (take (length ws) cell_names) k) (every-left (take (length ws) cell_names) (drop (length ws) cell_names) (rw take-append-drop cell-names-ascii)))
names-ascii fields text h k = list-ascii text (fields-ascii (list text) (eqb-true (total (block_sizes (list text))) (length (list text)) k))
names-ascii instructions text h k = fixed text (bytes "AT OP ARG") refl h
names-ascii answers text h k = fixed text (bytes "ANSWER") refl h

numerals-ascii : (ws : List (List ℕ)) → all (λ w. is_numeral (numeral w)) ws ≡ true → Every Ascii ws
numerals-ascii ws e = every_map spelt-ascii (all-every (λ w. is_numeral (numeral w)) ws e)

column-ascii : (c : Column) (ws : List (List ℕ)) → column_laid_out c ws ≡ true → Every Ascii ws
unfolding column_laid_out
column-ascii limit ws e = numerals-ascii ws e
column-ascii cycles ws e = numerals-ascii ws e
column-ascii words-column ws e = numerals-ascii ws e
column-ascii extra ws e = numerals-ascii ws e
column-ascii cell ws e = every_map cell-ascii (all-every (λ w. is_cell (cell_word w)) ws e)

argument-ascii : (ps : List (List ℕ)) → Every Ascii ps → (w : List ℕ) (a : Argument) → argument_laid_out w a ≡ true → argument_named ps w a ≡ true → Ascii w
unfolding argument_laid_out argument_named is_ascii all
argument-ascii ps h w Absent l n = fixed w (bytes "-") refl l
argument-ascii ps h w Target l n = spelt-ascii w l
argument-ascii ps h w Primitive l n = among-every w ps n h
argument-ascii ps h w (Within r) l n = spelt-ascii w l

three : {P : List ℕ → Type 0} (ws : List (List ℕ)) → length ws ≡ 3 → P (get_or ws 0 []) → P (get_or ws 1 []) → P (get_or ws 2 []) → Every P ws
three [] e a b c = absurd (omega arith)
three (x ∷ []) e a b c = absurd (omega arith)
three (x ∷ y ∷ []) e a b c = absurd (omega arith)
three (x ∷ y ∷ z ∷ []) e a b c = more a (more b (more c Every.none))
three (x ∷ y ∷ z ∷ v ∷ vs) e a b c = absurd (omega arith)

-- a code line: AT is a number, OP a kind's name, ARG what that kind calls for
module _ (ls : List Line) (k : ℕ) (text : List ℕ) (ps : Every Ascii (listed (names primitives) ls)) (l : CodeLaidOut k text) (n : CodeNamed ls k text) where
  arg-ascii : Ascii (arg text)
  arg-ascii =
      let (k, e) = kind-there (op text) n.kind in
      argument-ascii (listed (names primitives) ls) ps (arg text) (kind_at k).argument
      (on-kind (argument_laid_out (arg text)) text k e l.argument) (on-kind (argument_named (listed (names primitives) ls) (arg text)) text k e n.argument)

  code-ascii : Ascii text
  unfolding line_words
  code-ascii =
      split-every 32 (lit< tt) text
      (three (line_words text) l.three (spelt-ascii (at text) l.spelt) (among-every (op text) kind_names n.kind kind-names-ascii) arg-ascii)

line-ascii : (ls : List Line) → Passes ls → (r : Role) (text : List ℕ) → is_laid_out ls r text ≡ true → named ls r text ≡ true → Ascii text
unfolding is_laid_out values_laid_out code_laid_out named code_named listed
line-ascii ls p (names s) text l n = names-ascii s text l n
line-ascii ls p (values s c) text l n =
    list-ascii text (column-ascii c (list text) (and_right (eqb (length (list text)) (length (listed (names s) ls))) (column_laid_out c (list text)) l))
line-ascii ls p (code k) text l n =
    code-ascii ls k text (primitives-ascii (listed (names primitives) ls) (passes-named p (names primitives) refl)) (code-laid-out ls k text l) (code-named ls k text n)
line-ascii ls p (answer k) text l n = spelt-ascii text (and_right (ltb k 64) (is_numeral (numeral text)) l)

pub accepted-ascii : (text : List ℕ) → Passes (lines text) → Every (λ b. b < 128) text
unfolding test
accepted-ascii text p =
    let ls = lines text in
    lines-every (lit< tt) text
    (held-lines Layout-row name-row ls p.layout p.names
    (λ r l h n. line-ascii ls p r l.text (laid_out ls r l h) n))
