-- Laws of the lines of values: a row is read as the words it was made of, and each of them is spelt, in its range and present.
-- Assumes nothing.
use Rattle.std.specs.Prelude.{Some}
use mathlib.Core.Path.{◌≡◌, refl, sym, ap, ◌∙◌}
use mathlib.Core.Bool.{Bool, true, false, cond, not, ◌&&◌, ◌||◌, false≢true}
use mathlib.Core.List.{List, [], ◌∷◌}
use Prim.Native.Nat.{ℕ, zero, suc, ◌/◌, ◌%◌, ◌≤◌}
use native.Mathlib.Omega.{arith}
use lib.Dec.{eqb}
use lib.IntN.{ℤ, pos}
use lib.ListN.{length, get_or, drop}
use borrow.Author.Tests.{eqb-true, le-leb, lt-ltb}
use Rattle.text.specs.Text.{bytes, is_empty, equals, parted_by, line_words, among, all}
use Rattle.text_decimals.specs.Decimal.{numeral, decimal, integer}
use Rattle.text.proofs.TextLaws.{Every, none, more, every_map, every_append, equals-path}
use Rattle.text_decimals.proofs.DecimalLaws.{decimal-read}
use Rattle.numbers.specs.Numbers.{naturals, within, numbers}
use Rattle.instructions.specs.Kinds.{kinds, kind_names, kind_at}
use Rattle.file_format.specs.declared.CellWord.TheVariants.{Block as block}
use Rattle.file_format.specs.declared.Column.TheVariants.{Limit as limit, Cycles as cycles, Words as words-column, Extra as extra, Cell as cell}
use Rattle.file_format.specs.Layout.{list}
use Rattle.file_format.specs.Rows.{is_numeral, value_of, value, block_of, hashed, cell_word, is_cell, cell_in_range, cell_present, extra_counts, no_extra, extra_range, extras_in_range, column_in_range, column_laid_out}
use Rattle.text_decimals.proofs.SpellingLaws.{integer-read, decimal-free, integer-free}
use Rattle.text.proofs.JoinLaws.{Free, split-alone, split-first}
use Rattle.generate_file.specs.declared.Column.{Column}
use Rattle.generate_file.specs.declared.Column.TheVariants.{Names, Limits, Cycles, Words, Extras, Handles, Known, Open}
use Rattle.generate_file.specs.Draws.{next}
use Rattle.generate_file.specs.Words.{number_in, spread, amount, handle_word, number_word, open_word, word}
use Rattle.generate_file.proofs.NumberLaws.{numbers-sound, number-within}
use Rattle.file_format.proofs.CellLaws.{spelt-cell}
use Rattle.generate_file.proofs.WordLaws.{Plain, amount-under, spaced, row_words, row-every, plain_word}

-- ---- words with spaces between them

pub spaced-free : (c : ℕ) → (32 ≡ c → ⊥) → {ws : List (List ℕ)} → Every (Free c) ws → Free c (spaced ws)
unfolding spaced
spaced-free c h none = none
spaced-free c h (more p none) = p
spaced-free c h (more p (more q qs)) = every_append p (more h (spaced-free c h (more q qs)))

pub words-spaced : {w : List ℕ} {ws : List (List ℕ)} → Every (Free 32) (w ∷ ws) → line_words (spaced (w ∷ ws)) ≡ w ∷ ws
unfolding line_words spaced
words-spaced (more p none) = split-alone 32 p
words-spaced (more {x = w} p (more {x = v} {xs = vs} q qs)) = split-first 32 (spaced (v ∷ vs)) p ∙ ap (λ us. w ∷ us) (words-spaced (more q qs))

-- two words or more are no `-`
pub list-spaced : {w v : List ℕ} {ws : List (List ℕ)} → Every (Free 32) (w ∷ v ∷ ws) → list (spaced (w ∷ v ∷ ws)) ≡ w ∷ v ∷ ws
unfolding list line_words parted_by
list-spaced {w} {v} {ws} h = go (equals (spaced (w ∷ v ∷ ws)) (bytes "-")) refl
  where
    go : (b : Bool) → equals (spaced (w ∷ v ∷ ws)) (bytes "-") ≡ b → cond b [] (line_words (spaced (w ∷ v ∷ ws))) ≡ w ∷ v ∷ ws
    go true e =
        let p : w ∷ v ∷ ws ≡ bytes "-" ∷ [] = sym (words-spaced h) ∙ ap line_words (equals-path (spaced (w ∷ v ∷ ws)) (bytes "-") e) in
        let l : suc (suc (length ws)) ≡ 1 = ap length p in
        absurd (omega arith)
    go false e = words-spaced h

pub every-all : {A : Type 0} {t : A → Bool} {xs : List A} → Every (λ x. t x ≡ true) xs → all t xs ≡ true
unfolding all
every-all none = refl
every-all (more p ps) = rw p (every-all ps)

pub words-filled : {ws : List (List ℕ)} → Every Plain ws → all (λ w. not (is_empty w)) ws ≡ true
words-filled h = every-all (every_map (λ w p. ap not p.filled) h)

-- ---- numbers

pub within-natural : (low high m : ℕ) → low ≤ m → m ≤ high → within (naturals low high) (pos m) ≡ true
within-natural low high m h k = rw (le-leb low m h, le-leb m high k) refl

pub value-decimal : (n : ℕ) → value (decimal n) ≡ pos n
unfolding value value_of
value-decimal n = ap value_of (decimal-read n)

pub value-integer : (z : ℤ) → value (integer z) ≡ z
unfolding value value_of
value-integer z = ap value_of (integer-read z)

pub numeral-decimal : (n : ℕ) → is_numeral (numeral (decimal n)) ≡ true
unfolding is_numeral
numeral-decimal n = ap is_numeral (decimal-read n)

decimal-within : (low high m : ℕ) → low ≤ m → m ≤ high → within (naturals low high) (value (decimal m)) ≡ true
decimal-within low high m h k = rw (value-decimal m) (within-natural low high m h k)

pub limits-laid : (n i s : ℕ) → column_laid_out limit (row_words Limits n i s) ≡ true
unfolding column_laid_out word
limits-laid n i s = every-all (row-every Limits (λ i d. numeral-decimal (amount Limits i d)) n i s)

pub cycles-laid : (n i s : ℕ) → column_laid_out cycles (row_words Cycles n i s) ≡ true
unfolding column_laid_out word
cycles-laid n i s = every-all (row-every Cycles (λ i d. numeral-decimal (amount Cycles i d)) n i s)

pub words-laid : (n i s : ℕ) → column_laid_out words-column (row_words Words n i s) ≡ true
unfolding column_laid_out word
words-laid n i s = every-all (row-every Words (λ i d. numeral-decimal (amount Words i d)) n i s)

pub extras-laid : (n i s : ℕ) → column_laid_out extra (row_words Extras n i s) ≡ true
unfolding column_laid_out word
extras-laid n i s = every-all (row-every Extras (λ i d. numeral-decimal (amount Extras i d)) n i s)

at_least : (i d : ℕ) → 1 ≤ amount Limits i d
unfolding amount
at_least i d = omega arith

pub limits-ranged : (ns : List (List ℕ)) (s : ℕ) → column_in_range limit ns (row_words Limits 2 0 s) ≡ true
unfolding column_in_range row_words word
limits-ranged ns s =
    let d = next s in
    let e = next d in
    let a = amount-under Limits 0 d in
    let b = amount-under Limits 1 e in
    rw (decimal-within 1 1000000 (amount Limits 0 d) (at_least 0 d) (omega arith), decimal-within 1 4000000000 (amount Limits 1 e) (at_least 1 e) (omega arith)) refl

pub cycles-ranged : (ns : List (List ℕ)) (n i s : ℕ) → column_in_range cycles ns (row_words Cycles n i s) ≡ true
unfolding column_in_range word
cycles-ranged ns n i s =
    every-all (row-every Cycles (λ i d. let a = amount-under Cycles i d in decimal-within 0 65535 (amount Cycles i d) (omega arith) (omega arith)) n i s)

pub words-ranged : (ns : List (List ℕ)) (n i s : ℕ) → column_in_range words-column ns (row_words Words n i s) ≡ true
unfolding column_in_range word
words-ranged ns n i s =
    every-all (row-every Words (λ i d. let a = amount-under Words i d in decimal-within 0 255 (amount Words i d) (omega arith) (omega arith)) n i s)

-- extras: 0 but under the two branches
abbrev jumping : List ℕ → Bool
jumping name = among name (bytes "BRANCHIF" ∷ bytes "BRANCHIFNOT" ∷ [])

abbrev fitting : List (List ℕ) → ℕ → ℕ → Bool
fitting ns i zero = true
fitting ns i (suc n) = (jumping (get_or ns 0 []) || eqb (spread Extras i) 1) && fitting (drop 1 ns) (suc i) n

spread-few : (i : ℕ) → spread Extras i ≤ 100
spread-few i = go (eqb i 53 || eqb i 54)
  where
    go : (b : Bool) → cond b 100 1 ≤ 100
    go true = omega arith
    go false = omega arith

extra-within : (name : List ℕ) (i d : ℕ) → (jumping name || eqb (spread Extras i) 1) ≡ true → within (extra_range name) (value (decimal (amount Extras i d))) ≡ true
unfolding extra_range
extra-within name i d e = go (jumping name) e
  where
    go : (b : Bool) → (b || eqb (spread Extras i) 1) ≡ true → within (cond b extra_counts no_extra) (value (decimal (amount Extras i d))) ≡ true
    go true q = let a = amount-under Extras i d in let f = spread-few i in decimal-within 0 65535 (amount Extras i d) (omega arith) (omega arith)
    go false q =
        let a = amount-under Extras i d in
        let f = eqb-true (spread Extras i) 1 q in
        decimal-within 0 0 (amount Extras i d) (omega arith) (omega arith)

extras-fit : (ns : List (List ℕ)) (n i s : ℕ) → fitting ns i n ≡ true → extras_in_range ns (row_words Extras n i s) ≡ true
unfolding extras_in_range row_words word
extras-fit ns zero i s e = refl
extras-fit ns (suc n) i s e =
    let here = jumping (get_or ns 0 []) || eqb (spread Extras i) 1 in
    let rest = fitting (drop 1 ns) (suc i) n in
    rw (extra-within (get_or ns 0 []) i (next s) (first here rest e)) (extras-fit (drop 1 ns) n (suc i) (next s) (second here rest e))
  where
    first : (a b : Bool) → (a && b) ≡ true → a ≡ true
    first true b q = refl
    first false b q = q

    second : (a b : Bool) → (a && b) ≡ true → b ≡ true
    second true b q = q
    second false b q = absurd (false≢true q)

pub extras-ranged : (s : ℕ) → column_in_range extra kind_names (row_words Extras 61 0 s) ≡ true
unfolding column_in_range kinds kind_names among equals
extras-ranged s = extras-fit kind_names 61 0 s refl

-- the names row is that of all kinds
pub names-row : row_words Names 61 0 0 ≡ kind_names
unfolding row_words word kinds kind_names kind_at
names-row = refl

-- ---- cells

-- a cell of the file, where there are two blocks
pub record Fit (w : List ℕ) : Type 0 where
  pub laid : is_cell (cell_word w) ≡ true
  pub ranged : cell_in_range (cell_word w) ≡ true
  pub present : cell_present 2 (cell_word w) ≡ true

fit-number : (w : List ℕ) (z : ℤ) → Free 46 w → numeral w ≡ Some z → within numbers z ≡ true → Fit w
unfolding is_cell cell_in_range cell_present
fit-number w z f e h =
    let c = spelt-cell w z f e in
    record { laid = ap is_cell c; ranged = ap cell_in_range c ∙ h; present = ap (cell_present 2) c }

fit-handle : (d : ℕ) → Fit (handle_word d)
unfolding is_cell cell_in_range cell_present handle_word cell_word hashed block_of equals
fit-handle d =
    let m = d % 2 in
    let e : block_of (numeral (decimal m)) ≡ block (pos m) = ap block_of (decimal-read m) in
    record { laid = ap is_cell e; ranged = ap cell_in_range e ∙ within-natural 0 7 m (omega arith) (omega arith); present = ap (cell_present 2) e ∙ lt-ltb m 2 (omega arith) }

fit-known : (d : ℕ) → Fit (number_word d)
unfolding number_word
fit-known d = go (eqb (d / 2 % 2) 0)
  where
    go : (b : Bool) → Fit (cond b (decimal (d / 4 % 8)) (integer (number_in numbers d)))
    go true = fit-number (decimal (d / 4 % 8)) (pos (d / 4 % 8)) (decimal-free 46 (omega arith) (d / 4 % 8)) (decimal-read (d / 4 % 8)) (le-leb (d / 4 % 8) 1073741823 (omega arith))
    go false = fit-number (integer (number_in numbers d)) (number_in numbers d) (integer-free 46 (λ e. omega arith) (omega arith) (number_in numbers d)) (integer-read (number_in numbers d)) (number-within numbers d numbers-sound)

fit-open : (d : ℕ) → Fit (open_word d)
unfolding open_word is_cell cell_in_range cell_present cell_word equals
fit-open d = go (eqb (d % 2) 0)
  where
    go : (b : Bool) → Fit (cond b (bytes "?") (number_word d))
    go true = record { laid = refl; ranged = refl; present = refl }
    go false = fit-known d

-- the cells of a column that is handles, or numbers, or open
pub fit-cells : (a b : Bool) (n i s : ℕ) → Every Fit (row_words (cond a Handles (cond b Open Known)) n i s)
unfolding word
fit-cells true b n i s = row-every Handles (λ i d. fit-handle d) n i s
fit-cells false true n i s = row-every Open (λ i d. fit-open d) n i s
fit-cells false false n i s = row-every Known (λ i d. fit-known d) n i s

pub cells-laid : {ws : List (List ℕ)} → Every Fit ws → column_laid_out cell ws ≡ true
unfolding column_laid_out
cells-laid h = every-all (every_map (λ w f. f.laid) h)

pub cells-ranged : (ns : List (List ℕ)) {ws : List (List ℕ)} → Every Fit ws → column_in_range cell ns ws ≡ true
unfolding column_in_range
cells-ranged ns h = every-all (every_map (λ w f. f.ranged) h)

pub cells-present : {ws : List (List ℕ)} → Every Fit ws → all (λ w. cell_present 2 (cell_word w)) ws ≡ true
cells-present h = every-all (every_map (λ w f. f.present) h)

-- the words of a row are plain
pub row_plain : (c : Column) (n i s : ℕ) → Every Plain (row_words c n i s)
row_plain c n i s = row-every c (plain_word c) n i s
