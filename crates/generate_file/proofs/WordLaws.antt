-- Laws of the words of the file: none is empty, none holds a space or a line feed, and none is long; and of rows of them. Assumes nothing.
use Rattle.std.specs.Prelude.{Some}
use mathlib.Core.Path.{◌≡◌, refl, sym, ap, ◌∙◌}
use mathlib.Core.Bool.{Bool, true, false, cond, not, ◌||◌}
use mathlib.Core.List.{List, [], ◌∷◌, ◌++◌, append_assoc, append-nil}
use Prim.Native.Nat.{ℕ, zero, suc, ◌+◌, ◌-◌, ◌*◌, ◌/◌, ◌%◌, ◌<◌, ◌≤◌}
use native.Mathlib.Omega.{arith}
use lib.Dec.{eqb, leb}
use lib.IntN.{ℤ, pos}
use lib.ListN.{length, length-append}
use borrow.Author.Tests.{leb-true}
use Rattle.text.specs.Text.{bytes, is_empty, all}
use Rattle.text_decimals.specs.Decimal.{numeral, decimal, integer}
use Rattle.text.proofs.TextLaws.{Every, none, more, every_append, every-get_d, all-every}
use Rattle.text_decimals.proofs.DecimalLaws.{decimal-length, decimal-read}
use Rattle.numbers.specs.Numbers.{numbers}
use Rattle.numbers.proofs.SignedLaws.{number_fits}
use Rattle.instructions.specs.Kinds.{Kind, kinds, kind_at}
use Rattle.text_decimals.proofs.IntegerLaws.{integer-length}
use Rattle.text_decimals.proofs.SpellingLaws.{integer-read, decimal-free, integer-free}
use Rattle.text.proofs.JoinLaws.{Free, text-free}
use Rattle.instructions.proofs.KindNameLaws.{name_free}
use Rattle.generate_file.specs.declared.Column.{Column}
use Rattle.generate_file.specs.declared.Column.TheVariants.{Names, Limits, Cycles, Words, Extras, Handles, Known, Open}
use Rattle.generate_file.specs.Draws.{next}
use Rattle.generate_file.specs.Words.{number_in, least, spread, amount, handle_word, number_word, open_word, word, break, is_going, row_from}
use Rattle.generate_file.proofs.NumberLaws.{below-under, numbers-sound, number_is}

-- ---- words

-- what every word of the file is
pub record Plain (w : List ℕ) : Type 0 where
  pub spaceless : Free 32 w
  pub feedless : Free 10 w
  pub filled : is_empty w ≡ false
  pub short : length w ≤ 12

-- a text that spells a number is not empty
spelt-some : (w : List ℕ) (z : ℤ) → numeral w ≡ Some z → is_empty w ≡ false
unfolding numeral
spelt-some [] z e = let q : ◌≡◌ {A = ℕ} 0 1 = cc in absurd (omega arith)
spelt-some (d ∷ ds) z e = refl

pub plain-integer : (z : ℤ) → length (integer z) ≤ 11 → Plain (integer z)
plain-integer z h = record {
  spaceless = integer-free 32 (λ e. omega arith) (omega arith) z;
  feedless = integer-free 10 (λ e. omega arith) (omega arith) z;
  filled = spelt-some (integer z) z (integer-read z);
  short = omega arith;
}

pub plain-decimal : (n : ℕ) → n < 10000000000 → Plain (decimal n)
plain-decimal n h = record {
  spaceless = decimal-free 32 (omega arith) n;
  feedless = decimal-free 10 (omega arith) n;
  filled = spelt-some (decimal n) (pos n) (decimal-read n);
  short = let l = decimal-length 10 n h (omega arith) in omega arith;
}

-- the name of a kind
named : Kind → Bool
named k = leb (length k.name) 12

filled : Kind → Bool
filled k = not (is_empty k.name)

pub name-short : (k : ℕ) → length (kind_at k).name ≤ 12
unfolding kinds kind_at all named
name-short k = leb-true (length (kind_at k).name) 12 (every-get_d (all-every named kinds refl) refl k)

not-false : (b : Bool) → not b ≡ true → b ≡ false
not-false true e = sym e
not-false false e = refl

pub plain-name : (k : ℕ) → Plain (kind_at k).name
unfolding kinds kind_at all filled
plain-name k = record {
  spaceless = name_free 32 (omega arith) k;
  feedless = name_free 10 (omega arith) k;
  filled = not-false (is_empty (kind_at k).name) (every-get_d (all-every filled kinds refl) refl k);
  short = name-short k;
}

-- every amount is small
pub spread-some : (c : Column) (i : ℕ) → 0 < spread c i
spread-some Names i = omega arith
spread-some Limits i = go (eqb i 0)
  where
    go : (b : Bool) → 0 < cond b 1000 100000
    go true = omega arith
    go false = omega arith
spread-some Cycles i = omega arith
spread-some Words i = omega arith
spread-some Extras i = go (eqb i 53 || eqb i 54)
  where
    go : (b : Bool) → 0 < cond b 100 1
    go true = omega arith
    go false = omega arith
spread-some Handles i = omega arith
spread-some Known i = omega arith
spread-some Open i = omega arith

pub spread-most : (c : Column) (i : ℕ) → spread c i ≤ 100000
spread-most Names i = omega arith
spread-most Limits i = go (eqb i 0)
  where
    go : (b : Bool) → cond b 1000 100000 ≤ 100000
    go true = omega arith
    go false = omega arith
spread-most Cycles i = omega arith
spread-most Words i = omega arith
spread-most Extras i = go (eqb i 53 || eqb i 54)
  where
    go : (b : Bool) → cond b 100 1 ≤ 100000
    go true = omega arith
    go false = omega arith
spread-most Handles i = omega arith
spread-most Known i = omega arith
spread-most Open i = omega arith

pub least-most : (c : Column) → least c ≤ 1
least-most Names = omega arith
least-most Limits = omega arith
least-most Cycles = omega arith
least-most Words = omega arith
least-most Extras = omega arith
least-most Handles = omega arith
least-most Known = omega arith
least-most Open = omega arith

-- the number of a column is below its end
pub amount-under : (c : Column) (i d : ℕ) → amount c i d < least c + spread c i
unfolding amount
amount-under c i d = let h = below-under (spread c i) d (spread-some c i) in omega arith

pub amount-small : (c : Column) (i d : ℕ) → amount c i d < 10000000000
amount-small c i d =
    let h = amount-under c i d in
    let m = spread-most c i in
    let l = least-most c in
    omega arith

plain-amount : (c : Column) (i d : ℕ) → Plain (decimal (amount c i d))
plain-amount c i d = plain-decimal (amount c i d) (amount-small c i d)

-- cells
plain-handle : (d : ℕ) → Plain (handle_word d)
unfolding handle_word all
plain-handle d =
    let p = plain-decimal (d % 2) (omega arith) in
    let l = decimal-length 1 (d % 2) (omega arith) (omega arith) in
    record {
      spaceless = every_append (text-free 32 (bytes "#") refl) p.spaceless;
      feedless = every_append (text-free 10 (bytes "#") refl) p.feedless;
      filled = refl;
      short = omega arith;
    }

pub plain-any : (d : ℕ) → Plain (integer (number_in numbers d))
plain-any d = plain-integer (number_in numbers d) (integer-length (number_in numbers d) (number_fits (number_in numbers d) (number_is numbers d numbers-sound)))

plain-number : (d : ℕ) → Plain (number_word d)
unfolding number_word
plain-number d = go (eqb (d / 2 % 2) 0)
  where
    go : (b : Bool) → Plain (cond b (decimal (d / 4 % 8)) (integer (number_in numbers d)))
    go true = plain-decimal (d / 4 % 8) (omega arith)
    go false = plain-any d

plain-open : (d : ℕ) → Plain (open_word d)
unfolding open_word all
plain-open d = go (eqb (d % 2) 0)
  where
    go : (b : Bool) → Plain (cond b (bytes "?") (number_word d))
    go true = record { spaceless = text-free 32 (bytes "?") refl; feedless = text-free 10 (bytes "?") refl; filled = refl; short = omega arith }
    go false = plain-number d

pub plain_word : (c : Column) (i d : ℕ) → Plain (word c i d)
unfolding word
plain_word Names i d = plain-name i
plain_word Limits i d = plain-amount Limits i d
plain_word Cycles i d = plain-amount Cycles i d
plain_word Words i d = plain-amount Words i d
plain_word Extras i d = plain-amount Extras i d
plain_word Handles i d = plain-handle d
plain_word Known i d = plain-number d
plain_word Open i d = plain-open d

-- ---- rows

-- words with a space between them
unfoldable pub spaced : List (List ℕ) → List ℕ
spaced [] = []
spaced (w ∷ []) = w
spaced (w ∷ v ∷ ws) = w ++ 32 ∷ spaced (v ∷ ws)

-- the words of a row
unfoldable pub row_words : Column → ℕ → ℕ → ℕ → List (List ℕ)
row_words c zero i s = []
row_words c (suc n) i s = word c i (next s) ∷ row_words c n (suc i) (next s)

pub row-length : (c : Column) (n i s : ℕ) → length (row_words c n i s) ≡ n
unfolding row_words
row-length c zero i s = refl
row-length c (suc n) i s = ap suc (row-length c n (suc i) (next s))

-- what holds of each word of a column holds of each word of a row
pub row-every : {P : List ℕ → Type 0} (c : Column) → ((i d : ℕ) → P (word c i d)) → (n i s : ℕ) → Every P (row_words c n i s)
unfolding row_words
row-every c f zero i s = none
row-every c f (suc n) i s = more (f i (next s)) (row-every c f n (suc i) (next s))

-- a row that the line ends with, and one that another follows
pub row_last : (c : Column) (n i s : ℕ) → row_from c (suc n) i false s ≡ spaced (row_words c (suc n) i s) ++ bytes "\n"
unfolding row_from row_words spaced
row_last c zero i s = append-nil (word c i (next s) ++ bytes "\n")
row_last c (suc n) i s =
    append_assoc (word c i (next s)) (bytes " ") (row_from c (suc n) (suc i) false (next s))
    ∙ ap (λ t. word c i (next s) ++ 32 ∷ t) (row_last c n (suc i) (next s))
    ∙ sym (append_assoc (word c i (next s)) (32 ∷ spaced (row_words c (suc n) (suc i) (next s))) (bytes "\n"))

pub row_more : (c : Column) (n i s : ℕ) (t : List ℕ) (v : List ℕ) (vs : List (List ℕ)) → t ≡ spaced (v ∷ vs) ++ bytes "\n"
    → row_from c (suc n) i true s ++ t ≡ spaced (row_words c (suc n) i s ++ v ∷ vs) ++ bytes "\n"
unfolding row_from row_words spaced
row_more c zero i s t v vs e =
    ap (λ u. u ++ t) (append-nil (word c i (next s) ++ bytes " "))
    ∙ append_assoc (word c i (next s)) (bytes " ") t
    ∙ ap (λ u. word c i (next s) ++ 32 ∷ u) e
    ∙ sym (append_assoc (word c i (next s)) (32 ∷ spaced (v ∷ vs)) (bytes "\n"))
row_more c (suc n) i s t v vs e =
    append_assoc (word c i (next s) ++ bytes " ") (row_from c (suc n) (suc i) true (next s)) t
    ∙ append_assoc (word c i (next s)) (bytes " ") (row_from c (suc n) (suc i) true (next s) ++ t)
    ∙ ap (λ u. word c i (next s) ++ 32 ∷ u) (row_more c n (suc i) (next s) t v vs e)
    ∙ sym (append_assoc (word c i (next s)) (32 ∷ spaced (row_words c (suc n) (suc i) (next s) ++ v ∷ vs)) (bytes "\n"))

-- no row is long
pub row-short : (c : Column) (n i : ℕ) (b : Bool) (s : ℕ) → length (row_from c n i b s) ≤ 13 * n
unfolding row_from
row-short c zero i b s = omega arith
row-short c (suc n) i b s =
    let p = (plain_word c i (next s)).short in
    let h = row-short c n (suc i) b (next s) in
    let k = one (is_going n b) in
    simp length-append (omega arith)
  where
    one : (f : Bool) → length (break f) ≡ 1
    one true = refl
    one false = refl
