-- Laws of the names on a line, as the code scans them: word by word for repeated names, in pairs for the names of the cells; of a
-- primitive's name, and of a field's name spelt out. Assumes nothing.
use Prim.Native.Nat.{ℕ, zero, suc, ◌+◌, ◌<◌, ◌≤◌, ◌/◌, ◌%◌}
use mathlib.Core.Path.{◌≡◌, refl, ap, ◌∙◌}
use mathlib.Core.Bool.{true, false, ◌&&◌, and-true, and-false}
use mathlib.Core.List.{List, [], ◌∷◌}
use native.Mathlib.Omega.{arith}
use lib.Dec.{ltb}
use lib.ListN.{length, get_or, take, drop}
use borrow.Author.Tests.{lt-ltb, le-ltb}
use Rattle.std.specs.List.{list_all, zip}
use Rattle.text.specs.Text.{equals, line_words, among, distinct, all}
use Rattle.text_decimals.specs.Decimal.{digits, decimal}
use Rattle.text_decimals.proofs.DecimalLaws.{decimal-one}
use Rattle.text.proofs.ScanLaws.{first_length, past, cut-more, cut-last}
use Rattle.file_format.specs.Rows.{is_capital, in_name, is_name, equal_lists, is_field}

-- ---- whether a word stands twice

pub distinct-again : (l : List ℕ) (n : ℕ) → n ≡ first_length 32 l → n < length l → among (take n l) (line_words (past n l)) ≡ true → distinct (line_words l) ≡ false
unfolding distinct line_words
distinct-again l n q h e = rw (cut-more 32 l n q h, e) refl

pub distinct-next : (l : List ℕ) (n : ℕ) → n ≡ first_length 32 l → n < length l → among (take n l) (line_words (past n l)) ≡ false
    → distinct (line_words l) ≡ distinct (line_words (past n l))
unfolding distinct line_words
distinct-next l n q h e = rw (cut-more 32 l n q h, e) refl

pub distinct-last : (l : List ℕ) (n : ℕ) → n ≡ first_length 32 l → length l ≤ n → distinct (line_words l) ≡ true
unfolding distinct among line_words
distinct-last l n q h = rw (cut-last 32 l n q h) refl

-- ---- a primitive's name

pub name-empty : (w : List ℕ) → length w ≡ 0 → is_name w ≡ false
unfolding is_name
name-empty [] h = refl
name-empty (c ∷ cs) h = absurd (omega arith)

pub name-long : (w : List ℕ) → 8 < length w → is_name w ≡ false
unfolding is_name
name-long [] h = refl
name-long (c ∷ cs) h = rw (le-ltb (length cs) 8 (omega arith)) (and-false (is_capital c && all in_name cs))

pub name-first : (w : List ℕ) → is_capital (get_or w 0 0) ≡ false → is_name w ≡ false
unfolding is_name
name-first [] e = refl
name-first (c ∷ cs) e = rw e refl

pub name-rest : (w : List ℕ) → 0 < length w → length w ≤ 8 → is_capital (get_or w 0 0) ≡ true → is_name w ≡ all in_name (drop 1 w)
unfolding is_name
name-rest [] p h e = absurd (omega arith)
name-rest (c ∷ cs) p h e = rw (e, lt-ltb (length cs) 8 (omega arith)) (and-true (all in_name cs))

-- ---- the words ws as the first of ns

pub leads-short : (ws ns : List (List ℕ)) → length ns < length ws → equal_lists ws (take (length ws) ns) ≡ false
unfolding equal_lists
leads-short [] ns h = absurd (omega arith)
leads-short (w ∷ ws) [] h = refl
leads-short (w ∷ ws) (n ∷ ns) h = ap (λ b. equals w n && b) (leads-short ws ns (omega arith)) ∙ and-false (equals w n)

-- by pairs
pub leads-pairs : (ws ns : List (List ℕ)) → length ws ≤ length ns → list_all (λ (p : List ℕ × List ℕ). equals p.0 p.1) (zip ws ns) ≡ equal_lists ws (take (length ws) ns)
unfolding equal_lists
leads-pairs [] ns h = refl
leads-pairs (w ∷ ws) [] h = absurd (omega arith)
leads-pairs (w ∷ ws) (n ∷ ns) h = ap (λ b. equals w n && b) (leads-pairs ws ns (omega arith))

-- ---- a field's name

decimal-below-20 : (n : ℕ) → 10 ≤ n → n < 20 → decimal n ≡ 49 ∷ (38 + n) ∷ []
unfolding decimal digits
decimal-below-20 zero h k = absurd (omega arith)
decimal-below-20 (suc m) h k =
    let d : suc m / 10 ≡ 1 = omega arith in
    let r : 48 + suc m % 10 ≡ 38 + suc m = omega arith in
    rw (le-ltb (suc m) 10 h, d, r) refl

pub no_block : (k n : ℕ) (w : List ℕ) → 8 ≤ k → is_field k n w ≡ false
unfolding is_field
no_block k n w h = rw (le-ltb k 8 h) refl

pub no_place : (k n : ℕ) (w : List ℕ) → 16 ≤ n → is_field k n w ≡ false
unfolding is_field
no_place k n w h = rw (le-ltb n 16 h, and-false (ltb k 8)) refl

pub short-field : (k n : ℕ) (w : List ℕ) → k < 8 → n < 10 → is_field k n w ≡ equals w (66 ∷ (48 + k) ∷ 46 ∷ (48 + n) ∷ [])
unfolding is_field
short-field k n w h l = rw (lt-ltb k 8 h, lt-ltb n 16 (omega arith), decimal-one k (omega arith), decimal-one n l) refl

pub long-field : (k n : ℕ) (w : List ℕ) → k < 8 → 10 ≤ n → n < 16 → is_field k n w ≡ equals w (66 ∷ (48 + k) ∷ 46 ∷ 49 ∷ (38 + n) ∷ [])
unfolding is_field
long-field k n w h l u = rw (lt-ltb k 8 h, lt-ltb n 16 u, decimal-one k (omega arith), decimal-below-20 n l (omega arith)) refl
