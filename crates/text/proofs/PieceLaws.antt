-- Laws of a text's pieces by their number and their places, and of its words. Assumes nothing.
use Prim.Native.Nat.{ℕ, zero, suc, ◌+◌, ◌<◌, ◌≤◌}
use mathlib.Core.Path.{◌≡◌, refl, sym, ap, ◌∙◌}
use mathlib.Core.Bool.{Bool, true, false, cond}
use mathlib.Core.List.{List, [], ◌∷◌}
use native.Mathlib.Omega.{arith}
use lib.Dec.{eqb, ltb}
use lib.ListN.{length, get_or, take}
use lib.Seq.{take_all}
use borrow.Author.Tests.{ltb-true, ltb-false}
use Rattle.text.specs.Text.{onto, parted_by, line_words}
use Rattle.text.proofs.ScanLaws.{first_length, past, onto-first, cut-more, cut-last}

-- the number of pieces

onto-length : (x : ℕ) (ps : List (List ℕ)) → 0 < length ps → length (onto x ps) ≡ length ps
onto-length x [] h = absurd (omega arith)
onto-length x (p ∷ ps) h = refl

pub split-some : (c : ℕ) (s : List ℕ) → 0 < length (parted_by c s)
unfolding parted_by
split-some c [] = omega arith
split-some c (x ∷ xs) = go (eqb x c) (split-some c xs)
  where
    go : (b : Bool) → 0 < length (parted_by c xs) → 0 < length (cond b ([] ∷ parted_by c xs) (onto x (parted_by c xs)))
    go true h = omega arith
    go false h = omega (arith, onto-length x (parted_by c xs) h)

split-length : (c : ℕ) (s : List ℕ) → length (parted_by c s) ≤ length s + 1
unfolding parted_by
split-length c [] = omega arith
split-length c (x ∷ xs) = go (eqb x c) (split-length c xs)
  where
    go : (b : Bool) → length (parted_by c xs) ≤ length xs + 1 → length (cond b ([] ∷ parted_by c xs) (onto x (parted_by c xs))) ≤ suc (length xs) + 1
    go true h = omega arith
    go false h = omega (arith, onto-length x (parted_by c xs) (split-some c xs))

-- the first piece

pub first-le : (c : ℕ) (s : List ℕ) → first_length c s ≤ length s
unfolding parted_by
first-le c [] = omega arith
first-le c (x ∷ xs) = go (eqb x c) (first-le c xs)
  where
    go : (b : Bool) → first_length c xs ≤ length xs → length (get_or (cond b ([] ∷ parted_by c xs) (onto x (parted_by c xs))) 0 []) ≤ suc (length xs)
    go true h = omega arith
    go false h = omega (arith, onto-first x (parted_by c xs))

pub first_piece : (c : ℕ) (l : List ℕ) (n : ℕ) → n ≡ first_length c l → get_or (parted_by c l) 0 [] ≡ take n l
first_piece c l n q = go (ltb n (length l)) refl
  where
    go : (b : Bool) → ltb n (length l) ≡ b → get_or (parted_by c l) 0 [] ≡ take n l
    go true e = ap (λ (ps : List (List ℕ)). get_or ps 0 []) (cut-more c l n q (ltb-true n (length l) e))
    go false e =
        let h = ltb-false n (length l) e in
        ap (λ (ps : List (List ℕ)). get_or ps 0 []) (cut-last c l n q h) ∙ sym (take_all n l h)

-- the words of l, whose first word has the length n

pub words-length : (l : List ℕ) → length (line_words l) ≤ length l + 1
unfolding line_words
words-length l = split-length 32 l

pub words_more : (l : List ℕ) (n : ℕ) → n ≡ first_length 32 l → n < length l → line_words l ≡ take n l ∷ line_words (past n l)
unfolding line_words
words_more l n q h = cut-more 32 l n q h

pub words_last : (l : List ℕ) (n : ℕ) → n ≡ first_length 32 l → length l ≤ n → line_words l ≡ l ∷ []
unfolding line_words
words_last l n q h = cut-last 32 l n q h

-- the first word of l

pub word-here : (l : List ℕ) (n k : ℕ) → n ≡ first_length 32 l → k ≤ 0 → get_or (line_words l) k [] ≡ take n l
unfolding line_words
word-here l n zero q h = first_piece 32 l n q
word-here l n (suc k) q h = absurd (omega arith)
