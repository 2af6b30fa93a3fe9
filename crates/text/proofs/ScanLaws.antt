-- Laws of a scan, byte by byte or piece by piece, as the code makes it: of the length of a text's first piece. Assumes nothing.
use Prim.Native.Nat.{ℕ, suc, ◌+◌, ◌-◌, ◌<◌, ◌≤◌}
use mathlib.Core.Path.{◌≡◌, refl, ap}
use mathlib.Core.Bool.{Bool, true, false}
use mathlib.Core.List.{List, [], ◌∷◌}
use native.Mathlib.Omega.{arith}
use native.Mathlib.Numerals.{add-one}
use lib.Dec.{eqb}
use lib.ListN.{length, get_or, take, drop, length-drop, drop_of_length-le}
use lib.Seq.{drop-cons, take_all}
use borrow.Author.Tests.{eq-eqb, ne_eqb}
use Rattle.text.specs.Text.{onto, parted_by}

-- the length of a text's first piece
abbrev pub first_length : ℕ → List ℕ → ℕ
first_length c s = length (get_or (parted_by c s) 0 [])

-- what follows the first n bytes of l and the byte that ends them, as the code takes it: `&l[n + 1..]`
abbrev pub past : ℕ → List ℕ → List ℕ
past n l = take (length l - (n + 1)) (drop (n + 1) l)

pub onto-first : (x : ℕ) (ps : List (List ℕ)) → length (get_or (onto x ps) 0 []) ≡ suc (length (get_or ps 0 []))
onto-first x [] = refl
onto-first x (p ∷ ps) = refl

-- the piece ends at the byte at i; it goes on there; the text is at its end

first-here : (c : ℕ) (s : List ℕ) (i : ℕ) → i < length s → get_or s i 0 ≡ c → first_length c (drop i s) ≡ 0
unfolding parted_by
first-here c s i h e = rw (drop-cons s i 0, eq-eqb (get_or s i 0) c e) refl

first_next : (c : ℕ) (s : List ℕ) (i : ℕ) → i < length s → (get_or s i 0 ≡ c → ⊥) → first_length c (drop i s) ≡ suc (first_length c (drop (suc i) s))
unfolding parted_by
first_next c s i h n = rw (drop-cons s i 0, ne_eqb (get_or s i 0) c n) (onto-first (get_or s i 0) (parted_by c (drop (suc i) s)))

first-end : (c : ℕ) (s : List ℕ) (i : ℕ) → length s ≤ i → first_length c (drop i s) ≡ 0
unfolding parted_by
first-end c s i h = rw (drop_of_length-le s h) refl

-- i bytes of the first piece are passed: it ends at the byte at i, or goes on at the next, j

abbrev pub Passed : ℕ → List ℕ → ℕ → Type 0
Passed c s i = first_length c s ≡ i + first_length c (drop i s)

pub passed_here : (c : ℕ) (s : List ℕ) (i : ℕ) → Passed c s i → i < length s → get_or s i 0 ≡ c → i ≡ first_length c s
passed_here c s i p h e = omega (arith, first-here c s i h e)

pub passed-next : (c : ℕ) (s : List ℕ) (i j : ℕ) → j ≡ i + 1 → Passed c s i → i < length s → (get_or s i 0 ≡ c → ⊥) → Passed c s j
passed-next c s i j q p h n = rw (q, add-one) (omega (arith, first_next c s i h n))

pub passed-end : (c : ℕ) (s : List ℕ) (i : ℕ) → Passed c s i → length s ≤ i → i ≡ first_length c s
passed-end c s i p h = omega (arith, first-end c s i h)

-- where the first piece is shorter than the text, a c ends it, and the other pieces are those of what follows
split-more : (c : ℕ) (s : List ℕ) → first_length c s < length s → parted_by c s ≡ take (first_length c s) s ∷ parted_by c (drop (suc (first_length c s)) s)
unfolding parted_by
split-more c [] h = absurd (omega arith)
split-more c (x ∷ xs) h = go (eqb x c) refl h (split-more c xs)
  where
    go : (b : Bool) → eqb x c ≡ b → first_length c (x ∷ xs) < suc (length xs)
        → (first_length c xs < length xs → parted_by c xs ≡ take (first_length c xs) xs ∷ parted_by c (drop (suc (first_length c xs)) xs))
        → parted_by c (x ∷ xs) ≡ take (first_length c (x ∷ xs)) (x ∷ xs) ∷ parted_by c (drop (suc (first_length c (x ∷ xs))) (x ∷ xs))
    go true e l ih = rw e refl
    go false e l ih =
        let k : length (get_or (onto x (parted_by c xs)) 0 []) < suc (length xs) = rw e at l in
        let m = onto-first x (parted_by c xs) in
        rw (e, m) (ap (onto x) (ih (omega arith)))

-- else the text is its only piece
split-last : (c : ℕ) (s : List ℕ) → length s ≤ first_length c s → parted_by c s ≡ s ∷ []
unfolding parted_by
split-last c [] h = refl
split-last c (x ∷ xs) h = go (eqb x c) refl h (split-last c xs)
  where
    go : (b : Bool) → eqb x c ≡ b → suc (length xs) ≤ first_length c (x ∷ xs) → (length xs ≤ first_length c xs → parted_by c xs ≡ xs ∷ []) → parted_by c (x ∷ xs) ≡ (x ∷ xs) ∷ []
    go true e l ih = let k : suc (length xs) ≤ 0 = rw e at l in absurd (omega arith)
    go false e l ih =
        let k : suc (length xs) ≤ length (get_or (onto x (parted_by c xs)) 0 []) = rw e at l in
        let m = onto-first x (parted_by c xs) in
        rw e (ap (onto x) (ih (omega arith)))

-- what is left from a place on, as the code takes it: `&l[a..]`
rest-is : (a : ℕ) (l : List ℕ) → take (length l - a) (drop a l) ≡ drop a l
rest-is a l = take_all (length l - a) (drop a l) (rw length-drop (omega arith))

-- the same as a loop has it, where n is the length of the first piece

pub cut-more : (c : ℕ) (l : List ℕ) (n : ℕ) → n ≡ first_length c l → n < length l → parted_by c l ≡ take n l ∷ parted_by c (past n l)
cut-more c l n q h = rw (rest-is, add-one, q) (split-more c l (rw q at h))

pub cut-last : (c : ℕ) (l : List ℕ) (n : ℕ) → n ≡ first_length c l → length l ≤ n → parted_by c l ≡ l ∷ []
cut-last c l n q h = split-last c l (rw q at h)
