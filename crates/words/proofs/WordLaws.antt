-- Laws of words: the first word of bytes and what follows, and a word that was written is read back. Assumes nothing.
use mathlib.Core.Path.{◌≡◌, refl, sym, ap, ◌∙◌}
use mathlib.Core.List.{List, [], ◌∷◌, map}
use Prim.Native.Nat.{ℕ, ◌+◌, ◌-◌, ◌*◌, ◌/◌, ◌%◌, ◌<◌, ◌≤◌}
use native.Mathlib.Omega.{arith}
use lib.ListN.{length, get_or, take, drop, length-drop}
use lib.Seq.{take_all}
use native.Mathlib.Nat.{mod-eq_of_lt, div-div-eq-div-mul, div-add-mod'}
use Rattle.numbers.specs.Numbers.{modulus}
use Rattle.text.proofs.TextLaws.{Every, none, more}
use Rattle.words.specs.Words.{word_bits, whole, little_endian, words_of, bytes_of, all_bytes}

-- ---- the first word

pub words-none : (bs : List ℕ) → length bs ≡ 0 → words_of bs ≡ []
unfolding words_of
words-none [] h = refl
words-none (a ∷ bs) h = absurd (omega arith)

-- the number of the first four bytes
abbrev pub first_word_of : List ℕ → ℕ
first_word_of bs = little_endian (get_or bs 0 0) (get_or bs 1 0) (get_or bs 2 0) (get_or bs 3 0)

pub words-first : (bs : List ℕ) → 4 ≤ length bs → words_of bs ≡ whole (first_word_of bs) ∷ words_of (drop 4 bs)
unfolding words_of
words-first [] k = absurd (omega arith)
words-first (a ∷ []) k = absurd (omega arith)
words-first (a ∷ b ∷ []) k = absurd (omega arith)
words-first (a ∷ b ∷ c ∷ []) k = absurd (omega arith)
words-first (a ∷ b ∷ c ∷ d ∷ bs) k = refl

-- what follows the first n bytes, as the code has it
pub part-is : (bs : List ℕ) (n : ℕ) → take (length bs - n) (drop n bs) ≡ drop n bs
part-is bs n = take_all (length bs - n) (drop n bs) (rw length-drop (omega arith))

-- ---- a word that was written is read back

-- a number by its bytes and what is above each
joined : (n a b c d q r s : ℕ) → q * 256 + a ≡ n → r * 256 + b ≡ q → s * 256 + c ≡ r → d ≡ s → little_endian a b c d ≡ n
joined n a b c d q r s h i j k = omega arith

pub word_back : (n : ℕ) → n < modulus word_bits → little_endian (n % 256) (n / 256 % 256) (n / 65536 % 256) (n / 16777216 % 256) ≡ n
word_back n h =
    let e : n / 256 / 256 ≡ n / 65536 = div-div-eq-div-mul n 256 256 in
    let f : n / 65536 / 256 ≡ n / 16777216 = div-div-eq-div-mul n 65536 256 in
    let k : n / 16777216 < 256 = omega arith in
    joined n (n % 256) (n / 256 % 256) (n / 65536 % 256) (n / 16777216 % 256) (n / 256) (n / 65536) (n / 16777216)
    (div-add-mod' n 256)
    (ap (λ m. m * 256 + n / 256 % 256) (sym e) ∙ div-add-mod' (n / 256) 256)
    (ap (λ m. m * 256 + n / 65536 % 256) (sym f) ∙ div-add-mod' (n / 65536) 256)
    (mod-eq_of_lt k)

-- the same of several
pub words_back : (ns : List ℕ) → Every (λ n. n < modulus word_bits) ns → words_of (all_bytes ns) ≡ map whole ns
unfolding words_of bytes_of all_bytes
words_back [] none = refl
words_back (n ∷ ns) (more h hs) = ap (λ w. whole w ∷ words_of (all_bytes ns)) (word_back n h) ∙ ap (λ ws. whole n ∷ ws) (words_back ns hs)

pub bytes-length : (ns : List ℕ) → length (all_bytes ns) ≡ 4 * length ns
unfolding bytes_of all_bytes
bytes-length [] = refl
bytes-length (n ∷ ns) = let e = bytes-length ns in omega arith
