-- Laws of words that an import accepts: the instructions decoded from them stand one after the other, and their words and bytes are
-- those that were given. Assumes nothing.
use Rattle.std.specs.Prelude.{None, Option, Some}
use mathlib.Core.Path.{◌≡◌, refl, ap, subst, ◌∙◌}
use mathlib.Core.Bool.{Bool, true, false, cond}
use mathlib.Core.List.{List, [], ◌∷◌, map}
use Prim.Native.Nat.{ℕ, suc, ◌+◌, ◌-◌, ◌*◌, ◌/◌, ◌%◌, ◌<◌}
use native.Mathlib.Omega.{arith}
use native.Mathlib.Nat.{mod-eq_of_lt}
use lib.Dec.{ltb}
use lib.IntN.{pos, negsuc}
use Rattle.text.proofs.TextLaws.{Every, none, more}
use Rattle.numbers.specs.Numbers.{modulus, half, residue, signed}
use Rattle.instructions.specs.Kinds.{kind_at}
use Rattle.instructions.specs.Opcodes.{kind_coded}
use Rattle.instructions.proofs.OpcodeLaws.{opcode-of-kind}
use Rattle.words.specs.Words.{word_bits, Word, whole, cut, little_endian, words_of, bytes_of, all_bytes}
use Rattle.words.specs.Decoding.{Item, item_of, has_argument, Decoded, item, unreadable, opcode, argument, coded, decoded_words, items, call_listed, fault_from, size_of}
use Rattle.words.specs.Export.{item_words, words_in}
use Rattle.numbers.proofs.ResidueLaws.{signed-fits}
use Rattle.words.proofs.HeadLaws.{size-one, size-two}
use Rattle.words.proofs.ExportLaws.{Placed, with-word, plain}
use Rattle.words.proofs.ExportLaws as placed

-- ---- words without a fault

-- the words ns from index i on hold the instructions xs
data Holds : ℕ → List ℕ → List Item → Type 0 where
  done : {i : ℕ} → Holds i [] []
  alone : {i w k : ℕ} {ns : List ℕ} {xs : List Item} → kind_coded w ≡ Some k → has_argument (kind_at k).argument ≡ false → Holds (suc i) ns xs → Holds i (w ∷ ns) (item_of i k (pos 0) ∷ xs)
  paired : {i w v k : ℕ} {ns : List ℕ} {xs : List Item} → kind_coded w ≡ Some k → has_argument (kind_at k).argument ≡ true → Holds (suc (suc i)) ns xs
      → Holds i (w ∷ v ∷ ns) (item_of i k (signed word_bits v) ∷ xs)

pub faulty : {X : Type 0} (i : ℕ) → Some i ≡ None → X
faulty i e = let z : ◌≡◌ {A = ℕ} 0 1 = cc in absurd (omega arith)

-- the fault of what follows an instruction
fault-rest : (n c : ℕ) (x : Item) (es : List Decoded) → fault_from n c (item x ∷ es) ≡ None → fault_from n (suc c) es ≡ None
unfolding fault_from
fault-rest n c x es e = go (ltb c 1024) (call_listed n x.argument (kind_at x.kind).argument) e
  where
    go : (b d : Bool) → cond b (cond d (fault_from n (suc c) es) (Some (suc x.index))) (Some x.index) ≡ None → fault_from n (suc c) es ≡ None
    go true true q = q
    go true false q = faulty (suc x.index) q
    go false d q = faulty x.index q

-- words with no fault hold instructions
Held : ℕ → List Word → Type 0
Held i ws = (ns : List ℕ) × (ws ≡ map whole ns) × Holds i ns (items (decoded_words opcode i ws))

sound-holds : (n c i : ℕ) (ws : List Word) → fault_from n c (decoded_words opcode i ws) ≡ None → Held i ws
unfolding Held decoded_words coded items fault_from
sound-holds n c i [] e = ([], refl, done)
sound-holds n c i (cut ∷ ws) e = faulty i e
sound-holds n c i (whole w ∷ []) e = go (kind_coded w) refl e
  where
    plain_end : (k : ℕ) (b : Bool) → kind_coded w ≡ Some k → has_argument (kind_at k).argument ≡ b → fault_from n c (cond b (unreadable i ∷ []) (item (item_of i k (pos 0)) ∷ [])) ≡ None
        → (ns : List ℕ) × (whole w ∷ [] ≡ map whole ns) × Holds i ns (items (cond b (unreadable i ∷ []) (item (item_of i k (pos 0)) ∷ [])))
    plain_end k true q a f = faulty i f
    plain_end k false q a f = (w ∷ [], refl, alone q a done)

    go : (p : Option ℕ) → kind_coded w ≡ p → fault_from n c (coded i (λ d. decoded_words d (suc i) []) p) ≡ None
        → (ns : List ℕ) × (whole w ∷ [] ≡ map whole ns) × Holds i ns (items (coded i (λ d. decoded_words d (suc i) []) p))
    go None q f = faulty i f
    go (Some k) q f = plain_end k (has_argument (kind_at k).argument) q refl f
sound-holds n c i (whole w ∷ v ∷ ws) e = go (kind_coded w) refl e (sound-holds n (suc c) (suc i) (v ∷ ws)) (sound-holds n (suc c) (suc (suc i)) ws)
  where
    after_two : (k : ℕ) (v : Word) → kind_coded w ≡ Some k → has_argument (kind_at k).argument ≡ true → fault_from n c (decoded_words (argument i k) (suc i) (v ∷ ws)) ≡ None
        → (fault_from n (suc c) (decoded_words opcode (suc (suc i)) ws) ≡ None → Held (suc (suc i)) ws)
        → (ns : List ℕ) × (whole w ∷ v ∷ ws ≡ map whole ns) × Holds i ns (items (decoded_words (argument i k) (suc i) (v ∷ ws)))
    after_two k cut q a f two = faulty i f
    after_two k (whole u) q a f two =
        let h = two (fault-rest n c (item_of i k (signed word_bits u)) (decoded_words opcode (suc (suc i)) ws) f) in
        (w ∷ u ∷ h.0, ap (λ vs. whole w ∷ whole u ∷ vs) h.1, paired q a h.2)

    by-argument : (k : ℕ) (b : Bool) → kind_coded w ≡ Some k → has_argument (kind_at k).argument ≡ b
        → fault_from n c (cond b (decoded_words (argument i k) (suc i) (v ∷ ws)) (item (item_of i k (pos 0)) ∷ decoded_words opcode (suc i) (v ∷ ws))) ≡ None
        → (fault_from n (suc c) (decoded_words opcode (suc i) (v ∷ ws)) ≡ None → Held (suc i) (v ∷ ws))
        → (fault_from n (suc c) (decoded_words opcode (suc (suc i)) ws) ≡ None → Held (suc (suc i)) ws)
        → (ns : List ℕ) × (whole w ∷ v ∷ ws ≡ map whole ns)
        × Holds i ns (items (cond b (decoded_words (argument i k) (suc i) (v ∷ ws)) (item (item_of i k (pos 0)) ∷ decoded_words opcode (suc i) (v ∷ ws))))
    by-argument k true q a f one two = after_two k v q a f two
    by-argument k false q a f one two =
        let h = one (fault-rest n c (item_of i k (pos 0)) (decoded_words opcode (suc i) (v ∷ ws)) f) in
        (w ∷ h.0, ap (λ vs. whole w ∷ vs) h.1, alone q a h.2)

    go : (p : Option ℕ) → kind_coded w ≡ p → fault_from n c (coded i (λ d. decoded_words d (suc i) (v ∷ ws)) p) ≡ None
        → (fault_from n (suc c) (decoded_words opcode (suc i) (v ∷ ws)) ≡ None → Held (suc i) (v ∷ ws))
        → (fault_from n (suc c) (decoded_words opcode (suc (suc i)) ws) ≡ None → Held (suc (suc i)) ws)
        → (ns : List ℕ) × (whole w ∷ v ∷ ws ≡ map whole ns) × Holds i ns (items (coded i (λ d. decoded_words d (suc i) (v ∷ ws)) p))
    go None q f one two = faulty i f
    go (Some k) q f one two = by-argument k (has_argument (kind_at k).argument) q refl f one two

-- ---- what they hold

-- a word by its signed number
residue-back : (v : ℕ) → v < modulus word_bits → residue word_bits (signed word_bits v) ≡ v
residue-back v h = go (ltb v (half word_bits)) refl
  where
    go : (b : Bool) → ltb v (half word_bits) ≡ b → residue word_bits (cond b (pos v) (negsuc (modulus word_bits - suc v))) ≡ v
    go true e = mod-eq_of_lt h
    go false e = let m : (modulus word_bits - suc v) % modulus word_bits ≡ modulus word_bits - suc v = mod-eq_of_lt (omega arith) in omega arith

holds-placed : {i : ℕ} {ns : List ℕ} {xs : List Item} → Holds i ns xs → Every (λ n. n < modulus word_bits) ns → Placed i xs
holds-placed done none = placed.none
holds-placed (alone {i} {w} {k} {xs} q a h) (more b bs) =
    let s = size-one k a in
    let e : suc i ≡ i + size_of k = omega arith in
    plain (opcode-of-kind w k q).0 a (subst (λ j. Placed j xs) e (holds-placed h bs))
holds-placed (paired {i} {w} {v} {k} {xs} q a h) (more b (more d bs)) =
    let s = size-two k a in
    let e : suc (suc i) ≡ i + size_of k = omega arith in
    with-word (opcode-of-kind w k q).0 a (signed-fits v) (subst (λ j. Placed j xs) e (holds-placed h bs))

holds-words : {i : ℕ} {ns : List ℕ} {xs : List Item} → Holds i ns xs → Every (λ n. n < modulus word_bits) ns → words_in xs ≡ ns
unfolding words_in item_words
holds-words done none = refl
holds-words (alone {w} {k} q a h) (more b bs) = rw (a, (opcode-of-kind w k q).1, holds-words h bs) refl
holds-words (paired {w} {v} {k} q a h) (more b (more d bs)) = rw (a, (opcode-of-kind w k q).1, residue-back v d, holds-words h bs) refl

-- ---- bytes

not-cut : {X : Type 0} (ns : List ℕ) → cut ∷ [] ≡ map whole ns → X
not-cut [] e = let z : ◌≡◌ {A = ℕ} 0 1 = cc in absurd (omega arith)
not-cut (n ∷ ns) e = let z : ◌≡◌ {A = ℕ} 0 1 = cc in absurd (omega arith)

-- the bytes of a word are those that it was made of
four-back : (a b c d n : ℕ) (t u : List ℕ) → a < 256 → b < 256 → c < 256 → d < 256 → little_endian a b c d ≡ n → t ≡ u
    → n % 256 ∷ n / 256 % 256 ∷ n / 65536 % 256 ∷ n / 16777216 % 256 ∷ t ≡ a ∷ b ∷ c ∷ d ∷ u
four-back a b c d n t u h i j k e f =
    let w : n % 256 ≡ a = omega arith in
    let p : n / 256 ≡ b + c * 256 + d * 65536 = omega arith in
    let q : n / 65536 ≡ c + d * 256 = omega arith in
    let r : n / 16777216 ≡ d = omega arith in
    let x : n / 256 % 256 ≡ b = ap (λ m. m % 256) p ∙ omega arith in
    let y : n / 65536 % 256 ≡ c = ap (λ m. m % 256) q ∙ omega arith in
    let z : n / 16777216 % 256 ≡ d = ap (λ m. m % 256) r ∙ omega arith in
    rw (w, x, y, z, f) refl

bytes_back : (bs ns : List ℕ) → Every (λ b. b < 256) bs → words_of bs ≡ map whole ns → Every (λ n. n < modulus word_bits) ns × (all_bytes ns ≡ bs)
unfolding words_of all_bytes bytes_of
bytes_back [] [] h e = (none, refl)
bytes_back [] (n ∷ ns) h e = let z : ◌≡◌ {A = ℕ} 0 1 = cc in absurd (omega arith)
bytes_back (a ∷ []) ns h e = not-cut ns e
bytes_back (a ∷ b ∷ []) ns h e = not-cut ns e
bytes_back (a ∷ b ∷ c ∷ []) ns h e = not-cut ns e
bytes_back (a ∷ b ∷ c ∷ d ∷ bs) [] h e = let z : ◌≡◌ {A = ℕ} 0 1 = cc in absurd (omega arith)
bytes_back (a ∷ b ∷ c ∷ d ∷ bs) (n ∷ ns) (more h (more i (more j (more k hs)))) e =
    let f : little_endian a b c d ≡ n = cc in
    let g : words_of bs ≡ map whole ns = cc in
    let r = bytes_back bs ns hs g in
    let small : n < modulus word_bits = omega arith in
    (more small r.0, four-back a b c d n (all_bytes ns) bs h i j k f r.1)

-- ---- all

module _ (bs : List ℕ) (small : Every (λ b. b < 256) bs) (n : ℕ) (sound : fault_from n 0 (decoded_words opcode 0 (words_of bs)) ≡ None) where
  pub decoded-placed : Placed 0 (items (decoded_words opcode 0 (words_of bs)))
  unfolding Held
  decoded-placed =
      let h = sound-holds n 0 0 (words_of bs) sound in
      holds-placed h.2 (bytes_back bs h.0 small h.1).0

  pub decoded-back : all_bytes (words_in (items (decoded_words opcode 0 (words_of bs)))) ≡ bs
  unfolding Held
  decoded-back =
      let h = sound-holds n 0 0 (words_of bs) sound in
      let b = bytes_back bs h.0 small h.1 in
      ap all_bytes (holds-words h.2 b.0) ∙ b.1
