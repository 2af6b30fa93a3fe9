-- Laws of the export: the words of instructions are decoded to the same instructions, how many bytes they are, and an offset
-- leads back to the line that it was made of. Assumes nothing.
use Rattle.std.specs.Prelude.{Some}
use mathlib.Core.Path.{◌≡◌, refl, sym, ap, ◌∙◌}
use mathlib.Core.Bool.{Bool, true, false, cond}
use mathlib.Core.List.{List, [], ◌∷◌, ◌++◌, map}
use Prim.Native.Nat.{ℕ, zero, suc, ◌+◌, ◌-◌, ◌*◌, ◌<◌, ◌≤◌}
use native.Mathlib.Omega.{arith}
use lib.Dec.{ltb}
use lib.IntN.{ℤ, pos, negsuc, ◌+ℤ◌, ◌-ℤ◌}
use lib.ListN.{length, get_or, length-append}
use mir.Syntax.{w32}
use mir.Val.{SFits}
use borrow.Author.Tests.{eq-eqb, ne_eqb, ltb-true, ltb-false, le-ltb}
use Rattle.numbers.specs.Numbers.{modulus, residue}
use Rattle.numbers.proofs.NumberLaws.{residue-fits, signed_back}
use Rattle.text.proofs.TextLaws.{Every, more}
use Rattle.text.proofs.TextLaws as every
use Rattle.instructions.specs.Kinds.{kinds, kind_at}
use Rattle.instructions.proofs.ColumnLaws.{column-at}
use Rattle.instructions.specs.Opcodes.{place_from}
use Rattle.instructions.proofs.OpcodeLaws.{kind-of-opcode}
use Rattle.words.specs.Words.{word_bits, Word, whole, words_of, all_bytes}
use Rattle.words.specs.Decoding.{Item, item_of, has_argument, opcode, item, coded, decoded_words, decoded, items, number_at, size_of}
use Rattle.words.specs.Export.{Op, positions, argument_word, items_from, item_words, words_in, export_ops}
use Rattle.words.proofs.WordLaws.{words_back, bytes-length}
use Rattle.words.proofs.HeadLaws.{size_small, size-one, size-two}

-- instructions that stand one after the other from index i on: kinds of the table, each with an argument that fits a word, and is 0 where it has none
pub data Placed : ℕ → List Item → Type 0 where
  none : {i : ℕ} → Placed i []
  with-word : {i k : ℕ} {z : ℤ} {xs : List Item} → k < 61 → has_argument (kind_at k).argument ≡ true → SFits w32 z → Placed (i + size_of k) xs → Placed i (item_of i k z ∷ xs)
  plain : {i k : ℕ} {xs : List Item} → k < 61 → has_argument (kind_at k).argument ≡ false → Placed (i + size_of k) xs → Placed i (item_of i k (pos 0) ∷ xs)

-- the words of an instruction
words-with : (i k : ℕ) (z : ℤ) → has_argument (kind_at k).argument ≡ true → item_words (item_of i k z) ≡ (kind_at k).opcode ∷ residue word_bits z ∷ []
unfolding item_words
words-with i k z t = rw t refl

words-plain : (i k : ℕ) (z : ℤ) → has_argument (kind_at k).argument ≡ false → item_words (item_of i k z) ≡ (kind_at k).opcode ∷ []
unfolding item_words
words-plain i k z t = rw t refl

-- one instruction is decoded
decode-with : (i k : ℕ) (z : ℤ) (ws : List Word) → k < 61 → has_argument (kind_at k).argument ≡ true → SFits w32 z
    → decoded_words opcode i (whole (kind_at k).opcode ∷ whole (residue word_bits z) ∷ ws) ≡ item (item_of i k z) ∷ decoded_words opcode (i + size_of k) ws
unfolding decoded_words coded
decode-with i k z ws h t n =
    let s = size-two k t in
    rw (kind-of-opcode k h, t, signed_back word_bits (omega arith) z n.sfits, s) (ap (λ j. item (item_of i k z) ∷ decoded_words opcode j ws) (omega arith))

decode-plain : (i k : ℕ) (ws : List Word) → k < 61 → has_argument (kind_at k).argument ≡ false
    → decoded_words opcode i (whole (kind_at k).opcode ∷ ws) ≡ item (item_of i k (pos 0)) ∷ decoded_words opcode (i + size_of k) ws
unfolding decoded_words coded
decode-plain i k ws h t =
    let s = size-one k t in
    rw (kind-of-opcode k h, t, s) (ap (λ j. item (item_of i k (pos 0)) ∷ decoded_words opcode j ws) (omega arith))

-- "Exporting and importing a routine .. brings back its code": the words of instructions are decoded to them
pub decode-words : {i : ℕ} {xs : List Item} → Placed i xs → decoded_words opcode i (map whole (words_in xs)) ≡ map item xs
unfolding decoded_words words_in
decode-words none = refl
decode-words (with-word {i} {k} {z} {xs} h t n p) =
    ap (λ ws. decoded_words opcode i (map whole (ws ++ words_in xs))) (words-with i k z t) ∙ decode-with i k z (map whole (words_in xs)) h t n ∙ ap (λ es. item (item_of i k z) ∷ es) (decode-words p)
decode-words (plain {i} {k} {xs} h t p) =
    ap (λ ws. decoded_words opcode i (map whole (ws ++ words_in xs))) (words-plain i k (pos 0) t) ∙ decode-plain i k (map whole (words_in xs)) h t ∙ ap (λ es. item (item_of i k (pos 0)) ∷ es) (decode-words p)

-- an instruction has one word or two, so that 1 to 1,024 lines have 4 to 8,192 bytes
words-few : (x : Item) → (1 ≤ length (item_words x)) × (length (item_words x) ≤ 2)
unfolding item_words
words-few x = go (has_argument (kind_at x.kind).argument)
  where
    go : (b : Bool) → (1 ≤ length ((kind_at x.kind).opcode ∷ cond b (residue word_bits x.argument ∷ []) [])) × (length ((kind_at x.kind).opcode ∷ cond b (residue word_bits x.argument ∷ []) []) ≤ 2)
    go true = (omega arith, omega arith)
    go false = (omega arith, omega arith)

all-few : (is : List ℕ) (i : ℕ) (xs : List Op) → (length xs ≤ length (words_in (items_from is i xs))) × (length (words_in (items_from is i xs)) ≤ 2 * length xs)
unfolding items_from words_in
all-few is i [] = (omega arith, omega arith)
all-few is i (x ∷ xs) =
    let h = words-few (item_of i x.kind (argument_word is i x.value (kind_at x.kind).argument)) in
    let k = all-few is (i + size_of x.kind) xs in
    rw length-append (omega arith, omega arith)

pub export-fits : (xs : List Op) → 1 ≤ length xs → length xs ≤ 1024 → (4 ≤ length (export_ops xs)) × (length (export_ops xs) ≤ 8192)
unfolding export_ops
export-fits xs h g =
    let k = all-few (positions 0 xs) 0 xs in
    let l = bytes-length (words_in (items_from (positions 0 xs) 0 xs)) in
    (omega arith, omega arith)

-- ---- an offset leads back to the line that it was made of

pub indices-are : (is : List ℕ) (i : ℕ) (xs : List Op) → map (λ x. x.index) (items_from is i xs) ≡ positions i xs
unfolding items_from positions
indices-are is i [] = refl
indices-are is i (x ∷ xs) = ap (λ js. i ∷ js) (indices-are is (i + size_of x.kind) xs)

-- positions rise
position_from : (i n : ℕ) (xs : List Op) → n < length xs → i ≤ get_or (positions i xs) n 0
unfolding positions
position_from i n [] h = absurd (omega arith)
position_from i zero (x ∷ xs) h = omega arith
position_from i (suc n) (x ∷ xs) h = let k = position_from (i + size_of x.kind) n xs (omega arith) in omega arith

-- so that each is found at its own line
position-found : (c i n : ℕ) (xs : List Op) → n < length xs → place_from c (get_or (positions i xs) n 0) (positions i xs) ≡ Some (c + n)
unfolding positions place_from
position-found c i n [] h = absurd (omega arith)
position-found c i zero (x ∷ xs) h = rw (eq-eqb i i refl) (ap Some (omega arith))
position-found c i (suc n) (x ∷ xs) h =
    let s = size_small x.kind in
    let k = position_from (i + size_of x.kind) n xs (omega arith) in
    let p = get_or (positions (i + size_of x.kind) xs) n 0 in
    let d : p ≡ i → ⊥ = λ e. omega arith in
    rw (ne_eqb p i d) (position-found (suc c) (i + size_of x.kind) n xs (omega arith) ∙ ap Some (omega arith))

-- an offset and its position come to the index that it leads to
offset-back : (p a : ℕ) → pos a +ℤ (pos p -ℤ pos a) ≡ pos p
offset-back p zero = ap pos (omega arith)
offset-back p (suc b) = go (ltb p (suc b)) refl
  where
    go : (t : Bool) → ltb p (suc b) ≡ t → pos (suc b) +ℤ cond t (negsuc (suc b - suc p)) (pos (p - suc b)) ≡ pos p
    go true e =
        let h = ltb-true p (suc b) e in
        ap (λ t. cond t (negsuc (suc (suc b - suc p) - suc (suc b))) (pos (suc b - suc (suc b - suc p)))) (le-ltb (suc b) (suc (suc b - suc p)) (omega arith)) ∙ ap pos (omega arith)
    go false e = let h = ltb-false p (suc b) e in ap pos (omega arith)

-- a branch to line n of the code, exported and decoded, leads to instruction n
pub target-back : (xs : List Op) (i n : ℕ) → n < length xs → number_at (items_from (positions 0 xs) 0 xs) (pos (suc i) +ℤ (pos (get_or (positions 0 xs) n 0) -ℤ pos (suc i))) ≡ Some n
unfolding number_at
target-back xs i n h =
    ap (number_at (items_from (positions 0 xs) 0 xs)) (offset-back (get_or (positions 0 xs) n 0) (suc i))
    ∙ ap (place_from 0 (get_or (positions 0 xs) n 0)) (indices-are (positions 0 xs) 0 xs)
    ∙ position-found 0 0 n xs h
    ∙ ap Some (omega arith)

-- ---- the bytes of instructions are decoded to them

-- each opcode is a word: computed for the whole table
opcode-small : (k : ℕ) → k < 61 → (kind_at k).opcode < modulus word_bits
unfolding kinds
opcode-small k h =
    ltb-true _ _
    (sym (column-at (λ r. r.opcode) (λ n. ltb n (modulus word_bits)) (λ r. ltb r.opcode (modulus word_bits)) 0 refl k h) ∙ column-at (λ r. r.opcode) (λ n. ltb n (modulus word_bits)) (λ r. true) 0 refl k h)

words_small : {i : ℕ} {xs : List Item} → Placed i xs → Every (λ n. n < modulus word_bits) (words_in xs)
unfolding words_in
words_small none = every.none
words_small (with-word {i} {k} {z} {xs} h t n p) = rw (words-with i k z t) (more (opcode-small k h) (more (residue-fits word_bits z) (words_small p)))
words_small (plain {i} {k} {xs} h t p) = rw (words-plain i k (pos 0) t) (more (opcode-small k h) (words_small p))

pub items-are : (xs : List Item) → items (map item xs) ≡ xs
unfolding items
items-are [] = refl
items-are (x ∷ xs) = ap (λ ys. x ∷ ys) (items-are xs)

pub bytes-entries : {xs : List Item} → Placed 0 xs → decoded (words_of (all_bytes (words_in xs))) ≡ map item xs
unfolding decoded
bytes-entries {xs} p = ap (decoded_words opcode 0) (words_back (words_in xs) (words_small p)) ∙ decode-words p

pub bytes-decoded : {xs : List Item} → Placed 0 xs → items (decoded (words_of (all_bytes (words_in xs)))) ≡ xs
bytes-decoded {xs} p = ap items (bytes-entries p) ∙ items-are xs
