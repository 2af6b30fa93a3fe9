-- Laws of the instruction at the head of words, by the bytes, and of the entries from there on. Assumes nothing.
use Rattle.std.specs.Prelude.{None, Option, Some}
use mathlib.Core.Path.{◌≡◌, refl, sym, ap, ◌∙◌}
use mathlib.Core.Bool.{Bool, true, false, cond}
use mathlib.Core.List.{List, [], ◌∷◌}
use Prim.Native.Nat.{ℕ, suc, ◌+◌, ◌-◌, ◌*◌, ◌<◌, ◌≤◌}
use native.Mathlib.Omega.{arith}
use lib.Dec.{ltb}
use lib.IntN.{ℤ, pos}
use lib.ListN.{length, take, drop, length-drop}
use lib.Seq.{drop-drop}
use borrow.Author.Tests.{ltb-true, ltb-false}
use Rattle.numbers.specs.Numbers.{signed}
use Rattle.instructions.specs.declared.Argument.{Argument}
use Rattle.instructions.specs.declared.Argument.TheVariants.{Absent, Target, Primitive, Within}
use Rattle.instructions.specs.HeldColumns.{argument_code}
use Rattle.instructions.specs.Kinds.{kind_at}
use Rattle.instructions.specs.Opcodes.{kind_coded}
use Rattle.instructions.proofs.OpcodeLaws.{opcode-of-kind}
use Rattle.words.specs.Words.{word_bits, Word, whole, cut, words_of}
use Rattle.words.specs.Decoding.{item_of, has_argument, item, unreadable, opcode, argument, coded, decoded_words, size_of}
use Rattle.words.specs.Held.{instruction, with_argument, head_coded, head_of}
use Rattle.words.proofs.WordLaws.{words-none, first_word_of, words-first, part-is}

-- ---- whether a kind has an argument word, by the code of what it takes

pub takes-argument : (a : Argument) → ltb 0 (argument_code a) ≡ has_argument a
unfolding argument_code
takes-argument Absent = refl
takes-argument Target = refl
takes-argument Primitive = refl
takes-argument (Within r) = refl

-- ---- the head by the bytes

pub argument-short : (k : ℕ) (bs : List ℕ) → length bs < 4 → with_argument k (words_of bs) ≡ None
unfolding words_of with_argument
argument-short k [] h = refl
argument-short k (a ∷ []) h = refl
argument-short k (a ∷ b ∷ []) h = refl
argument-short k (a ∷ b ∷ c ∷ []) h = refl
argument-short k (a ∷ b ∷ c ∷ d ∷ bs) h = absurd (omega arith)

pub argument-read : (k : ℕ) (bs : List ℕ) → 4 ≤ length bs → with_argument k (words_of bs) ≡ instruction k (signed word_bits (first_word_of bs))
unfolding with_argument
argument-read k bs h = ap (with_argument k) (words-first bs h)

pub head-short : (bs : List ℕ) → length bs < 4 → head_of (words_of bs) ≡ None
unfolding words_of head_of
head-short [] h = refl
head-short (a ∷ []) h = refl
head-short (a ∷ b ∷ []) h = refl
head-short (a ∷ b ∷ c ∷ []) h = refl
head-short (a ∷ b ∷ c ∷ d ∷ bs) h = absurd (omega arith)

module _ (bs : List ℕ) (h : 4 ≤ length bs) where
  head_first : head_of (words_of bs) ≡ head_coded (words_of (drop 4 bs)) (kind_coded (first_word_of bs))
  unfolding head_of
  head_first = ap head_of (words-first bs h)

  pub head-unknown : kind_coded (first_word_of bs) ≡ None → head_of (words_of bs) ≡ None
  unfolding head_coded
  head-unknown e = head_first ∙ ap (head_coded (words_of (drop 4 bs))) e

  pub head-argument : (k : ℕ) → kind_coded (first_word_of bs) ≡ Some k → has_argument (kind_at k).argument ≡ true → head_of (words_of bs) ≡ with_argument k (words_of (drop 4 bs))
  unfolding head_coded
  head-argument k e t = head_first ∙ ap (head_coded (words_of (drop 4 bs))) e ∙ ap (λ b. cond b (with_argument k (words_of (drop 4 bs))) (instruction k (pos 0))) t

  pub head_plain : (k : ℕ) → kind_coded (first_word_of bs) ≡ Some k → has_argument (kind_at k).argument ≡ false → head_of (words_of bs) ≡ instruction k (pos 0)
  unfolding head_coded
  head_plain k e t = head_first ∙ ap (head_coded (words_of (drop 4 bs))) e ∙ ap (λ b. cond b (with_argument k (words_of (drop 4 bs))) (instruction k (pos 0))) t

-- ---- the words after an instruction

pub size_small : (k : ℕ) → (1 ≤ size_of k) × (size_of k ≤ 2)
unfolding size_of
size_small k = go (has_argument (kind_at k).argument)
  where
    go : (b : Bool) → (1 ≤ cond b 2 1) × (cond b 2 1 ≤ 2)
    go true = (omega arith, omega arith)
    go false = (omega arith, omega arith)

pub size-two : (k : ℕ) → has_argument (kind_at k).argument ≡ true → size_of k ≡ 2
unfolding size_of
size-two k t = ap (λ (b : Bool). cond b 2 1) t

pub size-one : (k : ℕ) → has_argument (kind_at k).argument ≡ false → size_of k ≡ 1
unfolding size_of
size-one k t = ap (λ (b : Bool). cond b 2 1) t

words-after-one : (bs : List ℕ) → 4 ≤ length bs → words_of (drop 4 bs) ≡ drop 1 (words_of bs)
words-after-one bs h = sym (ap (drop 1) (words-first bs h))

words-after-two : (bs : List ℕ) → 8 ≤ length bs → words_of (drop 8 bs) ≡ drop 2 (words_of bs)
words-after-two bs h =
    let k : 4 ≤ length (drop 4 bs) = rw length-drop (omega arith) in
    ap words_of (sym (drop-drop 4 4 bs))
    ∙ words-after-one (drop 4 bs) k
    ∙ ap (drop 1) (words-after-one bs (omega arith))
    ∙ drop-drop 1 1 (words_of bs)

pub words-after : (k : ℕ) (bs : List ℕ) → 4 * size_of k ≤ length bs → words_of (drop (4 * size_of k) bs) ≡ drop (size_of k) (words_of bs)
unfolding size_of
words-after k bs = go (has_argument (kind_at k).argument)
  where
    go : (b : Bool) → 4 * cond b 2 1 ≤ length bs → words_of (drop (4 * cond b 2 1) bs) ≡ drop (cond b 2 1) (words_of bs)
    go true h = words-after-two bs h
    go false h = words-after-one bs h

-- as the code has them, where s is the size
pub after_is : (k : ℕ) (bs : List ℕ) (s : ℕ) → s ≡ size_of k → 4 * size_of k ≤ length bs
    → (words_of (take (length bs - 4 * s) (drop (4 * s) bs)) ≡ drop (size_of k) (words_of bs)) × (4 * size_of k + length (take (length bs - 4 * s) (drop (4 * s) bs)) ≡ length bs)
after_is k bs s e h =
    let p : take (length bs - 4 * s) (drop (4 * s) bs) ≡ drop (4 * size_of k) bs = part-is bs (4 * s) ∙ ap (λ n. drop (4 * n) bs) e in
    let l : length (drop (4 * size_of k) bs) ≡ length bs - 4 * size_of k = length-drop (4 * size_of k) bs in
    (ap words_of p ∙ words-after k bs h, ap (λ xs. 4 * size_of k + length xs) p ∙ omega arith)

-- ---- the entries from an instruction on

-- one instruction has one kind and one argument
abbrev parts_of : Option (ℕ × ℤ) → ℕ × ℤ
parts_of None = (0, pos 0)
parts_of (Some p) = p

parts : {j k : ℕ} {y z : ℤ} → instruction j y ≡ instruction k z → (j ≡ k) × (y ≡ z)
parts e = (ap (λ o. (parts_of o).0) e, ap (λ o. (parts_of o).1) e)

not-instruction : {X : Type 0} (k : ℕ) (z : ℤ) → None ≡ instruction k z → X
not-instruction k z e = let q : ◌≡◌ {A = ℕ} 0 1 = cc in absurd (omega arith)

-- an instruction that is read: its kind is in the table, and the others follow
pub record Read (i k : ℕ) (z : ℤ) (ws : List Word) : Type 0 where
  pub known : k < 61
  pub first : decoded_words opcode i ws ≡ item (item_of i k z) ∷ decoded_words opcode (i + size_of k) (drop (size_of k) ws)

with-argument : (i w k j : ℕ) (z : ℤ) (ws : List Word) → kind_coded w ≡ Some j → has_argument (kind_at j).argument ≡ true → with_argument j ws ≡ instruction k z → Read i k z (whole w ∷ ws)
unfolding with_argument decoded_words coded
with-argument i w k j z [] e t h = not-instruction k z h
with-argument i w k j z (cut ∷ ws) e t h = not-instruction k z h
with-argument i w k j z (whole v ∷ ws) e t h =
    let p : j ≡ k = (parts h).0 in
    let q : signed word_bits v ≡ z = (parts h).1 in
    let s = size-two k (ap (λ x. has_argument (kind_at x).argument) (sym p) ∙ t) in
    record {
      known = rw p at (opcode-of-kind w j e).0;
      first = rw (e, t, s, p, q) (ap (λ n. item (item_of i k z) ∷ decoded_words opcode n ws) (omega arith));
    }

without-argument : (i w k j : ℕ) (z : ℤ) (ws : List Word) → kind_coded w ≡ Some j → has_argument (kind_at j).argument ≡ false → instruction j (pos 0) ≡ instruction k z → Read i k z (whole w ∷ ws)
unfolding decoded_words coded
without-argument i w k j z ws e t h =
    let p : j ≡ k = (parts h).0 in
    let q : pos 0 ≡ z = (parts h).1 in
    let s = size-one k (ap (λ x. has_argument (kind_at x).argument) (sym p) ∙ t) in
    record {
      known = rw p at (opcode-of-kind w j e).0;
      first = rw (e, t, s, p, q) (ap (λ n. item (item_of i k z) ∷ decoded_words opcode n ws) (omega arith));
    }

coded-read : (i w k : ℕ) (z : ℤ) (ws : List Word) (p : Option ℕ) → kind_coded w ≡ p → head_coded ws p ≡ instruction k z → Read i k z (whole w ∷ ws)
unfolding head_coded
coded-read i w k z ws None e h = not-instruction k z h
coded-read i w k z ws (Some j) e h = go (has_argument (kind_at j).argument) refl h
  where
    go : (b : Bool) → has_argument (kind_at j).argument ≡ b → cond b (with_argument j ws) (instruction j (pos 0)) ≡ instruction k z → Read i k z (whole w ∷ ws)
    go true t q = with-argument i w k j z ws e t q
    go false t q = without-argument i w k j z ws e t q

pub head_read : (i k : ℕ) (z : ℤ) (ws : List Word) → head_of ws ≡ instruction k z → Read i k z ws
unfolding head_of
head_read i k z [] h = not-instruction k z h
head_read i k z (cut ∷ ws) h = not-instruction k z h
head_read i k z (whole w ∷ ws) h = coded-read i w k z ws (kind_coded w) refl h

-- no words
pub entries_none : (i : ℕ) (bs : List ℕ) → length bs ≡ 0 → decoded_words opcode i (words_of bs) ≡ []
unfolding decoded_words
entries_none i bs h = ap (decoded_words opcode i) (words-none bs h)

-- what is no instruction
pub head-unread : (i : ℕ) (ws : List Word) → 0 < length ws → head_of ws ≡ None → decoded_words opcode i ws ≡ unreadable i ∷ []
unfolding head_of head_coded with_argument decoded_words coded
head-unread i [] l h = absurd (omega arith)
head-unread i (cut ∷ ws) l h = refl
head-unread i (whole w ∷ ws) l h = go (kind_coded w) h
  where
    not-unread : {X : Type 0} (k : ℕ) (z : ℤ) → instruction k z ≡ None → X
    not-unread k z e = not-instruction k z (sym e)

    after-opcode : (j : ℕ) (vs : List Word) → with_argument j vs ≡ None → decoded_words (argument i j) (suc i) vs ≡ unreadable i ∷ []
    after-opcode j [] e = refl
    after-opcode j (cut ∷ vs) e = refl
    after-opcode j (whole v ∷ vs) e = not-unread j (signed word_bits v) e

    go : (p : Option ℕ) → head_coded ws p ≡ None → coded i (λ d. decoded_words d (suc i) ws) p ≡ unreadable i ∷ []
    go None e = refl
    go (Some j) e = by (has_argument (kind_at j).argument) e
      where
        by : (b : Bool) → cond b (with_argument j ws) (instruction j (pos 0)) ≡ None → cond b (decoded_words (argument i j) (suc i) ws) (item (item_of i j (pos 0)) ∷ decoded_words opcode (suc i) ws) ≡ unreadable i ∷ []
        by true q = after-opcode j ws q
        by false q = not-unread j (pos 0) q

-- ---- the bytes of an instruction that is read

-- an argument that is read has four bytes
argument-fits : (j k : ℕ) (z : ℤ) (bs : List ℕ) → with_argument j (words_of bs) ≡ instruction k z → 4 ≤ length bs
argument-fits j k z bs h = go (ltb (length bs) 4) refl
  where
    go : (b : Bool) → ltb (length bs) 4 ≡ b → 4 ≤ length bs
    go true e = not-instruction k z (sym (argument-short j bs (ltb-true _ _ e)) ∙ h)
    go false e = ltb-false _ _ e

pub head-fits : (k : ℕ) (z : ℤ) (bs : List ℕ) → head_of (words_of bs) ≡ instruction k z → 4 * size_of k ≤ length bs
unfolding head_coded
head-fits k z bs h = go (ltb (length bs) 4) refl
  where
    by-argument : 4 ≤ length bs → (j : ℕ) (b : Bool) → has_argument (kind_at j).argument ≡ b → cond b (with_argument j (words_of (drop 4 bs))) (instruction j (pos 0)) ≡ instruction k z → 4 * size_of k ≤ length bs
    by-argument l j true t q =
        let f : 4 ≤ length bs - 4 = rw length-drop at (argument-fits j k z (drop 4 bs) q) in
        let s = size_small k in
        omega arith
    by-argument l j false t q =
        let p : j ≡ k = (parts q).0 in
        let s = size-one k (ap (λ x. has_argument (kind_at x).argument) (sym p) ∙ t) in
        omega arith

    by_kind : 4 ≤ length bs → (p : Option ℕ) → head_coded (words_of (drop 4 bs)) p ≡ instruction k z → 4 * size_of k ≤ length bs
    by_kind l None q = not-instruction k z q
    by_kind l (Some j) q = by-argument l j (has_argument (kind_at j).argument) refl q

    go : (b : Bool) → ltb (length bs) 4 ≡ b → 4 * size_of k ≤ length bs
    go true e = not-instruction k z (sym (head-short bs (ltb-true _ _ e)) ∙ h)
    go false e = let l = ltb-false _ _ e in by_kind l (kind_coded (first_word_of bs)) (sym (head_first bs l) ∙ h)

-- bytes that are left are a word
pub words-some : (bs : List ℕ) → 0 < length bs → 0 < length (words_of bs)
unfolding words_of
words-some [] h = absurd (omega arith)
words-some (a ∷ []) h = omega arith
words-some (a ∷ b ∷ []) h = omega arith
words-some (a ∷ b ∷ c ∷ []) h = omega arith
words-some (a ∷ b ∷ c ∷ d ∷ bs) h = omega arith
