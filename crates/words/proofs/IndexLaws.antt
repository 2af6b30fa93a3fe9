-- Laws of the indices of instructions: each takes two words at most, so that a word at fault stands at 2,048 at most; and what is known of
-- every instruction. Assumes nothing.
use Rattle.std.specs.Prelude.{None, Option, Some}
use mathlib.Core.Path.{◌≡◌, refl, ap, ◌∙◌}
use mathlib.Core.Bool.{Bool, true, false, cond}
use mathlib.Core.List.{List, [], ◌∷◌}
use Prim.Native.Nat.{ℕ, suc, ◌+◌, ◌*◌, ◌<◌, ◌≤◌}
use native.Mathlib.Omega.{arith}
use lib.Dec.{ltb}
use lib.IntN.{pos}
use lib.ListN.{length}
use mir.Syntax.{w32}
use mir.Val.{SFits}
use borrow.Author.Tests.{ltb-true}
use Rattle.instructions.specs.Kinds.{kind_at}
use Rattle.instructions.specs.Opcodes.{kind_coded}
use Rattle.instructions.proofs.OpcodeLaws.{opcode-of-kind}
use Rattle.words.specs.Words.{Word, whole, cut}
use Rattle.words.specs.Decoding.{Item, item_of, has_argument, Decoded, item, unreadable, Due, opcode, argument, coded, decoded_words, decoded, items, call_listed, fault_from, word_fault, lands, offset_fault, or_offsets, code_fault}
use Rattle.numbers.proofs.ResidueLaws.{signed-fits}
use Rattle.words.proofs.FaultLaws.{sound-item}
use Rattle.words.proofs.OffsetLaws.{readable_of}

-- entries before which c instructions stand: each at an index of at most two for each instruction before it, of a kind of the table, with an
-- argument that fits a word
pub data Spaced : ℕ → List Decoded → Type 0 where
  none : {c : ℕ} → Spaced c []
  unread : {c i : ℕ} {es : List Decoded} → i ≤ 2 * c → Spaced c (unreadable i ∷ es)
  next : {c : ℕ} {x : Item} {es : List Decoded} → x.index ≤ 2 * c → x.kind < 61 → SFits w32 x.argument → Spaced (suc c) es → Spaced c (item x ∷ es)

-- where the next word begins an instruction, and where it is the argument of kind k
abbrev DueAt : ℕ → ℕ → Due → Type 0
DueAt c i opcode = i ≤ 2 * c
DueAt c i (argument j k) = (j ≤ 2 * c) × (i ≡ suc j) × (k < 61)

-- an opcode at i, where f gives what follows
coded-spaced : (c i w : ℕ) (f : Due → List Decoded) → i ≤ 2 * c → ((k : ℕ) → k < 61 → Spaced c (f (argument i k))) → Spaced (suc c) (f opcode) → Spaced c (coded i f (kind_coded w))
unfolding coded
coded-spaced c i w f h with-argument after = kind (kind_coded w) refl
  where
    known : (k : ℕ) → k < 61 → (b : Bool) → Spaced c (cond b (f (argument i k)) (item (item_of i k (pos 0)) ∷ f opcode))
    known k l true = with-argument k l
    known k l false = next {x = item_of i k (pos 0)} h l (record { sfits = omega arith }) after

    kind : (p : Option ℕ) → kind_coded w ≡ p → Spaced c (coded i f p)
    kind None e = unread h
    kind (Some k) e = known k (opcode-of-kind w k e).0 (has_argument (kind_at k).argument)

words-spaced : (c : ℕ) (d : Due) (i : ℕ) (ws : List Word) → DueAt c i d → Spaced c (decoded_words d i ws)
unfolding decoded_words
words-spaced c opcode i [] h = none
words-spaced c opcode i (cut ∷ ws) h = unread h
words-spaced c opcode i (whole w ∷ ws) h =
    coded-spaced c i w (λ d. decoded_words d (suc i) ws) h (λ k l. words-spaced c (argument i k) (suc i) ws (h, refl, l)) (words-spaced (suc c) opcode (suc i) ws (omega arith))
words-spaced c (argument j k) i [] h = unread h.0
words-spaced c (argument j k) i (cut ∷ ws) h = unread h.0
words-spaced c (argument j k) i (whole w ∷ ws) h =
    next h.0 h.2 (signed-fits w) (words-spaced (suc c) opcode (suc i) ws (omega (arith, h.0, h.1)))

pub decoded-spaced : (ws : List Word) → Spaced 0 (decoded ws)
unfolding decoded
decoded-spaced ws = words-spaced 0 opcode 0 ws (omega arith)

-- ---- the word at fault

fault-near : (n c : ℕ) (es : List Decoded) → Spaced c es → c ≤ 1024 → (p : ℕ) → fault_from n c es ≡ Some p → p ≤ 2048
unfolding fault_from
fault-near n c [] none h p e = let z : ◌≡◌ {A = ℕ} 0 1 = cc in absurd (omega arith)
fault-near n c (unreadable i ∷ es) (unread l) h p e = let q : i ≡ p = cc in omega arith
fault-near n c (item x ∷ es) (next l k m s) h p e = first (ltb c 1024) refl e (fault-near n (suc c) es s)
  where
    second : c < 1024 → (b : Bool) → cond b (fault_from n (suc c) es) (Some (suc x.index)) ≡ Some p → (suc c ≤ 1024 → (p : ℕ) → fault_from n (suc c) es ≡ Some p → p ≤ 2048) → p ≤ 2048
    second g true e ih = ih g p e
    second g false e ih = let q : suc x.index ≡ p = cc in omega arith

    first : (b : Bool) → ltb c 1024 ≡ b → cond b (cond (call_listed n x.argument (kind_at x.kind).argument) (fault_from n (suc c) es) (Some (suc x.index))) (Some x.index) ≡ Some p
        → (suc c ≤ 1024 → (p : ℕ) → fault_from n (suc c) es ≡ Some p → p ≤ 2048) → p ≤ 2048
    first true g e ih = second (ltb-true c 1024 g) (call_listed n x.argument (kind_at x.kind).argument) e ih
    first false g e ih = let q : x.index ≡ p = cc in omega arith

offset_near : (n c : ℕ) (es : List Decoded) → Spaced c es → fault_from n c es ≡ None → (xs : List Item) (p : ℕ) → offset_fault xs (items es) ≡ Some p → p ≤ 2048
unfolding items offset_fault fault_from
offset_near n c [] none f xs p e = let z : ◌≡◌ {A = ℕ} 0 1 = cc in absurd (omega arith)
offset_near n c (unreadable i ∷ es) (unread l) f xs p e = let z : ◌≡◌ {A = ℕ} 0 1 = cc in absurd (omega arith)
offset_near n c (item x ∷ es) (next l k m s) f xs p e = let r = sound-item n c x es f in go r.0 (lands xs x (kind_at x.kind).argument) e (offset_near n (suc c) es s r.1 xs p)
  where
    go : c < 1024 → (b : Bool) → cond b (offset_fault xs (items es)) (Some (suc x.index)) ≡ Some p → (offset_fault xs (items es) ≡ Some p → p ≤ 2048) → p ≤ 2048
    go g true e ih = ih e
    go g false e ih = let q : suc x.index ≡ p = cc in omega arith

word-near : (n : ℕ) (ws : List Word) (p : ℕ) → word_fault n ws ≡ Some p → p ≤ 2048
unfolding word_fault
word-near n [] p e = let q : 0 ≡ p = cc in omega arith
word-near n (w ∷ ws) p e = fault-near n 0 (decoded (w ∷ ws)) (decoded-spaced (w ∷ ws)) (omega arith) p e

-- 1,024 instructions of two words stand before the earliest word at fault at most
pub code-fault-near : (n : ℕ) (ws : List Word) (p : ℕ) → code_fault n ws ≡ Some p → p ≤ 2048
unfolding code_fault or_offsets
code-fault-near n ws p = go (word_fault n ws) refl
  where
    go : (f : Option ℕ) → word_fault n ws ≡ f → or_offsets f (items (decoded ws)) ≡ Some p → p ≤ 2048
    go (Some i) q e = let h : i ≡ p = cc in word-near n ws p (q ∙ ap Some h)
    go None q e = let r = readable_of n ws q in offset_near r.listed 0 (decoded ws) (decoded-spaced ws) r.sound (items (decoded ws)) p e

-- ---- how many instructions

pub items-few : (n c : ℕ) (es : List Decoded) → fault_from n c es ≡ None → c ≤ 1024 → c + length (items es) ≤ 1024
unfolding items fault_from
items-few n c [] e h = omega arith
items-few n c (unreadable i ∷ es) e h = let z : ◌≡◌ {A = ℕ} 0 1 = cc in absurd (omega arith)
items-few n c (item x ∷ es) e h = let r = sound-item n c x es e in omega (arith, items-few n (suc c) es r.1 r.0)
