-- Laws of the pass that looks for a fault, offsets aside: one turn, by the instruction at the head. Assumes nothing.
use Rattle.std.specs.Prelude.{None, Some}
use mathlib.Core.Path.{◌≡◌, refl, ap, ◌∙◌}
use mathlib.Core.Bool.{Bool, true, false, cond}
use mathlib.Core.List.{List, [], ◌∷◌}
use Prim.Native.Nat.{ℕ, suc, ◌+◌, ◌<◌, ◌≤◌}
use native.Mathlib.Omega.{arith}
use native.Mathlib.Numerals.{add-one}
use lib.IntN.{ℤ}
use lib.ListN.{length, drop}
use lib.Dec.{ltb}
use borrow.Author.Tests.{lt-ltb, le-ltb, ltb-true}
use Rattle.instructions.specs.Kinds.{kind_at}
use Rattle.words.specs.Words.{Word, words_of}
use Rattle.words.specs.Decoding.{Item, opcode, Decoded, item, decoded_words, decoded, call_listed, fault_from, word_fault, size_of}
use Rattle.words.specs.Held.{head_of}
use Rattle.words.proofs.HeadLaws.{Read, head-unread, words-some}
use Rattle.words.proofs.WordLaws.{words-none}

-- no word at all
pub fault-empty : (n : ℕ) (bs : List ℕ) → length bs ≡ 0 → word_fault n (words_of bs) ≡ Some 0
unfolding word_fault
fault-empty n bs h = ap (word_fault n) (words-none bs h)

pub fault-starts : (n : ℕ) (bs : List ℕ) → 0 < length bs → word_fault n (words_of bs) ≡ fault_from n 0 (decoded_words opcode 0 (words_of bs))
unfolding word_fault decoded
fault-starts n bs h = go (words_of bs) (words-some bs h)
  where
    go : (ws : List Word) → 0 < length ws → word_fault n ws ≡ fault_from n 0 (decoded_words opcode 0 ws)
    go [] k = absurd (omega arith)
    go (w ∷ ws) k = refl

pub fault-none : (n c i : ℕ) (bs : List ℕ) → length bs ≡ 0 → fault_from n c (decoded_words opcode i (words_of bs)) ≡ None
unfolding decoded_words fault_from
fault-none n c i bs h = rw (words-none bs h) refl

pub fault-unread : (n c i : ℕ) (ws : List Word) → 0 < length ws → head_of ws ≡ None → fault_from n c (decoded_words opcode i ws) ≡ Some i
unfolding fault_from
fault-unread n c i ws l h = ap (fault_from n c) (head-unread i ws l h)

-- an instruction with no fault, and those after it
pub sound-item : (n c : ℕ) (x : Item) (es : List Decoded) → fault_from n c (item x ∷ es) ≡ None → (c < 1024) × (fault_from n (suc c) es ≡ None)
unfolding fault_from
sound-item n c x es e = first (ltb c 1024) refl e
  where
    second : (b : Bool) → cond b (fault_from n (suc c) es) (Some (suc x.index)) ≡ None → fault_from n (suc c) es ≡ None
    second true q = q
    second false q = let z : ◌≡◌ {A = ℕ} 0 1 = cc in absurd (omega arith)

    first : (b : Bool) → ltb c 1024 ≡ b → cond b (cond (call_listed n x.argument (kind_at x.kind).argument) (fault_from n (suc c) es) (Some (suc x.index))) (Some x.index) ≡ None → (c < 1024) × (fault_from n (suc c) es ≡ None)
    first true l q = (ltb-true c 1024 l, second (call_listed n x.argument (kind_at x.kind).argument) q)
    first false l q = let z : ◌≡◌ {A = ℕ} 0 1 = cc in absurd (omega arith)

module _ (n c : ℕ) {i k : ℕ} {z : ℤ} {ws : List Word} (r : Read i k z ws) where
  pub fault-many : 1024 ≤ c → fault_from n c (decoded_words opcode i ws) ≡ Some i
  unfolding fault_from
  fault-many h = ap (fault_from n c) r.first ∙ rw (le-ltb c 1024 h) refl

  pub fault-call : c < 1024 → call_listed n z (kind_at k).argument ≡ false → fault_from n c (decoded_words opcode i ws) ≡ Some (suc i)
  unfolding fault_from
  fault-call h e = ap (fault_from n c) r.first ∙ rw (lt-ltb c 1024 h, e) refl

  -- the words vs follow, and the size is s
  pub fault-next : c < 1024 → call_listed n z (kind_at k).argument ≡ true → {s : ℕ} → s ≡ size_of k → {vs : List Word} → vs ≡ drop (size_of k) ws
      → fault_from n c (decoded_words opcode i ws) ≡ fault_from n (c + 1) (decoded_words opcode (i + s) vs)
  unfolding fault_from
  fault-next h e {s} p {vs} q = ap (fault_from n c) r.first ∙ rw (lt-ltb c 1024 h, e) (rw (p, q, add-one c) refl)
