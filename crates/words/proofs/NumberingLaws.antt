-- Laws of the table that holds for each index the number of the instruction whose opcode stands there: how it is filled. Assumes nothing.
use Rattle.std.specs.Prelude.{None, Option, Some}
use mathlib.Core.Path.{◌≡◌, refl, sym, ap, ◌∙◌}
use mathlib.Core.Bool.{Bool, true, false, cond}
use mathlib.Core.List.{List, [], ◌∷◌, map}
use Prim.Native.Nat.{ℕ, zero, suc, ◌+◌, ◌*◌, ◌<◌, ◌≤◌}
use native.Mathlib.Omega.{arith}
use native.Mathlib.Numerals.{add-one}
use lib.Dec.{ltb, eqb}
use lib.IntN.{ℤ}
use lib.ListN.{length, get_or, set, drop, replicate, length-set}
use lib.Seq.{get_or-set_same, get_or-set_other}
use borrow.Author.Tests.{lt-ltb, eqb-true, eqb-false}
use Rattle.instructions.specs.Opcodes.{place_from}
use Rattle.words.specs.Words.{Word}
use Rattle.words.specs.Decoding.{item_of, opcode, decoded_words, decoded, items, fault_from, size_of}
use Rattle.words.specs.Held.{head_of, Readable, Numbered}
use Rattle.words.proofs.HeadLaws.{Read, size_small}
use Rattle.words.proofs.FaultLaws.{fault-unread, sound-item}

-- the indices of the instructions from index i on
abbrev indices : ℕ → List Word → List ℕ
indices i ws = map (λ x. x.index) (items (decoded_words opcode i ws))

-- what the table holds, or else what is still to be found
abbrev held_or : ℕ → Option ℕ → Option ℕ
held_or v p = cond (ltb v 1024) (Some v) p

-- the table t once the instructions before index i, c of them, are entered, where those of the words ws are left of those of `all`
pub record Numbering (all : List Word) (t : List ℕ) (i c : ℕ) (ws : List Word) : Type 0 where
  pub listed : ℕ
  pub sound : fault_from listed c (decoded_words opcode i ws) ≡ None
  pub near : i ≤ 2 * c
  pub few : c ≤ 1024
  pub long : length t ≡ 2048
  pub free : (n : ℕ) → i ≤ n → get_or t n 1024 ≡ 1024
  pub held : (n : ℕ) → held_or (get_or t n 1024) (place_from c n (indices i ws)) ≡ place_from 0 n (indices 0 all)

free-at : (m n a : ℕ) → get_or (replicate m a) n a ≡ a
free-at zero n a = refl
free-at (suc m) zero a = refl
free-at (suc m) (suc n) a = free-at m n a

pub numbering-starts : (ws : List Word) (t : List ℕ) → Readable ws → t ≡ replicate 2048 1024 → length t ≡ 2048 → Numbering ws t 0 0 ws
unfolding decoded
numbering-starts ws t r e l = record {
  listed = r.listed;
  sound = r.sound;
  near = omega arith;
  few = omega arith;
  long = l;
  free = λ n h. rw e (free-at 2048 n 1024);
  held = λ n. let f : get_or t n 1024 ≡ 1024 = rw e (free-at 2048 n 1024) in ap (λ v. held_or v (place_from 0 n (indices 0 ws))) f;
}

-- what is read next
pub sound-read : (n c i k : ℕ) (z : ℤ) (ws : List Word) → Read i k z ws → fault_from n c (decoded_words opcode i ws) ≡ None
    → (c < 1024) × (fault_from n (suc c) (decoded_words opcode (i + size_of k) (drop (size_of k) ws)) ≡ None)
sound-read n c i k z ws r e = sound-item n c (item_of i k z) (decoded_words opcode (i + size_of k) (drop (size_of k) ws)) (sym (ap (fault_from n c) r.first) ∙ e)

module _ {all : List Word} {t : List ℕ} {i c : ℕ} {ws : List Word} (s : Numbering all t i c ws) where
  -- what is no instruction is not there
  pub numbering-reads : {X : Type 0} → 0 < length ws → head_of ws ≡ None → X
  numbering-reads l h =
      let e = sym s.sound ∙ fault-unread s.listed c i ws l h in
      let x : ◌≡◌ {A = ℕ} 0 1 = cc in
      absurd (omega arith)

  -- at the end
  pub numbering-ends : decoded_words opcode i ws ≡ [] → Numbered (items (decoded all)) t
  unfolding decoded items place_from
  numbering-ends e = record { at_index = λ n. sym (ap (λ es. held_or (get_or t n 1024) (place_from c n (map (λ x. x.index) (items es)))) e) ∙ s.held n }

  module _ {k : ℕ} {z : ℤ} (r : Read i k z ws) where
    pub numbering-room : (c < 1024) × (i < 2048)
    numbering-room =
        let q = (sound-read s.listed c i k z ws r s.sound).0 in
        let m = s.near in
        (q, omega arith)

    next-index : indices i ws ≡ i ∷ indices (i + size_of k) (drop (size_of k) ws)
    unfolding items
    next-index = ap (λ es. map (λ x. x.index) (items es)) r.first

    held_next : (n : ℕ) (b : Bool) → eqb n i ≡ b → held_or (get_or (set t i c) n 1024) (place_from (suc c) n (indices (i + size_of k) (drop (size_of k) ws))) ≡ held_or (get_or t n 1024) (place_from c n (indices i ws))
    unfolding place_from
    held_next n true q =
        let e : n ≡ i = eqb-true n i q in
        let room = numbering-room in
        let l = s.long in
        let u : get_or (set t i c) n 1024 ≡ c = rw e (get_or-set_same t i c 1024 (omega arith)) in
        let v : get_or t n 1024 ≡ 1024 = s.free n (omega arith) in
        rw (u, v, next-index, q, lt-ltb c 1024 room.0) refl
    held_next n false q =
        let u : get_or (set t i c) n 1024 ≡ get_or t n 1024 = get_or-set_other t i n c 1024 (eqb-false n i q) in
        rw (u, next-index, q) refl

    -- one instruction more, of the size `size`, where the words vs follow
    pub numbering-next : {size : ℕ} → size ≡ size_of k → {vs : List Word} → vs ≡ drop (size_of k) ws → Numbering all (set t i c) (i + size) (c + 1) vs
    numbering-next {size} p {vs} q =
        let o = sound-read s.listed c i k z ws r s.sound in
        let m = s.near in
        let d = size_small k in
        rw (p, q, add-one c)
        (record {
          listed = s.listed;
          sound = o.1;
          near = omega arith;
          few = let w = o.0 in omega arith;
          long = rw length-set s.long;
          free = λ n h. get_or-set_other t i n c 1024 (λ e. absurd (omega arith)) ∙ s.free n (omega arith);
          held = λ n. held_next n (eqb n i) refl ∙ s.held n;
        })
