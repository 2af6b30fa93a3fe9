-- Laws of offsets: where they lead, as the code tests it, and one turn of the pass over them. Assumes nothing.
use Rattle.std.specs.Prelude.{None, Option, Some}
use mathlib.Core.Path.{◌≡◌, refl, sym, ap, subst, ◌∙◌}
use mathlib.Core.Bool.{Bool, true, false, false≢true}
use mathlib.Core.List.{List, [], ◌∷◌}
use Prim.Native.Nat.{ℕ, suc, ◌+◌, ◌*◌, ◌<◌, ◌≤◌}
use native.Mathlib.Omega.{arith}
use lib.Dec.{T}
use lib.IntN.{ℤ, pos, negsuc, nat_abs}
use lib.ListN.{length, get_or, drop, get_or-eq_default}
use lib.Signed.{lt_z, non_neg}
use mir.Syntax.{w64}
use mir.Val.{Fits, SFits, of_z, to_z}
use mir.ValLaws.{to_z-of_z}
use borrow.Author.Tests.{ltb-true}
use Rattle.instructions.specs.declared.Argument.{Argument}
use Rattle.instructions.specs.declared.Argument.TheVariants.{Absent, Target, Primitive, Within}
use Rattle.instructions.specs.Kinds.{kind_at}
use Rattle.instructions.proofs.ColumnLaws.{get_d_any}
use Rattle.words.specs.Words.{Word}
use Rattle.words.specs.Decoding.{Item, item_of, opcode, decoded_words, decoded, items, fault_from, word_fault, landing, number_at, is_found, lands, offset_fault, or_offsets, code_fault, size_of}
use Rattle.words.specs.Held.{head_of, Readable, number_held, number_in, Numbered, lands_in}
use Rattle.words.proofs.HeadLaws.{Read, size_small}
use Rattle.words.proofs.FaultLaws.{fault-unread}
use Rattle.words.proofs.NumberingLaws.{sound-read}

-- ---- the number at an index

pub number-negative : (t : List ℕ) (z : ℤ) → lt_z z (pos 0) ≡ true → number_in t z ≡ None
unfolding number_in
number-negative t (pos n) e = let h : n < 0 = ltb-true n 0 e in absurd (omega arith)
number-negative t (negsuc n) e = refl

-- an index in 64 bits
pub index-fits : (z : ℤ) → SFits w64 z → Fits w64 (nat_abs (to_z w64 (of_z w64 z)))
index-fits z h = subst (λ x. Fits w64 (nat_abs x)) (sym (to_z-of_z w64 z h)) (go z h)
  where
    go : (z : ℤ) → SFits w64 z → Fits w64 (nat_abs z)
    go (pos n) h = let k = h.sfits in record { fits = omega arith }
    go (negsuc n) h = let k = h.sfits in record { fits = omega arith }

-- an index from 0 on
pub record Natural (t : List ℕ) (z : ℤ) : Type 0 where
  pub natural : T (non_neg z)
  pub past : length t ≤ nat_abs z → number_in t z ≡ None
  pub number : nat_abs z < length t → number_in t z ≡ number_held (get_or t (nat_abs z) 0)

pub index-natural : (t : List ℕ) (z : ℤ) → lt_z z (pos 0) ≡ false → Natural t z
unfolding number_in
index-natural t (pos n) e = record {
  natural = tt;
  past = λ h. ap number_held (get_or-eq_default t 1024 {n = n} h);
  number = λ h. ap number_held (get_d_any t n 1024 0 h);
}
index-natural t (negsuc n) e = absurd (false≢true (sym e))

-- the table stands for the instructions
pub number-in : {xs : List Item} {t : List ℕ} → Numbered xs t → (z : ℤ) → number_in t z ≡ number_at xs z
unfolding number_in number_at
number-in d (pos n) = d.at_index n
number-in d (negsuc n) = refl

pub lands-in : {xs : List Item} {t : List ℕ} → Numbered xs t → (x : Item) (a : Argument) → lands_in t (landing x) a ≡ lands xs x a
unfolding lands_in lands
lands-in d x Absent = refl
lands-in d x Target = ap is_found (number-in d (landing x))
lands-in d x Primitive = refl
lands-in d x (Within r) = refl

-- a target, as the code looks it up
pub target-lands : (t : List ℕ) {x y z : ℤ} {p : Option ℕ} {b : Bool} {a : Argument} → x ≡ z → y ≡ x → p ≡ number_in t y → b ≡ is_found p → a ≡ Target → b ≡ lands_in t z a
unfolding lands_in
target-lands t {x} {y} {z} {p} {b} {a} e f g h k = h ∙ ap is_found (g ∙ ap (number_in t) (f ∙ e)) ∙ rw k refl

-- ---- the words ahead, where none but offsets are at fault

-- `before` instructions stand before index i
pub record Ahead (i : ℕ) (ws : List Word) : Type 0 where
  pub listed : ℕ
  pub before : ℕ
  pub sound : fault_from listed before (decoded_words opcode i ws) ≡ None
  pub near : i ≤ 2 * before

pub ahead-starts : {ws : List Word} → Readable ws → Ahead 0 ws
unfolding decoded
ahead-starts r = record { listed = r.listed; before = 0; sound = r.sound; near = omega arith }

module _ {i : ℕ} {ws : List Word} (a : Ahead i ws) where
  pub ahead-reads : {X : Type 0} → 0 < length ws → head_of ws ≡ None → X
  ahead-reads l h =
      let e = sym a.sound ∙ fault-unread a.listed a.before i ws l h in
      let x : ◌≡◌ {A = ℕ} 0 1 = cc in
      absurd (omega arith)

  module _ {k : ℕ} {z : ℤ} (r : Read i k z ws) where
    pub ahead-room : i < 2048
    ahead-room = let q = (sound-read a.listed a.before i k z ws r a.sound).0 in let m = a.near in omega arith

    pub ahead-next : {size : ℕ} → size ≡ size_of k → {vs : List Word} → vs ≡ drop (size_of k) ws → Ahead (i + size) vs
    ahead-next {size} p {vs} q =
        let o = sound-read a.listed a.before i k z ws r a.sound in
        let m = a.near in
        let d = size_small k in
        rw (p, q) (record { listed = a.listed; before = suc a.before; sound = o.1; near = omega arith })

-- ---- one turn of the pass

module _ (xs : List Item) {i k : ℕ} {z : ℤ} {ws : List Word} (r : Read i k z ws) where
  pub offset-here : lands xs (item_of i k z) (kind_at k).argument ≡ false → offset_fault xs (items (decoded_words opcode i ws)) ≡ Some (suc i)
  unfolding items offset_fault
  offset-here e = ap (λ es. offset_fault xs (items es)) r.first ∙ rw e refl

  pub offset-next : lands xs (item_of i k z) (kind_at k).argument ≡ true → {size : ℕ} → size ≡ size_of k → {vs : List Word} → vs ≡ drop (size_of k) ws
      → offset_fault xs (items (decoded_words opcode i ws)) ≡ offset_fault xs (items (decoded_words opcode (i + size) vs))
  unfolding items offset_fault
  offset-next e p q = ap (λ es. offset_fault xs (items es)) r.first ∙ rw e (rw (p, q) refl)

pub offset-none : (xs : List Item) (i : ℕ) (ws : List Word) → decoded_words opcode i ws ≡ [] → offset_fault xs (items (decoded_words opcode i ws)) ≡ None
unfolding items offset_fault
offset-none xs i ws e = ap (λ es. offset_fault xs (items es)) e

-- ---- both passes

-- words with no fault in the first pass are readable
pub readable_of : (n : ℕ) (ws : List Word) → word_fault n ws ≡ None → Readable ws
unfolding word_fault
readable_of n [] e = let x : ◌≡◌ {A = ℕ} 0 1 = cc in absurd (omega arith)
readable_of n (w ∷ ws) e = record { listed = n; sound = e }

pub fault-first : (n i : ℕ) (ws : List Word) → word_fault n ws ≡ Some i → code_fault n ws ≡ Some i
unfolding code_fault or_offsets
fault-first n i ws e = ap (λ p. or_offsets p (items (decoded ws))) e

pub fault-then : (n : ℕ) (ws : List Word) → word_fault n ws ≡ None → code_fault n ws ≡ offset_fault (items (decoded ws)) (items (decoded ws))
unfolding code_fault or_offsets
fault-then n ws e = ap (λ p. or_offsets p (items (decoded ws))) e
