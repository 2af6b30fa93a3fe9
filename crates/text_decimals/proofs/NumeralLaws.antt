-- Laws of a number as the code reads it, digit by digit, up to a limit. Assumes nothing.
use Rattle.std.specs.Prelude.{None, Option, Some, ℤ}
use Prim.Native.Nat.{ℕ, zero, suc, ◌+◌, ◌-◌, ◌*◌, ◌<◌, ◌≤◌, min}
use mathlib.Core.Path.{◌≡◌, refl, sym, ap, subst, ◌∙◌}
use mathlib.Core.Bool.{Bool, true, false, cond}
use mathlib.Core.List.{List, [], ◌∷◌}
use native.Mathlib.Omega.{arith}
use lib.Dec.{eqb}
use lib.IntN.{pos, negsuc, neg_ℤ, ◌-ℤ◌, +ℤ_idl}
use lib.ListN.{length, get_or, take, drop, drop_of_length-le}
use lib.Seq.{drop-cons, take_all}
use mir.Syntax.{w64}
use mir.Val.{SFits, of_z, to_z}
use mir.ValLaws.{to_z-of_z}
use borrow.Author.Tests.{le-leb, lt-leb, eq-eqb, ne_eqb}
use Rattle.text_decimals.specs.Decimal.{is_digit, digits_from, natural, negative, numeral}
use Rattle.text_decimals.specs.HeldMagnitude.{most, clamp, clamped, held, to_numeral}

-- the steps: a byte below the digits, one above them, a digit, the end
module _ (v : ℕ) (s : List ℕ) (i : ℕ) where
  pub digits-below : i < length s → get_or s i 0 < 48 → held (digits_from v (drop i s)) ≡ None
  unfolding digits_from held
  digits-below h k = rw (drop-cons s i 0, lt-leb 48 (get_or s i 0) k) refl

  pub digits_above : i < length s → 48 ≤ get_or s i 0 → 57 < get_or s i 0 → held (digits_from v (drop i s)) ≡ None
  unfolding digits_from held
  digits_above h l k = rw (drop-cons s i 0, le-leb 48 (get_or s i 0) l, lt-leb (get_or s i 0) 57 k) refl

  pub digits-next : i < length s → 48 ≤ get_or s i 0 → get_or s i 0 ≤ 57 → digits_from v (drop i s) ≡ digits_from (v * 10 + (get_or s i 0 - 48)) (drop (suc i) s)
  unfolding digits_from
  digits-next h l k = rw (drop-cons s i 0, le-leb 48 (get_or s i 0) l, le-leb (get_or s i 0) 57 k) refl

  pub digits-end : length s ≤ i → v ≤ suc most → held (digits_from v (drop i s)) ≡ Some v
  unfolding digits_from held
  digits-end h k = rw (drop_of_length-le s h) (ap Some (omega arith))

-- what is held depends on what is up to the limit alone
pub held-digits : (ds : List ℕ) (v w : ℕ) → min (suc most) v ≡ min (suc most) w → held (digits_from v ds) ≡ held (digits_from w ds)
unfolding digits_from held
held-digits [] v w e = ap Some e
held-digits (d ∷ ds) v w e = go (is_digit d) refl (held-digits ds (v * 10 + (d - 48)) (w * 10 + (d - 48)) (omega arith))
  where
    go : (b : Bool) → is_digit d ≡ b → held (digits_from (v * 10 + (d - 48)) ds) ≡ held (digits_from (w * 10 + (d - 48)) ds) → held (digits_from v (d ∷ ds)) ≡ held (digits_from w (d ∷ ds))
    go true q ih = rw q ih
    go false q ih = rw q refl

-- a number with no minus, by its first byte
pub natural-none : (s : List ℕ) → length s ≡ 0 → held (natural s) ≡ None
unfolding natural held
natural-none [] h = refl
natural-none (x ∷ xs) h = absurd (omega arith)

pub natural-digits : (s : List ℕ) → (length s ≡ 0 → ⊥) → (get_or s 0 0 ≡ 48 → ⊥) → natural s ≡ digits_from 0 s
unfolding natural
natural-digits [] h n = absurd (h refl)
natural-digits (x ∷ xs) h n = rw (ne_eqb x 48 n) refl

pub natural-zero : (s : List ℕ) → length s ≡ 1 → get_or s 0 0 ≡ 48 → held (natural s) ≡ Some 0
unfolding natural held
natural-zero [] h e = absurd (omega arith)
natural-zero (x ∷ []) h e = rw (eq-eqb x 48 e) refl
natural-zero (x ∷ y ∷ ys) h e = absurd (omega arith)

pub natural-leading-zero : (s : List ℕ) → (length s ≡ 0 → ⊥) → (length s ≡ 1 → ⊥) → get_or s 0 0 ≡ 48 → held (natural s) ≡ None
unfolding natural held
natural-leading-zero [] k h e = absurd (k refl)
natural-leading-zero (x ∷ []) k h e = absurd (h refl)
natural-leading-zero (x ∷ y ∷ ys) k h e = rw (eq-eqb x 48 e) refl

-- what has no minus is no number below 0
data Unsigned : Option ℤ → Type 0 where
  none : Unsigned None
  some : (n : ℕ) → Unsigned (Some (pos n))

digits-unsigned : (v : ℕ) (ds : List ℕ) → Unsigned (digits_from v ds)
unfolding digits_from
digits-unsigned v [] = some v
digits-unsigned v (d ∷ ds) = go (is_digit d) (digits-unsigned (v * 10 + (d - 48)) ds)
  where
    go : (b : Bool) → Unsigned (digits_from (v * 10 + (d - 48)) ds) → Unsigned (cond b (digits_from (v * 10 + (d - 48)) ds) None)
    go true ih = ih
    go false ih = none

natural-unsigned : (s : List ℕ) → Unsigned (natural s)
unfolding natural
natural-unsigned [] = none
natural-unsigned (d ∷ []) = go (eqb d 48)
  where
    go : (b : Bool) → Unsigned (cond b (Some (pos 0)) (digits_from 0 (d ∷ [])))
    go true = some 0
    go false = digits-unsigned 0 (d ∷ [])
natural-unsigned (d ∷ x ∷ xs) = go (eqb d 48)
  where
    go : (b : Bool) → Unsigned (cond b None (digits_from 0 (d ∷ x ∷ xs)))
    go true = none
    go false = digits-unsigned 0 (d ∷ x ∷ xs)

-- what is held is enough for what the code answers
held-positive : {x : Option ℤ} → Unsigned x → clamped (to_numeral (held x)) ≡ clamped x
unfolding clamped clamp to_numeral held
held-positive none = refl
held-positive (some n) = ap (λ m. Some (pos m)) (omega arith)

held-negative : {x : Option ℤ} → Unsigned x → clamped (negative (to_numeral (held x))) ≡ clamped (negative x)
unfolding clamped clamp to_numeral held
held-negative none = refl
held-negative (some zero) = refl
held-negative (some (suc n)) =
    let e : min (suc most) (suc n) ≡ suc (min most n) = omega arith in
    ap (λ m. clamped (negative (Some (pos m)))) e ∙ ap (λ m. Some (negsuc m)) (omega arith)

-- a number by its first byte
pub numeral-none : (s : List ℕ) → length s ≡ 0 → clamped (numeral s) ≡ None
unfolding numeral clamped
numeral-none [] h = refl
numeral-none (x ∷ xs) h = absurd (omega arith)

pub numeral-positive : (s : List ℕ) → (length s ≡ 0 → ⊥) → (get_or s 0 0 ≡ 45 → ⊥) → clamped (to_numeral (held (natural s))) ≡ clamped (numeral s)
unfolding numeral
numeral-positive [] h n = absurd (h refl)
numeral-positive (x ∷ xs) h n = rw (ne_eqb x 45 n) (held-positive (natural-unsigned (x ∷ xs)))

pub numeral-negative : (s : List ℕ) → (length s ≡ 0 → ⊥) → get_or s 0 0 ≡ 45 → clamped (negative (to_numeral (held (natural (take (length s - 1) (drop 1 s)))))) ≡ clamped (numeral s)
unfolding numeral
numeral-negative [] h e = absurd (h refl)
numeral-negative (x ∷ xs) h e =
    rw (eq-eqb x 45 e) (ap (λ l. clamped (negative (to_numeral (held (natural l))))) (take_all (length (x ∷ xs) - 1) xs (omega arith)) ∙ held-negative (natural-unsigned xs))

-- the code's number, from its bits
pub natural-read : (n : ℕ) → n ≤ suc most → to_z w64 n ≡ pos n
natural-read n h = to_z-of_z w64 (pos n) (record { sfits = omega arith })

pub positive-read : (v n : ℕ) → n ≡ min most v → clamped (to_numeral (Some v)) ≡ Some (to_z w64 n)
unfolding clamped clamp to_numeral
positive-read v n e = ap Some (ap pos (sym e) ∙ sym (natural-read n (omega arith)))

minus-read : (n : ℕ) → n ≤ suc most → pos 0 -ℤ to_z w64 n ≡ neg_ℤ (pos n)
minus-read n h = ap (λ z. pos 0 -ℤ z) (natural-read n h) ∙ +ℤ_idl (neg_ℤ (pos n))

pub minus-fits : (n : ℕ) → n ≤ suc most → SFits w64 (pos 0 -ℤ to_z w64 n)
minus-fits n h = subst (SFits w64) (sym (minus-read n h)) (go n h)
  where
    go : (n : ℕ) → n ≤ suc most → SFits w64 (neg_ℤ (pos n))
    go zero h = record { sfits = omega arith }
    go (suc n) h = record { sfits = omega arith }

pub negative-zero : (v : ℕ) → v ≡ 0 → clamped (negative (to_numeral (Some v))) ≡ None
unfolding clamped to_numeral
negative-zero zero e = refl
negative-zero (suc v) e = absurd (omega arith)

pub negative-read : (v n : ℕ) → (v ≡ 0 → ⊥) → n ≡ min (suc most) v → clamped (negative (to_numeral (Some v))) ≡ Some (to_z w64 (of_z w64 (pos 0 -ℤ to_z w64 n)))
unfolding clamped clamp to_numeral
negative-read zero n h e = absurd (h refl)
negative-read (suc v) n h e =
    let m : n ≡ suc (min most v) = omega arith in
    ap Some (sym (to_z-of_z w64 (pos 0 -ℤ to_z w64 n) (minus-fits n (omega arith)) ∙ minus-read n (omega arith) ∙ ap (λ x. neg_ℤ (pos x)) m))
