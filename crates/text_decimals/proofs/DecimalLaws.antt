-- Laws of decimal numbers: reading a number that was written gives it back, a number has no more digits than its size allows, and a
-- correctly spelt number is ASCII. Assumes nothing.
use Rattle.std.specs.Prelude.{None, Option, Some}
use mathlib.Core.Path.{◌≡◌, refl, ap, ◌∙◌}
use mathlib.Core.Bool.{Bool, true, false, cond}
use mathlib.Core.List.{List, [], ◌∷◌, ◌++◌}
use Prim.Native.Nat.{ℕ, zero, suc, ◌+◌, ◌-◌, ◌*◌, ◌/◌, ◌%◌, ◌^◌, ◌<◌, ◌≤◌}
use native.Mathlib.Nat.{pow-suc}
use native.Mathlib.Omega.{arith}
use lib.Dec.{eqb, leb, ltb}
use lib.IntN.{ℤ, pos}
use lib.ListN.{length, length-append}
use borrow.Author.Tests.{le-leb, leb-true, lt-ltb, le-ltb, ltb-true, ltb-false, eqb-true, ne_eqb}
use Rattle.text_decimals.specs.Decimal.{is_digit, digits_from, natural, negative, numeral, digits, decimal}
use Rattle.text.proofs.TextLaws.{cond-right, Every, none, more, every_append}

-- the text of n: its only digit, or the text of what stands before the last digit and that digit
data Written : ℕ → List ℕ → Type 0 where
  only : {n : ℕ} → n < 10 → Written n ((48 + n) ∷ [])
  last : {n : ℕ} {ds : List ℕ} → 10 ≤ n → Written (n / 10) ds → Written n (ds ++ ((48 + n % 10) ∷ []))

digits-written : (fuel n : ℕ) (b : Bool) → n < fuel → ltb n 10 ≡ b → Written n (digits fuel b n)
unfolding digits
digits-written zero n b h e = absurd (omega arith)
digits-written (suc fuel) n true h e = only (ltb-true n 10 e)
digits-written (suc fuel) n false h e =
    let l = ltb-false n 10 e in
    last l (digits-written fuel (n / 10) (ltb (n / 10) 10) (omega arith) refl)

written : (n : ℕ) → Written n (decimal n)
unfolding decimal
written n = digits-written (suc n) n (ltb n 10) (omega arith) refl

-- a decimal number by its last digit
digits-fuel : (f g n : ℕ) (b : Bool) → n < f → n < g → ltb n 10 ≡ b → digits f b n ≡ digits g b n
unfolding digits
digits-fuel zero g n b h k e = absurd (omega arith)
digits-fuel (suc f) zero n b h k e = absurd (omega arith)
digits-fuel (suc f) (suc g) n true h k e = refl
digits-fuel (suc f) (suc g) n false h k e =
    let l = ltb-false n 10 e in
    ap (λ ds. ds ++ ((48 + n % 10) ∷ [])) (digits-fuel f g (n / 10) (ltb (n / 10) 10) (omega arith) (omega arith) refl)

pub decimal-one : (n : ℕ) → n < 10 → decimal n ≡ (48 + n) ∷ []
unfolding decimal digits
decimal-one n h = ap (λ b. digits (suc n) b n) (lt-ltb n 10 h)

pub decimal-more : (n : ℕ) → 10 ≤ n → decimal n ≡ decimal (n / 10) ++ ((48 + n % 10) ∷ [])
unfolding decimal digits
decimal-more n h =
    ap (λ b. digits (suc n) b n) (le-ltb n 10 h)
    ∙ ap (λ ds. ds ++ ((48 + n % 10) ∷ [])) (digits-fuel n (suc (n / 10)) (n / 10) (ltb (n / 10) 10) (omega arith) (omega arith) refl)

pub decimal-length-one : (n : ℕ) → n < 10 → length (decimal n) ≡ 1
decimal-length-one n h = ap length (decimal-one n h)

pub decimal-length-more : (n : ℕ) → 10 ≤ n → length (decimal n) ≡ length (decimal (n / 10)) + 1
decimal-length-more n h = ap length (decimal-more n h) ∙ length-append (decimal (n / 10)) ((48 + n % 10) ∷ [])

digit : (n : ℕ) → n < 10 → is_digit (48 + n) ≡ true
digit n h = rw (le-leb 48 (48 + n) (omega arith), le-leb (48 + n) 57 (omega arith)) refl

pub digit-ascii : (d : ℕ) → is_digit d ≡ true → d < 128
digit-ascii d e = let h = leb-true d 57 (cond-right (leb 48 d) (leb d 57) e) in omega arith

written-digits : {n : ℕ} {ds : List ℕ} → Written n ds → Every (λ d. is_digit d ≡ true) ds
written-digits (only {n} h) = more (digit n h) none
written-digits (last {n} h w) = every_append (written-digits w) (more (digit (n % 10) (omega arith)) none)

pub decimal-digits : (n : ℕ) → Every (λ d. is_digit d ≡ true) (decimal n)
decimal-digits n = written-digits (written n)

written-length : (k : ℕ) {n : ℕ} {ds : List ℕ} → n < 10 ^ k → 1 ≤ k → Written n ds → length ds ≤ k
written-length k b p (only h) = omega arith
written-length zero b p (last h w) = absurd (omega arith)
written-length (suc zero) b p (last h w) = absurd (omega arith)
written-length (suc (suc k)) b p (last h w) =
    let l = written-length (suc k) (omega (arith, pow-suc 10 (suc k))) (omega arith) w in
    rw length-append (omega arith)

pub decimal-length : (k n : ℕ) → n < 10 ^ k → 1 ≤ k → length (decimal n) ≤ k
decimal-length k n h p = written-length k h p (written n)

-- a word that is misspelt is no number
not-spelt : {X : Type 0} (z : ℤ) → None ≡ Some z → X
not-spelt z e = let q : ◌≡◌ {A = ℕ} 0 1 = cc in absurd (omega arith)

-- one digit more
digits_last : (v u d : ℕ) (ds : List ℕ) → is_digit d ≡ true → digits_from v ds ≡ Some (pos u) → digits_from v (ds ++ (d ∷ [])) ≡ Some (pos (u * 10 + (d - 48)))
unfolding digits_from
digits_last v u d [] k e = let q : v ≡ u = cc in rw (k, q) refl
digits_last v u d (x ∷ xs) k e = go (is_digit x) e (digits_last (v * 10 + (x - 48)) u d xs k)
  where
    go : (b : Bool) → cond b (digits_from (v * 10 + (x - 48)) xs) None ≡ Some (pos u)
        → (digits_from (v * 10 + (x - 48)) xs ≡ Some (pos u) → digits_from (v * 10 + (x - 48)) (xs ++ (d ∷ [])) ≡ Some (pos (u * 10 + (d - 48))))
        → cond b (digits_from (v * 10 + (x - 48)) (xs ++ (d ∷ []))) None ≡ Some (pos (u * 10 + (d - 48)))
    go true q ih = ih q
    go false q ih = not-spelt (pos u) q

written_read : {n : ℕ} {ds : List ℕ} → Written n ds → digits_from 0 ds ≡ Some (pos n)
unfolding digits_from
written_read (only {n} h) = rw (digit n h) (ap (λ m. Some (pos m)) (omega arith))
written_read (last {n} {ds} h w) =
    digits_last 0 (n / 10) (48 + n % 10) ds (digit (n % 10) (omega arith)) (written_read w) ∙ ap (λ m. Some (pos m)) (omega arith)

-- the first digit is not 0, and no minus
data Leads : List ℕ → Type 0 where
  leads : {d : ℕ} {ds : List ℕ} → 49 ≤ d → Leads (d ∷ ds)

leads-append : {ds : List ℕ} (es : List ℕ) → Leads ds → Leads (ds ++ es)
leads-append es (leads h) = leads h

written-leads : {n : ℕ} {ds : List ℕ} → 1 ≤ n → Written n ds → Leads ds
written-leads p (only {n} h) = leads {d = 48 + n} (omega arith)
written-leads p (last {n} h w) = leads-append ((48 + n % 10) ∷ []) (written-leads (omega arith) w)

leads-numeral : {ds : List ℕ} → Leads ds → numeral ds ≡ digits_from 0 ds
unfolding numeral natural
leads-numeral (leads {d} h) = rw (ne_eqb d 45 (omega arith), ne_eqb d 48 (omega arith)) refl

-- reading a decimal number that was written gives it back
pub decimal-read : (n : ℕ) → numeral (decimal n) ≡ Some (pos n)
unfolding numeral natural decimal digits
decimal-read zero = refl
decimal-read (suc n) = leads-numeral (written-leads (omega arith) (written (suc n))) ∙ written_read (written (suc n))

-- what is correctly spelt is ASCII

digits-ascii : (v : ℕ) (ds : List ℕ) (z : ℤ) → digits_from v ds ≡ Some z → Every (λ b. b < 128) ds
unfolding digits_from
digits-ascii v [] z e = none
digits-ascii v (d ∷ ds) z e = go (is_digit d) refl e (digits-ascii (v * 10 + (d - 48)) ds z)
  where
    go : (b : Bool) → is_digit d ≡ b → cond b (digits_from (v * 10 + (d - 48)) ds) None ≡ Some z
        → (digits_from (v * 10 + (d - 48)) ds ≡ Some z → Every (λ b. b < 128) ds) → Every (λ b. b < 128) (d ∷ ds)
    go true k q ih = more (digit-ascii d k) (ih q)
    go false k q ih = not-spelt z q

natural-ascii : (w : List ℕ) (z : ℤ) → natural w ≡ Some z → Every (λ b. b < 128) w
unfolding natural
natural-ascii [] z e = none
natural-ascii (d ∷ []) z e = go (eqb d 48) refl e
  where
    go : (b : Bool) → eqb d 48 ≡ b → cond b (Some (pos 0)) (digits_from 0 (d ∷ [])) ≡ Some z → Every (λ b. b < 128) (d ∷ [])
    go true k q = more {x = d} (omega (arith, eqb-true d 48 k)) none
    go false k q = digits-ascii 0 (d ∷ []) z q
natural-ascii (d ∷ x ∷ xs) z e = go (eqb d 48) e
  where
    go : (b : Bool) → cond b None (digits_from 0 (d ∷ x ∷ xs)) ≡ Some z → Every (λ b. b < 128) (d ∷ x ∷ xs)
    go true q = not-spelt z q
    go false q = digits-ascii 0 (d ∷ x ∷ xs) z q

-- what has a negative is a number
negative-spelt : (x : Option ℤ) (z : ℤ) → negative x ≡ Some z → (y : ℤ) × (x ≡ Some y)
negative-spelt None z e = not-spelt z e
negative-spelt (Some y) z e = (y, refl)

pub numeral-ascii : (w : List ℕ) (z : ℤ) → numeral w ≡ Some z → Every (λ b. b < 128) w
unfolding numeral
numeral-ascii [] z e = none
numeral-ascii (d ∷ ds) z e = go (eqb d 45) refl e
  where
    go : (b : Bool) → eqb d 45 ≡ b → cond b (negative (natural ds)) (natural (d ∷ ds)) ≡ Some z → Every (λ b. b < 128) (d ∷ ds)
    go true k q = let y = negative-spelt (natural ds) z q in more {x = d} (omega (arith, eqb-true d 45 k)) (natural-ascii ds y.0 y.1)
    go false k q = natural-ascii (d ∷ ds) z q
