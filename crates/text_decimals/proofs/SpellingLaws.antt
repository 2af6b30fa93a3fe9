-- Laws of spelling: a rightly spelt number is its value in decimal, an integer that was written is read back and holds no byte but a
-- minus and digits, and a lower number is written with no more digits. Assumes nothing.
use Rattle.std.specs.Prelude.{None, Option, Some}
use mathlib.Core.Path.{◌≡◌, refl, sym, ap, ◌∙◌}
use mathlib.Core.Bool.{Bool, true, false, cond}
use mathlib.Core.List.{List, [], ◌∷◌, ◌++◌, append_assoc, append-nil}
use Prim.Native.Nat.{ℕ, zero, suc, ◌+◌, ◌-◌, ◌*◌, ◌/◌, ◌%◌, ◌<◌, ◌≤◌}
use native.Mathlib.Omega.{arith}
use lib.Dec.{eqb, leb, ltb}
use lib.IntN.{ℤ, pos, negsuc}
use lib.ListN.{length}
use borrow.Author.Tests.{leb-true, ltb-true, ltb-false, eqb-true, eqb-false, ne_eqb}
use Rattle.text.specs.Text.{is_empty}
use Rattle.text_decimals.specs.Decimal.{is_digit, digits_from, natural, negative, numeral, decimal, integer}
use Rattle.text.proofs.TextLaws.{cond-left, cond-right, Every, none, more, every_map}
use Rattle.text_decimals.proofs.DecimalLaws.{decimal-one, decimal-more, decimal-length-one, decimal-length-more, decimal-digits, decimal-read}
use Rattle.text.proofs.JoinLaws.{Free}

not-spelt : {X : Type 0} (z : ℤ) → None ≡ Some z → X
not-spelt z e = let q : ◌≡◌ {A = ℕ} 0 1 = cc in absurd (omega arith)

-- ---- a rightly spelt number is its value in decimal

-- one digit more
decimal-next : (v d : ℕ) → 1 ≤ v → is_digit d ≡ true → decimal (v * 10 + (d - 48)) ≡ decimal v ++ (d ∷ [])
decimal-next v d h k =
    let low = leb-true 48 d (cond-left (leb 48 d) (leb d 57) k) in
    let high = leb-true d 57 (cond-right (leb 48 d) (leb d 57) k) in
    let n = v * 10 + (d - 48) in
    let q : n / 10 ≡ v = omega arith in
    let r : 48 + n % 10 ≡ d = omega arith in
    decimal-more n (omega arith) ∙ ap (λ m. decimal m ++ ((48 + n % 10) ∷ [])) q ∙ ap (λ c. decimal v ++ (c ∷ [])) r

digits-back : (v : ℕ) (ds : List ℕ) (z : ℤ) → 1 ≤ v → digits_from v ds ≡ Some z → (n : ℕ) × (z ≡ pos n) × (decimal v ++ ds ≡ decimal n)
unfolding digits_from
digits-back v [] z h e = (v, (cc), append-nil (decimal v))
digits-back v (d ∷ ds) z h e = go (is_digit d) refl e (digits-back (v * 10 + (d - 48)) ds z (omega arith))
  where
    go : (b : Bool) → is_digit d ≡ b → cond b (digits_from (v * 10 + (d - 48)) ds) None ≡ Some z
        → (digits_from (v * 10 + (d - 48)) ds ≡ Some z → (n : ℕ) × (z ≡ pos n) × (decimal (v * 10 + (d - 48)) ++ ds ≡ decimal n))
        → (n : ℕ) × (z ≡ pos n) × (decimal v ++ (d ∷ ds) ≡ decimal n)
    go true k q ih =
        let r = ih q in
        (r.0, r.1, sym (append_assoc (decimal v) (d ∷ []) ds) ∙ ap (λ t. t ++ ds) (sym (decimal-next v d h k)) ∙ r.2)
    go false k q ih = not-spelt z q

natural-back : (w : List ℕ) (z : ℤ) → natural w ≡ Some z → (n : ℕ) × (z ≡ pos n) × (w ≡ decimal n)
unfolding natural digits_from
natural-back [] z e = not-spelt z e
natural-back (d ∷ ds) z e = go (eqb d 48) refl e
  where
    zero-alone : (es : List ℕ) → cond (is_empty es) (Some (pos 0)) None ≡ Some z → eqb d 48 ≡ true → (n : ℕ) × (z ≡ pos n) × (d ∷ es ≡ decimal n)
    zero-alone [] q k = (0, (cc), ap (λ c. c ∷ []) (eqb-true d 48 k) ∙ sym (decimal-one 0 (omega arith)))
    zero-alone (x ∷ xs) q k = not-spelt z q

    first : (b : Bool) → is_digit d ≡ b → eqb d 48 ≡ false → cond b (digits_from (0 * 10 + (d - 48)) ds) None ≡ Some z → (n : ℕ) × (z ≡ pos n) × (d ∷ ds ≡ decimal n)
    first true k f q =
        let low = leb-true 48 d (cond-left (leb 48 d) (leb d 57) k) in
        let high = leb-true d 57 (cond-right (leb 48 d) (leb d 57) k) in
        let other = eqb-false d 48 f in
        let one : decimal (0 * 10 + (d - 48)) ≡ d ∷ [] = decimal-one (0 * 10 + (d - 48)) (omega arith) ∙ ap (λ c. c ∷ []) (omega arith) in
        let r = digits-back (0 * 10 + (d - 48)) ds z (omega arith) q in
        (r.0, r.1, ap (λ t. t ++ ds) (sym one) ∙ r.2)
    first false k f q = not-spelt z q

    go : (b : Bool) → eqb d 48 ≡ b → cond b (cond (is_empty ds) (Some (pos 0)) None) (digits_from 0 (d ∷ ds)) ≡ Some z → (n : ℕ) × (z ≡ pos n) × (d ∷ ds ≡ decimal n)
    go true k q = zero-alone ds q k
    go false k q = first (is_digit d) refl k q

-- what has a negative is above 0
negative_back : (x : Option ℤ) (z : ℤ) → negative x ≡ Some z → (n : ℕ) × (x ≡ Some (pos (suc n))) × (z ≡ negsuc n)
negative_back None z e = not-spelt z e
negative_back (Some (pos zero)) z e = not-spelt z e
negative_back (Some (pos (suc n))) z e = (n, refl, (cc))
negative_back (Some (negsuc n)) z e = not-spelt z e

pub spelt_back : (w : List ℕ) (z : ℤ) → numeral w ≡ Some z → w ≡ integer z
unfolding numeral integer
spelt_back [] z e = not-spelt z e
spelt_back (d ∷ ds) z e = go (eqb d 45) refl e
  where
    go : (b : Bool) → eqb d 45 ≡ b → cond b (negative (natural ds)) (natural (d ∷ ds)) ≡ Some z → d ∷ ds ≡ integer z
    go true k q =
        let m = negative_back (natural ds) z q in
        let r = natural-back ds (pos (suc m.0)) m.1 in
        let s : suc m.0 ≡ r.0 = cc in
        ap (λ c. c ∷ ds) (eqb-true d 45 k) ∙ ap (λ t. 45 ∷ t) (r.2 ∙ ap decimal (sym s)) ∙ ap integer (sym m.2)
    go false k q = let r = natural-back (d ∷ ds) z q in r.2 ∙ ap integer (sym r.1)

-- ---- an integer that was written is read back

natural-read : (n : ℕ) → natural (decimal n) ≡ Some (pos n)
unfolding numeral
natural-read n = go (decimal n) (decimal-digits n) (decimal-read n)
  where
    go : (w : List ℕ) → Every (λ d. is_digit d ≡ true) w → numeral w ≡ Some (pos n) → natural w ≡ Some (pos n)
    go [] none e = not-spelt (pos n) e
    go (d ∷ ds) (more k ks) e =
        let low = leb-true 48 d (cond-left (leb 48 d) (leb d 57) k) in
        sym (ap (λ b. cond b (negative (natural ds)) (natural (d ∷ ds))) (ne_eqb d 45 (λ q. omega arith))) ∙ e

pub integer-read : (z : ℤ) → numeral (integer z) ≡ Some z
unfolding numeral integer
integer-read (pos n) = decimal-read n
integer-read (negsuc n) = ap negative (natural-read (suc n))

-- ---- a lower number has no more digits

lower-from : (fuel m n : ℕ) → n < fuel → m ≤ n → length (decimal m) ≤ length (decimal n)
lower-from zero m n h l = absurd (omega arith)
lower-from (suc fuel) m n h l = go (ltb m 10) refl (ltb n 10) refl (lower-from fuel (m / 10) (n / 10))
  where
    go : (a : Bool) → ltb m 10 ≡ a → (b : Bool) → ltb n 10 ≡ b → (n / 10 < fuel → m / 10 ≤ n / 10 → length (decimal (m / 10)) ≤ length (decimal (n / 10))) → length (decimal m) ≤ length (decimal n)
    go a p true q ih =
        let k = ltb-true n 10 q in
        let i = decimal-length-one m (omega arith) in
        let j = decimal-length-one n k in
        omega arith
    go true p false q ih =
        let i = decimal-length-one m (ltb-true m 10 p) in
        let j = decimal-length-more n (ltb-false n 10 q) in
        omega arith
    go false p false q ih =
        let k = ltb-false m 10 p in
        let r = ltb-false n 10 q in
        let i = decimal-length-more m k in
        let j = decimal-length-more n r in
        let s = ih (omega arith) (omega arith) in
        omega arith

pub lower-short : (m n : ℕ) → m ≤ n → length (decimal m) ≤ length (decimal n)
lower-short m n h = lower-from (suc n) m n (omega arith) h

-- ---- what stands in a number

-- no digit is a space or a line feed
pub decimal-free : (c : ℕ) → c < 48 → (n : ℕ) → Free c (decimal n)
decimal-free c k n = every_map (λ d e q. let h = leb-true 48 d (cond-left (leb 48 d) (leb d 57) e) in omega arith) (decimal-digits n)

-- a byte that is neither a minus nor a digit
pub integer-free : (c : ℕ) → (45 ≡ c → ⊥) → c < 48 → (z : ℤ) → Free c (integer z)
unfolding integer
integer-free c m h (pos n) = decimal-free c h n
integer-free c m h (negsuc n) = more m (decimal-free c h (suc n))
