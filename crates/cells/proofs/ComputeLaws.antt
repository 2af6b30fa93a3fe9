-- Ranges in the code's 64 bits: what is computed fits, and is read back. Assumes nothing.
use mathlib.Core.Path.{◌≡◌, refl, sym, ap, ap₂, subst, ◌∙◌}
use mathlib.Core.Bool.{Bool, true, false, cond}
use Prim.Native.Nat.{ℕ, ◌+◌, ◌-◌, ◌/◌, ◌%◌, ◌^◌, ◌<◌, ◌≤◌}
use native.Mathlib.Omega.{arith}
use lib.Dec.{T}
use lib.IntN.{ℤ, pos, negsuc, neg_ℤ, nat_abs, ◌+ℤ◌, ◌-ℤ◌, +ℤ_idl}
use lib.Signed.{mag, non_neg, le_z, lt_z}
use mir.Syntax.{w32, w64}
use mir.Val.{SFits, to_z}
use mir.ValLaws.{to_z-of_z, to_z_pos}
use Rattle.numbers.specs.Numbers.{bits, half, modulus, numbers}
use Rattle.numbers.proofs.SignedLaws.{read}
use Rattle.numbers.proofs.IntegerLaws.{over, under, sum_is, difference-is, negate-is, le_yes, le-no, lt-true, lt-false, mag-over}
use Rattle.cells.specs.declared.Cell.{Cell}
use Rattle.cells.specs.declared.Unary.{Unary}
use Rattle.cells.specs.declared.Unary.TheVariants.{Offset, Negate, Complement}
use Rattle.cells.specs.Cells.{range, high, unknown, between, calculate₁, results, least₁}
use Rattle.cells.specs.HeldSmall.{Small}
use Rattle.cells.proofs.RangeLaws.{InBits, Results, fits, whole, results-is}

-- ---- numbers that are far from the ends of 64 bits

pub record Near (z : ℤ) (k : ℕ) : Type 0 where
  pub low : over z ≤ k
  pub high : under z ≤ k

pub near-32 : (z : ℤ) → SFits w32 z → Near z (2 ^ 31)
near-32 (pos n) h = record { low = omega (arith, h.sfits); high = omega arith }
near-32 (negsuc n) h = record { low = omega arith; high = omega (arith, h.sfits) }

near_by : (z : ℤ) (k : ℕ) → over z ≤ k + under z → under z ≤ k + over z → Near z k
near_by (pos n) k h g = record { low = omega arith; high = omega arith }
near_by (negsuc n) k h g = record { low = omega arith; high = omega arith }

near_fits : (z : ℤ) (k : ℕ) → k < 2 ^ 63 → Near z k → SFits w64 z
near_fits (pos n) k h g = record { sfits = omega (arith, g.low) }
near_fits (negsuc n) k h g = record { sfits = omega (arith, g.high) }

near-sum : {x y : ℤ} {j k : ℕ} → Near x j → Near y k → Near (x +ℤ y) (j + k)
near-sum {x} {y} {j} {k} a b = let s = sum_is x y in near_by (x +ℤ y) (j + k) (omega (arith, a.low, b.low, a.high, b.high)) (omega (arith, a.low, b.low, a.high, b.high))

near_difference : {x y : ℤ} {j k : ℕ} → Near x j → Near y k → Near (x -ℤ y) (j + k)
near_difference {x} {y} {j} {k} a b = let s = difference-is x y in near_by (x -ℤ y) (j + k) (omega (arith, a.low, b.low, a.high, b.high)) (omega (arith, a.low, b.low, a.high, b.high))

near-pos : (n k : ℕ) → n ≤ k → Near (pos n) k
near-pos n k h = record { low = h; high = omega arith }

pub near-high : (low : ℤ) (more : ℕ) → SFits w32 low → more < 2 ^ 32 → Near (high low more) (2 ^ 31 + 2 ^ 32)
near-high low more h k = near-sum (near-32 low h) (near-pos more (2 ^ 32) (omega arith))

-- ---- an operation on values that the code has for x and y

module _ (f : ℤ → ℤ → ℤ) {a b x y : ℤ} (p : a ≡ x) (q : b ≡ y) where
  pub operands-fit : SFits w64 (f x y) → SFits w64 (f a b)
  operands-fit h = subst (SFits w64) (sym (ap₂ f p q)) h

  pub operands-read : SFits w64 (f x y) → read w64 (f a b) ≡ f x y
  operands-read h = to_z-of_z w64 (f a b) (operands-fit h) ∙ ap₂ f p q

pub pos-is : (n : ℕ) → n < 2 ^ 63 → to_z w64 n ≡ pos n
pos-is n h = to_z_pos w64 n h

-- the greatest number of a range
pub high_fits : (low : ℤ) (more : ℕ) → SFits w32 low → more < 2 ^ 32 → SFits w64 (high low more)
high_fits low more h k = near_fits (high low more) (2 ^ 31 + 2 ^ 32) (omega arith) (near-high low more h k)

-- ---- between

pub between-fits : (low high : ℤ) → SFits w32 low → SFits w32 high → SFits w64 (high -ℤ low)
between-fits low high h k = near_fits (high -ℤ low) (2 ^ 31 + 2 ^ 31) (omega arith) (near_difference (near-32 high k) (near-32 low h))

up_to : (low high : ℤ) → lt_z high low ≡ false → le_z low high ≡ true
up_to low high e = le_yes low high (lt-false high low e)

-- a number that is 0 or above, as a cast to an unsigned type asks for it
pub record Unsigned (z : ℤ) (k : ℕ) : Type 0 where
  pub sign : T (non_neg z)
  pub few : nat_abs z < k

unsigned_by : (z : ℤ) (k : ℕ) → under z ≤ over z → over z < k + under z → Unsigned z k
unsigned_by (pos n) k h g = record { sign = tt; few = omega arith }
unsigned_by (negsuc n) k h g = absurd (omega arith)

pub between-unsigned : (low high : ℤ) → SFits w32 low → SFits w32 high → lt_z high low ≡ false → Unsigned (high -ℤ low) (2 ^ 32)
between-unsigned low high h k e =
    let s = difference-is high low in
    let p = lt-false high low e in
    let a = near-32 low h in
    let b = mag-over high (2 ^ 31) k.sfits in
    unsigned_by (high -ℤ low) (2 ^ 32) (omega arith) (omega (arith, a.high))

pub between-above : (low high : ℤ) → lt_z high low ≡ true → range low 0 ≡ between low high
unfolding between
between-above low high e = ap (λ (t : Bool). range low (cond t (nat_abs (high -ℤ low)) 0)) (sym (le-no low high (lt-true high low e)))

pub between-up : (low high : ℤ) → lt_z high low ≡ false → range low (nat_abs (high -ℤ low)) ≡ between low high
unfolding between
between-up low high e = ap (λ (t : Bool). range low (cond t (nat_abs (high -ℤ low)) 0)) (sym (up_to low high e))

-- ---- results

module _ (low : ℤ) (more : ℕ) where
  small-near : Small low more → Near low (2 ^ 40)
  small-near s = go low s.least
    where
      go : (z : ℤ) → mag z < 2 ^ 40 → Near z (2 ^ 40)
      go (pos n) h = record { low = omega arith; high = omega arith }
      go (negsuc n) h = record { low = omega arith; high = omega arith }

  pub results_fit : Small low more → SFits w64 (low +ℤ pos more)
  results_fit s = near_fits (high low more) (2 ^ 40 + 2 ^ 40) (omega arith) (near-sum (small-near s) (near-pos more (2 ^ 40) (omega (arith, s.few))))

  wrapping : {x : Cell} → (InBits low more → ⊥) → Results low more x → unknown ≡ x
  wrapping n (fits b) = absurd (n b)
  wrapping n (whole k) = refl

  -- some result would wrap
  pub results-below : lt_z low numbers.low ≡ true → unknown ≡ results low more
  results-below e = let h = lt-true low numbers.low e in wrapping (λ b. omega (arith, b.above)) (results-is low more)

  pub results-above : lt_z numbers.high (high low more) ≡ true → unknown ≡ results low more
  results-above e = let h = lt-true numbers.high (high low more) e in let s = sum_is low (pos more) in wrapping (λ b. omega (arith, b.below)) (results-is low more)

  -- none would
  pub inner-bits : lt_z low numbers.low ≡ false → lt_z numbers.high (high low more) ≡ false → InBits low more
  inner-bits e g =
      let h = lt-false low numbers.low e in let k = lt-false numbers.high (high low more) g in let s = sum_is low (pos more) in
      record { above = omega arith; below = omega arith }

  pub bits_fit : InBits low more → SFits w32 low
  bits_fit b = go low b.above b.below
    where
      go : (z : ℤ) → under z ≤ over z + half bits → over z + more < half bits + under z → SFits w32 z
      go (pos n) h k = record { sfits = omega arith }
      go (negsuc n) h k = record { sfits = omega arith }

  pub bits-few : InBits low more → more < 2 ^ 32
  bits-few b = omega (arith, b.above, b.below)

  pub results-inner : InBits low more → range low more ≡ results low more
  results-inner b = go (results-is low more)
    where
      go : {x : Cell} → Results low more x → range low more ≡ x
      go (fits c) = refl
      go (whole n) = absurd (n b)

-- ---- the least result

pub least-near : (u : Unary) (i low : ℤ) (more : ℕ) → SFits w32 i → SFits w32 low → more < 2 ^ 32 → Near (least₁ u i low more) (2 ^ 34)
unfolding least₁ calculate₁
least-near Offset i low more g h k =
    let a = near-sum (near-32 low h) (near-32 i g) in near_by (low +ℤ i) (2 ^ 34) (omega (arith, a.low)) (omega (arith, a.high))
least-near Negate i low more g h k =
    let a = near-high low more h k in let s = negate-is (high low more) in
    near_by (neg_ℤ (high low more)) (2 ^ 34) (omega (arith, a.high, a.low)) (omega (arith, a.low, a.high))
least-near Complement i low more g h k =
    let a = near_difference (near-pos 1 1 (omega arith)) (near-high low more h k) in
    near_by (pos 1 -ℤ high low more) (2 ^ 34) (omega (arith, a.low)) (omega (arith, a.high))

pub near-64 : (z : ℤ) → Near z (2 ^ 34) → SFits w64 z
near-64 z a = near_fits z (2 ^ 34) (omega arith) a

pub near-small : (z : ℤ) (more : ℕ) → Near z (2 ^ 34) → more < 2 ^ 34 → Small z more
near-small z more a h = record { least = go z a; few = omega arith }
  where
    go : (z : ℤ) → Near z (2 ^ 34) → mag z < 2 ^ 40
    go (pos n) a = omega (arith, a.low)
    go (negsuc n) a = omega (arith, a.high)

pub sum_near : (x y : ℤ) → SFits w32 x → SFits w32 y → Near (x +ℤ y) (2 ^ 34)
sum_near x y h k = let a = near-sum (near-32 x h) (near-32 y k) in near_by (x +ℤ y) (2 ^ 34) (omega (arith, a.low)) (omega (arith, a.high))

pub difference-near : (x y : ℤ) (n : ℕ) → SFits w32 x → SFits w32 y → n < 2 ^ 32 → Near (x -ℤ high y n) (2 ^ 34)
difference-near x y n h k l =
    let a = near_difference (near-32 x h) (near-high y n k l) in near_by (x -ℤ high y n) (2 ^ 34) (omega (arith, a.low)) (omega (arith, a.high))

-- what a test of the value in the code says of the number
pub tested : (f : ℤ → Bool) {x y : ℤ} {t : Bool} → x ≡ y → f x ≡ t → f y ≡ t
tested f e h = ap f (sym e) ∙ h

-- ---- as a number

module _ (low : ℤ) (more : ℕ) (h : SFits w32 low) where
  pub shifted_fits : SFits w64 (low +ℤ pos (half bits))
  shifted_fits = near-64 (low +ℤ pos (half bits)) (sum_near low (pos (half bits)) h (record { sfits = omega arith }))

  shifted-unsigned : lt_z low numbers.low ≡ false → Unsigned (low +ℤ pos (half bits)) (2 ^ 32)
  shifted-unsigned e =
      let s = sum_is low (pos (half bits)) in
      let k = lt-false low numbers.low e in
      let a = near-32 low h in
      unsigned_by (low +ℤ pos (half bits)) (2 ^ 32) (omega arith) (omega (arith, a.low))

-- the count of a number from the lowest on
pub record Counted (low : ℤ) (l : ℤ) : Type 0 where
  pub sign : T (non_neg l)
  pub few : nat_abs l < 2 ^ 32
  pub is : nat_abs l + under low ≡ over low + half bits

pub counted : (low : ℤ) {l : ℤ} → SFits w32 low → l ≡ low +ℤ pos (half bits) → lt_z low numbers.low ≡ false → Counted low l
counted low h e g = rw e (go (low +ℤ pos (half bits)) (shifted-unsigned low 0 h g) (sum_is low (pos (half bits))))
  where
    go : (z : ℤ) → Unsigned z (2 ^ 32) → over z + (under low + 0) ≡ over low + half bits + under z → Counted low z
    go (pos n) u s = record { sign = u.sign; few = u.few; is = omega arith }
    go (negsuc n) u s = absurd u.sign

pub decoded-fits : (x : ℕ) → x / 2147483648 ≤ x % 2147483648 → SFits w32 (pos (x / 2147483648) -ℤ pos 1073741824)
decoded-fits x h =
    let s = difference-is (pos (x / 2147483648)) (pos 1073741824) in
    let k : x % 2147483648 < 2147483648 = omega arith in
    bits_fit (pos (x / 2147483648) -ℤ pos 1073741824) 0 (record { above = omega arith; below = omega arith })

pub widened : (z : ℤ) → SFits w32 z → SFits w64 z
widened z h = near_fits z (2 ^ 31) (omega arith) (near-32 z h)

-- ---- the least result, by the operation

pub from-near : (n : ℕ) (low : ℤ) (more : ℕ) → n ≤ 1 → SFits w32 low → more < 2 ^ 32 → SFits w64 (pos n -ℤ high low more)
from-near n low more h f k =
    let a = near_difference (near-pos n 1 h) (near-high low more f k) in
    near_fits (pos n -ℤ high low more) (1 + (2 ^ 31 + 2 ^ 32)) (omega arith) a

module _ {u v : Unary} (i low : ℤ) (more : ℕ) (e : u ≡ v) where
  told : {z : ℤ} → z ≡ least₁ v i low more → z ≡ least₁ u i low more
  told p = p ∙ ap (λ (w : Unary). least₁ w i low more) (sym e)

  pub least-offset : v ≡ Offset → {z : ℤ} → z ≡ low +ℤ i → z ≡ least₁ u i low more
  unfolding least₁ calculate₁
  least-offset p q = told (q ∙ ap (λ (w : Unary). least₁ w i low more) (sym p))

  pub least-negate : v ≡ Negate → {z : ℤ} → z ≡ pos 0 -ℤ high low more → z ≡ least₁ u i low more
  unfolding least₁ calculate₁
  least-negate p q = told (q ∙ +ℤ_idl (neg_ℤ (high low more)) ∙ ap (λ (w : Unary). least₁ w i low more) (sym p))

  pub least-complement : v ≡ Complement → {z : ℤ} → z ≡ pos 1 -ℤ high low more → z ≡ least₁ u i low more
  unfolding least₁ calculate₁
  least-complement p q = told (q ∙ ap (λ (w : Unary). least₁ w i low more) (sym p))

-- what the code has for the greatest number of a range
pub high-told : (low : ℤ) (more : ℕ) → SFits w32 low → more < 2 ^ 32 → {r : ℤ} → r ≡ high (read w32 low) more → read w64 r ≡ high low more
high-told low more h k e = ap (read w64) (e ∙ ap (λ (z : ℤ). high z more) (to_z-of_z w32 low h)) ∙ to_z-of_z w64 (high low more) (high_fits low more h k)

-- a range that goes past the numbers
pub results-past : (low : ℤ) (more l : ℕ) → l + under low ≡ over low + half bits → modulus bits - 1 < l + more → unknown ≡ results low more
results-past low more l e h = wrapping low more (λ b. omega (arith, b.below)) (results-is low more)
