-- Laws of `clamp`: it keeps a number nearer to 0 than `most`, and a test against such a number has the same answer before and after
-- it. `mag` is n both for n and for -(n + 1). Assumes nothing.
use Prim.Native.Nat.{ℕ, ◌<◌, ◌≤◌, min}
use mathlib.Core.Path.{◌≡◌, refl, sym, ap, ◌∙◌}
use native.Mathlib.Omega.{arith}
use lib.Dec.{leb, ltb}
use lib.IntN.{ℤ, pos, negsuc, nat_abs}
use lib.Signed.{mag, le_z, lt_z}
use Rattle.text_decimals.specs.HeldMagnitude.{most, clamp}
use Rattle.text.proofs.TextLaws.{ltb-agree, leb-agree}

-- ---- tests of natural numbers

ltb-min : (m n : ℕ) → n ≤ most → ltb (min most m) n ≡ ltb m n
ltb-min m n h = ltb-agree (min most m) n m n (λ k. omega arith) (λ k. omega arith)

leb-min : (m n : ℕ) → n < most → leb (min most m) n ≡ leb m n
leb-min m n h = leb-agree (min most m) n m n (λ k. omega arith) (λ k. omega arith)

leb-min-right : (m n : ℕ) → m ≤ most → leb m (min most n) ≡ leb m n
leb-min-right m n h = leb-agree m (min most n) m n (λ k. omega arith) (λ k. omega arith)

ltb-min-right : (m n : ℕ) → m < most → ltb m (min most n) ≡ ltb m n
ltb-min-right m n h = ltb-agree m (min most n) m n (λ k. omega arith) (λ k. omega arith)

-- ---- what is near 0 is kept

pub clamp-small : (z : ℤ) → mag z ≤ most → clamp z ≡ z
unfolding clamp
clamp-small (pos n) h = ap pos (omega arith)
clamp-small (negsuc n) h = ap negsuc (omega arith)

-- ---- tests against a number x that is near 0

pub clamp-le : (z x : ℤ) → mag x < most → le_z (clamp z) x ≡ le_z z x
unfolding clamp
clamp-le (pos m) (pos n) h = leb-min m n h
clamp-le (pos m) (negsuc n) h = refl
clamp-le (negsuc m) (pos n) h = refl
clamp-le (negsuc m) (negsuc n) h = leb-min-right n m (omega arith)

pub le-clamp : (x z : ℤ) → mag x < most → le_z x (clamp z) ≡ le_z x z
unfolding clamp
le-clamp (pos m) (pos n) h = leb-min-right m n (omega arith)
le-clamp (pos m) (negsuc n) h = refl
le-clamp (negsuc m) (pos n) h = refl
le-clamp (negsuc m) (negsuc n) h = leb-min n m h

pub lt-clamp : (x z : ℤ) → mag x < most → lt_z x (clamp z) ≡ lt_z x z
unfolding clamp
lt-clamp (pos m) (pos n) h = ltb-min-right m n h
lt-clamp (pos m) (negsuc n) h = refl
lt-clamp (negsuc m) (pos n) h = refl
lt-clamp (negsuc m) (negsuc n) h = ltb-min n m (omega arith)

-- ---- how far a number is from 0

-- a number below 0 is held as far as `most + 1` from it
clamp-nat_abs : (z : ℤ) → min most (nat_abs (clamp z)) ≡ min most (nat_abs z)
unfolding clamp
clamp-nat_abs (pos n) = omega arith
clamp-nat_abs (negsuc n) = omega arith

pub clamp-nat_abs-lt : (z : ℤ) (n : ℕ) → n ≤ most → ltb (nat_abs (clamp z)) n ≡ ltb (nat_abs z) n
clamp-nat_abs-lt z n h =
    sym (ltb-min (nat_abs (clamp z)) n h) ∙ ap (λ m. ltb m n) (clamp-nat_abs z) ∙ ltb-min (nat_abs z) n h
