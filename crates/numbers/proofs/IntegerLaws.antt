-- Integers as differences of two natural numbers: sums, differences and comparisons become linear facts about natural numbers.
-- Assumes nothing.
use mathlib.Core.Path.{◌≡◌, refl, ap, subst}
use mathlib.Core.Bool.{Bool, true, false, cond, true≢false, false≢true}
use Prim.Native.Nat.{ℕ, zero, suc, ◌+◌, ◌-◌, ◌<◌, ◌≤◌}
use native.Mathlib.Omega.{arith}
use lib.Dec.{ltb}
use lib.IntN.{ℤ, pos, negsuc, neg_ℤ, sub_ℕ, nat_abs, ◌+ℤ◌, ◌-ℤ◌}
use lib.Signed.{mag, lt_z, le_z}
use borrow.Author.Tests.{ltb-true, ltb-false, leb-true, leb-false, eq-eqb, eqb-true}
use Rattle.numbers.specs.Numbers.{same}

-- an integer is `over` less `under`
abbrev pub over : ℤ → ℕ
over (pos n) = n
over (negsuc n) = 0

abbrev pub under : ℤ → ℕ
under (pos n) = 0
under (negsuc n) = suc n

-- z is m less n
pub record Is (z : ℤ) (m n : ℕ) : Type 0 where
  pub is : over z + n ≡ m + under z

sub_is : (a b : ℕ) → Is (sub_ℕ a b) a b
sub_is a b = go (ltb a b) refl
  where
    go : (t : Bool) → ltb a b ≡ t → Is (cond t (negsuc (b - suc a)) (pos (a - b))) a b
    go true e = let h = ltb-true a b e in record { is = omega arith }
    go false e = let h = ltb-false a b e in record { is = omega arith }

sum_by : (a b : ℤ) → Is (a +ℤ b) (over a + over b) (under a + under b)
sum_by (pos a) (pos b) = record { is = omega arith }
sum_by (pos a) (negsuc b) = let h = sub_is a (suc b) in record { is = omega arith }
sum_by (negsuc a) (pos b) = let h = sub_is b (suc a) in record { is = omega arith }
sum_by (negsuc a) (negsuc b) = record { is = omega arith }

neg-by : (a : ℤ) → Is (neg_ℤ a) (under a) (over a)
neg-by (pos zero) = record { is = omega arith }
neg-by (pos (suc n)) = record { is = omega arith }
neg-by (negsuc n) = record { is = omega arith }

pub sum_is : (a b : ℤ) → over (a +ℤ b) + (under a + under b) ≡ over a + over b + under (a +ℤ b)
sum_is a b = let h = sum_by a b in omega arith

pub negate-is : (a : ℤ) → over (neg_ℤ a) + over a ≡ under a + under (neg_ℤ a)
negate-is a = (neg-by a).is

pub difference-is : (a b : ℤ) → over (a -ℤ b) + (under a + over b) ≡ over a + under b + under (a -ℤ b)
difference-is a b = let h = sum_is a (neg_ℤ b) in let k = negate-is b in omega arith

-- ---- comparisons

pub le-true : (a b : ℤ) → le_z a b ≡ true → over a + under b ≤ over b + under a
le-true (pos a) (pos b) e = let h = leb-true a b e in omega arith
le-true (pos a) (negsuc b) e = absurd (false≢true e)
le-true (negsuc a) (pos b) e = omega arith
le-true (negsuc a) (negsuc b) e = let h = leb-true b a e in omega arith

pub le-false : (a b : ℤ) → le_z a b ≡ false → over b + under a < over a + under b
le-false (pos a) (pos b) e = let h = leb-false a b e in omega arith
le-false (pos a) (negsuc b) e = omega arith
le-false (negsuc a) (pos b) e = absurd (true≢false e)
le-false (negsuc a) (negsuc b) e = let h = leb-false b a e in omega arith

pub le_yes : (a b : ℤ) → over a + under b ≤ over b + under a → le_z a b ≡ true
le_yes a b h = go (le_z a b) refl
  where
    go : (t : Bool) → le_z a b ≡ t → le_z a b ≡ true
    go true e = e
    go false e = let k = le-false a b e in absurd (omega arith)

pub le-no : (a b : ℤ) → over b + under a < over a + under b → le_z a b ≡ false
le-no a b h = go (le_z a b) refl
  where
    go : (t : Bool) → le_z a b ≡ t → le_z a b ≡ false
    go true e = let k = le-true a b e in absurd (omega arith)
    go false e = e

pub lt-true : (a b : ℤ) → lt_z a b ≡ true → over a + under b < over b + under a
lt-true (pos a) (pos b) e = let h = ltb-true a b e in omega arith
lt-true (pos a) (negsuc b) e = absurd (false≢true e)
lt-true (negsuc a) (pos b) e = omega arith
lt-true (negsuc a) (negsuc b) e = let h = ltb-true b a e in omega arith

pub lt-false : (a b : ℤ) → lt_z a b ≡ false → over b + under a ≤ over a + under b
lt-false (pos a) (pos b) e = let h = ltb-false a b e in omega arith
lt-false (pos a) (negsuc b) e = omega arith
lt-false (negsuc a) (pos b) e = absurd (true≢false e)
lt-false (negsuc a) (negsuc b) e = let h = ltb-false b a e in omega arith

pub lt_yes : (a b : ℤ) → over a + under b < over b + under a → lt_z a b ≡ true
lt_yes a b h = go (lt_z a b) refl
  where
    go : (t : Bool) → lt_z a b ≡ t → lt_z a b ≡ true
    go true e = e
    go false e = let k = lt-false a b e in absurd (omega arith)

pub equal_by : (a b : ℤ) → over a + under b ≡ over b + under a → a ≡ b
equal_by (pos a) (pos b) e = ap pos (omega arith)
equal_by (pos a) (negsuc b) e = absurd (omega arith)
equal_by (negsuc a) (pos b) e = absurd (omega arith)
equal_by (negsuc a) (negsuc b) e = let h : a ≡ b = omega arith in ap negsuc h

pub same_true : (a b : ℤ) → same a b ≡ true → a ≡ b
same_true (pos a) (pos b) e = ap pos (eqb-true a b e)
same_true (pos a) (negsuc b) e = absurd (false≢true e)
same_true (negsuc a) (pos b) e = absurd (false≢true e)
same_true (negsuc a) (negsuc b) e = ap negsuc (eqb-true a b e)

pub same-yes : (a b : ℤ) → a ≡ b → same a b ≡ true
same-yes (pos a) b e = subst (λ z. same (pos a) z ≡ true) e (eq-eqb a a refl)
same-yes (negsuc a) b e = subst (λ z. same (negsuc a) z ≡ true) e (eq-eqb a a refl)

-- ---- sizes

-- a number that is not below another is as far from it as their difference
pub distance_is : (a b : ℤ) → le_z a b ≡ true → nat_abs (b -ℤ a) + (over a + under b) ≡ over b + under a
distance_is a b e = go (b -ℤ a) (le-true a b e) (difference-is b a)
  where
    go : (z : ℤ) → over a + under b ≤ over b + under a → over z + (under b + over a) ≡ over b + under a + under z → nat_abs z + (over a + under b) ≡ over b + under a
    go (pos n) h k = omega arith
    go (negsuc n) h k = absurd (omega arith)

pub mag-over : (z : ℤ) (k : ℕ) → mag z < k → over z < k
mag-over (pos n) k h = h
mag-over (negsuc n) k h = omega arith
