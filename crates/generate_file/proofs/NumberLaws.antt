-- Laws of drawn numbers: one below n is below n, and one of a range is in it, as the ranges of all kinds and of numbers are. Assumes nothing.
use mathlib.Core.Path.{◌≡◌, refl, subst}
use mathlib.Core.Bool.{Bool, true, false, cond, ◌&&◌, false≢true}
use Prim.Native.Nat.{ℕ, zero, suc, ◌+◌, ◌-◌, ◌/◌, ◌%◌, ◌<◌}
use native.Mathlib.Nat.{mod-lt, div-le_self}
use native.Mathlib.Omega.{arith}
use lib.Dec.{ltb}
use lib.IntN.{ℤ, pos, negsuc, sub_ℕ}
use lib.Signed.{mag, non_neg}
use borrow.Author.Tests.{le-leb, ltb-false}
use Rattle.text.specs.Text.{all}
use Rattle.text.proofs.TextLaws.{every-get_d, all-every, and_left, and_right}
use Rattle.numbers.specs.declared.Range.{Range}
use Rattle.numbers.specs.Numbers.{bits, half, IsNumber, within, numbers}
use Rattle.instructions.specs.Kinds.{Kind, kinds, kind_at}
use Rattle.instructions.specs.declared.Argument.{Argument}
use Rattle.instructions.specs.declared.Argument.TheVariants.{Absent, Target, Primitive, Within}
use Rattle.file_format.proofs.RangeLaws.{argument-number}
use Rattle.generate_file.specs.Words.{below, size_of, number_in}
use Rattle.generate_file.specs.Held.{starts_low, sound}

pub below-under : (n d : ℕ) → 0 < n → below n d < n
unfolding below
below-under n d h = let q = div-le_self (d % n) (suc (d / n % 8)) in let r = mod-lt d h in omega arith

-- ---- ranges

abbrev pub sound_argument : Argument → Bool
sound_argument Absent = true
sound_argument Target = true
sound_argument Primitive = true
sound_argument (Within r) = sound r

-- computed for the whole table
pub kind-sound : (k : ℕ) → sound_argument (kind_at k).argument ≡ true
unfolding kinds kind_at all
kind-sound k = every-get_d (all-every (λ (r : Kind). sound_argument r.argument) kinds refl) refl k

pub range-sound : (k : ℕ) (r : Range) → (kind_at k).argument ≡ Within r → sound r ≡ true
range-sound k r e = subst (λ a. sound_argument a ≡ true) e (kind-sound k)

pub numbers-sound : sound numbers ≡ true
numbers-sound = refl

-- a number from the lower end on is within the range
from_zero : (b d : ℕ) → within (record { low = pos zero; high = pos b }) (number_in (record { low = pos zero; high = pos b }) d) ≡ true
unfolding number_in
from_zero b d =
    let n = size_of (record { low = pos zero; high = pos b }) in
    let h = below-under n d (omega arith) in
    rw (le-leb 0 (0 + below n d) (omega arith), le-leb (0 + below n d) b (omega arith)) refl

from-below : (a b d : ℕ) → within (record { low = negsuc a; high = pos b }) (number_in (record { low = negsuc a; high = pos b }) d) ≡ true
unfolding number_in
from-below a b d = go (below n d) (below-under n d (omega arith))
  where
    n : ℕ
    n = size_of (record { low = negsuc a; high = pos b })

    go : (x : ℕ) → x < suc (b + suc a) → within (record { low = negsuc a; high = pos b }) (sub_ℕ x (suc a)) ≡ true
    go x h = at_sign (ltb x (suc a)) refl
      where
        at_sign : (t : Bool) → ltb x (suc a) ≡ t → within (record { low = negsuc a; high = pos b }) (cond t (negsuc (suc a - suc x)) (pos (x - suc a))) ≡ true
        at_sign true e = rw (le-leb (suc a - suc x) a (omega arith)) refl
        at_sign false e = let l = ltb-false x (suc a) e in le-leb (x - suc a) b (omega arith)

between : (low high : ℤ) (d : ℕ) → (starts_low low && non_neg high) ≡ true → within (record { low = low; high = high }) (number_in (record { low = low; high = high }) d) ≡ true
between (pos zero) (pos b) d e = from_zero b d
between (pos (suc a)) (pos b) d e = absurd (false≢true e)
between (negsuc a) (pos b) d e = from-below a b d
between (pos zero) (negsuc b) d e = absurd (false≢true e)
between (pos (suc a)) (negsuc b) d e = absurd (false≢true e)
between (negsuc a) (negsuc b) d e = absurd (false≢true e)

module _ (r : Range) (d : ℕ) (s : sound r ≡ true) where
  pub number-within : within r (number_in r d) ≡ true
  number-within = between r.low r.high d (and_left (starts_low r.low && non_neg r.high) (ltb (mag r.low) (half bits) && ltb (mag r.high) (half bits)) s)

  -- so that it is a number
  pub number_is : IsNumber (number_in r d)
  number_is = argument-number r (number_in r d) (and_right (starts_low r.low && non_neg r.high) (ltb (mag r.low) (half bits) && ltb (mag r.high) (half bits)) s) number-within
