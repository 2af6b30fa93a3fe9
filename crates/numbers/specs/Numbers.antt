-- Numbers: "Numbers are signed, .. two's complement, and wrap." (document 01, Cells and machine); "Numbers are 31 bits on the card."
-- (document 02, §7)
use Rattle.std.specs.Prelude.{◌-◌, ◌%◌, ◌^◌, ◌<◌}
use Rattle.refusals.specs.Library.{ℕ, suc, eqb, ltb, ℤ, pos, negsuc, le_z, lt_z, mag, Bool, true, false, cond, not}
use Rattle.numbers.specs.declared.Comparison.{Comparison}
use Rattle.numbers.specs.declared.Comparison.TheVariants.{Equal, Unequal, Less, AtMost, Greater, AtLeast}
use Rattle.numbers.specs.declared.Range.{Range}

-- "31 bits": the width of numbers stands here and nowhere else
abbrev pub bits : ℕ
bits = 31

-- how many numbers of a width there are
abbrev pub modulus : ℕ → ℕ
modulus w = 2 ^ w

-- half of them are below 0
abbrev pub half : ℕ → ℕ
half w = 2 ^ (w - 1)

-- what is a number: "from -1073741824 to 1073741823" (`mag` is n both for n and for -(n + 1))
pub record IsNumber (z : ℤ) : Type 0 where
  pub fits : mag z < half bits

-- the remainder modulo 2 ^ w
abbrev pub residue : ℕ → ℤ → ℕ
residue w (pos n) = n % modulus w
residue w (negsuc n) = modulus w - suc (n % modulus w)

-- "two's complement": the number of w bits that a remainder stands for
abbrev pub signed : ℕ → ℕ → ℤ
signed w r = cond (ltb r (half w)) (pos r) (negsuc (modulus w - suc r))

-- "and every operation wraps there"
unfoldable pub wrap : ℤ → ℤ
wrap z = signed bits (residue bits z)

-- whether two numbers are equal
abbrev pub same : ℤ → ℤ → Bool
same (pos m) (pos n) = eqb m n
same (pos m) (negsuc n) = false
same (negsuc m) (pos n) = false
same (negsuc m) (negsuc n) = eqb m n

-- "comparisons are signed"
unfoldable pub holds : Comparison → ℤ → ℤ → Bool
holds Equal m n = same m n
holds Unequal m n = not (same m n)
holds Less m n = lt_z m n
holds AtMost m n = le_z m n
holds Greater m n = lt_z n m
holds AtLeast m n = le_z n m

-- "and give 1 or 0"
abbrev pub bit : Bool → ℤ
bit true = pos 1
bit false = pos 0

-- whether a number is within a range, both ends included
abbrev pub within : Range → ℤ → Bool
within r z = cond (le_z r.low z) (le_z z r.high) false

-- the range of numbers: "An argument, start or block cell, or answer outside that is refusal 3."
abbrev pub numbers : Range
numbers = record { low = negsuc (half bits - 1); high = pos (half bits - 1) }

-- from 0, or another natural number, on to a natural number
abbrev pub naturals : ℕ → ℕ → Range
naturals low high = record { low = pos low; high = pos high }
