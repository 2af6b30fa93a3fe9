-- What the code holds of a natural number while it reads it.
use Rattle.refusals.specs.Library.{ℕ, suc, ℤ, pos, negsuc}
use Rattle.std.specs.Prelude.{min, None, Option, Some}

-- the farthest number that the code holds: it stands for every number above it, and -(most + 1) for every one below that
abbrev pub most : ℕ
most = 10000000000

-- a number as the code holds it
unfoldable pub clamp : ℤ → ℤ
clamp (pos n) = pos (min most n)
clamp (negsuc n) = negsuc (min most n)

-- a spelt number as the code holds it
unfoldable pub clamped : Option ℤ → Option ℤ
clamped None = None
clamped (Some z) = Some (clamp z)

-- a number from 0 on, where `most + 1` stands for all that are farther
unfoldable pub held : Option ℤ → Option ℕ
held None = None
held (Some (pos n)) = Some (min (suc most) n)
held (Some (negsuc n)) = None

-- the number that is held
unfoldable pub to_numeral : Option ℕ → Option ℤ
to_numeral None = None
to_numeral (Some n) = Some (pos n)
