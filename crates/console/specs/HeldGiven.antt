-- What an argument of a program says where a number of 32 bits is wanted.
use Rattle.std.specs.Prelude.{None, Option, Some, ℕ, ℤ}
use Rattle.refusals.specs.Library.{ltb, pos, negsuc, cond}

-- the number itself, where it is one
unfoldable pub given : Option ℤ → Option ℕ
given None = None
given (Some (pos n)) = cond (ltb n 4294967296) (Some n) None
given (Some (negsuc n)) = None
