-- "Numbers are decimal, no leading zero, no `-0`." (document 01, The routine file)
use Rattle.std.specs.Prelude.{◌+◌, ◌-◌, ◌*◌, ◌/◌, ◌%◌, ◌∷◌, ◌++◌, ◌≡◌, None, Option, Some}
use Rattle.refusals.specs.Library.{ℕ, zero, suc, eqb, ltb, leb, ℤ, pos, negsuc, Bool, true, false, cond, List, []}
use Rattle.text.specs.Text.{bytes, is_empty}

-- a digit: bytes 48 to 57
abbrev pub is_digit : ℕ → Bool
is_digit d = cond (leb 48 d) (leb d 57) false

-- the number that v begins and the digits ds end
unfoldable pub digits_from : ℕ → List ℕ → Option ℤ
digits_from v [] = Some (pos v)
digits_from v (d ∷ ds) = cond (is_digit d) (digits_from (v * 10 + (d - 48)) ds) None

-- "no leading zero": 0 alone, or digits that do not begin with 0
unfoldable pub natural : List ℕ → Option ℤ
natural [] = None
natural (d ∷ ds) = cond (eqb d 48) (cond (is_empty ds) (Some (pos 0)) None) (digits_from 0 (d ∷ ds))

-- "no `-0`"
abbrev pub negative : Option ℤ → Option ℤ
negative None = None
negative (Some (pos zero)) = None
negative (Some (pos (suc n))) = Some (negsuc n)
negative (Some (negsuc n)) = None

-- a number as a word spells it, of any length, with a minus (byte 45) in front or not
unfoldable pub numeral : List ℕ → Option ℤ
numeral [] = None
numeral (d ∷ ds) = cond (eqb d 45) (negative (natural ds)) (natural (d ∷ ds))

-- n written in decimal, by its last digit and the digits before that; `small` says whether n is below 10
unfoldable pub digits : ℕ → Bool → ℕ → List ℕ
digits zero small n = []
digits (suc fuel) true n = (48 + n) ∷ []
digits (suc fuel) false n = digits fuel (ltb (n / 10) 10) (n / 10) ++ ((48 + n % 10) ∷ [])

-- n in decimal; the fuel is enough, since n has at most n + 1 digits
unfoldable pub decimal : ℕ → List ℕ
decimal n = let m = n in digits (suc m) (ltb m 10) m

-- an integer in decimal
unfoldable pub integer : ℤ → List ℕ
integer (pos n) = decimal n
integer (negsuc n) = bytes "-" ++ decimal (suc n)

-- reading a decimal number that was written gives it back
abbrev pub WrittenReadsBack : Type 0
WrittenReadsBack = (n : ℕ) → numeral (decimal n) ≡ Some (pos n)
