-- The invariant: what is held of the digits is what is held of v and the digits that are left.
use Rattle.std.proofs.Common.{suc, ◌≡◌, ◌≤◌, drop}
use Rattle.text_decimals.specs.Decimal.{digits_from}
use Rattle.text_decimals.specs.HeldMagnitude.{most, held}
use Rattle.text_decimals.proofs.digits.Given as goal

abbrev pub invariant-loop-d : goal.invariant-loop-d
invariant-loop-d l = record { small : l.v ≤ suc most; same : held (digits_from 0 l.s) ≡ held (digits_from l.v (drop l.d-index l.s)) }
