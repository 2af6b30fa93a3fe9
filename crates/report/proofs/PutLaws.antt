-- A law of the line of a refusal: how long it is, by its parts. Assumes nothing.
use Prim.Native.Nat.{ℕ, ◌+◌}
use mathlib.Core.Path.{◌≡◌}
use lib.ListN.{length, length-append}
use Rattle.text_decimals.specs.Decimal.{decimal}
use Rattle.report.specs.Report.{refusal_line}

pub refusal-length : (number place : ℕ) → length (refusal_line number place) ≡ 8 + length (decimal number) + 1 + length (decimal place) + 1
unfolding refusal_line
refusal-length number place = simp length-append
