-- The draws from a seed. (document 02 §11)
use Rattle.std.specs.Prelude.{◌*◌, ◌/◌, ◌%◌, ◌^◌}
use Rattle.refusals.specs.Library.{ℕ, zero, suc}
use Rattle.std.specs.Int.Bits.{bit_xor}

-- "shift left", "followed by exclusive or with the state before that shift, keeping 32 bits"
abbrev pub left : ℕ → ℕ → ℕ
left k s = bit_xor s (s * 2 ^ k % 2 ^ 32)

-- the same of a shift to the right
abbrev pub right : ℕ → ℕ → ℕ
right k s = bit_xor s (s / 2 ^ k)

-- "the state goes through shift left 13, shift right 17 and shift left 5"
unfoldable pub next : ℕ → ℕ
next s = left 5 (right 17 (left 13 s))

-- the state after i rounds, which is draw i: "Each draw is the state after one such round."
unfoldable pub after : ℕ → ℕ → ℕ
after zero s = s
after (suc i) s = next (after i s)
