-- The number that C gets of a refusal and of a report. Assumes nothing.
use Rattle.std.specs.Prelude.{Err, Ok, Result}
use Prim.Native.Nat.{ℕ, ◌+◌, ◌*◌, ◌%◌, ◌≤◌}
use mathlib.Core.Path.{◌≡◌, refl}
use native.Mathlib.Omega.{arith}
use Rattle.refusals.specs.declared.Refusal.{Refusal}
use Rattle.refusals.specs.declared.Refusal.TheVariants as refusals
use Rattle.refusals.specs.Refusals.{number, place}
use Rattle.c_answers.specs.Told.{word_of}

-- no number of a refusal is above 14
pub number_small : (r : Refusal) → number r ≤ 14
unfolding number
number_small refusals.ReportMemory = omega arith
number_small refusals.TextLength = omega arith
number_small (refusals.Layout n) = omega arith
number_small (refusals.OutOfRange n) = omega arith
number_small (refusals.BadName n) = omega arith
number_small (refusals.Unpriced n) = omega arith
number_small (refusals.NoTarget n) = omega arith
number_small (refusals.Backward n) = omega arith
number_small (refusals.UnknownCell n) = omega arith
number_small (refusals.Stuck a) = omega arith
number_small (refusals.Openings a) = omega arith
number_small (refusals.Spent a) = omega arith
number_small (refusals.BadWord i) = omega arith
number_small (refusals.NoMeeting a) = omega arith

pub word-refused : (r : Refusal) (n p : ℕ) → n ≡ number r → p ≡ place r → 9223372036854775808 + n * 4294967296 + p % 4294967296 ≡ word_of (Err r)
unfolding word_of
word-refused r n p e f = rw (e, f) refl

pub word-reported : (a : Result ℕ Refusal) (n : ℕ) → a ≡ Ok n → n ≡ word_of a
unfolding word_of
word-reported a n e = rw e refl
