-- The number that C gets of an answer of the public functions.
use Rattle.std.specs.Prelude.{◌+◌, ◌*◌, ◌%◌, ◌≤◌, ◌<◌, ◌≡◌, Err, Ok, Result}
use Rattle.refusals.specs.Library.{ℕ, ltb, cond, List, Option, some, none}
use Rattle.refusals.specs.declared.Refusal.{Refusal}
use Rattle.refusals.specs.Refusals.{number, place}
use Rattle.answers.specs.Answers.{Answer, reported, refused, answer_of}

-- an answer as one number: a report's length; for a refusal bit 63, its number from bit 32 on, and the lowest 32 bits of its place
unfoldable pub word_of : Result ℕ Refusal → ℕ
word_of (Ok n) = n
word_of (Err r) = 9223372036854775808 + number r * 4294967296 + place r % 4294967296

-- the length of the report that a number tells: a number below 2 ^ 63 tells one
unfoldable pub told_length : ℕ → Option ℕ
told_length w = cond (ltb w 9223372036854775808) (some w) none

-- what holds of it: a report's is from 1 to the most that a function reports; a refusal's has bit 63, its number and its whole place
pub record Tells (most : ℕ) (a : Answer) (w : ℕ) : Type 0 where
  pub report : (bs : List ℕ) → a ≡ reported bs → (1 ≤ w) × (w ≤ most)
  pub refusal : (r : Refusal) → a ≡ refused r → (place r < 4294967296) × (w ≡ 9223372036854775808 + number r * 4294967296 + place r)

-- two answers with one number are the same refusal, or reports of one length
abbrev pub AnswerTold : Answer → Answer → Type 0
AnswerTold a b = word_of (answer_of a) ≡ word_of (answer_of b) → answer_of a ≡ answer_of b

-- the number tells a refusal by the number n at the place a
abbrev pub RefusesWord : ℕ → ℕ → ℕ → Type 0
RefusesWord w n a = (a < 4294967296) × (w ≡ 9223372036854775808 + n * 4294967296 + a)
