-- The answer of a public function, what the lent memory then holds, and the same in the code's type.
-- (document 01, Refusal table; demands 1 and 2)
use Rattle.std.specs.Prelude.{◌≤◌, ◌++◌, ◌≡◌, Err, Ok, Result, ⊤}
use Rattle.refusals.specs.Library.{ℕ, ltb, length, take, drop, cond, List, Option, some, none}
use Rattle.file_format.specs.Terms.{Refusal, ReportMemory}
use Rattle.file_format.specs.Routine.{Routine, Reading, routine}
use Rattle.file_format.specs.Routine as readings

-- a report's bytes, or a refusal
pub data Answer : Type 0 where
  reported : List ℕ → Answer
  refused : Refusal → Answer

-- "report memory under 128 bytes", checked first
abbrev pub memory_limit : ℕ
memory_limit = 128

-- refusal 10 where fewer bytes are lent than the limit, "checked first"; else the answer a
abbrev pub lending : ℕ → ℕ → Answer → Answer
lending limit n a = cond (ltb n limit) (refused ReportMemory) a

-- of a reading: its refusal, or what f says of its routine
unfoldable pub of_reading : (Routine → Answer) → Reading → Answer
of_reading f (readings.unread r) = refused r
of_reading f (routine x) = f x

-- of the verdict of a check: what is made, or its refusal
unfoldable pub of_acceptance : List ℕ → Result ⊤ Refusal → Answer
of_acceptance made (Ok tt) = reported made
of_acceptance made (Err r) = refused r

-- demand 1: lent report memory holds, after an accepted call, exactly the report and then its former bytes; after a refusal it is as before.
unfoldable pub memory : Answer → List ℕ → List ℕ
memory (reported bs) former = bs ++ drop (length bs) former
memory (refused r) former = former

-- in the code's type: a report by the number of its bytes
unfoldable pub answer_of : Answer → Result ℕ Refusal
answer_of (reported bs) = Ok (length bs)
answer_of (refused r) = Err r

-- ---- what an answer says of the lent memory

-- the length of the report that is answered, if it is one
unfoldable pub report_length : Result ℕ Refusal → Option ℕ
report_length (Ok n) = some n
report_length (Err r) = none

-- where a report of n bytes is told, at least n are lent, and P holds of the first n that they hold
abbrev pub Delivers : Option ℕ → List ℕ → (List ℕ → Type 0) → Type 0
Delivers told lent P = (n : ℕ) → told ≡ some n → (n ≤ length lent) × P (take n lent)
