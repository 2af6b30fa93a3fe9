-- What an entry point answers, by what it read of the text. Assumes nothing.
use Rattle.std.specs.Prelude.{Err, Ok, Result, ⊤}
use Prim.Native.Nat.{ℕ, ◌≤◌}
use mathlib.Core.Path.{◌≡◌, refl, sym, ap, ◌∙◌}
use mathlib.Core.Bool.{Bool, true, false, cond}
use mathlib.Core.List.{List}
use native.Mathlib.Omega.{arith}
use lib.Dec.{ltb}
use borrow.Author.Tests.{ltb-false}
use Rattle.refusals.specs.declared.Refusal.{Refusal}
use Rattle.refusals.specs.declared.Refusal.TheVariants.{ReportMemory}
use Rattle.text.specs.Text.{lines}
use Rattle.file_format.specs.Rows.{Passes}
use Rattle.file_format.specs.Routine.{routine_of}
use Rattle.file_format.specs.Routine as readings
use Rattle.file_check.specs.declared.Reader.{Reader}
use Rattle.file_check.specs.HeldChecks.{read_by, check_of}
use Rattle.file_check.proofs.CheckLaws.{refused-reading, accepted-reading}
use Rattle.file_reader.specs.declared.Routine.{Routine}
use Rattle.file_reader.specs.HeldRoutine.{Holds}
use Rattle.answers.specs.Answers.{Answer, lending, of_reading, memory, answer_of}
use Rattle.answers.specs.Answers as answers
use Rattle.answers.proofs.AnswerLaws.{gives-refusal, reading-passed}
use Rattle.file_entry.specs.Held.{routine_in, admitted}

-- ---- what is read

-- a verdict is of one case
pub passes-not : {A : Type 0} (x : Refusal) → ◌≡◌ {A = Result ⊤ Refusal} (Ok tt) (Err x) → A
passes-not x e = let z : ◌≡◌ {A = ℕ} 0 1 = cc in absurd (omega arith)

pub same-refused : (x y : Refusal) → ◌≡◌ {A = Result ⊤ Refusal} (Err x) (Err y) → x ≡ y
same-refused x y e = cc

-- the routine that is held is the routine
pub holds-is : (x : readings.Routine) (r : Routine) → Holds x r → routine_in r ≡ x
holds-is x r h = λ i. record { budget = h.budget i; tick = h.tick i; code = h.code i; start = h.start i; answers = h.answered i }

module _ (reader : Reader) (limit lent : ℕ) (text : List ℕ) where
  pub check-short : (ltb lent limit ≡ true) → Err ReportMemory ≡ check_of (admitted limit lent (read_by reader text))
  unfolding admitted check_of
  check-short h = rw h refl

  pub check-enough : (ltb lent limit ≡ false) → check_of (read_by reader text) ≡ check_of (admitted limit lent (read_by reader text))
  unfolding admitted
  check-enough h = rw h refl

  -- enough is lent where the text is accepted
  accepted-lent : check_of (admitted limit lent (read_by reader text)) ≡ Ok tt → (limit ≤ lent) × (check_of (read_by reader text) ≡ Ok tt)
  unfolding admitted check_of
  accepted-lent = go (ltb lent limit) refl
    where
      go : (b : Bool) → ltb lent limit ≡ b → check_of (cond b (readings.unread ReportMemory) (read_by reader text)) ≡ Ok tt → (limit ≤ lent) × (check_of (read_by reader text) ≡ Ok tt)
      go true h e = passes-not ReportMemory (sym e)
      go false h e = (ltb-false lent limit h, e)

  pub accepted-passes : check_of (admitted limit lent (read_by reader text)) ≡ Ok tt → Passes (lines text)
  accepted-passes e = (accepted-reading text reader (accepted-lent e).1).0

  pub accepted-enough : check_of (admitted limit lent (read_by reader text)) ≡ Ok tt → limit ≤ lent
  accepted-enough e = (accepted-lent e).0

  pub accepted-read : check_of (admitted limit lent (read_by reader text)) ≡ Ok tt → read_by reader text ≡ readings.routine (routine_of (lines text))
  accepted-read e = (accepted-reading text reader (accepted-lent e).1).1

-- ---- what is answered

module _ (f : readings.Routine → Answer) (m : readings.Reading) (limit n : ℕ) where
  -- the answer to a text and to n lent bytes
  abbrev answered : Answer
  answered = lending limit n (of_reading f m)

  of-admitted : answered ≡ of_reading f (admitted limit n m)
  unfolding admitted of_reading
  of-admitted = go (ltb n limit)
    where
      go : (b : Bool) → cond b (answers.refused ReportMemory) (of_reading f m) ≡ of_reading f (cond b (readings.unread ReportMemory) m)
      go true = refl
      go false = refl

  pub check-refused : (x : Refusal) → check_of (admitted limit n m) ≡ Err x → answered ≡ answers.refused x
  unfolding of_reading
  check-refused x e = of-admitted ∙ ap (of_reading f) (refused-reading (admitted limit n m) x e)

  -- what a refusal keeps: every lent byte
  pub check-refuses : (x : Refusal) → check_of (admitted limit n m) ≡ Err x → (former : List ℕ) → (Err x ≡ answer_of answered) × (former ≡ memory answered former)
  check-refuses x e former = gives-refusal answered x (check-refused x e) former

-- of a text that is accepted: enough is lent, the text has the routine that was made, and that is what is answered of
module _ (reader : Reader) (limit n : ℕ) (text : List ℕ) (f : readings.Routine → Answer) (accepts : check_of (admitted limit n (read_by reader text)) ≡ Ok tt)
    (r : Routine) (holds : Holds (routine_of (lines text)) r) where
  pub read-holds : (limit ≤ n) × (read_by reader text ≡ readings.routine (routine_in r))
  read-holds = (accepted-enough reader limit n text accepts, accepted-read reader limit n text accepts ∙ ap readings.routine (sym (holds-is (routine_of (lines text)) r holds)))

  pub read-answers : lending limit n (of_reading f (read_by reader text)) ≡ f (routine_in r)
  read-answers = reading-passed f (read_by reader text) limit n read-holds.0 (routine_in r) read-holds.1

  pub read-gives : (a : Result ℕ Refusal) (former out : List ℕ) → (a ≡ answer_of (f (routine_in r))) × (out ≡ memory (f (routine_in r)) former)
      → (a ≡ answer_of (lending limit n (of_reading f (read_by reader text)))) × (out ≡ memory (lending limit n (of_reading f (read_by reader text))) former)
  read-gives a former out h = rw (← read-answers) at h
