-- Laws of answers: what a report or a refusal comes from, and what the code answers and leaves in the memory. Assumes nothing.
use Rattle.std.specs.Prelude.{Err, Ok, Result}
use mathlib.Core.Path.{◌≡◌, refl, ap, ◌∙◌}
use mathlib.Core.Bool.{Bool, true, false, cond}
use mathlib.Core.List.{List, ◌++◌}
use Prim.Native.Nat.{ℕ, ◌≤◌, ◌<◌}
use native.Mathlib.Omega.{arith}
use lib.Dec.{ltb}
use lib.ListN.{length, drop, length-append}
use lib.Seq.{take-append_seam}
use borrow.Author.Tests.{lt-ltb, le-ltb, ltb-false}
use Rattle.refusals.specs.declared.Refusal.{Refusal}
use Rattle.refusals.specs.declared.Refusal.TheVariants.{ReportMemory}
use Rattle.refusals.specs.Refusals.{place}
use Rattle.file_format.specs.Routine.{Routine, Reading}
use Rattle.file_format.specs.Routine as readings
use Rattle.answers.specs.Answers.{Answer, reported, refused, lending, of_reading, memory, answer_of, report_length, Delivers}

-- an answer is of one case
pub never : {A : Type 0} (r : Refusal) (bs : List ℕ) → refused r ≡ reported bs → A
never r bs e = let z : ◌≡◌ {A = ℕ} 0 1 = cc in absurd (omega arith)

-- ---- the lent memory

module _ (limit n : ℕ) (a : Answer) where
  pub lent-short : n < limit → lending limit n a ≡ refused ReportMemory
  lent-short h = rw (lt-ltb n limit h) refl

  pub lent-enough : limit ≤ n → lending limit n a ≡ a
  lent-enough h = rw (le-ltb n limit h) refl

  -- a report is given where enough is lent
  pub lent-reported : (bs : List ℕ) → lending limit n a ≡ reported bs → (limit ≤ n) × (a ≡ reported bs)
  lent-reported bs = go (ltb n limit) refl
    where
      go : (b : Bool) → ltb n limit ≡ b → cond b (refused ReportMemory) a ≡ reported bs → (limit ≤ n) × (a ≡ reported bs)
      go true h e = never ReportMemory bs e
      go false h e = (ltb-false n limit h, e)

  -- a refusal is that of the memory, at place 0, or that of the answer
  pub lent-place : (B : ℕ) (r : Refusal) → (a ≡ refused r → place r ≤ B) → lending limit n a ≡ refused r → place r ≤ B
  unfolding place
  lent-place B r f = go (ltb n limit)
    where
      go : (b : Bool) → cond b (refused ReportMemory) a ≡ refused r → place r ≤ B
      go true e = let h : ReportMemory ≡ r = cc in rw (← h) (omega arith)
      go false e = f e

-- ---- a reading

pub record FromReading (f : Routine → Answer) (m : Reading) (limit n : ℕ) (bs : List ℕ) : Type 0 where
  pub lent : limit ≤ n
  pub routine : Routine
  pub reads : m ≡ readings.routine routine
  pub gives : f routine ≡ reported bs

pub from-reading : (f : Routine → Answer) (m : Reading) (limit n : ℕ) (bs : List ℕ) → lending limit n (of_reading f m) ≡ reported bs → FromReading f m limit n bs
unfolding of_reading
from-reading f m limit n bs e = let l = lent-reported limit n (of_reading f m) bs e in read l.0 m l.1
  where
    read : limit ≤ n → (m : Reading) → of_reading f m ≡ reported bs → FromReading f m limit n bs
    read h (readings.unread r) e = never r bs e
    read h (readings.routine x) e = record { lent = h; routine = x; reads = refl; gives = e }

-- a refusal is that of the memory, that of the reading, or that of the routine
pub place-from : (B : ℕ) (f : Routine → Answer) (m : Reading) (limit n : ℕ) (r : Refusal) → ((r : Refusal) → m ≡ readings.unread r → place r ≤ B) →
    ((x : Routine) → m ≡ readings.routine x → f x ≡ refused r → place r ≤ B) → lending limit n (of_reading f m) ≡ refused r → place r ≤ B
unfolding of_reading
place-from B f m limit n r of-reading of-routine = lent-place limit n (of_reading f m) B r (read m refl)
  where
    read : (k : Reading) → m ≡ k → of_reading f k ≡ refused r → place r ≤ B
    read (readings.unread x) q e = let h : x ≡ r = cc in of-reading r (q ∙ ap readings.unread h)
    read (readings.routine x) q e = of-routine x q e

-- a text that is refused, and one that is not
module _ (f : Routine → Answer) (m : Reading) (limit n : ℕ) (h : limit ≤ n) where
  pub reading-refused : (x : Refusal) → m ≡ readings.unread x → lending limit n (of_reading f m) ≡ refused x
  unfolding of_reading
  reading-refused x e = lent-enough limit n (of_reading f m) h ∙ ap (of_reading f) e

  pub reading-passed : (x : Routine) → m ≡ readings.routine x → lending limit n (of_reading f m) ≡ f x
  unfolding of_reading
  reading-passed x e = lent-enough limit n (of_reading f m) h ∙ ap (of_reading f) e

-- ---- the answer and the memory

pub gives-report : (a : Answer) (bs : List ℕ) → a ≡ reported bs → (n : ℕ) → n ≡ length bs → (former out : List ℕ) → out ≡ bs ++ drop (length bs) former
    → (Ok n ≡ answer_of a) × (out ≡ memory a former)
unfolding answer_of memory
gives-report a bs e n h former out m = (rw (e, h) refl, rw e m)

pub gives-refusal : (a : Answer) (x : Refusal) → a ≡ refused x → (former : List ℕ) → (Err x ≡ answer_of a) × (former ≡ memory a former)
unfolding answer_of memory
gives-refusal a x e former = (rw e refl, rw e refl)

-- what holds of the bytes of every report holds of those that are told
pub delivers : (P : List ℕ → Type 0) (a : Answer) → ((bs : List ℕ) → a ≡ reported bs → P bs) →
    (r : Result ℕ Refusal) → r ≡ answer_of a → (former out : List ℕ) → out ≡ memory a former → Delivers (report_length r) out P
unfolding answer_of memory report_length
delivers P (reported bs) h r e former out m n t =
    let l : length bs ≡ n = cc in
    rw (m, ← l, take-append_seam) (omega (arith, length-append bs (drop (length bs) former)), h bs refl)
delivers P (refused x) h r e former out m n t = let z : ◌≡◌ {A = ℕ} 0 1 = cc in absurd (omega arith)
