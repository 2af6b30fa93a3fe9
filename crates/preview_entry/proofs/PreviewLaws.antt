-- What a preview answers is what the first bound answers of the copy. Assumes nothing.
use Prim.Native.Nat.{ℕ, ◌≤◌}
use mathlib.Core.Path.{◌≡◌, refl, sym, ap, ◌∙◌}
use mathlib.Core.Bool.{Bool, true, false, cond}
use mathlib.Core.List.{List}
use mathlib.Core.Logic.{◌⊎◌, inl, inr}
use native.Mathlib.Omega.{arith}
use lib.Dec.{ltb}
use lib.ListN.{length}
use borrow.Author.Tests.{ltb-true}
use Rattle.refusals.specs.declared.Refusal.{Refusal}
use Rattle.refusals.specs.declared.Refusal.TheVariants.{ReportMemory, TextLength, BadName}
use Rattle.refusals.specs.Refusals.{place}
use Rattle.text.specs.Text.{lines}
use Rattle.file_format.specs.Routine.{Reading, read_bound, text_limit}
use Rattle.file_format.specs.Routine as readings
use Rattle.file_format.proofs.RowLaws.{too_long}
use Rattle.file_format.proofs.PlaceLaws.{read-bound-place}
use Rattle.answers.specs.Answers.{Answer, reported, refused, memory_limit, of_reading}
use Rattle.answers.proofs.AnswerLaws.{never, from-reading, reading-refused, lent-enough}
use Rattle.preview_copy.specs.Patch.{in_code, patched}
use Rattle.preview_copy.specs.Held.{within, copy_answer}
use Rattle.report_theory.specs.Answers.{bound_routine, bound_answer}
use Rattle.report_theory.proofs.AnswerLaws.{reports-kept, bound-reported, bound-refusal-place}
use Rattle.preview_entry.specs.Answers.{preview_answer}
use Rattle.preview_entry.specs.Promises.{PreviewsKept}

-- ---- its report

-- what is told of a file that passes, by whether the address is one of its code
previewed : List ℕ → ℕ → List ℕ → ℕ → Bool → Answer
previewed text address instruction n b = cond b (bound_answer (patched (lines text) address instruction) n) (refused (BadName address))

-- a report is the bound's of the copy
preview-bound : (text instruction : List ℕ) (address n : ℕ) (bs : List ℕ) → preview_answer text address instruction n ≡ reported bs → bound_answer (patched (lines text) address instruction) n ≡ reported bs
unfolding preview_answer previewed
preview-bound text instruction address n bs e =
    let a = from-reading (λ x. previewed text address instruction n (in_code x.code address)) (read_bound text) memory_limit n bs e in
    go (in_code a.routine.code address) a.gives
  where
    go : (b : Bool) → previewed text address instruction n b ≡ reported bs → bound_answer (patched (lines text) address instruction) n ≡ reported bs
    go true h = h
    go false h = never (BadName address) bs h

pub previews-kept : PreviewsKept
previews-kept text instruction address n bs e = reports-kept (patched (lines text) address instruction) n bs (preview-bound text instruction address n bs e)

-- ---- its size

pub preview-reported : (text instruction : List ℕ) (address n : ℕ) (bs : List ℕ) → preview_answer text address instruction n ≡ reported bs → (1 ≤ length bs) × (length bs ≤ memory_limit) × (memory_limit ≤ n)
preview-reported text instruction address n bs e = bound-reported (patched (lines text) address instruction) n bs (preview-bound text instruction address n bs e)

-- ---- its refusals

pub preview-place : (text instruction : List ℕ) (address n : ℕ) (r : Refusal) → preview_answer text address instruction n ≡ refused r → (place r ≤ 62000) ⊎ (r ≡ BadName address)
unfolding place of_reading preview_answer previewed
preview-place text instruction address n r = lent (ltb n memory_limit)
  where
    of-copy : (b : Bool) → previewed text address instruction n b ≡ refused r → (place r ≤ 62000) ⊎ (r ≡ BadName address)
    of-copy true e = inl (bound-refusal-place (patched (lines text) address instruction) n r e)
    of-copy false e = let h : BadName address ≡ r = cc in inr (sym h)

    read : (m : Reading) → read_bound text ≡ m → of_reading (λ x. previewed text address instruction n (in_code x.code address)) m ≡ refused r → (place r ≤ 62000) ⊎ (r ≡ BadName address)
    read (readings.unread x) q e = let h : x ≡ r = cc in inl (omega (arith, read-bound-place text r (q ∙ ap readings.unread h)))
    read (readings.routine x) q e = of-copy (in_code x.code address) e

    lent : (b : Bool) → cond b (refused ReportMemory) (of_reading (λ x. previewed text address instruction n (in_code x.code address)) (read_bound text)) ≡ refused r
        → (place r ≤ 62000) ⊎ (r ≡ BadName address)
    lent true e = let h : ReportMemory ≡ r = cc in inl (rw (← h) (omega arith))
    lent false e = read (read_bound text) refl e

-- ---- the copy

-- what the bound says of a copy that is made; what is refused before it is made
bounded : ℕ → Answer → Answer
bounded n (reported bs) = bound_answer bs n
bounded n (refused x) = refused x

module _ (text : List ℕ) (address : ℕ) (instruction : List ℕ) (n : ℕ) where
  module _ (h : 128 ≤ n) where
    -- "text over 32,768 bytes" is refused by the bound too
    copy-bounded : (copy : List ℕ) → bound_answer copy n ≡ bounded n (within copy)
    unfolding bound_answer within bounded
    copy-bounded copy = go (ltb text_limit (length copy)) refl
      where
        go : (b : Bool) → ltb text_limit (length copy) ≡ b → bound_answer copy n ≡ bounded n (cond b (refused TextLength) (reported copy))
        go true e = reading-refused bound_routine (read_bound copy) memory_limit n h TextLength (too_long copy (ltb-true text_limit (length copy) e)).0
        go false e = refl

    preview-is : preview_answer text address instruction n ≡ bounded n (copy_answer text address instruction)
    unfolding preview_answer copy_answer of_reading bounded
    preview-is = lent-enough memory_limit n _ h ∙ read (read_bound text)
      where
        copied : (b : Bool) → cond b (bound_answer (patched (lines text) address instruction) n) (refused (BadName address))
            ≡ bounded n (cond b (within (patched (lines text) address instruction)) (refused (BadName address)))
        copied true = copy-bounded (patched (lines text) address instruction)
        copied false = refl

        read : (m : Reading) → of_reading (λ x. cond (in_code x.code address) (bound_answer (patched (lines text) address instruction) n) (refused (BadName address))) m
            ≡ bounded n (of_reading (λ x. cond (in_code x.code address) (within (patched (lines text) address instruction)) (refused (BadName address))) m)
        read (readings.unread x) = refl
        read (readings.routine x) = copied (in_code x.code address)

    pub preview-copied : (bs : List ℕ) → copy_answer text address instruction ≡ reported bs → preview_answer text address instruction n ≡ bound_answer bs n
    unfolding bounded
    preview-copied bs e = preview-is ∙ ap (bounded n) e

    pub preview-refused : (x : Refusal) → copy_answer text address instruction ≡ refused x → preview_answer text address instruction n ≡ refused x
    unfolding bounded
    preview-refused x e = preview-is ∙ ap (bounded n) e
