-- Laws of the answers of a replay: in each case of the code, how large they are, and where they refuse. Assumes nothing.
use Rattle.std.specs.Prelude.{Err, Ok, Result, ⊤, None, Option, Some}
use Prim.Native.Nat.{ℕ, ◌+◌, ◌<◌, ◌≤◌}
use mathlib.Core.Path.{◌≡◌, refl, sym, ap, ◌∙◌}
use mathlib.Core.List.{List, ◌++◌}
use native.Mathlib.Omega.{arith}
use lib.IntN.{ℤ}
use lib.ListN.{length, length-append, length-map, length-drop}
use Rattle.refusals.specs.declared.Refusal.{Refusal}
use Rattle.refusals.specs.Refusals.{place}
use Rattle.text.specs.Text.{bytes, lines}
use Rattle.text_decimals.specs.Decimal.{decimal}
use Rattle.text_decimals.proofs.DecimalLaws.{decimal-length}
use Rattle.machine.specs.Machine.{State, Code}
use Rattle.file_format.specs.Routine.{read_run}
use Rattle.file_format.specs.Routine as readings
use Rattle.file_format.proofs.PlaceLaws.{read-run-place}
use Rattle.file_reader.specs.declared.Routine.{Routine}
use Rattle.replay_trace.specs.Traces.{trace_acceptance, entries}
use Rattle.replay_trace.proofs.TraceLaws.{entries-few, trace-place}
use Rattle.replay_steps.specs.Replay.{Outcome, agreed, differed, replay}
use Rattle.replay_steps.specs.Held.{of_replayed}
use Rattle.replay_steps.proofs.Theorems.{differs-where}
use Rattle.answers.specs.Answers.{reported, refused, memory_limit, of_acceptance}
use Rattle.answers.proofs.AnswerLaws.{never, from-reading, place-from, reading-passed}
use Rattle.replay_entry.specs.Answers.{outcome_text, replay_routine, replay_answer}
use Rattle.replay_entry.specs.Held.{outcome_in}

-- ---- what is printed

pub text-agrees : (x : Option ℕ) → x ≡ None → outcome_text (of_replayed x) ≡ bytes "AGREES\n"
unfolding outcome_text of_replayed
text-agrees x e = rw e refl

pub text-differs : (x : Option ℕ) (n : ℕ) → x ≡ Some n → outcome_text (of_replayed x) ≡ bytes "DIFFERS " ++ decimal n ++ bytes "\n"
unfolding outcome_text of_replayed
text-differs x n e = rw e refl

differed-length : (n : ℕ) → length (bytes "DIFFERS " ++ decimal n ++ bytes "\n") ≡ 8 + length (decimal n) + 1
differed-length n = simp length-append

pub agrees-length : (x : Option ℕ) → x ≡ None → length (outcome_text (of_replayed x)) ≡ 7
agrees-length x e = rw (text-agrees x e) refl

-- a line's number has four digits at most
outcome-length : (o : Outcome) → ((n : ℕ) → o ≡ differed n → n < 10000) → (1 ≤ length (outcome_text o)) × (length (outcome_text o) ≤ 13)
unfolding outcome_text
outcome-length agreed h = (omega arith, omega arith)
outcome-length (differed n) h =
    let l = differed-length n in
    let d = decimal-length 4 n (h n refl) (omega arith) in
    (omega arith, omega arith)

-- ---- a trace

pub lines-few : (trace : List ℕ) → trace_acceptance trace ≡ Ok tt → length (lines trace) ≤ 4097
unfolding entries
lines-few trace e = let h = entries-few trace e in let k = rw (length-map, length-drop) at h in omega arith

-- ---- a routine

module _ (trace : List ℕ) (accepted : trace_acceptance trace ≡ Ok tt) where
  -- what is said of an accepted trace
  outcome_fits : (c : Code) (s : State) (answers : List ℤ) → (1 ≤ length (outcome_text (replay c s answers (entries trace)))) × (length (outcome_text (replay c s answers (entries trace))) ≤ 13)
  outcome_fits c s answers = outcome-length (replay c s answers (entries trace)) (λ n e. let (k, q, f) = (differs-where c s answers (entries trace)).0 n e in let l = entries-few trace accepted in let t = f.there in omega arith)

  pub said-length : (x : Routine) → (1 ≤ length (outcome_text (outcome_in x trace))) × (length (outcome_text (outcome_in x trace)) ≤ 13)
  said-length x = outcome_fits _ _ _

  pub said : (x : Routine) (s : Option ℕ) → of_replayed s ≡ outcome_in x trace → of_acceptance (outcome_text (outcome_in x trace)) (trace_acceptance trace) ≡ reported (outcome_text (of_replayed s))
  unfolding of_acceptance
  said x s e = rw (accepted, ← e) refl

pub said-refused : (trace made : List ℕ) (r : Refusal) → trace_acceptance trace ≡ Err r → of_acceptance made (trace_acceptance trace) ≡ refused r
unfolding of_acceptance
said-refused trace made r e = rw e refl

-- ---- a text

module _ (text trace : List ℕ) (n : ℕ) where
  pub replay-passed : 128 ≤ n → (x : readings.Routine) → read_run text ≡ readings.routine x → replay_answer text trace n ≡ replay_routine trace x
  unfolding replay_answer
  replay-passed = reading-passed (replay_routine trace) (read_run text) memory_limit n

  -- a report
  pub replay-reported : (bs : List ℕ) → replay_answer text trace n ≡ reported bs → (1 ≤ length bs) × (length bs ≤ 128) × (128 ≤ n)
  unfolding replay_answer replay_routine of_acceptance
  replay-reported bs e =
      let a = from-reading (replay_routine trace) (read_run text) memory_limit n bs e in
      let x = a.routine in
      go (outcome_text (replay x.code x.start x.answers (entries trace))) (λ k. outcome_fits trace k x.code x.start x.answers) (trace_acceptance trace) refl a.lent a.gives
    where
      go : (said : List ℕ) → (trace_acceptance trace ≡ Ok tt → (1 ≤ length said) × (length said ≤ 13)) → (v : Result ⊤ Refusal) → trace_acceptance trace ≡ v → 128 ≤ n → of_acceptance said v ≡ reported bs
          → (1 ≤ length bs) × (length bs ≤ 128) × (128 ≤ n)
      go said h (Ok tt) q l e = let f : said ≡ bs = cc in let k = h q in rw (← f) (k.0, omega (arith, k.1), l)
      go said h (Err r) q l e = never r bs e

  -- a refusal
  pub replay-place : (r : Refusal) → replay_answer text trace n ≡ refused r → place r ≤ 32769
  unfolding replay_answer replay_routine of_acceptance
  replay-place r =
      place-from 32769 (replay_routine trace) (read_run text) memory_limit n r
      (read-run-place text)
      (λ x e f. go (outcome_text (replay x.code x.start x.answers (entries trace))) (trace_acceptance trace) refl f)
    where
      go : (made : List ℕ) (v : Result ⊤ Refusal) → trace_acceptance trace ≡ v → of_acceptance made v ≡ refused r → place r ≤ 32769
      go made (Ok tt) q f = never r made (sym f)
      go made (Err x) q f = let h : x ≡ r = cc in omega (arith, trace-place trace r (q ∙ ap Err h))
