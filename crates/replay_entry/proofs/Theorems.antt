-- The statement of `specs/Promises`, proved by its name. Assumes nothing.
use Rattle.refusals.specs.declared.Refusal.{Refusal}
use Rattle.std.specs.Prelude.{Err, Ok, Result, Some, ⊤}
use Prim.Native.Nat.{ℕ}
use mathlib.Core.Path.{◌≡◌, refl, sym, ap, ◌∙◌}
use mathlib.Core.List.{List, ◌++◌, append_cancel_left, append_cancel_right}
use native.Mathlib.Omega.{arith}
use lib.IntN.{pos}
use lib.ListN.{length, get_or, take}
use lib.Seq.{take-length}
use Rattle.text.specs.Text.{bytes, lines}
use Rattle.text_decimals.specs.Decimal.{decimal, numeral}
use Rattle.text_decimals.proofs.DecimalLaws.{decimal-read}
use Rattle.machine.specs.Forward.{Forward}
use Rattle.machine.specs.Targets.{Closed}
use Rattle.merge_theory.proofs.Theorems.{merged-interruptible}
use Rattle.file_format.specs.Routine.{Routine, read_run}
use Rattle.file_format.proofs.RowLaws.{run-passes}
use Rattle.file_format.proofs.BranchLaws.{passing-forward, passing-closed}
use Rattle.replay_trace.specs.Traces.{Entry, entries, trace_acceptance}
use Rattle.replay_steps.specs.Replay.{Outcome, agreed, differed, replay}
use Rattle.replay_steps.specs.Promises.{spent}
use Rattle.replay_steps.proofs.Theorems.{agrees-where, differs-where, spent-within-run, spent-within-bound}
use Rattle.answers.specs.Answers.{reported, memory_limit, of_acceptance, memory, answer_of, report_length, Delivers}
use Rattle.answers.proofs.AnswerLaws.{never, from-reading, delivers}
use Rattle.replay_entry.specs.Answers.{outcome_text, replay_routine, replay_answer}
use Rattle.replay_entry.specs.Promises.{KeepsTo, ReplayKept, ReplaysKept}

-- ---- what is printed says what was found

said-agreed : (o : Outcome) → outcome_text o ≡ bytes "AGREES\n" → o ≡ agreed
unfolding outcome_text
said-agreed agreed e = refl
said-agreed (differed n) e = let z : ◌≡◌ {A = ℕ} 68 65 = ap (λ l. get_or l 0 0) e in absurd (omega arith)

-- a number is written in one way
written_one : (m n : ℕ) → decimal m ≡ decimal n → m ≡ n
written_one m n e = let z : Some (pos m) ≡ Some (pos n) = sym (decimal-read m) ∙ ap numeral e ∙ decimal-read n in cc

said-differed : (o : Outcome) (n : ℕ) → outcome_text o ≡ bytes "DIFFERS " ++ decimal n ++ bytes "\n" → o ≡ differed n
unfolding outcome_text
said-differed agreed n e = let z : ◌≡◌ {A = ℕ} 65 68 = ap (λ l. get_or l 0 0) e in absurd (omega arith)
said-differed (differed m) n e =
    ap differed (written_one m n (append_cancel_left (bytes "DIFFERS ") (decimal m) (decimal n) (append_cancel_right (bytes "DIFFERS " ++ decimal m) (bytes "DIFFERS " ++ decimal n) (bytes "\n") e)))

-- ---- a trace that agrees

keeps-to : (x : Routine) → Forward x.code → Closed x.code → (es : List Entry) → replay x.code x.start x.answers es ≡ agreed → KeepsTo x es
keeps-to x f g es e = record {
  every = (agrees-where x.code x.start x.answers es).0 e;
  within = spent-within-run x.code x.start x.answers es e;
  bounded = λ budget t q a w. spent-within-bound x.code x.start x.answers es e budget t q a w;
  passed = λ t q a w.
      let n = length es in
      let i = spent-within-run x.code x.start x.answers es e n (omega arith) in
      let j : spent (take n es) ≡ spent es = ap spent (take-length es) in
      let k = (merged-interruptible x.code f g t q a x.start w x.answers n).cycles in
      omega arith;
}

pub replays-kept : ReplaysKept
unfolding replay_answer replay_routine of_acceptance
replays-kept text trace n printed e =
    let a = from-reading (replay_routine trace) (read_run text) memory_limit n printed e in
    let x = a.routine in
    let o = replay x.code x.start x.answers (entries trace) in
    let said : outcome_text o ≡ printed = go (outcome_text o) (trace_acceptance trace) a.gives in
    let p = run-passes text x a.reads in
    let f : Forward x.code = rw p.2 (passing-forward (lines text) p.0) in
    let g : Closed x.code = rw p.2 (passing-closed (lines text) p.0) in
    record {
      routine = x;
      reads = a.reads;
      agrees = λ h. keeps-to x f g (entries trace) (said-agreed o (said ∙ h));
      differs = λ m h. (differs-where x.code x.start x.answers (entries trace)).0 m (said-differed o m (said ∙ h));
    }
  where
    go : (made : List ℕ) (v : Result ⊤ Refusal) → of_acceptance made v ≡ reported printed → made ≡ printed
    go made (Ok tt) e = cc
    go made (Err r) e = never r printed e

-- so of the bytes that are told
pub told-kept : (text trace : List ℕ) (n : ℕ) (former out : List ℕ) (r : Result ℕ Refusal) → (r ≡ answer_of (replay_answer text trace n)) × (out ≡ memory (replay_answer text trace n) former) →
    (r ≡ answer_of (replay_answer text trace n)) × ((out ≡ memory (replay_answer text trace n) former) × Delivers (report_length r) out (ReplayKept text trace))
told-kept text trace n former out r (e, m) = (e, (m, delivers (ReplayKept text trace) (replay_answer text trace n) (replays-kept text trace n) r e former out m))
