-- What C is told of each answer: the number, the length, the refusals. Assumes nothing.
use Rattle.std.specs.Prelude.{Err, Ok, Result}
use Prim.Native.Nat.{ℕ, ◌+◌, ◌*◌, ◌%◌, ◌≤◌, ◌<◌}
use mathlib.Core.Path.{◌≡◌, refl, sym, ap, ap₂, ◌∙◌}
use mathlib.Core.List.{List, [], ◌∷◌}
use mathlib.Core.Logic.{◌⊎◌, inl, inr, ◌↔◌}
use native.Mathlib.Omega.{arith}
use native.Mathlib.Nat.{mod-eq_of_lt}
use lib.ListN.{length, get_or}
use borrow.Author.Tests.{lt-ltb, le-ltb}
use Rattle.refusals.specs.declared.Refusal.{Refusal}
use Rattle.refusals.specs.declared.Refusal.TheVariants.{BadName}
use Rattle.refusals.specs.declared.Refusal.TheVariants as refusals
use Rattle.refusals.specs.Refusals.{number, place}
use Rattle.answers.specs.Answers.{Answer, reported, memory_limit, answer_of, report_length}
use Rattle.answers.specs.Answers as answers
use Rattle.report_theory.specs.Answers.{bound_answer, merge_answer, run_answer}
use Rattle.report_theory.specs.Listed.{BoundRefused, MergeRefused, RunRefused, Numbered, ListedAlone}
use Rattle.report_theory.proofs.AnswerLaws.{bound-reported, merge-reported, run-reported, bound-refusal-place, merge-refusal-place, run-refusal-place}
use Rattle.report_theory.proofs.ListedLaws.{bound-listed, merge-listed, run-listed}
use Rattle.preview_entry.specs.Answers.{preview_answer}
use Rattle.preview_entry.proofs.PreviewLaws.{preview-reported, preview-place}
use Rattle.words_entry.specs.Answers.{conversion_limit, import_answer, export_answer}
use Rattle.words_entry.proofs.FunctionLaws.{import-reported, import-place, export-reported, export-place}
use Rattle.replay_entry.specs.Answers.{replay_answer}
use Rattle.replay_entry.proofs.FunctionLaws.{replay-reported, replay-place}
use Rattle.split_entry.specs.Answers.{split_answer}
use Rattle.split_entry.specs.Listed.{CasesRefused}
use Rattle.split_entry.proofs.ListedLaws.{splits-listed}
use Rattle.split_entry.proofs.Theorems.{splits-fit, split_places}
use Rattle.explain_entry.specs.Answers.{explanation_limit, explain_answer}
use Rattle.explain_entry.proofs.Theorems.{explanations-fit, explain-place}
use Rattle.explain_merge_entry.specs.Answers.{explain_merge_answer}
use Rattle.explain_merge_entry.proofs.Theorems.{merge-explanations-fit, explain-merge-place}
use Rattle.nearest_entry.specs.Answers.{nearest_answer}
use Rattle.nearest_entry.proofs.FunctionLaws.{nearest-reported, nearest-place}
use Rattle.generate_entry.specs.Answers.{generator_limit, generate_answer}
use Rattle.generate_entry.proofs.FunctionLaws.{generate-reported, generate-place}
use Rattle.decide_entry.specs.Answers.{decide_answer}
use Rattle.decide_entry.proofs.PromiseLaws.{decide-reported, decide-place}
use Rattle.decide_split_entry.specs.Answers.{decide_split_answer}
use Rattle.decide_split_entry.proofs.FunctionLaws.{decide-split-reported}
use Rattle.decide_split_entry.proofs.Theorems.{decide-split-place}
use Rattle.trace_entry.specs.Answers.{trace_memory, trace_answer}
use Rattle.trace_entry.proofs.Theorems.{traces-fit, trace-place}
use Rattle.c_answers.specs.Told.{told_length, word_of, Tells, AnswerTold, RefusesWord}

-- a refusal by its number and its place
abbrev refusal_at : ℕ → ℕ → Refusal
refusal_at n p =
    get_or
    (refusals.ReportMemory ∷ refusals.TextLength ∷ refusals.Layout p ∷ refusals.OutOfRange p ∷ refusals.BadName p ∷ refusals.Unpriced p
    ∷ refusals.NoTarget p ∷ refusals.Stuck p ∷ refusals.Openings p ∷ refusals.Spent p ∷ refusals.ReportMemory ∷ refusals.UnknownCell p
    ∷ refusals.BadWord p ∷ refusals.Backward p ∷ refusals.NoMeeting p ∷ [])
    n refusals.ReportMemory

refusal-told : (r : Refusal) → r ≡ refusal_at (number r) (place r)
unfolding number place
refusal-told refusals.ReportMemory = refl
refusal-told refusals.TextLength = refl
refusal-told (refusals.Layout n) = refl
refusal-told (refusals.OutOfRange n) = refl
refusal-told (refusals.BadName n) = refl
refusal-told (refusals.Unpriced n) = refl
refusal-told (refusals.NoTarget n) = refl
refusal-told (refusals.Backward n) = refl
refusal-told (refusals.UnknownCell n) = refl
refusal-told (refusals.Stuck a) = refl
refusal-told (refusals.Openings a) = refl
refusal-told (refusals.Spent a) = refl
refusal-told (refusals.BadWord i) = refl
refusal-told (refusals.NoMeeting a) = refl

-- a report of 1 to `most` bytes, or a refusal whose place has 32 bits
pub record WithinLimits (most : ℕ) (a : Answer) : Type 0 where
  pub small : most ≤ 65536
  pub report : (bs : List ℕ) → a ≡ reported bs → (1 ≤ length bs) × (length bs ≤ most)
  pub refusal : (r : Refusal) → a ≡ answers.refused r → place r < 4294967296

pub bound-limits : (text : List ℕ) (n : ℕ) → WithinLimits memory_limit (bound_answer text n)
bound-limits text n = record {
  small = omega arith;
  report = λ bs e. let r = bound-reported text n bs e in (r.0, r.1);
  refusal = λ r e. omega (arith, bound-refusal-place text n r e);
}

pub merge-limits : (text : List ℕ) (n : ℕ) → WithinLimits memory_limit (merge_answer text n)
merge-limits text n = record {
  small = omega arith;
  report = λ bs e. let r = merge-reported text n bs e in (r.0, r.1);
  refusal = λ r e. omega (arith, merge-refusal-place text n r e);
}

pub run-limits : (text : List ℕ) (n : ℕ) → WithinLimits memory_limit (run_answer text n)
run-limits text n = record {
  small = omega arith;
  report = λ bs e. let r = run-reported text n bs e in (r.0, r.1);
  refusal = λ r e. omega (arith, run-refusal-place text n r e);
}

pub import-limits : (words primitives : List ℕ) (n : ℕ) → WithinLimits conversion_limit (import_answer words primitives n)
import-limits words primitives n = record {
  small = omega arith;
  report = λ bs e. let r = import-reported words primitives n bs e in (r.0, r.1);
  refusal = λ r e. omega (arith, import-place words primitives n r e);
}

pub export-limits : (text : List ℕ) (n : ℕ) → WithinLimits conversion_limit (export_answer text n)
export-limits text n = record {
  small = omega arith;
  report = λ bs e. let r = export-reported text n bs e in (r.0, r.1);
  refusal = λ r e. omega (arith, export-place text n r e);
}

pub split-limits : (text cuts : List ℕ) (n : ℕ) → WithinLimits memory_limit (split_answer text cuts n)
split-limits text cuts n = record {
  small = omega arith;
  report = λ bs e. let r = splits-fit text cuts n bs e in (r.0, r.1);
  refusal = λ r e. omega (arith, split_places text cuts n r e);
}

pub replay-limits : (text trace : List ℕ) (n : ℕ) → WithinLimits memory_limit (replay_answer text trace n)
replay-limits text trace n = record {
  small = omega arith;
  report = λ bs e. let r = replay-reported text trace n bs e in (r.0, r.1);
  refusal = λ r e. omega (arith, replay-place text trace n r e);
}

-- the address of a preview has 32 bits
place-or-address : (address : ℕ) → address < 4294967296 → (r : Refusal) → (place r ≤ 62000) ⊎ (r ≡ BadName address) → place r < 4294967296
unfolding place
place-or-address address h r (inl k) = omega arith
place-or-address address h r (inr e) = rw e h

pub preview-limits : (text instruction : List ℕ) (address n : ℕ) → address < 4294967296 → WithinLimits memory_limit (preview_answer text address instruction n)
preview-limits text instruction address n h = record {
  small = omega arith;
  report = λ bs e. let r = preview-reported text instruction address n bs e in (r.0, r.1);
  refusal = λ r e. place-or-address address h r (preview-place text instruction address n r e);
}

pub nearest-limits : (text : List ℕ) (n : ℕ) → WithinLimits memory_limit (nearest_answer text n)
nearest-limits text n = record {
  small = omega arith;
  report = λ bs e. let r = nearest-reported text n bs e in (r.0, r.1);
  refusal = λ r e. omega (arith, nearest-place text n r e);
}

pub generate-limits : (seed n : ℕ) → WithinLimits generator_limit (generate_answer seed n)
generate-limits seed n = record {
  small = omega arith;
  report = λ bs e. let r = generate-reported seed n bs e in (r.0, r.1);
  refusal = λ r e. omega (arith, generate-place seed n r e);
}

pub decide-limits : (text : List ℕ) (n : ℕ) → WithinLimits memory_limit (decide_answer text n)
decide-limits text n = record {
  small = omega arith;
  report = λ bs e. let r = decide-reported text n bs e in (r.0, r.1);
  refusal = λ r e. omega (arith, decide-place text n r e);
}

pub decide-split-limits : (text cuts : List ℕ) (n : ℕ) → WithinLimits memory_limit (decide_split_answer text cuts n)
decide-split-limits text cuts n = record {
  small = omega arith;
  report = λ bs e. let r = decide-split-reported text cuts n bs e in (r.0, r.1);
  refusal = λ r e. omega (arith, decide-split-place text cuts n r e);
}

pub explain-limits : (text : List ℕ) (n : ℕ) → WithinLimits explanation_limit (explain_answer text n)
explain-limits text n = record {
  small = omega arith;
  report = λ bs e. let r = explanations-fit text n bs e in (r.0, r.1);
  refusal = λ r e. omega (arith, explain-place text n r e);
}

pub explain-merge-limits : (text : List ℕ) (n : ℕ) → WithinLimits explanation_limit (explain_merge_answer text n)
explain-merge-limits text n = record {
  small = omega arith;
  report = λ bs e. let r = merge-explanations-fit text n bs e in (r.0, r.1);
  refusal = λ r e. omega (arith, explain-merge-place text n r e);
}

pub trace-limits : (text : List ℕ) (n : ℕ) → WithinLimits trace_memory (trace_answer text n)
trace-limits text n = record {
  small = omega arith;
  report = λ bs e. let r = traces-fit text n bs e in (r.0, r.1);
  refusal = λ r e. omega (arith, trace-place text n r e);
}

-- what holds of the number
tells : {most : ℕ} {a : Answer} → WithinLimits most a → (w : ℕ) → w ≡ word_of (answer_of a) → Tells most a w
unfolding word_of answer_of
tells h w e = record {
  report = λ bs q. let k = h.report bs q in rw (e, q) k;
  refusal = λ r q. let k = h.refusal r q in let z : place r % 4294967296 ≡ place r = mod-eq_of_lt (omega arith) in (omega arith, rw (e, q, z) refl);
}

-- the length that the number tells is the one answered
told-length : (most : ℕ) (a : Answer) → WithinLimits most a → told_length (word_of (answer_of a)) ≡ report_length (answer_of a)
unfolding word_of answer_of told_length report_length
told-length most (reported bs) h = let k = h.report bs refl in let m = h.small in rw (lt-ltb (length bs) 9223372036854775808 (omega arith)) refl
told-length most (answers.refused r) h = rw (le-ltb (9223372036854775808 + number r * 4294967296 + place r % 4294967296) 9223372036854775808 (omega arith)) refl

-- two answers with one number
pub told : (most : ℕ) (a b : Answer) → WithinLimits most a → WithinLimits most b → AnswerTold a b
unfolding word_of answer_of
told most (reported bs) (reported cs) h k e = ap Ok e
told most (reported bs) (answers.refused r) h k e = let l = h.report bs refl in let m = h.small in absurd (omega arith)
told most (answers.refused r) (reported bs) h k e = let l = k.report bs refl in let m = k.small in absurd (omega arith)
told most (answers.refused r) (answers.refused s) h k e =
    let l = h.refusal r refl in
    let m = k.refusal s refl in
    let f : number r ≡ number s = omega arith in
    let g : place r ≡ place s = omega arith in
    ap Err (refusal-told r ∙ ap₂ refusal_at f g ∙ sym (refusal-told s))

-- the refusals that a number tells, where those of the answer are settled
module _ (P : Refusal → Type 0) (a : Answer) (h : (r : Refusal) → (a ≡ answers.refused r) ↔ P r) where
  listed-word : (most w : ℕ) → most < 9223372036854775808 → Tells most a w → ListedAlone (RefusesWord w) P
  listed-word most w small t n p = (λ (l, e). from l e a refl, to)
    where
      from : p < 4294967296 → w ≡ 9223372036854775808 + n * 4294967296 + p → (b : Answer) → a ≡ b → Numbered P n p
      from l e (reported bs) f = absurd (omega (arith, t.report bs f))
      from l e (answers.refused r) f =
          let (k, g) = t.refusal r f in
          let i : number r ≡ n = omega arith in
          let j : place r ≡ p = omega arith in
          (r, (h r).0 f, i, j)

      to : Numbered P n p → RefusesWord w n p
      to (r, f, i, j) = let (k, g) = t.refusal r ((h r).1 f) in rw (← i, ← j) (k, g)

-- the refusals that the number tells are the listed cases
module _ (text : List ℕ) (n w : ℕ) where
  pub bound-listed-word : w ≡ word_of (answer_of (bound_answer text n)) → ListedAlone (RefusesWord w) (BoundRefused text n)
  bound-listed-word e = listed-word (BoundRefused text n) (bound_answer text n) (bound-listed text n) memory_limit w (omega arith) (tells (bound-limits text n) w e)

  pub merge-listed-word : w ≡ word_of (answer_of (merge_answer text n)) → ListedAlone (RefusesWord w) (MergeRefused text n)
  merge-listed-word e = listed-word (MergeRefused text n) (merge_answer text n) (merge-listed text n) memory_limit w (omega arith) (tells (merge-limits text n) w e)

  pub run-listed-word : w ≡ word_of (answer_of (run_answer text n)) → ListedAlone (RefusesWord w) (RunRefused text n)
  run-listed-word e = listed-word (RunRefused text n) (run_answer text n) (run-listed text n) memory_limit w (omega arith) (tells (run-limits text n) w e)

pub split-listed-word : (text cuts : List ℕ) (n w : ℕ) → w ≡ word_of (answer_of (split_answer text cuts n)) → ListedAlone (RefusesWord w) (CasesRefused text cuts n)
split-listed-word text cuts n w e = listed-word (CasesRefused text cuts n) (split_answer text cuts n) (splits-listed text cuts n) memory_limit w (omega arith) (tells (split-limits text cuts n) w e)

module _ (text : List ℕ) (n : ℕ) where
  pub bound-tells : (w : ℕ) → w ≡ word_of (answer_of (bound_answer text n)) → Tells memory_limit (bound_answer text n) w
  bound-tells = tells (bound-limits text n)

  pub bound-length : (r : Result ℕ Refusal) → r ≡ answer_of (bound_answer text n) → (w : ℕ) → w ≡ word_of r → report_length r ≡ told_length w
  bound-length r e w f = rw (f, e) (sym (told-length memory_limit (bound_answer text n) (bound-limits text n)))

  pub merge-tells : (w : ℕ) → w ≡ word_of (answer_of (merge_answer text n)) → Tells memory_limit (merge_answer text n) w
  merge-tells = tells (merge-limits text n)

  pub merge-length : (r : Result ℕ Refusal) → r ≡ answer_of (merge_answer text n) → (w : ℕ) → w ≡ word_of r → report_length r ≡ told_length w
  merge-length r e w f = rw (f, e) (sym (told-length memory_limit (merge_answer text n) (merge-limits text n)))

  pub run-tells : (w : ℕ) → w ≡ word_of (answer_of (run_answer text n)) → Tells memory_limit (run_answer text n) w
  run-tells = tells (run-limits text n)

  pub run_length : (r : Result ℕ Refusal) → r ≡ answer_of (run_answer text n) → (w : ℕ) → w ≡ word_of r → report_length r ≡ told_length w
  run_length r e w f = rw (f, e) (sym (told-length memory_limit (run_answer text n) (run-limits text n)))

  pub decide-tells : (w : ℕ) → w ≡ word_of (answer_of (decide_answer text n)) → Tells memory_limit (decide_answer text n) w
  decide-tells = tells (decide-limits text n)

  pub decide-length : (r : Result ℕ Refusal) → r ≡ answer_of (decide_answer text n) → (w : ℕ) → w ≡ word_of r → report_length r ≡ told_length w
  decide-length r e w f = rw (f, e) (sym (told-length memory_limit (decide_answer text n) (decide-limits text n)))

  pub trace-tells : (w : ℕ) → w ≡ word_of (answer_of (trace_answer text n)) → Tells trace_memory (trace_answer text n) w
  trace-tells = tells (trace-limits text n)

  pub trace-length : (r : Result ℕ Refusal) → r ≡ answer_of (trace_answer text n) → (w : ℕ) → w ≡ word_of r → report_length r ≡ told_length w
  trace-length r e w f = rw (f, e) (sym (told-length trace_memory (trace_answer text n) (trace-limits text n)))

  pub export-tells : (w : ℕ) → w ≡ word_of (answer_of (export_answer text n)) → Tells conversion_limit (export_answer text n) w
  export-tells = tells (export-limits text n)

pub import-tells : (words primitives : List ℕ) (n w : ℕ) → w ≡ word_of (answer_of (import_answer words primitives n)) → Tells conversion_limit (import_answer words primitives n) w
import-tells words primitives n = tells (import-limits words primitives n)

pub explain-tells : (text : List ℕ) (n w : ℕ) → w ≡ word_of (answer_of (explain_answer text n)) → Tells explanation_limit (explain_answer text n) w
explain-tells text n = tells (explain-limits text n)

pub explain-merge-tells : (text : List ℕ) (n w : ℕ) → w ≡ word_of (answer_of (explain_merge_answer text n)) → Tells explanation_limit (explain_merge_answer text n) w
explain-merge-tells text n = tells (explain-merge-limits text n)

pub split-tells : (text cuts : List ℕ) (n w : ℕ) → w ≡ word_of (answer_of (split_answer text cuts n)) → Tells memory_limit (split_answer text cuts n) w
split-tells text cuts n = tells (split-limits text cuts n)

pub split-length : (text cuts : List ℕ) (n : ℕ) (r : Result ℕ Refusal) → r ≡ answer_of (split_answer text cuts n) → (w : ℕ) → w ≡ word_of r → report_length r ≡ told_length w
split-length text cuts n r e w f = rw (f, e) (sym (told-length memory_limit (split_answer text cuts n) (split-limits text cuts n)))

pub decide-split-tells : (text cuts : List ℕ) (n w : ℕ) → w ≡ word_of (answer_of (decide_split_answer text cuts n)) → Tells memory_limit (decide_split_answer text cuts n) w
decide-split-tells text cuts n = tells (decide-split-limits text cuts n)

pub decide-split-length : (text cuts : List ℕ) (n : ℕ) (r : Result ℕ Refusal) → r ≡ answer_of (decide_split_answer text cuts n) → (w : ℕ) → w ≡ word_of r → report_length r ≡ told_length w
decide-split-length text cuts n r e w f = rw (f, e) (sym (told-length memory_limit (decide_split_answer text cuts n) (decide-split-limits text cuts n)))

pub replay-tells : (text trace : List ℕ) (n w : ℕ) → w ≡ word_of (answer_of (replay_answer text trace n)) → Tells memory_limit (replay_answer text trace n) w
replay-tells text trace n = tells (replay-limits text trace n)

pub replay-length : (text trace : List ℕ) (n : ℕ) (r : Result ℕ Refusal) → r ≡ answer_of (replay_answer text trace n) → (w : ℕ) → w ≡ word_of r → report_length r ≡ told_length w
replay-length text trace n r e w f = rw (f, e) (sym (told-length memory_limit (replay_answer text trace n) (replay-limits text trace n)))

pub preview-tells : (text instruction : List ℕ) (address n : ℕ) → address < 4294967296 → (w : ℕ) → w ≡ word_of (answer_of (preview_answer text address instruction n)) →
    Tells memory_limit (preview_answer text address instruction n) w
preview-tells text instruction address n h = tells (preview-limits text instruction address n h)

pub nearest-tells : (text : List ℕ) (n w : ℕ) → w ≡ word_of (answer_of (nearest_answer text n)) → Tells memory_limit (nearest_answer text n) w
nearest-tells text n = tells (nearest-limits text n)

pub generate-tells : (seed n w : ℕ) → w ≡ word_of (answer_of (generate_answer seed n)) → Tells generator_limit (generate_answer seed n) w
generate-tells seed n = tells (generate-limits seed n)
