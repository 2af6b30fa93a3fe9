-- Laws of the answers of an import and of an export: in each case of the code, how large they are, and where they refuse. Assumes nothing.
use Rattle.std.specs.Prelude.{Err, None, Ok, Result, ⊤}
use mathlib.Core.Path.{◌≡◌, refl, sym, ap, ◌∙◌}
use mathlib.Core.List.{List}
use Prim.Native.Nat.{ℕ, ◌<◌, ◌≤◌}
use native.Mathlib.Omega.{arith}
use lib.ListN.{length, length-map}
use Rattle.refusals.specs.declared.Refusal.{Refusal}
use Rattle.refusals.specs.declared.Refusal.TheVariants.{ReportMemory}
use Rattle.refusals.specs.Refusals.{place}
use Rattle.text.specs.Text.{Line, lines}
use Rattle.file_format.specs.declared.Row.TheVariants.{Layout as Layout-row}
use Rattle.file_format.specs.Rows.{refused_line}
use Rattle.file_format.specs.Routine.{Routine, read_bound}
use Rattle.file_format.specs.Routine as readings
use Rattle.file_format.proofs.RowLaws.{read-passes}
use Rattle.file_format.proofs.PassingLaws.{code-few, code-some}
use Rattle.file_format.proofs.PlaceLaws.{read-bound-place}
use Rattle.words.specs.Import.{import_verdict, import_text}
use Rattle.words.specs.Export.{export_bytes}
use Rattle.words.proofs.ExportLaws.{export-fits}
use Rattle.words_import.proofs.ImportLaws as imports
use Rattle.answers.specs.Answers.{reported, refused, of_acceptance}
use Rattle.answers.proofs.AnswerLaws.{never, lent-short, lent-enough, lent-reported, lent-place, from-reading, place-from, reading-passed}
use Rattle.words_entry.specs.Answers.{conversion_limit, import_answer, export_answer}

-- ---- an import

module _ (words primitives : List ℕ) (n : ℕ) where
  -- too little memory, a refusal, and what is made
  pub import-short : n < 32768 → import_answer words primitives n ≡ refused ReportMemory
  unfolding import_answer
  import-short = lent-short conversion_limit n _

  pub import-refused : 32768 ≤ n → (x : Refusal) → import_verdict words primitives ≡ Err x → import_answer words primitives n ≡ refused x
  unfolding import_answer of_acceptance
  import-refused h x e = lent-enough conversion_limit n _ h ∙ ap (of_acceptance (import_text words primitives)) e

  pub import-made : 32768 ≤ n → import_verdict words primitives ≡ Ok tt → import_answer words primitives n ≡ reported (import_text words primitives)
  unfolding import_answer of_acceptance
  import-made h e = lent-enough conversion_limit n _ h ∙ ap (of_acceptance (import_text words primitives)) e

  -- a report
  pub import-reported : (bs : List ℕ) → import_answer words primitives n ≡ reported bs → (1 ≤ length bs) × (length bs ≤ 32768) × (32768 ≤ n)
  unfolding import_answer of_acceptance
  import-reported bs e =
      let l = lent-reported conversion_limit n (of_acceptance (import_text words primitives) (import_verdict words primitives)) bs e in
      go (import_verdict words primitives) refl l.0 l.1
    where
      go : (v : Result ⊤ Refusal) → import_verdict words primitives ≡ v → 32768 ≤ n → of_acceptance (import_text words primitives) v ≡ reported bs → (1 ≤ length bs) × (length bs ≤ 32768) × (32768 ≤ n)
      go (Ok tt) q h e = let f : import_text words primitives ≡ bs = cc in rw (← f) (imports.import-some words primitives, imports.import-fits words primitives q, h)
      go (Err r) q h e = never r bs e

  -- a refusal
  pub import-place : (r : Refusal) → import_answer words primitives n ≡ refused r → place r ≤ 2048
  unfolding import_answer of_acceptance
  import-place r = lent-place conversion_limit n (of_acceptance (import_text words primitives) (import_verdict words primitives)) 2048 r (go (import_verdict words primitives) refl)
    where
      go : (v : Result ⊤ Refusal) → import_verdict words primitives ≡ v → of_acceptance (import_text words primitives) v ≡ refused r → place r ≤ 2048
      go (Ok tt) q e = never r (import_text words primitives) (sym e)
      go (Err x) q e = let f : x ≡ r = cc in imports.import-place words primitives r (q ∙ ap Err f)

-- ---- an export

-- a file has 1 to 1,024 code lines
export-length : (ls : List Line) → refused_line Layout-row ls ≡ None → (4 ≤ length (export_bytes ls)) × (length (export_bytes ls) ≤ 8192)
unfolding export_bytes
export-length ls e = export-fits _ (simp length-map (code-some ls e)) (simp length-map (code-few ls e))

module _ (text : List ℕ) (n : ℕ) where
  pub export-made : 32768 ≤ n → (x : Routine) → read_bound text ≡ readings.routine x → export_answer text n ≡ reported (export_bytes (lines text))
  unfolding export_answer
  export-made = reading-passed (λ x. reported (export_bytes (lines text))) (read_bound text) conversion_limit n

  -- a report
  pub export-reported : (bs : List ℕ) → export_answer text n ≡ reported bs → (1 ≤ length bs) × (length bs ≤ 32768) × (32768 ≤ n)
  unfolding export_answer
  export-reported bs e =
      let a = from-reading (λ x. reported (export_bytes (lines text))) (read_bound text) conversion_limit n bs e in
      let p = (read-passes text a.routine a.reads).0 in
      let f : export_bytes (lines text) ≡ bs = cc a.gives in
      let l = export-length (lines text) p.layout in
      rw (← f) (omega arith, omega arith, a.lent)

  -- a refusal
  pub export-place : (r : Refusal) → export_answer text n ≡ refused r → place r ≤ 32769
  unfolding export_answer
  export-place r =
      place-from 32769 (λ x. reported (export_bytes (lines text))) (read_bound text) conversion_limit n r
      (read-bound-place text)
      (λ x e f. never r (export_bytes (lines text)) (sym f))
