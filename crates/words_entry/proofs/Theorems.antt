-- The statements of `specs/Promises`, each proved by its name. Assumes nothing.
use Rattle.refusals.specs.declared.Refusal.{Refusal}
use Rattle.std.specs.Prelude.{Err, None, Ok, Option, Result, Some, ⊤}
use Prim.Native.Nat.{ℕ, ◌≤◌}
use mathlib.Core.Path.{◌≡◌, refl, sym, ap, subst, ◌∙◌}
use mathlib.Core.Bool.{Bool, true, false, cond}
use mathlib.Core.List.{List, [], ◌∷◌}
use native.Mathlib.Omega.{arith}
use lib.Dec.{ltb}
use lib.IntN.{pos}
use lib.ListN.{length}
use borrow.Author.Tests.{ltb-true, ltb-false, le-ltb}
use Rattle.refusals.specs.declared.Refusal.TheVariants.{ReportMemory, Layout, BadName, BadWord}
use Rattle.text.specs.Text.{Line, lines, lines_text}
use Rattle.text.proofs.TextLaws.{every_map, all-every}
use Rattle.file_format.specs.declared.Section.TheVariants.{Primitives as primitives}
use Rattle.file_format.specs.declared.Row.TheVariants.{Known as known-row}
use Rattle.file_format.specs.Layout.{body, list}
use Rattle.file_format.specs.Rows.{well_named, first_at, refused_line, Passes}
use Rattle.file_format.specs.Routine.{Routine, first_address, code_in, routine_of, routine, or_else, checked, text_limit, limited, read_bound, read_run}
use Rattle.file_format.proofs.RowLaws.{read-passes, passes-read, run-passes}
use Rattle.file_format.proofs.PassingLaws.{first-natural}
use Rattle.words.specs.Words.{words_of}
use Rattle.words.specs.Decoding.{code_fault}
use Rattle.words.specs.Import.{line_laid_out, line_verdict, one_line_verdict, primitives_verdict, primitives_of, fault_verdict, both, import_verdict, import_text}
use Rattle.words_import.proofs.ImportLaws.{import-next, import-line, import-sound}
use Rattle.words.specs.Export.{export_bytes}
use Rattle.words_inverse.specs.Sections.{replaced, primitives_line}
use Rattle.words_inverse.proofs.FileLaws.{replaced-whole}
use Rattle.words_inverse.proofs.ExportedLaws.{export-imported, export-text, words-imported, words-text}
use Rattle.words_inverse.proofs.RestoredLaws.{import-exported}
use Rattle.answers.specs.Answers.{reported, refused, of_acceptance}
use Rattle.answers.proofs.AnswerLaws.{never, lent-reported, from-reading}
use Rattle.words_entry.specs.Answers.{conversion_limit, import_answer, export_answer}
use Rattle.words_entry.specs.Promises.{BeginsAtZero, ExportsImport, ImportsReplace, ImportsExport, ImportRefusedWhere, ImportedWhere, ImportsMean, ExportsTaken, SameWords, LowerBy, ImportsLower}
use Rattle.relocation_theory.specs.Raised.{raise_code, raise_state}
use Rattle.relocation_theory.proofs.Theorems.{bound-raised, merged-raised, run-raised}
use Rattle.words_entry.proofs.FunctionLaws.{import-refused, import-made, import-reported, export-made}
use Rattle.words_entry.proofs.MeantLaws.{code-meant}
use Rattle.words_entry.proofs.LoweredLaws.{said, whole, whole-text, whole-lines, begins-zero, whole_words, code-raised, start-raised, budget-kept, answers-kept}
use Rattle.words_entry.proofs.LoweredLaws as lowered
use Rattle.words_entry.proofs.PassedLaws.{row_kept, whole-passes, whole-short}
use Rattle.words_entry.proofs.FaultLaws.{fault-decides, decides-fault, fault-nowhere, nowhere-fault}

same_bytes : (bs cs : List ℕ) → reported bs ≡ reported cs → bs ≡ cs
same_bytes bs cs e = cc

-- ---- what an answer says

-- words that are exported are those of a file that passes and is not too long
exported : (text words : List ℕ) (n : ℕ) → export_answer text n ≡ reported words → Passes (lines text) × (words ≡ export_bytes (lines text)) × (length text ≤ text_limit)
unfolding export_answer
exported text words n e =
    let a = from-reading (λ x. reported (export_bytes (lines text))) (read_bound text) conversion_limit n words e in
    let r = read-passes text a.routine a.reads in
    (r.0, sym (same_bytes (export_bytes (lines text)) words a.gives), r.2)

-- lines that are made are those of words that are accepted
imported : (words line made : List ℕ) (n : ℕ) → import_answer words line n ≡ reported made → (import_verdict words line ≡ Ok tt) × (made ≡ import_text words line)
unfolding import_answer of_acceptance
imported words line made n e = go (import_verdict words line) refl (lent-reported conversion_limit n (of_acceptance (import_text words line) (import_verdict words line)) made e).1
  where
    go : (v : Result ⊤ Refusal) → import_verdict words line ≡ v → of_acceptance (import_text words line) v ≡ reported made → (import_verdict words line ≡ Ok tt) × (made ≡ import_text words line)
    go (Ok tt) q f = (q, sym (same_bytes (import_text words line) made f))
    go (Err r) q f = never r made f

-- the first address of a file that passes, as it is written
begins : (text : List ℕ) → Passes (lines text) → BeginsAtZero text → first_at (body (lines text)) ≡ pos 0
begins text p b = sym (first-natural (lines text) p.range) ∙ ap pos b

-- ---- the theorems

pub exports-import : ExportsImport
exports-import text words n m b e h =
    let x = exported text words n e in
    let f = begins text x.0 b in
    let line = primitives_line (lines text) in
    ap (λ ws. import_answer ws line m) x.1
    ∙ import-made (export_bytes (lines text)) line m h (export-imported text x.0 f)
    ∙ ap reported (export-text text x.0 f)

pub imports-replace : ImportsReplace
imports-replace text words made n m b e g =
    let x = exported text words n e in
    let f = begins text x.0 b in
    let line = primitives_line (lines text) in
    ap (replaced (lines text)) ((imported words line made m g).1 ∙ ap (λ ws. import_text ws line) x.1 ∙ export-text text x.0 f)
    ∙ replaced-whole text x.0

pub imports-export : ImportsExport
imports-export words line made text out n m small e s l g =
    let x = exported text out m g in
    let y = imported words line made n e in
    x.1 ∙ import-exported words line text (every_map (λ b k. ltb-true b 256 k) (all-every (λ b. ltb b 256) words small)) y.0 x.0 l (s ∙ y.1)

-- ---- where an import refuses by 12, and where it makes lines

-- a primitives line is never refused by 12
line_other : (line : List ℕ) (i : ℕ) {A : Type 0} → primitives_verdict line ≡ Err (BadWord i) → A
unfolding primitives_verdict one_line_verdict line_verdict
line_other line i {A} = go (lines line)
  where
    one : (a b : Bool) → ◌≡◌ {A = Result ⊤ Refusal} (cond a (cond b (Ok tt) (Err (BadName 1))) (Err (Layout 1))) (Err (BadWord i)) → A
    one true true e = let z : ◌≡◌ {A = ℕ} 0 1 = cc in absurd (omega arith)
    one true false e = let z : ◌≡◌ {A = ℕ} 0 1 = cc in absurd (omega arith)
    one false b e = let z : ◌≡◌ {A = ℕ} 0 1 = cc in absurd (omega arith)

    go : (ls : List Line) → one_line_verdict ls ≡ Err (BadWord i) → A
    go [] e = let z : ◌≡◌ {A = ℕ} 0 1 = cc in absurd (omega arith)
    go (l ∷ []) e = one (line_laid_out l.text) (well_named primitives (list l.text)) e
    go (l ∷ m ∷ ls) e = let z : ◌≡◌ {A = ℕ} 0 1 = cc in absurd (omega arith)

module _ (words line : List ℕ) (n : ℕ) where
  abbrev fault : Option ℕ
  fault = code_fault (length (primitives_of line)) (words_of words)

  -- a refusal by 12 is not for the memory, nor for the line
  refused-word : (i : ℕ) → import_answer words line n ≡ refused (BadWord i) → (conversion_limit ≤ n) × (primitives_verdict line ≡ Ok tt) × (fault ≡ Some i)
  unfolding import_answer of_acceptance import_verdict both fault_verdict
  refused-word i = go (ltb n conversion_limit) refl (primitives_verdict line) refl
    where
      made : (p : Option ℕ) → of_acceptance (import_text words line) (fault_verdict p) ≡ refused (BadWord i) → p ≡ Some i
      made None e = never (BadWord i) (import_text words line) (sym e)
      made (Some j) e = ap Some (cc)

      go : (b : Bool) → ltb n conversion_limit ≡ b → (v : Result ⊤ Refusal) → primitives_verdict line ≡ v → cond b (refused ReportMemory) (of_acceptance (import_text words line) (both v (fault_verdict fault))) ≡ refused (BadWord i) → (conversion_limit ≤ n) × (primitives_verdict line ≡ Ok tt) × (fault ≡ Some i)
      go true h v q e = let z : ◌≡◌ {A = ℕ} 0 1 = cc in absurd (omega arith)
      go false h (Ok tt) q e = (ltb-false n conversion_limit h, q, made fault e)
      go false h (Err r) q e = line_other line i (q ∙ ap Err (cc))

pub import-refused-where : ImportRefusedWhere
unfolding import_verdict both fault_verdict
import-refused-where words line n i = (
  (λ e. let r = refused-word words line n i e in (r.0, r.1, fault-decides (length (primitives_of line)) (words_of words) i r.2)),
  (λ d. import-refused words line n d.0 (BadWord i) (import-next words line d.1 ∙ ap fault_verdict (decides-fault (length (primitives_of line)) (words_of words) i d.2))),
)

pub imported-where : ImportedWhere
unfolding fault_verdict
imported-where words line n = (
  (λ e.
      let x = imported words line e.0 n e.1 in
      let f = fault-nowhere (length (primitives_of line)) (words_of words) (import-sound words line x.0) in
      ((import-reported words line n e.0 e.1).2, import-line words line x.0, f.0, f.1)),
  (λ d. (import_text words line, import-made words line n d.0 (import-next words line d.1 ∙ ap fault_verdict (nowhere-fault (length (primitives_of line)) (words_of words) d.2 d.3)))),
)

-- ---- the code of words

pub imports-mean : ImportsMean
unfolding routine_of
imports-mean words line made text n x small e s l g =
    let y = imported words line made n e in
    let r = read-passes text x g in
    ap (λ (z : Routine). z.code) r.1
    ∙ code-meant words line text (every_map (λ b k. ltb-true b 256 k) (all-every (λ b. ltb b 256) words small)) y.0 r.0 l (s ∙ y.1)

-- ---- a file that begins at another address

-- what is made of exported words
made_of : (text words made : List ℕ) (n m : ℕ) → (p : Passes (lines text)) → export_answer text n ≡ reported words → import_answer words (primitives_line (lines text)) m ≡ reported made →
    replaced (lines text) made ≡ lines_text (whole text p)
made_of text words made n m p e g =
    let x = exported text words n e in
    let y = imported words (primitives_line (lines text)) made m g in
    ap (replaced (lines text)) (y.1 ∙ ap (λ ws. import_text ws (primitives_line (lines text))) x.1 ∙ words-text text p (lowered.made text p) (said text p)) ∙ sym (whole-text text p)

-- its lines
made-lines : (text words made : List ℕ) (n m : ℕ) → (p : Passes (lines text)) → export_answer text n ≡ reported words → import_answer words (primitives_line (lines text)) m ≡ reported made →
    lines (replaced (lines text) made) ≡ whole text p
made-lines text words made n m p e g = ap lines (made_of text words made n m p e g) ∙ whole-lines text p

pub exports-taken : ExportsTaken
exports-taken text words n m e h =
    let x = exported text words n e in
    let line = primitives_line (lines text) in
    (import_text (export_bytes (lines text)) line, ap (λ ws. import_answer ws line m) x.1 ∙ import-made (export_bytes (lines text)) line m h (words-imported text x.0 (lowered.made text x.0) (said text x.0)))

-- it passes, and has no more bytes than the file
module _ (text words made : List ℕ) (n m : ℕ) (p : Passes (lines text)) (short : length text ≤ text_limit) (e : export_answer text n ≡ reported words)
    (g : import_answer words (primitives_line (lines text)) m ≡ reported made) where
  abbrev low : List ℕ
  low = replaced (lines text) made

  low-passes : Passes (lines low)
  low-passes = subst Passes (sym (made-lines text words made n m p e g)) (whole-passes text p)

  low-short : length low ≤ text_limit
  low-short =
      let a = ap length (made_of text words made n m p e g) in
      let b = whole-short text p in
      omega arith

  low_read : read_bound low ≡ routine (routine_of (whole text p))
  low_read = passes-read low low-passes low-short ∙ ap (λ ls. routine (routine_of ls)) (made-lines text words made n m p e g)

  -- as the run reads it
  low_run : (x : Routine) → read_run text ≡ routine x → read_run low ≡ routine (routine_of (whole text p))
  unfolding read_run limited checked or_else
  low_run x r =
      let q = low-passes in
      let k : refused_line known-row (lines low) ≡ None = subst (λ ls. refused_line known-row ls ≡ None) (sym (made-lines text words made n m p e g)) (row_kept text p known-row (run-passes text x r).1) in
      rw (le-ltb text_limit (length low) low-short, q.layout, q.range, q.names, q.prices, q.targets, q.forward, k) (ap (λ ls. routine (routine_of ls)) (made-lines text words made n m p e g))

pub same-words : SameWords
same-words text words made n m k e g h =
    let x = exported text words n e in
    let l = made-lines text words made n m x.0 e g in (
      ap (λ ls. first_address (body ls)) l ∙ begins-zero text x.0,
      export-made (replaced (lines text) made) k h (routine_of (whole text x.0)) (low_read text words made n m x.0 x.2 e g)
          ∙ ap reported (ap export_bytes l ∙ whole_words text x.0 ∙ sym x.1),
    )

lower_by : (f : ℕ) (x y : Routine) → x.code ≡ raise_code f y.code → x.start ≡ raise_state f y.start → x.budget ≡ y.budget → x.answers ≡ y.answers → LowerBy f x y
lower_by f x y c s t u = record {
  bounds = rw (c, s, t) (bound-raised f y.code y.budget y.start);
  merges = rw (c, s) (merged-raised f y.code y.start);
  runs = rw (c, s, t, u) (run-raised f y.code y.budget y.start y.answers);
}

pub imports-lower : ImportsLower
unfolding routine_of code_in
imports-lower text words made n m x r e g =
    let a = read-passes text x r in
    let p = a.0 in
    let y = routine_of (whole text p) in
    let f = first_address (body (lines text)) in
    let c : x.code ≡ raise_code f y.code = ap (λ (z : Routine). z.code) a.1 ∙ code-raised text p in
    let s : x.start ≡ raise_state f y.start = ap (λ (z : Routine). z.start) a.1 ∙ start-raised text p in
    let t : x.budget ≡ y.budget = ap (λ (z : Routine). z.budget) a.1 ∙ budget-kept text p in
    let u : x.answers ≡ y.answers = ap (λ (z : Routine). z.answers) a.1 ∙ answers-kept text p in
    let v : x.code.first ≡ f = ap (λ (z : Routine). z.code.first) a.1 in
    (y, low_read text words made n m p a.2 e g, low_run text words made n m p a.2 e g x, subst (λ i. LowerBy i x y) (sym v) (lower_by f x y c s t u))
