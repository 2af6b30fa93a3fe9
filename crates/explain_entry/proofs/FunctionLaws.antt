-- The explanation in code is that of the definition. Assumes nothing.
use Rattle.std.specs.Prelude.{Err, Ok, Result, ⊤}
use Prim.Native.Nat.{ℕ, ◌+◌, ◌≤◌, zero-le}
use mathlib.Core.Path.{◌≡◌, sym, ap, ◌∙◌}
use mathlib.Core.List.{List, ◌++◌}
use native.Mathlib.Omega.{arith}
use lib.ListN.{length, drop, length-append}
use Rattle.refusals.specs.declared.Refusal.{Refusal}
use Rattle.text.specs.Text.{Line, lines}
use Rattle.text_decimals.proofs.MemoryLaws.{Wrote}
use Rattle.cells.specs.Cells.{unknown}
use Rattle.machine.specs.Machine.{step}
use Rattle.machine_state.specs.HeldProgram.{first_address_of, program_of}
use Rattle.bound_theory.specs.Tree.{bound}
use Rattle.bound_theory.specs.Tree as bounds
use Rattle.bound_figures.specs.declared.Found.{Found}
use Rattle.bound_figures.specs.HeldFigures.{Shows, accepted_as}
use Rattle.machine_state.proofs.ProgramLaws.{code-count}
use Rattle.file_format.specs.Layout.{body}
use Rattle.file_format.specs.Routine.{read_bound}
use Rattle.file_format.specs.Routine as readings
use Rattle.file_format.proofs.RowLaws.{read-passes}
use Rattle.file_format.proofs.RangeLaws.{tick-positive, tick-small}
use Rattle.file_reader.specs.declared.Routine.{Routine}
use Rattle.file_entry.specs.Held.{routine_in}
use Rattle.report.specs.Report.{bound_text}
use Rattle.report.specs.HeldPath.{decode, report_of}
use Rattle.report.proofs.DecodeLaws.{report-of}
use Rattle.explain_walk.specs.Walk.{follow}
use Rattle.explain_lines.specs.Listing.{shown_lines, listing}
use Rattle.answers.specs.Answers.{reported, refused}
use Rattle.answers.proofs.AnswerLaws.{reading-passed}
use Rattle.explain_entry.specs.Answers.{explanation_limit, worst_moves, entry_names, explanation_text, explained, explain_routine, explain_answer}
use Rattle.explain_entry.specs.Held.{walk_in, report_in, text_in, Printable}
use Rattle.explain_entry.proofs.Theorems.{explanations-fit}

-- ---- the text

-- by its parts
pub text-parts : (ls : List Line) (x : Routine) (f : Found) → text_in ls x f ≡ bound_text x.tick (report_in f) ++ entry_names ++ walk_in ls x f.path
unfolding explanation_text worst_moves report_of program_of
text-parts ls x f =
    ap (λ n. bound_text x.tick (report_in f) ++ entry_names ++ listing ls (first_address_of x.code) (shown_lines (follow (step (routine_in x).code unknown) n (decode f.path) (routine_in x).start)))
    (code-count x.code)

pub text-length : (ls : List Line) (x : Routine) (f : Found) → length (text_in ls x f) ≡ length (bound_text x.tick (report_in f)) + 33 + length (walk_in ls x f.path)
text-length ls x f = ap length (text-parts ls x f) ∙ simp length-append (omega arith)

-- what is written at the start
pub wrote-first : (d t o : List ℕ) (e : ℕ) → (e ≡ length t) × (o ≡ t ++ drop (length t) d) → Wrote d 0 t e o
wrote-first d t o e (p, q) =
    let z : length t ≡ 0 + length t = omega arith in
    record { starts = zero-le; ends = p ∙ z; holds = q ∙ ap (λ n. t ++ drop n d) z }

-- ---- what the explorer's answer gives

not-both : {A : Type 0} (x : Refusal) → ◌≡◌ {A = Result ⊤ Refusal} (Ok tt) (Err x) → A
not-both x e = let z : ◌≡◌ {A = ℕ} 0 1 = cc in absurd (omega arith)

module _ (ls : List Line) (x : readings.Routine) (r : Found) where
  found-explained : (v : bounds.Verdict) → Shows r v → r.verdict ≡ Ok tt → explained ls x v ≡ reported (explanation_text ls x (report_in r))
  unfolding explained accepted_as
  found-explained (bounds.accepted q) s e = ap (λ z. reported (explanation_text ls x z)) (sym (ap report_in s ∙ report-of q))
  found-explained (bounds.refused y) s e = not-both y (sym e ∙ s)

  found-refused : (v : bounds.Verdict) → Shows r v → (y : Refusal) → r.verdict ≡ Err y → explained ls x v ≡ refused y
  unfolding explained accepted_as
  found-refused (bounds.accepted q) s y e = not-both y (sym (ap (λ f. f.verdict) s) ∙ e)
  found-refused (bounds.refused z) s y e = let h : Err z ≡ Err y = sym s ∙ e in let k : z ≡ y = cc in ap refused k

  pub routine-explained : Shows r (bound x.code x.budget x.start) → r.verdict ≡ Ok tt → explain_routine ls x ≡ reported (explanation_text ls x (report_in r))
  unfolding explain_routine
  routine-explained = found-explained (bound x.code x.budget x.start)

  pub routine-refused : Shows r (bound x.code x.budget x.start) → (y : Refusal) → r.verdict ≡ Err y → explain_routine ls x ≡ refused y
  unfolding explain_routine
  routine-refused = found-refused (bound x.code x.budget x.start)

-- ---- a text

module _ (text : List ℕ) (n : ℕ) where
  pub explain-passed : 65536 ≤ n → (ls : List Line) → ls ≡ body (lines text) → (x : readings.Routine) → read_bound text ≡ readings.routine x → explain_answer text n ≡ explain_routine ls x
  unfolding explain_answer
  explain-passed h ls q x e = reading-passed (explain_routine (body (lines text))) (read_bound text) explanation_limit n h x e ∙ ap (λ l. explain_routine l x) (sym q)

  pub explain-printable : 65536 ≤ n → (ls : List Line) → ls ≡ body (lines text) → (x : Routine) → read_bound text ≡ readings.routine (routine_in x) → Printable ls x n
  explain-printable h ls q x e =
      let p = read-passes text (routine_in x) e in
      let t = ap (λ y. y.tick) p.1 in record {
        positive = omega (arith, t, tick-positive p.0);
        small = omega (arith, t, tick-small p.0);
        fits = λ bs k. let f = explanations-fit text n bs (explain-passed h ls q (routine_in x) e ∙ k) in omega (arith, f.1, f.2);
      }
