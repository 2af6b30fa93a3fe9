-- The explanation of the merging bound in code is that of the definition. Assumes nothing.
use Rattle.std.specs.Prelude.{Err, Ok, Result, ⊤}
use Prim.Native.Nat.{ℕ, ◌+◌, ◌-◌, ◌≤◌}
use mathlib.Core.Path.{◌≡◌, refl, sym, ap, subst, ◌∙◌}
use mathlib.Core.List.{List, [], ◌++◌}
use native.Mathlib.Omega.{arith}
use lib.ListN.{length, take, drop, length-drop}
use lib.Seq.{take_all}
use Rattle.refusals.specs.declared.Refusal.{Refusal}
use Rattle.text.specs.Text.{Line, lines}
use Rattle.cells.specs.Cells.{unknown}
use Rattle.machine.specs.Machine.{step, reblock}
use Rattle.machine_state.specs.HeldProgram.{first_address_of, lines_in, program_of}
use Rattle.machine_state.specs.HeldState.{whole}
use Rattle.machine_state.proofs.ProgramLaws.{code-count, code-first}
use Rattle.bound_theory.specs.Tree as bounds
use Rattle.bound_theory.specs.Traces.{Move}
use Rattle.bound_figures.specs.declared.Found.{Found}
use Rattle.bound_figures.specs.HeldFigures.{Shows, accepted_as}
use Rattle.merge_theory.specs.Merge.{span, only, merged}
use Rattle.merge_way.specs.Way.{out, nowhence, way_back, costliest_way}
use Rattle.merge_way.specs.HeldBeside.{beside}
use Rattle.merge_way.proofs.Theorems.{kept-beside}
use Rattle.merge_origins.specs.HeldOrigins.{Keeps}
use Rattle.file_format.specs.Layout.{body}
use Rattle.file_format.specs.Routine.{read_bound}
use Rattle.file_format.specs.Routine as readings
use Rattle.file_format.proofs.RowLaws.{read-passes}
use Rattle.file_format.proofs.RangeLaws.{tick-positive, tick-small}
use Rattle.file_reader.specs.declared.Routine.{Routine}
use Rattle.file_entry.specs.Held.{routine_in}
use Rattle.report.specs.Report.{bound_text}
use Rattle.report.proofs.DecodeLaws.{report-of}
use Rattle.explain_lines.specs.Listing.{shown_lines, listing}
use Rattle.explain_merge_walk.specs.HeldLasts.{Lists, way_text}
use Rattle.explain_merge_walk.proofs.Theorems.{way-text}
use Rattle.answers.specs.Answers.{reported, refused}
use Rattle.answers.proofs.AnswerLaws.{reading-passed}
use Rattle.explain_entry.specs.Answers.{explanation_limit, entry_names}
use Rattle.explain_entry.specs.Held.{report_in}
use Rattle.explain_merge_entry.specs.Answers.{merge_explanation_text, merge_explained, explain_merge_routine, explain_merge_answer}
use Rattle.explain_merge_entry.specs.Held.{origins_in, way_in, merge_text_in, MergePrintable}
use Rattle.explain_merge_entry.proofs.Theorems.{merge-explanations-fit, forward, closed}

-- ---- the text

-- by its parts
pub text-parts : (ls : List Line) (x : Routine) (f : Found) → merge_text_in ls x f ≡ bound_text x.tick (report_in f) ++ entry_names ++ way_in ls x
unfolding merge_explanation_text program_of
text-parts ls x f = refl

-- ---- what is kept

-- what the pass leaves is what the definition keeps
pub kept-origins : (x : Routine) (n : ℕ) (ls : List Line) (ks : List ℕ) → MergePrintable ls x n
    → Keeps (first_address_of x.code) ks (beside (step (program_of x.code) unknown) (span (program_of x.code) (routine_in x).start) x.start.at (only (routine_in x).start) nowhence)
    → Keeps (first_address_of x.code) ks (origins_in x)
unfolding whole reblock
kept-origins x n ls ks p k = subst (Keeps (first_address_of x.code) ks) (kept-beside (routine_in x).code p.forward p.closed (routine_in x).start) k

-- as many moves as there are lines, and one
pub way-most : (x : Routine) → x.start.at ≡ first_address_of x.code → (most : ℕ) → most ≡ lines_in x.code + 1
    → way_back (origins_in x) most (origins_in x out) [] ≡ costliest_way (routine_in x).code (routine_in x).start
unfolding costliest_way whole reblock
way-most x at most e =
    let c = code-count x.code in
    let f = code-first x.code in
    let n : most ≡ span (routine_in x).code (routine_in x).start = omega arith in
    ap (λ (n : ℕ). way_back (origins_in x) n (origins_in x out) []) n

-- the goals, as the code takes them: `&goals[r..]`
rest-is : (xs : List ℕ) (r : ℕ) → r ≤ 1025 → length xs ≡ 1025 → take (1025 - r) (drop r xs) ≡ drop r xs
rest-is xs r h l = take_all (1025 - r) (drop r xs) (rw length-drop (omega arith))

pub way-goals : {first : ℕ} {ks : List ℕ} {ms : List Move} (xs : List ℕ) (r : ℕ) → r ≤ 1025 → length xs ≡ 1025 → Lists first ks (drop r xs) ms → Lists first ks (take (1025 - r) (drop r xs)) ms
way-goals {first} {ks} {ms} xs r h l i = subst (λ (gs : List ℕ). Lists first ks gs ms) (sym (rest-is xs r h l)) i

pub goals-few : (xs : List ℕ) (r : ℕ) → r ≤ 1025 → length xs ≡ 1025 → length (take (1025 - r) (drop r xs)) ≤ 1025
goals-few xs r h l = let e : length (take (1025 - r) (drop r xs)) ≡ length xs - r = ap length (rest-is xs r h l) ∙ length-drop r xs in omega arith

-- the lines that are written for its goals
pub way-written : (x : Routine) (ls : List Line) (ks gs : List ℕ) (most : ℕ) → x.start.at ≡ first_address_of x.code → most ≡ lines_in x.code + 1
    → Lists (first_address_of x.code) ks gs (way_back (origins_in x) most (origins_in x out) []) → way_text ls 0 0 ks gs ≡ way_in ls x
way-written x ls ks gs most at e l = way-text ls (first_address_of x.code) ks gs _ l ∙ ap (λ (ms : List Move). listing ls (first_address_of x.code) (shown_lines ms)) (way-most x at most e)

-- ---- what the answer of the pass gives

not-both : {A : Type 0} (x : Refusal) → ◌≡◌ {A = Result ⊤ Refusal} (Ok tt) (Err x) → A
not-both x e = let z : ◌≡◌ {A = ℕ} 0 1 = cc in absurd (omega arith)

module _ (ls : List Line) (x : readings.Routine) (r : Found) where
  found-explained : (v : bounds.Verdict) → Shows r v → r.verdict ≡ Ok tt → merge_explained ls x v ≡ reported (merge_explanation_text ls x (report_in r))
  unfolding merge_explained accepted_as
  found-explained (bounds.accepted q) s e = ap (λ z. reported (merge_explanation_text ls x z)) (sym (ap report_in s ∙ report-of q))
  found-explained (bounds.refused y) s e = not-both y (sym e ∙ s)

  found-refused : (v : bounds.Verdict) → Shows r v → (y : Refusal) → r.verdict ≡ Err y → merge_explained ls x v ≡ refused y
  unfolding merge_explained accepted_as
  found-refused (bounds.accepted q) s y e = not-both y (sym (ap (λ f. f.verdict) s) ∙ e)
  found-refused (bounds.refused z) s y e = let h : Err z ≡ Err y = sym s ∙ e in let k : z ≡ y = cc in ap refused k

  pub routine-explained : Shows r (merged x.code x.start) → r.verdict ≡ Ok tt → explain_merge_routine ls x ≡ reported (merge_explanation_text ls x (report_in r))
  unfolding explain_merge_routine
  routine-explained = found-explained (merged x.code x.start)

  pub routine-refused : Shows r (merged x.code x.start) → (y : Refusal) → r.verdict ≡ Err y → explain_merge_routine ls x ≡ refused y
  unfolding explain_merge_routine
  routine-refused = found-refused (merged x.code x.start)

  -- it is accepted
  pub shown-accepted : (v : bounds.Verdict) → Shows r v → r.verdict ≡ Ok tt → (q : bounds.Report) × (v ≡ bounds.accepted q)
  unfolding accepted_as
  shown-accepted (bounds.accepted q) s e = (q, refl)
  shown-accepted (bounds.refused y) s e = not-both y (sym e ∙ s)

-- ---- a text

module _ (text : List ℕ) (n : ℕ) where
  pub explain-passed : 65536 ≤ n → (ls : List Line) → ls ≡ body (lines text) → (x : readings.Routine) → read_bound text ≡ readings.routine x → explain_merge_answer text n ≡ explain_merge_routine ls x
  unfolding explain_merge_answer
  explain-passed h ls q x e = reading-passed (explain_merge_routine (body (lines text))) (read_bound text) explanation_limit n h x e ∙ ap (λ l. explain_merge_routine l x) (sym q)

  pub explain-printable : 65536 ≤ n → (ls : List Line) → ls ≡ body (lines text) → (x : Routine) → read_bound text ≡ readings.routine (routine_in x) → MergePrintable ls x n
  explain-printable h ls q x e =
      let p = read-passes text (routine_in x) e in
      let t = ap (λ y. y.tick) p.1 in record {
        positive = omega (arith, t, tick-positive p.0);
        small = omega (arith, t, tick-small p.0);
        fits = λ bs k. let f = merge-explanations-fit text n bs (explain-passed h ls q (routine_in x) e ∙ k) in omega (arith, f.1, f.2);
        forward = forward text (routine_in x) p.0 p.1;
        closed = closed text (routine_in x) p.0 p.1;
      }
