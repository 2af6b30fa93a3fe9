-- A call of the bound by cases is refused in the listed cases, each by its number and at its place, and in no other. Assumes nothing.
use Rattle.std.specs.Prelude.{Err, None, Ok, Option, Result, Some, ⊤}
use Prim.Native.Nat.{ℕ, ◌≤◌}
use mathlib.Core.Path.{◌≡◌, refl, ap, ◌∙◌}
use mathlib.Core.Bool.{Bool, true, false, cond}
use mathlib.Core.List.{List}
use mathlib.Core.Logic.{◌↔◌}
use native.Mathlib.Omega.{arith}
use lib.Dec.{ltb}
use lib.ListN.{length}
use borrow.Author.Tests.{lt-ltb, le-ltb, ltb-true, ltb-false}
use Rattle.refusals.specs.declared.Refusal.{Refusal}
use Rattle.refusals.specs.declared.Refusal.TheVariants.{TextLength, Layout, OutOfRange, BadName}
use Rattle.text.specs.Text.{lines}
use Rattle.file_format.specs.Routine.{Routine, routine_of, bound_checks, read_bound}
use Rattle.file_format.specs.Routine as readings
use Rattle.file_format.proofs.RowLaws.{read-passes}
use Rattle.file_format.proofs.BranchLaws.{passing-forward, passing-closed}
use Rattle.bound_theory.specs.Tree as verdicts
use Rattle.replay_trace.specs.Traces.{earliest, refused_at}
use Rattle.report.specs.Report.{bound_text}
use Rattle.answers.specs.Answers.{refused}
use Rattle.report_theory.specs.Answers.{of_verdict}
use Rattle.report_theory.proofs.AnswerLaws.{from-refused}
use Rattle.report_theory.proofs.ListedLaws.{refused-case}
use Rattle.split_theory.specs.Split.{split}
use Rattle.split_theory.specs.Promises.{FirstRefused}
use Rattle.split_theory.proofs.Theorems.{split-refused-where}
use Rattle.split_cuts.specs.Cuts.{cuts_limit, line_in_range, line_named, layout_fault, line_verdict, cuts_acceptance, cuts_of}
use Rattle.split_entry.specs.Answers.{cells_named, cuts_checked, checked, cases_routine, split_routine, split_answer}
use Rattle.split_entry.specs.Listed.{CutsRefused, long_cuts, not_laid_out, out_of_range, not_named, CasesEnd, cuts_refuse, case_refuses, SplitsListed}

-- ---- the cuts

module _ (ns : List (List ℕ)) (cuts : List ℕ) where
  cuts_first : (r : Refusal) → cuts_acceptance ns cuts ≡ Err r → CutsRefused ns cuts r
  unfolding cuts_acceptance line_verdict refused_at
  cuts_first r e = by (ltb cuts_limit (length cuts)) refl e
    where
      rows : length cuts ≤ cuts_limit → (f g h : Option ℕ) → layout_fault (lines cuts) ≡ f → earliest line_in_range 0 (lines cuts) ≡ g → earliest (line_named ns) 0 (lines cuts) ≡ h →
          refused_at f Layout (refused_at g OutOfRange (refused_at h BadName (Ok tt))) ≡ Err r → CutsRefused ns cuts r
      rows short (Some n) g h p q s e = let k : r ≡ Layout n = cc in not_laid_out short p k
      rows short None (Some n) h p q s e = let k : r ≡ OutOfRange n = cc in out_of_range short p q k
      rows short None None (Some n) p q s e = let k : r ≡ BadName n = cc in not_named short p q s k
      rows short None None None p q s e = let z : ◌≡◌ {A = ℕ} 0 1 = cc in absurd (omega arith)

      by : (b : Bool) → ltb cuts_limit (length cuts) ≡ b → cond b (Err TextLength) (line_verdict ns (lines cuts)) ≡ Err r → CutsRefused ns cuts r
      by true q e = let k : r ≡ TextLength = cc in long_cuts (ltb-true cuts_limit (length cuts) q) k
      by false q e = rows (ltb-false cuts_limit (length cuts) q) _ _ _ refl refl refl e

  first-cuts : {r : Refusal} → CutsRefused ns cuts r → cuts_acceptance ns cuts ≡ Err r
  unfolding cuts_acceptance line_verdict refused_at
  first-cuts (long_cuts l e) = rw (lt-ltb cuts_limit (length cuts) l, e) refl
  first-cuts (not_laid_out l p e) = rw (le-ltb cuts_limit (length cuts) l, p, e) refl
  first-cuts (out_of_range l p q e) = rw (le-ltb cuts_limit (length cuts) l, p, q, e) refl
  first-cuts (not_named l p q s e) = rw (le-ltb cuts_limit (length cuts) l, p, q, s, e) refl

  none-cuts : ((r : Refusal) → CutsRefused ns cuts r → ⊥) → cuts_acceptance ns cuts ≡ Ok tt
  none-cuts h = go (cuts_acceptance ns cuts) refl
    where
      go : (v : Result ⊤ Refusal) → cuts_acceptance ns cuts ≡ v → cuts_acceptance ns cuts ≡ Ok tt
      go (Ok tt) e = e
      go (Err r) e = absurd (h r (cuts_first r e))

  cuts-none : cuts_acceptance ns cuts ≡ Ok tt → (r : Refusal) → CutsRefused ns cuts r → ⊥
  cuts-none e r k = let f = first-cuts k in let z : ◌≡◌ {A = ℕ} 0 1 = cc in omega arith

-- ---- a routine

module _ (text cuts : List ℕ) (reads : read_bound text ≡ readings.routine (routine_of (lines text))) (r : Refusal) where
  abbrev x : Routine
  x = routine_of (lines text)

  cases-refused : (split x.code (cuts_of cuts) x.start ≡ verdicts.refused r) ↔ FirstRefused x.code r (cuts_of cuts) x.start
  cases-refused =
      let p = (read-passes text x reads).0 in
      split-refused-where x.code (passing-forward (lines text) p) (passing-closed (lines text) p) (cuts_of cuts) x.start r

  cases_end : (split_routine text cuts x ≡ refused r) ↔ CasesEnd text cuts x r
  unfolding split_routine cuts_checked checked cases_routine of_verdict
  cases_end = (λ e. to (cuts_checked text cuts) refl e, from)
    where
      to : (v : Result ⊤ Refusal) → cuts_checked text cuts ≡ v → checked v (cases_routine cuts x) ≡ refused r → CasesEnd text cuts x r
      to (Ok tt) h e =
          case_refuses (cuts-none (cells_named (lines text)) cuts h)
          (cases-refused.0 (from-refused (bound_text x.tick) (split x.code (cuts_of cuts) x.start) r e))
      to (Err y) h e = let k : y ≡ r = cc in cuts_refuse (cuts_first (cells_named (lines text)) cuts r (h ∙ ap Err k))

      from : CasesEnd text cuts x r → split_routine text cuts x ≡ refused r
      from (cuts_refuse k) = rw (first-cuts (cells_named (lines text)) cuts k) refl
      from (case_refuses h k) = rw (none-cuts (cells_named (lines text)) cuts h, cases-refused.1 k) refl

-- ---- a call

pub splits-listed : SplitsListed
unfolding split_answer read_bound
splits-listed text cuts n r = refused-case bound_checks (CasesEnd text cuts) (split_routine text cuts) text n (cases_end text cuts) r
