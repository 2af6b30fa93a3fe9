-- Laws of the answer of the generator: in each case of the code, how large it is, and where it refuses. Assumes nothing.
use mathlib.Core.Path.{◌≡◌, sym, ap, ◌∙◌}
use mathlib.Core.Bool.{Bool, true, false, cond}
use mathlib.Core.List.{List}
use Prim.Native.Nat.{ℕ, ◌<◌, ◌≤◌}
use native.Mathlib.Omega.{arith}
use lib.Dec.{eqb}
use lib.ListN.{length}
use borrow.Author.Tests.{eq-eqb, ne_eqb}
use Rattle.refusals.specs.declared.Refusal.{Refusal}
use Rattle.refusals.specs.declared.Refusal.TheVariants.{ReportMemory, OutOfRange}
use Rattle.refusals.specs.Refusals.{place}
use Rattle.answers.specs.Answers.{reported, refused}
use Rattle.answers.proofs.AnswerLaws.{never, lent-short, lent-enough, lent-reported, lent-place}
use Rattle.generate_file.specs.File.{limit_lines, prices, file}
use Rattle.generate_file.proofs.Theorems.{file-fits}
use Rattle.generate_entry.specs.Answers.{generator_limit, generate_answer}

-- a file is not empty
file-some : (seed : ℕ) → 1 ≤ length (file seed)
unfolding limit_lines prices file
file-some seed = omega arith

module _ (seed n : ℕ) where
  pub generate-short : n < 32768 → generate_answer seed n ≡ refused ReportMemory
  unfolding generate_answer
  generate-short = lent-short generator_limit n _

  pub generate-zero : 32768 ≤ n → seed ≡ 0 → generate_answer seed n ≡ refused (OutOfRange 0)
  unfolding generate_answer
  generate-zero h e = lent-enough generator_limit n _ h ∙ ap (λ b. cond b (refused (OutOfRange 0)) (reported (file seed))) (eq-eqb seed 0 e)

  pub generate-made : 32768 ≤ n → (seed ≡ 0 → ⊥) → generate_answer seed n ≡ reported (file seed)
  unfolding generate_answer
  generate-made h e = lent-enough generator_limit n _ h ∙ ap (λ b. cond b (refused (OutOfRange 0)) (reported (file seed))) (ne_eqb seed 0 e)

  -- a report
  pub generate-reported : (bs : List ℕ) → generate_answer seed n ≡ reported bs → (1 ≤ length bs) × (length bs ≤ 32768) × (32768 ≤ n)
  unfolding generate_answer
  generate-reported bs e =
      let l = lent-reported generator_limit n (cond (eqb seed 0) (refused (OutOfRange 0)) (reported (file seed))) bs e in
      go (eqb seed 0) l.0 l.1
    where
      go : (b : Bool) → 32768 ≤ n → cond b (refused (OutOfRange 0)) (reported (file seed)) ≡ reported bs → (1 ≤ length bs) × (length bs ≤ 32768) × (32768 ≤ n)
      go true h e = never (OutOfRange 0) bs e
      go false h e = let f : file seed ≡ bs = cc in rw (← f) (file-some seed, file-fits seed, h)

  -- a refusal
  pub generate-place : (r : Refusal) → generate_answer seed n ≡ refused r → place r ≡ 0
  unfolding generate_answer place
  generate-place r e = omega (arith, lent-place generator_limit n (cond (eqb seed 0) (refused (OutOfRange 0)) (reported (file seed))) 0 r (go (eqb seed 0)) e)
    where
      go : (b : Bool) → cond b (refused (OutOfRange 0)) (reported (file seed)) ≡ refused r → place r ≤ 0
      go true e = let f : OutOfRange 0 ≡ r = cc in rw (← f) (omega arith)
      go false e = never r (file seed) (sym e)
