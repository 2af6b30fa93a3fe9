-- Laws of paths as numbers: what is encoded is decoded, and a number is decoded bit by bit. Assumes nothing.
use Prim.Native.Nat.{ℕ, zero, suc, ◌+◌, ◌*◌, ◌/◌, ◌%◌, ◌<◌, ◌≤◌}
use mathlib.Core.Path.{◌≡◌, refl, ap, ◌∙◌}
use mathlib.Core.Bool.{Bool, true, false, cond}
use mathlib.Core.List.{List, [], ◌∷◌}
use native.Mathlib.Omega.{arith}
use lib.Dec.{ltb}
use borrow.Author.Tests.{lt-ltb, le-ltb, ltb-false}
use Rattle.bound_theory.specs.Tree.{Report, Decision, N, T}
use Rattle.bound_figures.specs.HeldFigures.{encode}
use Rattle.bound_figures.proofs.PartLaws.{encode-positive}
use Rattle.report.specs.HeldPath.{decision, decisions, decode, report_of}

-- more fuel changes nothing
decisions-fuel : (f g n : ℕ) → n ≤ f → n ≤ g → decisions f n ≡ decisions g n
unfolding decisions
decisions-fuel zero zero n h k = refl
decisions-fuel zero (suc g) n h k = rw (lt-ltb n 2 (omega arith)) refl
decisions-fuel (suc f) zero n h k = rw (lt-ltb n 2 (omega arith)) refl
decisions-fuel (suc f) (suc g) n h k = go (ltb n 2) refl (decisions-fuel f g (n / 2))
  where
    go : (b : Bool) → ltb n 2 ≡ b → (n / 2 ≤ f → n / 2 ≤ g → decisions f (n / 2) ≡ decisions g (n / 2))
        → cond b [] (decision (n % 2) ∷ decisions f (n / 2)) ≡ cond b [] (decision (n % 2) ∷ decisions g (n / 2))
    go true e ih = refl
    go false e ih = let l = ltb-false n 2 e in ap (λ ds. decision (n % 2) ∷ ds) (ih (omega arith) (omega arith))

decisions-none : (f n : ℕ) → n < 2 → decisions f n ≡ []
unfolding decisions
decisions-none zero n h = refl
decisions-none (suc f) n h = rw (lt-ltb n 2 h) refl

decisions-more : (f n : ℕ) → 2 ≤ n → n ≤ f → decisions f n ≡ decision (n % 2) ∷ decisions (n / 2) (n / 2)
unfolding decisions
decisions-more zero n h k = absurd (omega arith)
decisions-more (suc f) n h k =
    rw (le-ltb n 2 h) (ap (λ ds. decision (n % 2) ∷ ds) (decisions-fuel f (n / 2) (n / 2) (omega arith) (omega arith)))

pub decode-none : (n : ℕ) → n < 2 → decode n ≡ []
unfolding decode
decode-none n h = decisions-none n n h

pub decode-more : (n : ℕ) → 2 ≤ n → decode n ≡ decision (n % 2) ∷ decode (n / 2)
unfolding decode
decode-more n h = decisions-more n n h (omega arith)

-- a bit below the others
decode-bit : (b n : ℕ) → 1 ≤ n → b < 2 → decode (2 * n + b) ≡ decision b ∷ decode n
decode-bit b n h k =
    let r : (2 * n + b) % 2 ≡ b = omega arith in
    let q : (2 * n + b) / 2 ≡ n = omega arith in
    decode-more (2 * n + b) (omega arith) ∙ ap (λ x. decision x ∷ decode ((2 * n + b) / 2)) r ∙ ap (λ x. decision b ∷ decode x) q

-- the path of a number is the one that was encoded
decode-encode : (ds : List Decision) → decode (encode ds) ≡ ds
unfolding encode
decode-encode [] = decode-none 1 (omega arith)
decode-encode (N ∷ ds) =
    ap decode (omega arith) ∙ decode-bit 0 (encode ds) (encode-positive ds) (omega arith) ∙ ap (λ x. N ∷ x) (decode-encode ds)
decode-encode (T ∷ ds) =
    decode-bit 1 (encode ds) (encode-positive ds) (omega arith) ∙ ap (λ x. T ∷ x) (decode-encode ds)

-- the figures of a report stand for it
pub report-of : (q : Report) → report_of q.cycles q.words q.depth q.steps (encode q.path) ≡ q
unfolding report_of
report-of q =
    ap (λ (ds : List Decision). record { cycles = q.cycles; words = q.words; depth = q.depth; steps = q.steps; path = ds }) (decode-encode q.path)

-- the path of a run's report is empty
pub report-of-run : (cycles words depth steps : ℕ) → report_of cycles words depth steps 1 ≡ record { cycles = cycles; words = words; depth = depth; steps = steps; path = [] }
unfolding report_of
report-of-run cycles words depth steps =
    ap (λ (ds : List Decision). record { cycles = cycles; words = words; depth = depth; steps = steps; path = ds }) (decode-none 1 (omega arith))
