-- Laws of what is printed: the line of a refusal fits into its memory; the bytes after a call are those of its answer.
-- Assumes nothing.
use Rattle.std.specs.Prelude.{Err, Result}
use Prim.Native.Nat.{ℕ, ◌^◌, ◌<◌, ◌≤◌}
use mathlib.Core.Path.{◌≡◌, refl, sym, ap, ◌∙◌, subst}
use mathlib.Core.List.{List, ◌++◌}
use native.Mathlib.Omega.{arith}
use lib.ListN.{length, take, drop, length-append}
use lib.Seq.{take-append_seam}
use Rattle.io.specs.Counts.{IsPrefixLen}
use Rattle.text_decimals.proofs.DecimalLaws.{decimal-length}
use Rattle.refusals.specs.declared.Refusal.{Refusal}
use Rattle.refusals.specs.Refusals.{number, place}
use Rattle.report.specs.Report.{refusal_line, refusal_text}
use Rattle.report.proofs.PutLaws.{refusal-length}
use Rattle.answers.specs.Answers.{Answer, reported, refused, memory, answer_of}
use Rattle.console.specs.Line.{line, Held, printed}

pub refusal-fits : (k p : ℕ) → k < 2 ^ 64 → p < 2 ^ 64 → length (refusal_line k p) ≤ 128
refusal-fits k p h g = omega (arith, refusal-length k p, decimal-length 20 k (omega arith) (omega arith), decimal-length 20 p (omega arith) (omega arith))

pub refused-held : (x : Result ℕ Refusal) (r : Refusal) (bytes : List ℕ) → x ≡ Err r → Held x bytes → 128 ≤ length bytes
refused-held x r bytes e h = subst (λ (y : Result ℕ Refusal). Held y bytes) e h

text-line : (r : Refusal) (k p : ℕ) → k ≡ number r → p ≡ place r → refusal_line k p ≡ refusal_text r
unfolding refusal_text
text-line r k p g h = rw (g, h) refl

-- the line of a refusal, once it is put over the memory
pub refused-line : (x : Result ℕ Refusal) (r : Refusal) (bytes m : List ℕ) (n k p : ℕ) → x ≡ Err r → k ≡ number r → p ≡ place r →
    (n ≡ length (refusal_line k p)) × (m ≡ refusal_line k p ++ drop (length (refusal_line k p)) bytes) → IsPrefixLen n m × (take n m ≡ line x bytes)
refused-line x r bytes m n k p e g h w =
    let t = refusal_line k p in
    let rest = drop (length t) bytes in
    let q : take n m ≡ t = ap (λ (i : ℕ). take i m) w.0 ∙ ap (take (length t)) w.1 ∙ take-append_seam t rest in
    let l : length m ≡ length (t ++ rest) = ap length w.1 in
    ((omega (arith, l, w.0, length-append t rest), w.0 ∙ ap length (sym q)), q ∙ text-line r k p g h ∙ subst (λ (y : Result ℕ Refusal). refusal_text r ≡ line y bytes) (sym e) refl)

line_of : (a : Answer) (former : List ℕ) → line (answer_of a) (memory a former) ≡ printed a
unfolding answer_of memory printed
line_of (reported bs) former = take-append_seam bs (drop (length bs) former)
line_of (refused r) former = refl

held_of : (a : Answer) (former : List ℕ) → 128 ≤ length former → Held (answer_of a) (memory a former)
unfolding answer_of memory
held_of (reported bs) former h = omega (arith, length-append bs (drop (length bs) former))
held_of (refused r) former h = h

-- an answer x and the memory m as a call leaves them
pub line-printed : (a : Answer) (former : List ℕ) {x : Result ℕ Refusal} {m : List ℕ} → x ≡ answer_of a → m ≡ memory a former → line x m ≡ printed a
line-printed a former {x} {m} e h = subst (λ (y : Result ℕ Refusal). line y m ≡ printed a) (sym e) (subst (λ (l : List ℕ). line (answer_of a) l ≡ printed a) (sym h) (line_of a former))

pub line-held : (a : Answer) (former : List ℕ) {x : Result ℕ Refusal} {m : List ℕ} → x ≡ answer_of a → m ≡ memory a former → 128 ≤ length former → Held x m
line-held a former {x} {m} e h k = subst (λ (y : Result ℕ Refusal). Held y m) (sym e) (subst (λ (l : List ℕ). Held (answer_of a) l) (sym h) (held_of a former k))
