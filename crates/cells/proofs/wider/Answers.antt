-- `cells::wider` meets its contract. Assumes nothing.
use mathlib.Core.Path.{◌≡◌, sym, ap, ◌∙◌}
use Prim.Native.Nat.{ℕ, ◌+◌}
use lib.IntN.{ℤ, ◌+ℤ◌, ◌-ℤ◌}
use native.Mathlib.Omega.{arith}
use Rattle.numbers.specs.declared.Comparison.{Comparison}
use Rattle.numbers.proofs.SignedLaws.{wide_is}
use Rattle.cells.specs.declared.Cell.{Cell}
use Rattle.cells.specs.declared.Binary.{Binary}
use Rattle.cells.specs.declared.Binary.TheVariants.{Add, Subtract, Compare}
use Rattle.cells.specs.Cells.{high, results, judged, wider}
use Rattle.cells.proofs.ComputeLaws.{operands-read, near-64, near-small, sum_near, difference-near, high-told}
use Rattle.cells.proofs.wider.Goals as goal

module _ (b : Binary) (l : ℤ) (m : ℕ) (k : ℤ) (n : ℕ) where
  added : {x : Cell} {z : ℤ} → b ≡ Add → x ≡ results z (m + n) → z ≡ l +ℤ k → x ≡ wider b l m k n
  unfolding wider
  added p e q = e ∙ ap (λ (y : ℤ). results y (m + n)) q ∙ ap (λ (d : Binary). wider d l m k n) (sym p)

  subtracted : {x : Cell} {z : ℤ} → b ≡ Subtract → x ≡ results z (m + n) → z ≡ l -ℤ high k n → x ≡ wider b l m k n
  unfolding wider
  subtracted p e q = e ∙ ap (λ (y : ℤ). results y (m + n)) q ∙ ap (λ (d : Binary). wider d l m k n) (sym p)

  compared : {x : Cell} {c : Comparison} {z w y v : ℤ} → b ≡ Compare c → x ≡ judged c z w y v → z ≡ l → w ≡ high l m → y ≡ k → v ≡ high k n → x ≡ wider b l m k n
  unfolding wider
  compared {c = c} p e q r s t = e ∙ rw (q, r, s, t) (ap (λ (d : Binary). wider d l m k n) (sym p))

pub results-requires-in-Subtract : goal.results-requires-in-Subtract
results-requires-in-Subtract c =
    let near = difference-near c.args.low c.args.low2 c.args.more2 c.ranges.low c.ranges.low2 (omega arith) in
    rw (operands-read ◌-ℤ◌ (wide_is _ c.ranges.low) (high-told c.args.low2 c.args.more2 c.ranges.low2 (omega arith) c.high.ensures) (near-64 _ near)) (near-small _ _ near (omega arith))

pub returns-in-Add : goal.returns-in-Add
returns-in-Add c =
    added _ _ _ _ _ c.in-Add.is c.results.ensures
    (operands-read ◌+ℤ◌ (wide_is _ c.ranges.low) (wide_is _ c.ranges.low2) (near-64 _ (sum_near _ _ c.ranges.low c.ranges.low2)))

pub returns-in-Subtract : goal.returns-in-Subtract
returns-in-Subtract c =
    subtracted _ _ _ _ _ c.in-Subtract.is c.results-in-Subtract.ensures
    (operands-read ◌-ℤ◌ (wide_is _ c.ranges.low) (high-told c.args.low2 c.args.more2 c.ranges.low2 (omega arith) c.high.ensures)
    (near-64 _ (difference-near c.args.low c.args.low2 c.args.more2 c.ranges.low c.ranges.low2 (omega arith))))

pub returns-in-Compare : goal.returns-in-Compare
returns-in-Compare c =
    compared _ _ _ _ _ c.in-Compare.is c.judged.ensures (wide_is _ c.ranges.low) (high-told c.args.low c.args.more c.ranges.low (omega arith) c.high-in-Compare.ensures)
    (wide_is _ c.ranges.low2) (high-told c.args.low2 c.args.more2 c.ranges.low2 (omega arith) c.high-in-Compare-2.ensures)
