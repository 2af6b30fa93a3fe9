-- The parts of a range by how many of its numbers are below a number. Assumes nothing.
use Prim.Native.Nat.{ℕ, ◌+◌, ◌-◌, ◌<◌, ◌≤◌}
use mathlib.Core.Path.{◌≡◌, refl, sym, ap, ap₂, ◌∙◌}
use mathlib.Core.Bool.{Bool, true, false, cond, ◌&&◌}
use native.Mathlib.Omega.{arith}
use lib.IntN.{ℤ, pos, negsuc, nat_abs, ◌-ℤ◌}
use lib.Signed.{lt_z, le_z}
use Rattle.numbers.proofs.IntegerLaws.{over, under, sum_is, difference-is, le-true, le-false, le-no, lt-true, lt_yes}
use Rattle.cells.specs.declared.Value.TheVariants.{Range, Handle}
use Rattle.cells.specs.Cells.{range, high, between}
use Rattle.split_theory.specs.Split.{divides_value, lower_part, upper_part}
use Rattle.split_theory.proofs.CutLaws.{Divided, divides-yes, lower-is, upper_is}
use Rattle.split_bound.specs.declared.Parts.TheVariants.{Two, Whole}
use Rattle.split_bound.specs.Held.{parts_of}

-- a difference that is not negative
size-of : (z : ℤ) → under z ≤ over z → over z ≡ nat_abs z + under z
size-of (pos n) h = omega arith
size-of (negsuc n) h = absurd (omega arith)

-- how many numbers from `low` on are below n
gap : (low n : ℤ) → lt_z low n ≡ true → over n + under low ≡ over low + under n + nat_abs (n -ℤ low)
gap low n e =
    let p = lt-true low n e in
    let s = difference-is n low in
    let z = size-of (n -ℤ low) (omega arith) in
    omega arith

pub gap-some : (low n : ℤ) → lt_z low n ≡ true → 0 < nat_abs (n -ℤ low)
gap-some low n e = let p = lt-true low n e in let g = gap low n e in omega arith

-- the test of the code, both ways round
pub is-above : (low n : ℤ) → le_z n low ≡ false → lt_z low n ≡ true
is-above low n e = lt_yes low n (le-false n low e)

pub not_below : (low n : ℤ) → le_z n low ≡ false → lt_z n low ≡ false
not_below low n e = go (lt_z n low) refl
  where
    go : (b : Bool) → lt_z n low ≡ b → b ≡ false
    go true p = let h = lt-true n low p in let k = le-false n low e in absurd (omega arith)
    go false p = refl

pub is-least : (low n : ℤ) → le_z n low ≡ true → lt_z low n ≡ false
is-least low n e = go (lt_z low n) refl
  where
    go : (b : Bool) → lt_z low n ≡ b → b ≡ false
    go true p = let h = lt-true low n p in let k = le-true n low e in absurd (omega arith)
    go false p = refl

module _ (n low : ℤ) (more : ℕ) where
  undivided : (lt_z low n && le_z n (high low more)) ≡ false → Whole ≡ parts_of n (Range low more)
  unfolding parts_of divides_value
  undivided e = sym (ap (λ b. cond b (Two (lower_part n (Range low more)) (upper_part n (Range low more))) Whole) e)

  -- no number is below n
  pub none_below : lt_z low n ≡ false → Whole ≡ parts_of n (Range low more)
  none_below e = undivided (ap (λ b. b && le_z n (high low more)) e)

  module _ (some : lt_z low n ≡ true) where
    -- none is from n on
    pub none_from : more < nat_abs (n -ℤ low) → Whole ≡ parts_of n (Range low more)
    none_from h =
        let g = gap low n some in
        let s = sum_is low (pos more) in
        undivided (ap₂ ◌&&◌ some (le-no n (high low more) (omega arith)))

    pub both-parts : nat_abs (n -ℤ low) ≤ more → {j k : ℕ} → j ≡ nat_abs (n -ℤ low) - 1 → k ≡ more - nat_abs (n -ℤ low) → Two (range low j) (range n k) ≡ parts_of n (Range low more)
    unfolding parts_of divides_value lower_part upper_part
    both-parts h {j} {k} p q =
        let g = gap low n some in
        let t = lt-true low n some in
        let d : Divided n low more = record { least = omega arith; greatest = omega arith } in
        let (x, a) = lower-is n low more d in
        let (y, b) = upper_is n low more d in
        let f = a.far in
        let f' = b.far in
        let u : j ≡ x = omega arith in
        let v : k ≡ y = omega arith in
        ap₂ Two (ap (range low) u ∙ sym a.is) (ap (range n) v ∙ sym b.is)
        ∙ sym (ap (λ t. cond t (Two (between low (n -ℤ pos 1)) (between n (high low more))) Whole) (divides-yes n low more d))

-- a handle stays whole
pub handle-whole : (n : ℤ) (k : ℕ) → Whole ≡ parts_of n (Handle k)
unfolding parts_of divides_value
handle-whole n k = refl
