-- The trials of a start, one after the other, are its changes in their order. Assumes nothing.
use Prim.Native.Nat.{ℕ, zero, suc, ◌+◌, ◌*◌, ◌/◌, ◌%◌, ◌<◌, ◌≤◌}
use mathlib.Core.Path.{◌≡◌, refl, sym, ap, ap₂, ◌∙◌}
use mathlib.Core.Bool.{Bool, true, false, cond}
use mathlib.Core.List.{List, [], ◌∷◌, ◌++◌, flat_map, append-nil}
use native.Mathlib.Omega.{arith}
use native.Mathlib.Nat.{mul-add-div_right, mul-add-mod_self_right, div-eq_of_lt, mod-eq_of_lt}
use lib.IntN.{ℤ, pos, ◌+ℤ◌, ◌-ℤ◌}
use mir.Syntax.{w32, w64}
use mir.Val.{SFits, of_z, to_z}
use mir.ValLaws.{to_z-of_z}
use borrow.Author.Tests.{eq-eqb, ne_eqb}
use Rattle.numbers.specs.Numbers.{within, numbers}
use Rattle.numbers.proofs.SignedLaws.{number_fits}
use Rattle.cells.specs.Try.{Try, stuck, done}
use Rattle.machine.specs.Machine.{State}
use Rattle.nearest_changes.specs.declared.Position.{Position}
use Rattle.nearest_changes.specs.declared.Change.{Change}
use Rattle.nearest_changes.specs.Places.{from, position_of}
use Rattle.nearest_changes.specs.Changes.{number_at, change, change_to, changes_of, changes_at, changes_by, changes}
use Rattle.nearest_changes.specs.Held.{shift, directed, trial_of, Present}
use Rattle.nearest_changes.proofs.FirstLaws.{flat_map-append, from-append}
use Rattle.nearest_changes.proofs.CellLaws.{number-present}
use Rattle.nearest_changes.proofs.PlaceLaws.{Limited, all-changes}
use Rattle.nearest_changes.proofs.Theorems.{within-number}

-- ---- which way

pub shift-up : (d n : ℕ) (v : ℤ) → d ≡ 1 → shift d n v ≡ v +ℤ pos n
shift-up d n v e = rw (eq-eqb d 1 e) refl

pub shift-down : (d n : ℕ) (v : ℤ) → (d ≡ 1 → ⊥) → shift d n v ≡ v -ℤ pos n
shift-down d n v e = rw (ne_eqb d 1 e) refl

-- ---- one trial

-- a number of the range fits the code's 32 bits
pub cast_fits : (v : ℤ) → SFits w64 v → within numbers v ≡ true → SFits w32 (to_z w64 (of_z w64 v))
cast_fits v h w = rw (to_z-of_z w64 v h) (number_fits v (within-number v w))

pub cast_is : (v : ℤ) → SFits w64 v → within numbers v ≡ true → to_z w32 (of_z w32 (to_z w64 (of_z w64 v))) ≡ v
cast_is v h w = to_z-of_z w32 _ (cast_fits v h w) ∙ to_z-of_z w64 v h

module _ (s : State) (j : ℕ) (p : Position) (at : p ≡ position_of (j / 2 % 193)) where
  pub trial-none : stuck ≡ number_at p s → [] ≡ trial_of s j
  unfolding trial_of directed
  trial-none h = rw (← at, ← h) refl

  module _ (v w : ℤ) (holds : done v ≡ number_at p s) (is : w ≡ shift (j % 2) (j / 2 / 193 + 1) v) where
    pub trial-out : within numbers w ≡ false → [] ≡ trial_of s j
    unfolding trial_of directed change_to
    trial-out h = rw (← at, ← holds, ← is, h) refl

    pub trial-in : (m : ℤ) → within numbers w ≡ true → m ≡ w → change p m ∷ [] ≡ trial_of s j
    unfolding trial_of directed change_to
    trial-in m h e = rw (← at, ← holds, ← is, h, e) refl

-- the cell that a trial changes is there
pub trial-present : (s : State) (j : ℕ) (x : Change) → x ∷ [] ≡ trial_of s j → Present x.place s
unfolding trial_of directed change_to
trial-present s j x e = go (number_at p s) refl e
  where
    p : Position
    p = position_of (j / 2 % 193)

    w : ℤ → ℤ
    w v = shift (j % 2) (j / 2 / 193 + 1) v

    inside : (v : ℤ) → number_at p s ≡ done v → (b : Bool) → x ∷ [] ≡ cond b (change p (w v) ∷ []) [] → Present x.place s
    inside v h true e = let f : x ≡ change p (w v) = cc in rw f (number-present p s v h)
    inside v h false e = let z : ◌≡◌ {A = ℕ} 0 1 = cc in absurd (omega arith)

    go : (m : Try ℤ) → number_at p s ≡ m → x ∷ [] ≡ directed (j / 2 / 193 + 1) p m (j % 2) → Present x.place s
    go stuck h e = let z : ◌≡◌ {A = ℕ} 0 1 = cc in absurd (omega arith)
    go (done v) h e = inside v h (within numbers (w v)) e

-- ---- all trials

module _ {B : Type 0} where
  -- numbers counted from one on, and from 0 on
  shifted-from : (g : ℕ → List B) (k m : ℕ) → flat_map g (from (suc k) m) ≡ flat_map (λ i. g (i + 1)) (from k m)
  unfolding flat_map from
  shifted-from g k zero = refl
  shifted-from g k (suc m) = let e : k + 1 ≡ suc k = omega arith in rw e (ap (λ l. g (suc k) ++ l) (shifted-from g (suc k) m))

  -- m rows of n columns, one after the other
  module _ (n : ℕ) (some : 0 < n) (g : ℕ → ℕ → List B) where
    abbrev numbered : ℕ → List B
    numbered j = g (j / n) (j % n)

    row : (a k l : ℕ) → k + l ≤ n → flat_map numbered (from (a * n + k) l) ≡ flat_map (g a) (from k l)
    unfolding flat_map from
    row a k zero h = refl
    row a k (suc l) h =
        let less : k < n = omega arith in
        let d : (a * n + k) / n ≡ a = mul-add-div_right some a k ∙ ap (λ x. a + x) (div-eq_of_lt less) ∙ omega arith in
        let r : (a * n + k) % n ≡ k = mul-add-mod_self_right a n k ∙ mod-eq_of_lt less in
        let e : suc (a * n + k) ≡ a * n + suc k = omega arith in
        rw (d, r, e) (ap (λ x. g a k ++ x) (row a (suc k) l (omega arith)))

    rows : (a m : ℕ) → flat_map numbered (from (a * n) (m * n)) ≡ flat_map (λ i. flat_map (g i) (from 0 n)) (from a m)
    unfolding flat_map from
    rows a zero = let e : 0 * n ≡ 0 = omega arith in rw e refl
    rows a (suc m) =
        let e : suc m * n ≡ n + m * n = omega arith in
        let z : a * n ≡ a * n + 0 = omega arith in
        let u : a * n + n ≡ suc a * n = omega arith in
        rw e
        (ap (flat_map numbered) (from-append (a * n) n (m * n))
        ∙ flat_map-append numbered (from (a * n) n) (from (a * n + n) (m * n))
        ∙ ap₂ ◌++◌ (ap (λ x. flat_map numbered (from x n)) z ∙ row a 0 n (omega arith)) (ap (λ x. flat_map numbered (from x (m * n))) u ∙ rows (suc a) m))

  flat_map-same : {A : Type 0} (f g : A → List B) → ((a : A) → f a ≡ g a) → (xs : List A) → flat_map f xs ≡ flat_map g xs
  unfolding flat_map
  flat_map-same f g h [] = refl
  flat_map-same f g h (x ∷ xs) = ap₂ ◌++◌ (h x) (flat_map-same f g h xs)

-- the two directions of a place
both_ways : (n : ℕ) (p : Position) (m : Try ℤ) → flat_map (directed n p m) (from 0 2) ≡ changes_of n p m
unfolding flat_map from directed changes_of
both_ways n p stuck = refl
both_ways n p (done v) = ap (λ l. change_to p (v -ℤ pos n) ++ l) (append-nil (change_to p (v +ℤ pos n)))

pub all-trials : (s : State) → Limited s → changes s ≡ flat_map (trial_of s) (from 0 24704)
unfolding changes trial_of changes_at
all-trials s l =
    shifted-from (changes_by s) 0 64
    ∙ flat_map-same (λ i. changes_by s (i + 1)) (λ i. flat_map (λ k. changes_at s (i + 1) (position_of k)) (from 0 193)) (λ i. all-changes s l (i + 1)) (from 0 64)
    ∙ sym (rows 193 (omega arith) (λ i k. changes_at s (i + 1) (position_of k)) 0 64)
    ∙ flat_map-same (λ q. changes_at s (q / 193 + 1) (position_of (q % 193))) (λ q. flat_map (ways q) (from 0 2)) (λ q. sym (both_ways (q / 193 + 1) (position_of (q % 193)) (number_at (position_of (q % 193)) s))) (from 0 12352)
    ∙ sym (rows 2 (omega arith) ways 0 12352)
  where
    ways : ℕ → ℕ → List Change
    ways q d = directed (q / 193 + 1) (position_of (q % 193)) (number_at (position_of (q % 193)) s) d
