-- The erasure order is the inclusion of what cells allow: a refines b exactly if every plain cell that a allows b allows; and a range of one
-- number is plain. Assumes nothing.
use mathlib.Core.Path.{◌≡◌, refl, ap, ◌∙◌}
use mathlib.Core.Bool.{Bool, true, false, cond}
use mathlib.Core.Logic.{◌↔◌}
use Prim.Native.Nat.{ℕ, suc}
use native.Mathlib.Omega.{arith}
use lib.IntN.{ℤ, pos, nat_abs, ◌-ℤ◌}
use lib.Signed.{le_z}
use Rattle.numbers.proofs.IntegerLaws.{sum_is, le_yes, distance_is}
use Rattle.cells.specs.declared.Value.{Value}
use Rattle.cells.specs.declared.Value.TheVariants.{Range, Handle}
use Rattle.cells.specs.declared.Cell.{Cell}
use Rattle.cells.specs.Cells.{cell, range, high, between, handle}
use Rattle.cells.specs.Order.{Refines, same, inside, Allowed, among, same_handle}
use Rattle.cells.proofs.RangeLaws.{Linear, linear, lies, covers, linear-trans}
use Rattle.cells.proofs.CellLaws.{known-allowed}

refines-allows : {a b : Cell} → Refines a b → {v : Cell} → Allowed v a → Allowed v b
refines-allows same h = h
refines-allows (inside i) (among j) = among (lies (linear-trans (linear j) (linear i)))

-- the numbers at both ends of a range are allowed by it
least-allowed : (l : ℤ) (m : ℕ) → Allowed (range l 0) (range l m)
least-allowed l m = let i : Linear l 0 l m = record { least = omega arith; greatest = omega arith } in among (lies i)

greatest-allowed : (l : ℤ) (m : ℕ) → Allowed (range (high l m) 0) (range l m)
greatest-allowed l m =
    let s = sum_is l (pos m) in
    let i : Linear (high l m) 0 l m = record { least = omega arith; greatest = omega arith } in
    among (lies i)

-- a range is no handle, and a handle is of one block
abbrev kind_of : Value → ℕ
kind_of (Range l m) = 0
kind_of (Handle k) = suc k

alike : {a b : Cell} → Allowed a b → kind_of a.value ≡ kind_of b.value
alike (among i) = refl
alike same_handle = refl

allowed-linear : {n l : ℤ} {m : ℕ} → Allowed (range n 0) (range l m) → Linear n 0 l m
allowed-linear (among i) = linear i

allows-refines : (v w : Value) → ((c : Cell) → Allowed c (cell v) → Allowed c (cell w)) → Refines (cell v) (cell w)
allows-refines (Range l m) (Range l' m') h =
    let p = allowed-linear (h (range l 0) (least-allowed l m)) in
    let q = allowed-linear (h (range (high l m) 0) (greatest-allowed l m)) in
    let s = sum_is l (pos m) in
    covers (record { least = omega (arith, p.least); greatest = omega (arith, q.greatest) })
allows-refines (Range l m) (Handle k) h = let e = alike (h (range l 0) (least-allowed l m)) in absurd (omega arith)
allows-refines (Handle j) (Range l m) h = let e = alike (h (handle j) same_handle) in absurd (omega arith)
allows-refines (Handle j) (Handle k) h = let e = alike (h (handle j) same_handle) in let f : j ≡ k = omega arith in rw f same

pub refines-where : (a b : Cell) → Refines a b ↔ ((v : Cell) → Allowed v a → Allowed v b)
refines-where a b = (λ r v h. refines-allows r h, λ h. allows-refines a.value b.value h)

-- a range from a number to itself is that number
between-self : (n : ℤ) → between n n ≡ range n 0
unfolding between
between-self n =
    let d = distance_is n n (le_yes n n (omega arith)) in
    let e : nat_abs (n -ℤ n) ≡ 0 = omega arith in
    ap (λ k. range n (cond (le_z n n) k 0)) e ∙ go (le_z n n)
  where
    go : (b : Bool) → range n (cond b 0 0) ≡ range n 0
    go true = refl
    go false = refl

pub between-single : (m n : ℤ) → m ≡ n → Allowed (between m n) (between m n)
between-single m n e = rw (e, between-self n) (known-allowed n)
