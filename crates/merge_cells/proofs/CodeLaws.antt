-- Laws of cells as numbers: what every number stands for is confined to numbers, and lists of them. Assumes nothing.
use Prim.Native.Nat.{ℕ, zero, suc, ◌+◌, ◌-◌, ◌*◌, ◌/◌, ◌%◌, ◌<◌, ◌≤◌}
use mathlib.Core.Path.{◌≡◌, refl, ap, ap₂, ◌∙◌}
use mathlib.Core.Bool.{Bool, true, false, cond}
use mathlib.Core.List.{List, [], ◌∷◌, ◌++◌, map}
use native.Mathlib.Omega.{arith}
use lib.Dec.{leb}
use lib.IntN.{ℤ, pos, ◌-ℤ◌}
use lib.ListN.{length, get_or, take, drop, set, length-map, get_or-map}
use borrow.Author.Tests.{leb-true, le-leb, lt-leb}
use Rattle.numbers.specs.Numbers.{bits, half, modulus}
use Rattle.numbers.proofs.IntegerLaws.{over, under, difference-is, equal_by}
use Rattle.cells.specs.declared.Cell.{Cell}
use Rattle.cells.specs.Cells.{range, unknown, handle, results}
use Rattle.merge_cells.specs.HeldCodes.{decoded_cell, decoded_cells}
use Rattle.cells.specs.HeldConfined.{confine, Confined, Kept}
use Rattle.cells.specs.Order.{Pointwise, end, cons}
use Rattle.cells.proofs.RangeLaws.{InBits}
use Rattle.cells.proofs.ComputeLaws.{results-inner}
use Rattle.cells.proofs.CellLaws.{confined-range, handle-confined, kept_self}

-- what a number stands for

pub code-confined : (x : ℕ) → Confined (decoded_cell x)
unfolding decoded_cell
code-confined x = go (leb (x / modulus bits) (x % modulus bits)) refl
  where
    go : (t : Bool) → leb (x / modulus bits) (x % modulus bits) ≡ t
        → Confined (cond t (range (pos (x / modulus bits) -ℤ pos (half bits)) (x % modulus bits - x / modulus bits)) (handle (x % 256)))
    go true e =
        let h = leb-true (x / modulus bits) (x % modulus bits) e in
        let s = difference-is (pos (x / modulus bits)) (pos (half bits)) in
        let k : x % modulus bits ≤ modulus bits - 1 = omega arith in
        confined-range (record { above = omega arith; below = omega arith })
    go false e = handle-confined (x % 256)

pub decoded-confined : {c : Cell} (x : ℕ) → c ≡ decoded_cell x → Confined c
decoded-confined x e = rw e (code-confined x)

-- lists of cells as numbers

pub cells-length : (xs : List ℕ) → length (decoded_cells xs) ≡ length xs
unfolding decoded_cells
cells-length xs = length-map xs decoded_cell

pub cells_at : (xs : List ℕ) (i : ℕ) → get_or (decoded_cells xs) i (decoded_cell 0) ≡ decoded_cell (get_or xs i 0)
unfolding decoded_cells
cells_at xs i = get_or-map decoded_cell xs i 0

pub cells-set : (xs : List ℕ) (i x : ℕ) → decoded_cells (set xs i x) ≡ set (decoded_cells xs) i (decoded_cell x)
unfolding decoded_cells
cells-set [] i x = refl
cells-set (y ∷ xs) zero x = refl
cells-set (y ∷ xs) (suc i) x = ap (λ (l : List Cell). decoded_cell y ∷ l) (cells-set xs i x)

pub cells-append : (xs ys : List ℕ) → decoded_cells (xs ++ ys) ≡ decoded_cells xs ++ decoded_cells ys
unfolding decoded_cells
cells-append [] ys = refl
cells-append (x ∷ xs) ys = ap (λ (l : List Cell). decoded_cell x ∷ l) (cells-append xs ys)

pub cells-take : (n : ℕ) (xs : List ℕ) → decoded_cells (take n xs) ≡ take n (decoded_cells xs)
unfolding decoded_cells
cells-take zero xs = refl
cells-take (suc n) [] = refl
cells-take (suc n) (x ∷ xs) = ap (λ (l : List Cell). decoded_cell x ∷ l) (cells-take n xs)

pub cells-drop : (n : ℕ) (xs : List ℕ) → decoded_cells (drop n xs) ≡ drop n (decoded_cells xs)
unfolding decoded_cells
cells-drop zero xs = refl
cells-drop (suc n) [] = refl
cells-drop (suc n) (x ∷ xs) = cells-drop n xs

-- lists of cells that are confined

pub codes-kept : (xs : List ℕ) → Pointwise Kept (decoded_cells xs) (decoded_cells xs)
unfolding decoded_cells
codes-kept [] = end
codes-kept (x ∷ xs) = cons (kept_self (code-confined x)) (codes-kept xs)

-- confining changes nothing in them
pub kept-all : {cs ds : List Cell} → Pointwise Kept cs ds → map confine cs ≡ cs
kept-all end = refl
kept-all (cons {a} {xs = xs} k ks) = ap (λ (c : Cell). c ∷ map confine xs) k.kept.stays ∙ ap (λ (l : List Cell). a ∷ l) (kept-all ks)

-- ---- what the code has for a cell

pub encoded-wide : decoded_cell 2147483647 ≡ unknown
unfolding decoded_cell
encoded-wide = refl

pub encoded-range : (low : ℤ) (more l : ℕ) → l + under low ≡ over low + half bits → l + more ≤ modulus bits - 1 → decoded_cell (l * 2147483648 + (l + more)) ≡ results low more
unfolding decoded_cell
encoded-range low more l e h =
    let x = l * 2147483648 + (l + more) in
    let q : x / modulus bits ≡ l = omega arith in
    let r : x % modulus bits ≡ l + more = omega arith in
    let b : InBits low more = record { above = omega arith; below = omega arith } in
    let s = difference-is (pos l) (pos (half bits)) in
    let z : pos l -ℤ pos (half bits) ≡ low = equal_by (pos l -ℤ pos (half bits)) low (omega arith) in
    let m : l + more - l ≡ more = omega arith in
    rw (q, r) (rw (le-leb l (l + more) (omega arith)) (ap₂ range z m ∙ results-inner low more b))

pub encoded-handle : (k : ℕ) → k < 256 → decoded_cell (549755813888 + k) ≡ handle k
unfolding decoded_cell
encoded-handle k h =
    let x = 549755813888 + k in
    let e : x % 256 ≡ k = omega arith in
    rw (lt-leb (x / modulus bits) (x % modulus bits) (omega arith)) (ap handle e)

pub decoded-handle : (x : ℕ) → x % 2147483648 < x / 2147483648 → handle (x % 256) ≡ decoded_cell x
unfolding decoded_cell
decoded-handle x h = rw (lt-leb (x / modulus bits) (x % modulus bits) h) refl

pub decoded-range : (x : ℕ) → x / 2147483648 ≤ x % 2147483648 → range (pos (x / 2147483648) -ℤ pos 1073741824) (x % 2147483648 - x / 2147483648) ≡ decoded_cell x
unfolding decoded_cell
decoded-range x h = rw (le-leb (x / modulus bits) (x % modulus bits) h) refl
