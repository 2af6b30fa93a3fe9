-- The numbers in the start of a routine have as many bits as numbers have. Assumes nothing.
use Prim.Native.Nat.{ℕ, zero, suc}
use mathlib.Core.Path.{◌≡◌, refl, ap, ap₂, ◌∙◌}
use mathlib.Core.Bool.{Bool, true, false, cond, ◌&&◌}
use mathlib.Core.List.{List, [], ◌∷◌}
use native.Mathlib.Omega.{arith}
use lib.IntN.{ℤ, pos, nat_abs}
use lib.Signed.{le_z}
use lib.ListN.{get_or, take, drop}
use Rattle.text.specs.Text.{Line}
use Rattle.numbers.specs.Numbers.{within, numbers}
use Rattle.numbers.proofs.IntegerLaws.{le-true}
use Rattle.cells.specs.declared.Cell.{Cell}
use Rattle.cells.specs.Cells.{exactly, between}
use Rattle.cells.specs.HeldConfined.{Confined, Kept}
use Rattle.cells.specs.Order.{Pointwise, end, cons}
use Rattle.cells.proofs.RangeLaws.{InBits, fitting-true, high_zero}
use Rattle.cells.proofs.CellLaws.{confined-range, number-confined, unknown-confined, handle-confined, kept_self}
use Rattle.merge_cells.proofs.MergeLaws.{between_is}
use Rattle.machine.specs.Order.{Cellwise}
use Rattle.file_format.specs.declared.Section.TheVariants.{Cells as cells, Fields as fields}
use Rattle.file_format.specs.declared.Column.TheVariants.{Cell as cell}
use Rattle.file_format.specs.declared.Role.TheVariants.{Values as values}
use Rattle.file_format.specs.Layout.{layout, listed}
use Rattle.file_format.specs.declared.CellWord.{CellWord}
use Rattle.file_format.specs.declared.CellWord.TheVariants.{Wrong, Unknown, Known, Block, Span}
use Rattle.file_format.specs.Rows.{cell_word, handles}
use Rattle.file_format.specs.Routine.{inside, cell_of, cells_of, blocks_in_line, start_of, routine_of}
use Rattle.file_format.proofs.RowLaws.{First}

within-bits : (z : ℤ) → within numbers z ≡ true → InBits z 0
within-bits z e = fitting-true z 0 (ap₂ ◌&&◌ e (ap (within numbers) (high_zero z) ∙ e))

-- a number of the range
inside-bits : (z : ℤ) → InBits (inside numbers z) 0
unfolding inside
inside-bits z = go (within numbers z) refl
  where
    go : (t : Bool) → within numbers z ≡ t → InBits (cond t z (pos 0)) 0
    go true e = within-bits z e
    go false e = record { above = omega arith; below = omega arith }

-- the numbers from one to another
module _ (l h : ℤ) (a : InBits l 0) (b : InBits h 0) where
  confined-up : le_z l h ≡ true → Confined (between l h)
  confined-up e =
      let s = between_is l h (le-true l h e) in
      let far = s.1.far in
      rw s.1.is (confined-range (record { above = a.above; below = omega (arith, b.below) }))

  confined-down : le_z l h ≡ false → Confined (between l h)
  unfolding between
  confined-down e = rw e (confined-range a)

  between-confined : Confined (between l h)
  between-confined = go (le_z l h) refl
    where
      go : (t : Bool) → le_z l h ≡ t → Confined (between l h)
      go true e = confined-up e
      go false e = confined-down e

word-confined : (c : CellWord) → Confined (cell_of c)
unfolding cell_of
word-confined Wrong = number-confined (pos 0)
word-confined Unknown = unknown-confined
word-confined (Known z) = number-confined (inside numbers z)
word-confined (Block k) = handle-confined (nat_abs (inside handles k))
word-confined (Span lo hi) = between-confined (inside numbers lo) (inside numbers hi) (inside-bits lo) (inside-bits hi)

-- ---- a start whose cells a relation relates to themselves

module _ {R : Cell → Cell → Type 0} where
  take-self : (n : ℕ) {xs ys : List Cell} → Pointwise R xs ys → Pointwise R (take n xs) (take n ys)
  take-self zero k = end
  take-self (suc n) end = end
  take-self (suc n) (cons k ks) = cons k (take-self n ks)

  drop-self : (n : ℕ) {xs ys : List Cell} → Pointwise R xs ys → Pointwise R (drop n xs) (drop n ys)
  drop-self zero k = k
  drop-self (suc n) end = end
  drop-self (suc n) (cons k ks) = drop-self n ks

  blocks-self : (ns : List ℕ) {xs ys : List Cell} → Pointwise R xs ys → Pointwise (Pointwise R) (blocks_in_line ns xs) (blocks_in_line ns ys)
  unfolding blocks_in_line
  blocks-self [] k = end
  blocks-self (n ∷ ns) k = cons (take-self n k) (blocks-self ns (drop-self n k))

  first-self : (c : Cell) → R c c → {xs : List Cell} → Pointwise R xs xs → R (get_or xs 0 c) (get_or xs 0 c)
  first-self c r end = r
  first-self c r (cons k ks) = k

  pub start-self : (ls : List Line) → R (exactly (pos 0)) (exactly (pos 0)) → (First (values cells cell) layout → Pointwise R (cells_of (listed (values cells cell) ls)) (cells_of (listed (values cells cell) ls))) →
      (First (values fields cell) layout → Pointwise R (cells_of (listed (values fields cell) ls)) (cells_of (listed (values fields cell) ls))) → Cellwise R (routine_of ls).start (routine_of ls).start
  unfolding routine_of start_of
  start-self ls r k f = record {
    at = refl;
    accu = first-self (exactly (pos 0)) r (k refl);
    stack = drop-self 1 (k refl);
    blocks = blocks-self _ (f refl);
  }

-- ---- so of the bits

words-kept : (ws : List (List ℕ)) → Pointwise Kept (cells_of ws) (cells_of ws)
unfolding cells_of
words-kept [] = end
words-kept (w ∷ ws) = cons (kept_self (word-confined (cell_word w))) (words-kept ws)

pub start-kept : (ls : List Line) → Cellwise Kept (routine_of ls).start (routine_of ls).start
start-kept ls = start-self ls (kept_self (number-confined (pos 0))) (λ f. words-kept _) (λ f. words-kept _)
