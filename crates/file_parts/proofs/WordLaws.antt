-- Laws of numbers and cells as a word spells them. Assumes nothing.
use Prim.Native.Nat.{ℕ}
use mathlib.Core.Path.{◌≡◌, refl, sym, ap, ◌∙◌}
use mathlib.Core.List.{List, []}
use native.Mathlib.Omega.{arith}
use lib.Dec.{lit<}
use lib.IntN.{pos}
use lib.ListN.{length, get_or, take, drop, length-map, get_or-map}
use lib.Seq.{length-take-le}
use Rattle.text.specs.Text.{equals}
use Rattle.text.proofs.ScanLaws.{first_length}
use Rattle.text.proofs.PieceLaws.{first-le}
use Rattle.numbers.specs.declared.Range.{Range}
use Rattle.numbers.specs.Numbers.{IsNumber, numbers}
use Rattle.cells.specs.declared.Cell.{Cell}
use Rattle.cells.specs.Cells.{exactly}
use Rattle.instructions.specs.Kinds.{addresses}
use Rattle.machine.specs.Machine.{State}
use Rattle.file_format.specs.Rows.{cell_word, hashed}
use Rattle.file_format.specs.Routine.{cell_of, cells_of, start_of}
use Rattle.file_values.specs.HeldValues.{Near}

-- a first word is no longer than its line
pub fitting : (l : List ℕ) {n : ℕ} → n ≡ first_length 32 l → n ≡ length (take n l)
fitting l {n} e = sym (length-take-le n l (omega (arith, first-le 32 l, e)))

-- a range of numbers

pub near : (r : Range) → IsNumber r.low → IsNumber r.high → Near r
near r l h = let p = l.fits in let q = h.fits in record { low = omega arith; high = omega arith }

pub numbers_fit : (r : Range) → r ≡ numbers → IsNumber r.low × IsNumber r.high
numbers_fit r e = rw e (record { fits = lit< tt }, record { fits = lit< tt })

pub addresses-fit : (r : Range) → r ≡ addresses → IsNumber r.low × IsNumber r.high
addresses-fit r e = rw e (record { fits = lit< tt }, record { fits = lit< tt })

-- the cells of a line

pub cells-length : (ws : List (List ℕ)) → length (cells_of ws) ≡ length ws
unfolding cells_of
cells-length ws = length-map ws (λ w. cell_of (cell_word w))

no_word : cell_of (cell_word []) ≡ exactly (pos 0)
unfolding cell_of cell_word hashed equals
no_word = refl

pub cell-is : (ws : List (List ℕ)) (w : List ℕ) (i : ℕ) → w ≡ get_or ws i [] → cell_of (cell_word w) ≡ get_or (cells_of ws) i (exactly (pos 0))
unfolding cells_of
cell-is ws w i e =
    ap (λ (v : List ℕ). cell_of (cell_word v)) e ∙ sym (get_or-map (λ (v : List ℕ). cell_of (cell_word v)) ws i [])
    ∙ ap (λ (d : Cell). get_or (cells_of ws) i d) no_word

pub start_is : (first : ℕ) (cs : List Cell) (accu : Cell) (stack : List Cell) → accu ≡ get_or cs 0 (exactly (pos 0)) → stack ≡ drop 1 cs
    → ◌≡◌ {A = State} (record { at = first; accu = accu; stack = stack; blocks = [] }) (start_of first cs [])
unfolding start_of
start_is first cs accu stack e q = λ i. record { at = first; accu = e i; stack = q i; blocks = [] }
