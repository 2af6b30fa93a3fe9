-- Laws of a list that a loop fills from its start on. Assumes nothing.
use Prim.Native.Nat.{ℕ, ◌+◌, ◌<◌}
use mathlib.Core.Path.{◌≡◌, refl, sym, ap, ap₂, ◌∙◌}
use mathlib.Core.List.{List, [], ◌∷◌, ◌++◌, map}
use native.Mathlib.Numerals.{add-one}
use lib.ListN.{length, get_or, take, set}
use lib.Seq.{take-suc, take-suc-set}
use Rattle.cells.specs.declared.Cell.{Cell}
use Rattle.merge_cells.specs.HeldCodes.{decoded_cell, decoded_cells}
use Rattle.cells.specs.HeldConfined.{confine}
use Rattle.merge_cells.proofs.CodeLaws.{cells-append}

map-append : (xs ys : List Cell) → map confine (xs ++ ys) ≡ map confine xs ++ map confine ys
map-append [] ys = refl
map-append (x ∷ xs) ys = ap (λ (l : List Cell). confine x ∷ l) (map-append xs ys)

-- one cell more is put down as a number
pub encoded-next : (xs : List ℕ) (cs : List Cell) (d : Cell) (i x : ℕ) → i < length xs → i < length cs → decoded_cell x ≡ confine (get_or cs i d)
    → decoded_cells (take i xs) ≡ map confine (take i cs) → decoded_cells (take (i + 1) (set xs i x)) ≡ map confine (take (i + 1) cs)
unfolding decoded_cells
encoded-next xs cs d i x h k e p =
    rw add-one
    (ap decoded_cells (take-suc-set xs i x h)
    ∙ cells-append (take i xs) (x ∷ [])
    ∙ ap₂ (λ (l : List Cell) (c : Cell). l ++ (c ∷ [])) p e
    ∙ sym (ap (map confine) (take-suc cs i d k) ∙ map-append (take i cs) (get_or cs i d ∷ [])))

-- one number more is read as a cell
pub decoded-next : (xs : List ℕ) (cs : List Cell) (i : ℕ) (c : Cell) → i < length xs → i < length cs → c ≡ decoded_cell (get_or xs i 0)
    → take i cs ≡ decoded_cells (take i xs) → take (i + 1) (set cs i c) ≡ decoded_cells (take (i + 1) xs)
unfolding decoded_cells
decoded-next xs cs i c h k e p =
    rw add-one
    (take-suc-set cs i c k
    ∙ ap₂ (λ (l : List Cell) (d : Cell). l ++ (d ∷ [])) p e
    ∙ sym (ap decoded_cells (take-suc xs i 0 h) ∙ cells-append (take i xs) (get_or xs i 0 ∷ [])))
