-- Laws of a program's head while it is filled in. Assumes nothing.
use Prim.Native.Nat.{ℕ, zero, suc, ◌+◌, ◌≤◌, ◌<◌}
use mathlib.Core.Path.{◌≡◌, refl, ap, ap₂, ◌∙◌}
use mathlib.Core.List.{List, [], ◌∷◌}
use native.Mathlib.Omega.{arith}
use lib.ListN.{length, get_or, take, drop, length-drop}
use lib.Seq.{get_or-drop}
use Rattle.machine_state.specs.HeldProgram.{sizes_of}

-- the head of ws, with k of the sizes ns, and the number of lines of vs and the lines after the head
pub record Headed (first blocks : ℕ) (ns vs : List ℕ) (k : ℕ) (ws : List ℕ) : Type 0 where
  pub long : length ws ≡ 5131
  pub within : k ≤ 8
  pub first-is : get_or ws 0 0 ≡ first
  pub lines_are : get_or ws 1 0 ≡ get_or vs 1 0
  pub blocks-are : get_or ws 2 0 ≡ blocks
  pub sizes : (i : ℕ) → i < k → get_or ws (i + 3) 0 ≡ get_or ns i 0
  pub kept : (i : ℕ) → 11 ≤ i → get_or ws i 0 ≡ get_or vs i 0

-- a list by its entries
agree : (n : ℕ) (xs ys : List ℕ) → length ys ≡ n → n ≤ length xs → ((i : ℕ) → i < n → get_or xs i 0 ≡ get_or ys i 0) → take n xs ≡ ys
agree zero xs [] l m h = refl
agree zero xs (y ∷ ys) l m h = absurd (omega arith)
agree (suc n) [] ys l m h = absurd (omega arith)
agree (suc n) (x ∷ xs) [] l m h = absurd (omega arith)
agree (suc n) (x ∷ xs) (y ∷ ys) l m h = ap₂ (λ z zs. z ∷ zs) (h 0 (omega arith)) (agree n xs ys (omega arith) (omega arith) (λ i k. h (suc i) (omega arith)))

pub head-sizes : (first blocks : ℕ) (ns vs : List ℕ) (k : ℕ) (ws : List ℕ) → Headed first blocks ns vs k ws → 8 ≤ k → length ns ≡ 8 → sizes_of ws ≡ take blocks ns
unfolding sizes_of
head-sizes first blocks ns vs k ws h m l =
    ap₂ (λ n xs. take n xs) h.blocks-are
    (agree 8 (drop 3 ws) ns l (simp length-drop (omega (arith, h.long)))
    (λ i n. let e : 3 + i ≡ i + 3 = omega arith in get_or-drop 3 ws i 0 ∙ ap (λ j. get_or ws j 0) e ∙ h.sizes i (omega arith)))
