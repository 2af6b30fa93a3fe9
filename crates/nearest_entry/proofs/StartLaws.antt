-- The start of a file that passes is within the limits of the machine. Assumes nothing.
use Prim.Native.Nat.{ℕ, zero, suc, ◌+◌, ◌≤◌}
use mathlib.Core.Path.{◌≡◌, refl, ap}
use mathlib.Core.Bool.{Bool, true, false, cond}
use mathlib.Core.List.{List, [], ◌∷◌}
use native.Mathlib.Omega.{arith}
use lib.ListN.{length, get_or, drop, length-take}
use Rattle.text.specs.Text.{Line}
use Rattle.cells.specs.declared.Cell.{Cell}
use Rattle.machine.specs.Machine.{height}
use Rattle.file_format.specs.Rows.{Passes, is_field, sizes_from, block_sizes}
use Rattle.file_format.specs.Routine.{blocks_in_line, start_of, routine_of}
use Rattle.file_format.proofs.RangeLaws.{start-low}
use Rattle.file_names.proofs.BlockLaws.{block-below, place-below}
use Rattle.nearest_changes.proofs.PlaceLaws.{Limited}

-- sizes of m blocks at most, of sixteen fields each
record Few (m : ℕ) (ns : List ℕ) : Type 0 where
  pub count : length ns ≤ m
  pub small : (k : ℕ) → get_or ns k 0 ≤ 16

few-one : (m n : ℕ) → 1 ≤ m → n ≤ 16 → Few m (n ∷ [])
few-one m n l h = record { count = l; small = go }
  where
    go : (k : ℕ) → get_or (n ∷ []) k 0 ≤ 16
    go zero = h
    go (suc k) = omega arith

few-more : (m n : ℕ) (ns : List ℕ) → n ≤ 16 → Few m ns → Few (suc m) (n ∷ ns)
few-more m n ns h f = record { count = let l = f.count in omega arith; small = go }
  where
    go : (k : ℕ) → get_or (n ∷ ns) k 0 ≤ 16
    go zero = h
    go (suc k) = f.small k

-- block k is one of eight, and m come from it on
sizes-few : (ws : List (List ℕ)) (k m n : ℕ) → k + m ≡ 8 → 1 ≤ m → n ≤ 16 → Few m (sizes_from k n ws)
unfolding sizes_from
sizes-few [] k m n e l h = few-one m n l h
sizes-few (w ∷ ws) k zero n e l h = absurd (omega arith)
sizes-few (w ∷ ws) k (suc m) n e l h =
    same (is_field k n w) refl
    (λ p. sizes-few ws k (suc m) (suc n) e l p)
    (λ p. sizes-few ws (suc k) m 1 (omega arith) p (omega arith))
  where
    next : (b : Bool) → is_field (suc k) 0 w ≡ b → (1 ≤ m → Few m (sizes_from (suc k) 1 ws)) → Few (suc m) (cond b (n ∷ sizes_from (suc k) 1 ws) (n ∷ []))
    next true q f = few-more m n (sizes_from (suc k) 1 ws) h (f (let i = block-below (suc k) 0 w q in omega arith))
    next false q f = few-one (suc m) n l h

    same : (b : Bool) → is_field k n w ≡ b → (suc n ≤ 16 → Few (suc m) (sizes_from k (suc n) ws)) → (1 ≤ m → Few m (sizes_from (suc k) 1 ws)) →
        Few (suc m) (cond b (sizes_from k (suc n) ws) (cond (is_field (suc k) 0 w) (n ∷ sizes_from (suc k) 1 ws) (n ∷ [])))
    same true q f g = f (place-below k n w q)
    same false q f g = next (is_field (suc k) 0 w) refl g

blocks-few : (ws : List (List ℕ)) → Few 8 (block_sizes ws)
unfolding block_sizes
blocks-few [] = record { count = omega arith; small = λ k. omega arith }
blocks-few (w ∷ ws) = go (is_field 0 0 w)
  where
    go : (b : Bool) → Few 8 (cond b (sizes_from 0 1 ws) [])
    go true = sizes-few ws 0 8 1 refl (omega arith) (omega arith)
    go false = record { count = omega arith; small = λ k. omega arith }

-- the blocks that a line fills
line-count : (ns : List ℕ) (cs : List Cell) → length (blocks_in_line ns cs) ≡ length ns
unfolding blocks_in_line
line-count [] cs = refl
line-count (n ∷ ns) cs = ap suc (line-count ns (drop n cs))

line_small : (ns : List ℕ) (cs : List Cell) → ((k : ℕ) → get_or ns k 0 ≤ 16) → (k : ℕ) → length (get_or (blocks_in_line ns cs) k []) ≤ 16
unfolding blocks_in_line
line_small [] cs h k = omega arith
line_small (n ∷ ns) cs h zero = let l = h 0 in let e = length-take n cs in omega arith
line_small (n ∷ ns) cs h (suc k) = line_small ns (drop n cs) (λ i. h (suc i)) k

line-few : (ns : List ℕ) (cs : List Cell) → Few 8 ns → length (blocks_in_line ns cs) ≤ 8
line-few ns cs f = let e = line-count ns cs in let l = f.count in omega arith

pub start-limited : {ls : List Line} → Passes ls → Limited (routine_of ls).start
unfolding routine_of start_of height
start-limited {ls} p = record {
  entries = let l = start-low p in omega arith;
  blocks = line-few (block_sizes _) _ (blocks-few _);
  fields = line_small (block_sizes _) _ (blocks-few _).small;
}
