-- Entries of a list by their number from 0, stuck where there is no such entry.
use Rattle.std.specs.Prelude.{◌∷◌}
use Rattle.refusals.specs.Library.{ℕ, zero, suc, List, []}
use Rattle.cells.specs.Try.{Try, stuck, done, ◌>>=◌}

module _ {A : Type 0} where
  -- entry n
  unfoldable pub nth : ℕ → List A → Try A
  nth n [] = stuck
  nth zero (x ∷ xs) = done x
  nth (suc n) (x ∷ xs) = nth n xs

  -- the list with a as entry n
  unfoldable pub put : ℕ → A → List A → Try (List A)
  put n a [] = stuck
  put zero a (x ∷ xs) = done (a ∷ xs)
  put (suc n) a (x ∷ xs) = put n a xs >>= λ ys. done (x ∷ ys)

  -- the list without its first n entries
  unfoldable pub without : ℕ → List A → Try (List A)
  without zero xs = done xs
  without (suc n) [] = stuck
  without (suc n) (x ∷ xs) = without n xs
