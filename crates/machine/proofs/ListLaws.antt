-- Entries by their number, where they are and where they are not. Assumes nothing.
use mathlib.Core.Path.{◌≡◌, refl}
use mathlib.Core.List.{List, [], ◌∷◌}
use Prim.Native.Nat.{ℕ, zero, suc, ◌≤◌, ◌<◌}
use native.Mathlib.Omega.{arith}
use lib.ListN.{length, get_or, drop, set}
use Rattle.cells.specs.Try.{stuck, done, ◌>>=◌}
use Rattle.machine.specs.Lists.{nth, put, without}

module _ {A : Type 0} where
  pub nth_in : (n : ℕ) (xs : List A) (d : A) → n < length xs → nth n xs ≡ done (get_or xs n d)
  unfolding nth
  nth_in n [] d h = absurd (omega arith)
  nth_in zero (x ∷ xs) d h = refl
  nth_in (suc n) (x ∷ xs) d h = nth_in n xs d (omega arith)

  pub nth-out : (n : ℕ) (xs : List A) → length xs ≤ n → nth n xs ≡ stuck
  unfolding nth
  nth-out n [] h = refl
  nth-out zero (x ∷ xs) h = absurd (omega arith)
  nth-out (suc n) (x ∷ xs) h = nth-out n xs (omega arith)

  pub put_in : (n : ℕ) (a : A) (xs : List A) → n < length xs → put n a xs ≡ done (set xs n a)
  unfolding put ◌>>=◌
  put_in n a [] h = absurd (omega arith)
  put_in zero a (x ∷ xs) h = refl
  put_in (suc n) a (x ∷ xs) h = rw (put_in n a xs (omega arith)) refl

  pub put-out : (n : ℕ) (a : A) (xs : List A) → length xs ≤ n → put n a xs ≡ stuck
  unfolding put ◌>>=◌
  put-out n a [] h = refl
  put-out zero a (x ∷ xs) h = absurd (omega arith)
  put-out (suc n) a (x ∷ xs) h = rw (put-out n a xs (omega arith)) refl

  pub without_in : (n : ℕ) (xs : List A) → n ≤ length xs → without n xs ≡ done (drop n xs)
  unfolding without
  without_in zero xs h = refl
  without_in (suc n) [] h = absurd (omega arith)
  without_in (suc n) (x ∷ xs) h = without_in n xs (omega arith)

  pub without-out : (n : ℕ) (xs : List A) → length xs < n → without n xs ≡ stuck
  unfolding without
  without-out zero xs h = absurd (omega arith)
  without-out (suc n) [] h = refl
  without-out (suc n) (x ∷ xs) h = without-out n xs (omega arith)
