-- Laws of the explorer's parts, over plain numbers, and of a path as a number. Assumes nothing.
use Rattle.std.specs.Prelude.{Err, Ok}
use mathlib.Core.Path.{◌≡◌, refl, ap, ◌∙◌}
use mathlib.Core.List.{List, [], ◌∷◌}
use Prim.Native.Nat.{ℕ, ◌+◌, max, ◌≤◌}
use native.Mathlib.Omega.{arith}
use Rattle.bound_theory.specs.Tree.{Decision, N, T}
use Rattle.refusals.specs.declared.Refusal.{Refusal}
use Rattle.bound_figures.specs.declared.Found.{Found}
use Rattle.bound_figures.specs.declared.Tally.{Tally}
use Rattle.bound_figures.specs.HeldFigures.{encode, decided_of, joined_of, refused_as, second_of, first_found_of, both_of}

pub joined_is : (t : Tally) (n x : ℕ) (f g : Found) (a b e d p : ℕ) → a ≡ max f.cycles (x + g.cycles) → b ≡ max f.words g.words →
    e ≡ max f.depth g.depth → d ≡ max t.depth e → p ≡ decided_of f.cycles (x + g.cycles) f.path g.path →
    record { verdict = Ok tt; used = n + f.used + g.used; cycles = t.cycles + a; words = t.words + b; depth = d; path = p } ≡ joined_of t n f x g
unfolding joined_of
joined_is t n x f g a b e d p ha hb he hd hp = rw (ha, hb, hd, he, hp) refl

-- ---- the two ways of a branch

module _ (t : Tally) (n : ℕ) (f : Found) (x : ℕ) (g : Found) where
  pub first-refused : (y : Refusal) → f.verdict ≡ Err y → both_of t n f x g ≡ refused_as y (n + f.used)
  unfolding both_of first_found_of
  first-refused y e = ap (first_found_of t n f x g) e

  module _ (Done-first : f.verdict ≡ Ok tt) where
    pub second-refused : (y : Refusal) → g.verdict ≡ Err y → both_of t n f x g ≡ refused_as y (n + f.used + g.used)
    unfolding both_of first_found_of second_of
    second-refused y e = ap (first_found_of t n f x g) Done-first ∙ ap (second_of t n f x g) e

    pub both-accepted : g.verdict ≡ Ok tt → both_of t n f x g ≡ joined_of t n f x g
    unfolding both_of first_found_of second_of
    both-accepted e = ap (first_found_of t n f x g) Done-first ∙ ap (second_of t n f x g) e

-- the number of a path is not 0
pub encode-positive : (ds : List Decision) → 1 ≤ encode ds
unfolding encode
encode-positive [] = omega arith
encode-positive (N ∷ ds) = omega (arith, encode-positive ds)
encode-positive (T ∷ ds) = omega (arith, encode-positive ds)
