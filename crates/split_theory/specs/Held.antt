-- What the code's cuts stand for.
use Rattle.std.specs.Prelude.{◌-◌, ◌≤◌, ◌<◌, ◌∷◌, ◌≡◌}
use Rattle.refusals.specs.Library.{ℕ, zero, suc, ℤ, pos, length, get_or, List, []}
use Rattle.nearest_changes.specs.Places.{position_of}
use Rattle.split_theory.specs.declared.Cuts.{Cuts}
use Rattle.split_theory.specs.Split.{Cut}

-- the cut at the place k of those that a start can have, at a number
abbrev pub cut : ℕ → ℤ → Cut
cut k n = record { place = position_of k; number = n }

-- the cut at i
abbrev pub cut_in : Cuts → ℕ → Cut
cut_in x i = cut (get_or x.places i 0) (get_or x.numbers i (pos 0))

-- m cuts from the one at i on
unfoldable pub cuts_at : List ℕ → List ℤ → ℕ → ℕ → List Cut
cuts_at ks ns i zero = []
cuts_at ks ns i (suc m) = cut (get_or ks i 0) (get_or ns i (pos 0)) ∷ cuts_at ks ns (suc i) m

-- the cuts from the one at i on
abbrev pub cuts_from : Cuts → ℕ → List Cut
cuts_from x i = cuts_at x.places x.numbers i (x.count - i)

-- there are sixteen at most, of places that a start can have
pub record Few (x : Cuts) : Type 0 where
  pub count : x.count ≤ 16
  pub places : (i : ℕ) → i < x.count → get_or x.places i 0 ≤ 192
  pub room : (length x.places ≡ 16) × (length x.numbers ≡ 16)
