-- Laws of opcodes: no two kinds have the same, so that a kind is known by its opcode. The rule is computed once for the whole table.
-- Assumes nothing.
use Rattle.std.specs.Prelude.{None, Option, Some}
use mathlib.Core.Path.{◌≡◌, refl, sym, ap, ◌∙◌}
use mathlib.Core.Bool.{Bool, true, false, cond}
use mathlib.Core.List.{List, [], ◌∷◌, map}
use Prim.Native.Nat.{ℕ, zero, suc, ◌+◌, ◌<◌, ◌≤◌}
use native.Mathlib.Omega.{arith}
use native.Mathlib.Nat.{le_of_suc-le-suc, not-suc-le-zero}
use lib.Dec.{eqb, ltb}
use lib.ListN.{length, get_or, get_or-map}
use borrow.Author.Tests.{eqb-true, ltb-true}
use Rattle.instructions.specs.Kinds.{kinds, opcodes, kind_at}
use Rattle.instructions.specs.Opcodes.{place_from, kind_coded}
use Rattle.instructions.specs.HeldColumns.{coded_place, ByOpcode}
use Rattle.instructions.proofs.ColumnLaws.{column-at, natural-at}

-- ---- a search along a list

-- what is found stands there
pub place_found : (j n k : ℕ) (l : List ℕ) → place_from j n l ≡ Some k → (j ≤ k) × (k < j + length l) × ((i : ℕ) → k ≡ j + i → get_or l i 0 ≡ n)
unfolding place_from
place_found j n k [] e = let z : ◌≡◌ {A = ℕ} 0 1 = cc in absurd (omega arith)
place_found j n k (m ∷ ms) e = go (eqb n m) refl e (place_found (suc j) n k ms)
  where
    go : (b : Bool) → eqb n m ≡ b → cond b (Some j) (place_from (suc j) n ms) ≡ Some k
        → (place_from (suc j) n ms ≡ Some k → (suc j ≤ k) × (k < suc j + length ms) × ((i : ℕ) → k ≡ suc j + i → get_or ms i 0 ≡ n))
        → (j ≤ k) × (k < j + suc (length ms)) × ((i : ℕ) → k ≡ j + i → get_or (m ∷ ms) i 0 ≡ n)
    go true q p ih = let z : j ≡ k = cc in (omega arith, omega arith, first z)
      where
        first : j ≡ k → (i : ℕ) → k ≡ j + i → get_or (m ∷ ms) i 0 ≡ n
        first z zero r = sym (eqb-true n m q)
        first z (suc i) r = absurd (omega arith)
    go false q p ih = let h = ih p in (omega arith, omega arith, later h)
      where
        later : (suc j ≤ k) × (k < suc j + length ms) × ((i : ℕ) → k ≡ suc j + i → get_or ms i 0 ≡ n) → (i : ℕ) → k ≡ j + i → get_or (m ∷ ms) i 0 ≡ n
        later h zero r = absurd (omega arith)
        later h (suc i) r = h.2 i (omega arith)

-- ---- the table

-- the numbers from j on, n of them
abbrev pub count : ℕ → ℕ → List ℕ
count j zero = []
count j (suc n) = j ∷ count (suc j) n

count_at : (j n k : ℕ) → k < n → get_or (count j n) k 0 ≡ j + k
count_at j zero k h = absurd (not-suc-le-zero h)
count_at j (suc n) zero h = omega arith
count_at j (suc n) (suc k) h = count_at (suc j) n k (le_of_suc-le-suc h) ∙ omega arith

-- each opcode is found at its own kind: computed for the whole table
all_found : map kind_coded opcodes ≡ map Some (count 0 61)
unfolding kinds opcodes kind_coded place_from
all_found = refl

first_found : kind_coded 0 ≡ Some 0
unfolding kinds opcodes kind_coded place_from
first_found = refl

-- the opcode of a kind
pub opcode-of : (k : ℕ) → k < 61 → get_or opcodes k 0 ≡ (kind_at k).opcode
unfolding opcodes
opcode-of k h = natural-at (λ r. r.opcode) k h

-- "numbered as in the OCaml distribution's public opcode list": one-to-one
pub kind-of-opcode : (k : ℕ) → k < 61 → kind_coded (kind_at k).opcode ≡ Some k
kind-of-opcode k h =
    ap kind_coded (sym (opcode-of k h))
    ∙ sym (get_or-map kind_coded opcodes k 0)
    ∙ ap (λ l. get_or l k (kind_coded 0)) all_found
    ∙ ap (λ p. get_or (map Some (count 0 61)) k p) first_found
    ∙ get_or-map Some (count 0 61) k 0
    ∙ ap Some (count_at 0 61 k h ∙ omega arith)

-- the kind that is found has the opcode
pub opcode-of-kind : (n k : ℕ) → kind_coded n ≡ Some k → (k < 61) × ((kind_at k).opcode ≡ n)
unfolding kinds opcodes kind_coded
opcode-of-kind n k e =
    let f = place_found 0 n k opcodes e in
    let h : k < 61 = f.1 in
    (h, sym (opcode-of k h) ∙ f.2 k (omega arith))

-- ---- by opcode

-- the kinds by their opcodes, up to 143
abbrev pub by_opcode : List ℕ
by_opcode = map (λ n. coded_place (kind_coded n)) (count 0 144)

pub by-opcode : ByOpcode by_opcode
unfolding coded_place
by-opcode = record { at_opcode = λ n h. ap (λ d. get_or by_opcode n d) (sym (ap coded_place first_found)) ∙ get_or-map (λ i. coded_place (kind_coded i)) (count 0 144) n 0 ∙ ap (λ i. coded_place (kind_coded i)) (count_at 0 144 n h ∙ omega arith) }

-- no opcode is above 143
opcode-low : (k : ℕ) → k < 61 → (kind_at k).opcode < 144
unfolding kinds
opcode-low k h =
    let t = ltb-true (get_or (map (λ r. r.opcode) kinds) k 0) 144 (column-at (λ r. r.opcode) (λ x. ltb x 144) (λ r. true) 0 refl k h) in
    omega (arith, natural-at (λ r. r.opcode) k h)

module _ (n : ℕ) where
  pub coded-high : 143 < n → kind_coded n ≡ None
  coded-high h = go (kind_coded n) refl
    where
      go : (p : Option ℕ) → kind_coded n ≡ p → kind_coded n ≡ None
      go (Some k) e = let o = opcode-of-kind n k e in absurd (omega (arith, o.1, opcode-low k o.0))
      go None e = e

  -- the kind that is held for an opcode is its kind, and 61 says that it has none
  module _ (v : ℕ) (held : v ≡ coded_place (kind_coded n)) where
    pub coded-found : v < 61 → Some v ≡ kind_coded n
    unfolding coded_place
    coded-found h = go (kind_coded n) refl held
      where
        go : (p : Option ℕ) → kind_coded n ≡ p → v ≡ coded_place p → Some v ≡ p
        go (Some k) e q = ap Some q
        go None e q = absurd (omega arith)

    pub coded-missing : 61 ≤ v → None ≡ kind_coded n
    unfolding coded_place
    coded-missing h = go (kind_coded n) refl held
      where
        go : (p : Option ℕ) → kind_coded n ≡ p → v ≡ coded_place p → None ≡ p
        go (Some k) e q = absurd (omega (arith, (opcode-of-kind n k e).0))
        go None e q = refl
