-- Laws of ranges: one inside another, what an operation gives of each, and that it gives no more than it must. Assumes nothing.
use mathlib.Core.Path.{◌≡◌, refl, sym, ap, ap₂, subst, ◌∙◌}
use mathlib.Core.Bool.{Bool, true, false, cond, ◌&&◌, true≢false, false≢true}
use Prim.Native.Nat.{ℕ, zero, suc, ◌+◌, ◌-◌, ◌<◌, ◌≤◌}
use native.Mathlib.Omega.{arith}
use lib.Dec.{eqb}
use lib.IntN.{ℤ, pos, negsuc}
use lib.Signed.{le_z}
use borrow.Author.Tests.{eq-eqb, ne_eqb}
use Rattle.numbers.specs.Numbers.{bits, half, modulus, IsNumber, wrap, within, numbers}
use Rattle.numbers.proofs.NumberLaws.{wrap-number, wrap-keeps}
use Rattle.numbers.proofs.IntegerLaws.{over, under, sum_is, difference-is, negate-is, le-true, le_yes, equal_by}
use Rattle.cells.specs.declared.Cell.{Cell}
use Rattle.cells.specs.declared.Unary.{Unary}
use Rattle.cells.specs.declared.Unary.TheVariants.{Offset, Negate, Complement}
use Rattle.cells.specs.Cells.{range, high, exactly, unknown, calculate₁, results, least₁, range₁}
use Rattle.cells.specs.Order.{Inside, Refines, same, inside, Allowed, among}

-- ---- one range inside another, as facts about natural numbers

pub record Linear (l : ℤ) (m : ℕ) (l' : ℤ) (m' : ℕ) : Type 0 where
  pub least : over l' + under l ≤ over l + under l'
  pub greatest : over l + under l' + m ≤ over l' + under l + m'

pub linear : {l l' : ℤ} {m m' : ℕ} → Inside l m l' m' → Linear l m l' m'
linear {l} {l'} {m} {m'} i =
    let p = le-true l' l i.least in
    let q = le-true (high l m) (high l' m') i.greatest in
    let s = sum_is l (pos m) in
    let t = sum_is l' (pos m') in
    record { least = omega arith; greatest = omega arith }

pub lies : {l l' : ℤ} {m m' : ℕ} → Linear l m l' m' → Inside l m l' m'
lies {l} {l'} {m} {m'} i =
    let s = sum_is l (pos m) in
    let t = sum_is l' (pos m') in
    record { least = le_yes l' l (omega (arith, i.least)); greatest = le_yes (high l m) (high l' m') (omega (arith, i.greatest)) }

pub covers : {l l' : ℤ} {m m' : ℕ} → Linear l m l' m' → Refines (range l m) (range l' m')
covers i = inside (lies i)

pub linear-self : (l : ℤ) (m : ℕ) → Linear l m l m
linear-self l m = record { least = omega arith; greatest = omega arith }

pub linear-trans : {l l' l'' : ℤ} {m m' m'' : ℕ} → Linear l m l' m' → Linear l' m' l'' m'' → Linear l m l'' m''
linear-trans i j = record { least = omega (arith, i.least, j.least); greatest = omega (arith, i.greatest, j.greatest) }

-- a range inside a single number is that number
pub linear-one : {l l' : ℤ} {m : ℕ} → Linear l m l' 0 → (l ≡ l') × (m ≡ 0)
linear-one {l} {l'} {m} i = (equal_by l l' (omega (arith, i.least, i.greatest)), omega (arith, i.least, i.greatest))

-- a single number that refines a cell is allowed by it
pub one-allowed : {n : ℤ} {y : Cell} → Refines (range n 0) y → Allowed (range n 0) y
one-allowed {n} same = among (lies (linear-self n 0))
one-allowed (inside i) = among i

-- ---- ranges of numbers

-- every number of the range has `bits` bits
pub record InBits (l : ℤ) (m : ℕ) : Type 0 where
  pub above : under l ≤ over l + half bits
  pub below : over l + m < half bits + under l

within-true : (z : ℤ) → within numbers z ≡ true → InBits z 0
within-true z e = go (le_z numbers.low z) refl e
  where
    go : (t : Bool) → le_z numbers.low z ≡ t → cond t (le_z z numbers.high) false ≡ true → InBits z 0
    go true p q = let h = le-true numbers.low z p in let k = le-true z numbers.high q in record { above = omega arith; below = omega arith }
    go false p q = absurd (false≢true q)

within-yes : (z : ℤ) → InBits z 0 → within numbers z ≡ true
within-yes z b = rw (le_yes numbers.low z (omega (arith, b.above))) (le_yes z numbers.high (omega (arith, b.below)))

-- the test of both ends
abbrev pub fitting : ℤ → ℕ → Bool
fitting l m = within numbers l && within numbers (high l m)

and-true : (a b : Bool) → (a && b) ≡ true → (a ≡ true) × (b ≡ true)
and-true true b e = (refl, e)
and-true false b e = absurd (false≢true e)

pub fitting-true : (l : ℤ) (m : ℕ) → fitting l m ≡ true → InBits l m
fitting-true l m e =
    let t = and-true (within numbers l) (within numbers (high l m)) e in
    let p = within-true l t.0 in
    let q = within-true (high l m) t.1 in
    let s = sum_is l (pos m) in
    record { above = p.above; below = omega (arith, q.below) }

pub fitting-yes : (l : ℤ) (m : ℕ) → InBits l m → fitting l m ≡ true
fitting-yes l m b =
    let s = sum_is l (pos m) in
    let p = within-yes l (record { above = b.above; below = omega (arith, b.below) }) in
    let q = within-yes (high l m) (record { above = omega (arith, b.above); below = omega (arith, b.below) }) in
    ap₂ ◌&&◌ p q

-- what `results` gives
pub data Results (l : ℤ) (m : ℕ) : Cell → Type 0 where
  fits : InBits l m → Results l m (range l m)
  whole : (InBits l m → ⊥) → Results l m unknown

pub results-is : (l : ℤ) (m : ℕ) → Results l m (results l m)
unfolding results
results-is l m = go (fitting l m) refl
  where
    go : (t : Bool) → fitting l m ≡ t → Results l m (cond t (range l m) unknown)
    go true e = fits (fitting-true l m e)
    go false e = whole (λ b. true≢false (sym (fitting-yes l m b) ∙ e))

pub bits-down : {l l' : ℤ} {m m' : ℕ} → Linear l m l' m' → InBits l' m' → InBits l m
bits-down i b = record { above = omega (arith, i.least, b.above); below = omega (arith, i.greatest, b.below) }

-- all numbers
pub in-unknown : (l : ℤ) (m : ℕ) → InBits l m → Linear l m numbers.low (modulus bits - 1)
in-unknown l m b = record { least = omega (arith, b.above); greatest = omega (arith, b.below) }

pub number-bits : (z : ℤ) → IsNumber z → InBits z 0
number-bits (pos n) h = record { above = omega arith; below = omega (arith, h.fits) }
number-bits (negsuc n) h = record { above = omega (arith, h.fits); below = omega arith }

pub bits-number : (z : ℤ) → InBits z 0 → IsNumber z
bits-number (pos n) h = record { fits = omega (arith, h.below) }
bits-number (negsuc n) h = record { fits = omega (arith, h.above) }

pub wrap-bits : (z : ℤ) → InBits (wrap z) 0
wrap-bits z = number-bits (wrap z) (wrap-number z)

pub wrap-unknown : (z : ℤ) → Linear (wrap z) 0 numbers.low (modulus bits - 1)
wrap-unknown z = in-unknown (wrap z) 0 (wrap-bits z)

-- results of less are covered by results of more
between-results : {l l' : ℤ} {m m' : ℕ} {x y : Cell} → Linear l m l' m' → Results l m x → Results l' m' y → Refines x y
between-results i (fits b) (fits c) = covers i
between-results {l} {m = m} i (fits b) (whole n) = covers (in-unknown l m b)
between-results i (whole n) (fits c) = absurd (n (bits-down i c))
between-results i (whole n) (whole k) = same

pub results-refine : {l l' : ℤ} {m m' : ℕ} → Linear l m l' m' → Refines (results l m) (results l' m')
results-refine {l} {l'} {m} {m'} i = between-results i (results-is l m) (results-is l' m')

-- the wrapped number of one of them
number-results : {n l : ℤ} {m : ℕ} {y : Cell} → Linear n 0 l m → Results l m y → Refines (exactly n) y
number-results {n} i (fits b) = rw (wrap-keeps n (bits-number n (bits-down i b))) (covers i)
number-results {n} i (whole k) = covers (wrap-unknown n)

pub number-refines : {n l : ℤ} {m : ℕ} → Linear n 0 l m → Refines (exactly n) (results l m)
number-refines {n} {l} {m} i = number-results i (results-is l m)

-- ---- by whether a range is a single number

pub one-or-more {ℓ} : (P : Bool → Type ℓ) (m : ℕ) → (m ≡ 0 → P true) → (0 < m → P false) → P (eqb m 0)
one-or-more P zero f g = subst P (sym (eq-eqb 0 0 refl)) (f refl)
one-or-more P (suc m) f g = subst P (sym (ne_eqb (suc m) 0 (λ e. omega arith))) (g (omega arith))

-- ---- operations on one range

least-linear : (u : Unary) (i : ℤ) {l l' : ℤ} {m m' : ℕ} → Linear l m l' m' → Linear (least₁ u i l m) m (least₁ u i l' m') m'
unfolding least₁ calculate₁
least-linear Offset i {l} {l'} {m} {m'} h =
    let p = h.least in let q = h.greatest in let s = sum_is l i in let t = sum_is l' i in
    record { least = omega arith; greatest = omega arith }
least-linear Negate i {l} {l'} {m} {m'} h =
    let p = h.least in let q = h.greatest in
    let s = sum_is l (pos m) in let t = sum_is l' (pos m') in
    let s' = negate-is (high l m) in let t' = negate-is (high l' m') in
    record { least = omega arith; greatest = omega arith }
least-linear Complement i {l} {l'} {m} {m'} h =
    let p = h.least in let q = h.greatest in
    let s = sum_is l (pos m) in let t = sum_is l' (pos m') in
    let s' = difference-is (pos 1) (high l m) in let t' = difference-is (pos 1) (high l' m') in
    record { least = omega arith; greatest = omega arith }

pub high_zero : (l : ℤ) → high l 0 ≡ l
high_zero l = let s = sum_is l (pos 0) in equal_by (high l 0) l (omega arith)

least-one : (u : Unary) (i l : ℤ) → calculate₁ u i l ≡ least₁ u i l 0
unfolding least₁
least-one Offset i l = refl
least-one Negate i l = ap (calculate₁ Negate i) (sym (high_zero l))
least-one Complement i l = ap (calculate₁ Complement i) (sym (high_zero l))

module _ (u : Unary) (i : ℤ) {l l' : ℤ} {m : ℕ} where
  one₁ : Linear l m l' 0 → Refines (range₁ u i l m) (exactly (calculate₁ u i l'))
  unfolding range₁
  one₁ g = let e = linear-one g in rw (e.0, e.1) same

  more₁ : {m' : ℕ} → Linear l m l' m' → Refines (range₁ u i l m) (results (least₁ u i l' m') m')
  unfolding range₁
  more₁ {m'} h =
      one-or-more (λ t. Refines (cond t (exactly (calculate₁ u i l)) (results (least₁ u i l m) m)) (results (least₁ u i l' m') m')) m
      (λ e. rw (least-one u i l) (number-refines (least-linear u i (rw e at h))))
      (λ j. results-refine (least-linear u i h))

  pub range₁-refines : {m' : ℕ} → Linear l m l' m' → Refines (range₁ u i l m) (range₁ u i l' m')
  unfolding range₁
  range₁-refines {m'} h =
      one-or-more (λ t. Refines (range₁ u i l m) (cond t (exactly (calculate₁ u i l')) (results (least₁ u i l' m') m'))) m'
      (λ e. one₁ (rw e at h))
      (λ k. more₁ h)
