-- What is promised of the operations on ranges, by the names of specs/Promises, and that results agree where cells agree. Assumes nothing.
use mathlib.Core.Path.{◌≡◌, refl, sym, ap, subst, ◌∙◌}
use mathlib.Core.Bool.{Bool, true, false, cond, true≢false, ◌&&◌}
use Prim.Native.Nat.{ℕ, ◌+◌, ◌<◌}
use native.Mathlib.Omega.{arith}
use lib.IntN.{ℤ, pos, ◌+ℤ◌, ◌-ℤ◌}
use lib.Signed.{le_z}
use Rattle.numbers.specs.Numbers.{IsNumber, holds, bit}
use Rattle.numbers.specs.declared.Comparison.{Comparison}
use Rattle.numbers.proofs.NumberLaws.{wrap-keeps}
use Rattle.numbers.proofs.IntegerLaws.{over, under, sum_is, difference-is, negate-is, le-true, le-false}
use Rattle.cells.specs.declared.Cell.{Cell}
use Rattle.cells.specs.declared.Unary.{Unary}
use Rattle.cells.specs.declared.Unary.TheVariants.{Offset, Negate, Complement}
use Rattle.cells.specs.declared.Binary.{Binary}
use Rattle.cells.specs.declared.Binary.TheVariants.{Add, Subtract, Compare}
use Rattle.cells.specs.Cells.{range, high, exactly, unknown, calculate₁, calculate₂, results, least₁, range₁, wider, range₂, condition_in, condition}
use Rattle.cells.specs.declared.Condition.TheVariants.{IsZero, IsNonzero, IsUnknown}
use Rattle.cells.specs.Try.{done}
use Rattle.cells.specs.Order.{Refines}
use Rattle.cells.specs.Covering.{ResultsAgree}
use Rattle.cells.specs.Promises.{Of, EveryUnary, EveryBinary, EveryComparison, EveryCondition}
use Rattle.cells.proofs.RangeLaws.{Linear, linear, lies, covers, linear-one, InBits, number-bits, bits-number, bits-down, Results, fits, whole, results-is, one-or-more, high_zero, range₁-refines}
use Rattle.cells.proofs.JudgeLaws.{Among, Judged, every, none, either, judged-is, one-is, zero_is}
use Rattle.cells.proofs.CellLaws.{range₁-one, range₂-one, range₂-refines, one-among, some_number, refines-lawful, allowed-lawful}
use Rattle.cells.proofs.ComputeLaws.{results-inner}

-- ---- the numbers of a range

of-linear : {n l : ℤ} {m : ℕ} → Of n l m → Linear n 0 l m
of-linear i = linear i

lowest-of : (l : ℤ) (m : ℕ) → Of l l m
lowest-of l m = lies (record { least = omega arith; greatest = omega arith })

highest-of : (l : ℤ) (m : ℕ) → Of (high l m) l m
highest-of l m = let s = sum_is l (pos m) in lies (record { least = omega arith; greatest = omega arith })

among_of : {n l : ℤ} {m : ℕ} → Among n l (high l m) → Of n l m
among_of {n} {l} {m} a = let s = sum_is l (pos m) in lies (record { least = a.least; greatest = omega (arith, a.greatest) })

-- a single number that is a number
number-inside : {z l : ℤ} {k : ℕ} → IsNumber z → Of z l k → Refines (exactly z) (range l k)
number-inside {z} h i = rw (wrap-keeps z h) (covers (linear i))

-- ---- the least to the greatest of results

module _ (l : ℤ) (m : ℕ) (p q : ℤ) (first : over p + under l ≡ over l + under p) (last : over q + under l ≡ over l + m + under q) where
  ends-bits : IsNumber p → IsNumber q → InBits l m
  ends-bits h k =
      let a = number-bits p h in
      let b = number-bits q k in
      record { above = omega (arith, a.above); below = omega (arith, b.below) }

  least_by : IsNumber p → IsNumber q → (z : ℤ) (y : ℕ) → Of p z y → Of q z y → Refines (results l m) (range z y)
  least_by h k z y i j =
      let a = of-linear i in
      let b = of-linear j in
      rw (sym (results-inner l m (ends-bits h k))) (covers (record { least = omega (arith, a.least); greatest = omega (arith, b.greatest) }))

-- a result that would wrap
wraps-by : (l : ℤ) (m : ℕ) (v : ℤ) → Linear v 0 l m → (IsNumber v → ⊥) → results l m ≡ unknown
wraps-by l m v i n = go (results-is l m)
  where
    go : {x : Cell} → Results l m x → x ≡ unknown
    go (fits b) = absurd (n (bits-number v (bits-down i b)))
    go (whole k) = refl

-- ---- one range

single₁ : (u : Unary) (i l : ℤ) (m : ℕ) → m ≡ 0 → range₁ u i l m ≡ exactly (calculate₁ u i l)
single₁ u i l m e = ap (range₁ u i l) e ∙ range₁-one u i l

wide₁ : (u : Unary) (i l : ℤ) (m : ℕ) → 0 < m → range₁ u i l m ≡ results (least₁ u i l m) m
unfolding range₁
wide₁ u i l m h = one-or-more (λ t. cond t (exactly (calculate₁ u i l)) (results (least₁ u i l m) m) ≡ results (least₁ u i l m) m) m (λ e. absurd (omega arith)) (λ k. refl)

-- which numbers give the least and the greatest
abbrev first₁ : Unary → ℤ → ℕ → ℤ
first₁ Offset l m = l
first₁ Negate l m = high l m
first₁ Complement l m = high l m

abbrev last₁ : Unary → ℤ → ℕ → ℤ
last₁ Offset l m = high l m
last₁ Negate l m = l
last₁ Complement l m = l

first-of : (u : Unary) (l : ℤ) (m : ℕ) → Of (first₁ u l m) l m
first-of Offset l m = lowest-of l m
first-of Negate l m = highest-of l m
first-of Complement l m = highest-of l m

last_of : (u : Unary) (l : ℤ) (m : ℕ) → Of (last₁ u l m) l m
last_of Offset l m = highest-of l m
last_of Negate l m = lowest-of l m
last_of Complement l m = lowest-of l m

first-least : (u : Unary) (i l : ℤ) (m : ℕ) → over (calculate₁ u i (first₁ u l m)) + under (least₁ u i l m) ≡ over (least₁ u i l m) + under (calculate₁ u i (first₁ u l m))
unfolding least₁
first-least Offset i l m = refl
first-least Negate i l m = refl
first-least Complement i l m = refl

last-greatest : (u : Unary) (i l : ℤ) (m : ℕ) → over (calculate₁ u i (last₁ u l m)) + under (least₁ u i l m) ≡ over (least₁ u i l m) + m + under (calculate₁ u i (last₁ u l m))
unfolding least₁ calculate₁
last-greatest Offset i l m = let s = sum_is l (pos m) in let t = sum_is (high l m) i in let r = sum_is l i in omega arith
last-greatest Negate i l m = let s = sum_is l (pos m) in let t = negate-is (high l m) in let r = negate-is l in omega arith
last-greatest Complement i l m = let s = sum_is l (pos m) in let t = difference-is (pos 1) (high l m) in let r = difference-is (pos 1) l in omega arith

result-inside₁ : (u : Unary) (i l n : ℤ) (m : ℕ) → Of n l m → Linear (calculate₁ u i n) 0 (least₁ u i l m) m
unfolding least₁ calculate₁
result-inside₁ Offset i l n m o = let a = of-linear o in let t = sum_is n i in let r = sum_is l i in record { least = omega (arith, a.least); greatest = omega (arith, a.greatest) }
result-inside₁ Negate i l n m o =
    let a = of-linear o in let s = sum_is l (pos m) in let t = negate-is (high l m) in let r = negate-is n in
    record { least = omega (arith, a.greatest); greatest = omega (arith, a.least) }
result-inside₁ Complement i l n m o =
    let a = of-linear o in let s = sum_is l (pos m) in let t = difference-is (pos 1) (high l m) in let r = difference-is (pos 1) n in
    record { least = omega (arith, a.greatest); greatest = omega (arith, a.least) }

pub every_unary : EveryUnary
every_unary u i l m = record {
  covers = λ n o. rw (sym (range₁-one u i n)) (range₁-refines u i (of-linear o));
  smallest = smallest;
  wraps = λ h n o k. wide₁ u i l m h ∙ wraps-by (least₁ u i l m) m (calculate₁ u i n) (result-inside₁ u i l n m o) k;
}
  where
    wide : ((n : ℤ) → Of n l m → IsNumber (calculate₁ u i n)) → (z : ℤ) (y : ℕ) → ((n : ℤ) → Of n l m → Of (calculate₁ u i n) z y) → 0 < m → Refines (range₁ u i l m) (range z y)
    wide numbers z y inside h =
        rw (wide₁ u i l m h)
        (least_by (least₁ u i l m) m (calculate₁ u i (first₁ u l m)) (calculate₁ u i (last₁ u l m)) (first-least u i l m) (last-greatest u i l m)
        (numbers (first₁ u l m) (first-of u l m)) (numbers (last₁ u l m) (last_of u l m)) z y
        (inside (first₁ u l m) (first-of u l m)) (inside (last₁ u l m) (last_of u l m)))

    smallest : ((n : ℤ) → Of n l m → IsNumber (calculate₁ u i n)) → (z : ℤ) (y : ℕ) → ((n : ℤ) → Of n l m → Of (calculate₁ u i n) z y) → Refines (range₁ u i l m) (range z y)
    smallest numbers z y inside =
        one-or-more (λ b. Refines (range₁ u i l m) (range z y)) m
        (λ e. rw (single₁ u i l m e) (number-inside (numbers l (lowest-of l m)) (inside l (lowest-of l m))))
        (λ h. wide numbers z y inside h)

-- ---- two ranges

single₂ : (b : Binary) (l : ℤ) (m : ℕ) (k : ℤ) (n : ℕ) → m + n ≡ 0 → range₂ b l m k n ≡ exactly (calculate₂ b l k)
unfolding range₂
single₂ b l m k n e = one-or-more (λ t. cond t (exactly (calculate₂ b l k)) (wider b l m k n) ≡ exactly (calculate₂ b l k)) (m + n) (λ q. refl) (λ h. absurd (omega arith))

wide₂ : (b : Binary) (l : ℤ) (m : ℕ) (k : ℤ) (n : ℕ) → 0 < m + n → range₂ b l m k n ≡ wider b l m k n
unfolding range₂
wide₂ b l m k n h = one-or-more (λ t. cond t (exactly (calculate₂ b l k)) (wider b l m k n) ≡ wider b l m k n) (m + n) (λ e. absurd (omega arith)) (λ q. refl)

pair-covers : (b : Binary) (l : ℤ) (m : ℕ) (k : ℤ) (n : ℕ) (x y : ℤ) → Of x l m → Of y k n → Refines (exactly (calculate₂ b x y)) (range₂ b l m k n)
pair-covers b l m k n x y o p = rw (sym (range₂-one b x y)) (range₂-refines b (of-linear o) (of-linear p))

module _ (l : ℤ) (m : ℕ) (k : ℤ) (n : ℕ) where
  sums-smallest : ((x y : ℤ) → Of x l m → Of y k n → IsNumber (x +ℤ y)) → (z : ℤ) (w : ℕ) → ((x y : ℤ) → Of x l m → Of y k n → Of (x +ℤ y) z w) → Refines (results (l +ℤ k) (m + n)) (range z w)
  sums-smallest numbers z w inside =
      let s = sum_is l (pos m) in let t = sum_is k (pos n) in let r = sum_is (high l m) (high k n) in let q = sum_is l k in
      least_by (l +ℤ k) (m + n) (l +ℤ k) (high l m +ℤ high k n) (omega arith) (omega arith)
      (numbers l k (lowest-of l m) (lowest-of k n)) (numbers (high l m) (high k n) (highest-of l m) (highest-of k n)) z w
      (inside l k (lowest-of l m) (lowest-of k n)) (inside (high l m) (high k n) (highest-of l m) (highest-of k n))

  differences-smallest : ((x y : ℤ) → Of x l m → Of y k n → IsNumber (x -ℤ y)) → (z : ℤ) (w : ℕ) → ((x y : ℤ) → Of x l m → Of y k n → Of (x -ℤ y) z w) → Refines (results (l -ℤ high k n) (m + n)) (range z w)
  differences-smallest numbers z w inside =
      let s = sum_is l (pos m) in let t = sum_is k (pos n) in let r = difference-is (high l m) k in let q = difference-is l (high k n) in
      least_by (l -ℤ high k n) (m + n) (l -ℤ high k n) (high l m -ℤ k) (omega arith) (omega arith)
      (numbers l (high k n) (lowest-of l m) (highest-of k n)) (numbers (high l m) k (highest-of l m) (lowest-of k n)) z w
      (inside l (high k n) (lowest-of l m) (highest-of k n)) (inside (high l m) k (highest-of l m) (lowest-of k n))

  sum_inside : (x y : ℤ) → Of x l m → Of y k n → Linear (x +ℤ y) 0 (l +ℤ k) (m + n)
  sum_inside x y o p =
      let a = of-linear o in let b = of-linear p in let s = sum_is x y in let t = sum_is l k in
      record { least = omega (arith, a.least, b.least); greatest = omega (arith, a.greatest, b.greatest) }

  difference_inside : (x y : ℤ) → Of x l m → Of y k n → Linear (x -ℤ y) 0 (l -ℤ high k n) (m + n)
  difference_inside x y o p =
      let a = of-linear o in let b = of-linear p in let r = sum_is k (pos n) in let s = difference-is x y in let t = difference-is l (high k n) in
      record { least = omega (arith, a.least, b.greatest); greatest = omega (arith, a.greatest, b.least) }

  -- what a comparison gives is 0, 1 or both, each of some pair
  judged-smallest : (c : Comparison) (z : ℤ) (w : ℕ) → ((x y : ℤ) → Of x l m → Of y k n → Of (bit (holds c x y)) z w) → {v : Cell} → Judged c l (high l m) k (high k n) v → Refines v (range z w)
  judged-smallest c z w inside (every f) = covers (subst (λ (t : Bool). Linear (bit t) 0 z w) (f l k (one-among (of-linear (lowest-of l m))) (one-among (of-linear (lowest-of k n)))) (of-linear (inside l k (lowest-of l m) (lowest-of k n))))
  judged-smallest c z w inside (none f) = covers (subst (λ (t : Bool). Linear (bit t) 0 z w) (f l k (one-among (of-linear (lowest-of l m))) (one-among (of-linear (lowest-of k n)))) (of-linear (inside l k (lowest-of l m) (lowest-of k n))))
  judged-smallest c z w inside (either f g) =
      let s = sum_is z (pos w) in
      let a = le-true z (pos 0) (low (le_z z (pos 0)) refl) in
      let b = le-true (pos 1) (high z w) (top (le_z (pos 1) (high z w)) refl) in
      covers (record { least = omega arith; greatest = omega arith })
    where
      -- where 0 is not in it, every pair holds; where 1 is not, none does
      low : (t : Bool) → le_z z (pos 0) ≡ t → le_z z (pos 0) ≡ true
      low true e = e
      low false e = absurd (f (λ x y o p. go (holds c x y) (of-linear (inside x y (among_of o) (among_of p)))))
        where
          go : (t : Bool) → Linear (bit t) 0 z w → t ≡ true
          go true i = refl
          go false i = let h = le-false z (pos 0) e in absurd (omega (arith, i.least))

      top : (t : Bool) → le_z (pos 1) (high z w) ≡ t → le_z (pos 1) (high z w) ≡ true
      top true e = e
      top false e = absurd (g (λ x y o p. go (holds c x y) (of-linear (inside x y (among_of o) (among_of p)))))
        where
          go : (t : Bool) → Linear (bit t) 0 z w → t ≡ false
          go true i = let h = le-false (pos 1) (high z w) e in let r = sum_is z (pos w) in absurd (omega (arith, i.greatest))
          go false i = refl

bit-number : (t : Bool) → IsNumber (bit t)
bit-number true = record { fits = omega arith }
bit-number false = record { fits = omega arith }

wider-smallest : (b : Binary) (l : ℤ) (m : ℕ) (k : ℤ) (n : ℕ) → ((x y : ℤ) → Of x l m → Of y k n → IsNumber (calculate₂ b x y)) → (z : ℤ) (w : ℕ) →
    ((x y : ℤ) → Of x l m → Of y k n → Of (calculate₂ b x y) z w) → Refines (wider b l m k n) (range z w)
unfolding wider calculate₂
wider-smallest Add l m k n numbers z w inside = sums-smallest l m k n numbers z w inside
wider-smallest Subtract l m k n numbers z w inside = differences-smallest l m k n numbers z w inside
wider-smallest (Compare c) l m k n numbers z w inside = judged-smallest l m k n c z w inside (judged-is c (some_number l m) (some_number k n))

wider-wraps : (b : Binary) (l : ℤ) (m : ℕ) (k : ℤ) (n : ℕ) (x y : ℤ) → Of x l m → Of y k n → (IsNumber (calculate₂ b x y) → ⊥) → wider b l m k n ≡ unknown
unfolding wider calculate₂
wider-wraps Add l m k n x y o p h = wraps-by (l +ℤ k) (m + n) (x +ℤ y) (sum_inside l m k n x y o p) h
wider-wraps Subtract l m k n x y o p h = wraps-by (l -ℤ high k n) (m + n) (x -ℤ y) (difference_inside l m k n x y o p) h
wider-wraps (Compare c) l m k n x y o p h = absurd (h (bit-number (holds c x y)))

pub every_binary : EveryBinary
every_binary b l m k n = record {
  covers = pair-covers b l m k n;
  smallest = λ numbers z w inside.
      one-or-more (λ t. Refines (range₂ b l m k n) (range z w)) (m + n)
      (λ e. rw (single₂ b l m k n e) (number-inside (numbers l k (lowest-of l m) (lowest-of k n)) (inside l k (lowest-of l m) (lowest-of k n))))
      (λ h. rw (wide₂ b l m k n h) (wider-smallest b l m k n numbers z w inside));
  wraps = λ h x y o p q. wide₂ b l m k n h ∙ wider-wraps b l m k n x y o p q;
}

-- ---- comparisons

module _ (c : Comparison) (l : ℤ) (m : ℕ) (k : ℤ) (n : ℕ) where
  -- of single numbers too
  judges : Judged c l (high l m) k (high k n) (range₂ (Compare c) l m k n)
  unfolding wider calculate₂
  judges =
      one-or-more (λ t. Judged c l (high l m) k (high k n) (range₂ (Compare c) l m k n)) (m + n)
      (λ e. rw (single₂ (Compare c) l m k n e) (one (holds c l k) refl (omega arith) (omega arith)))
      (λ h. rw (wide₂ (Compare c) l m k n h) (judged-is c (some_number l m) (some_number k n)))
    where
      alone : {x z : ℤ} (w : ℕ) → w ≡ 0 → Among x z (high z w) → x ≡ z
      alone {x} {z} w e a = (linear-one (rw e at (of-linear (among_of a)))).0

      one : (t : Bool) → holds c l k ≡ t → m ≡ 0 → n ≡ 0 → Judged c l (high l m) k (high k n) (exactly (bit t))
      one true e p q = rw one-is (every (λ x y a b. rw (alone m p a, alone n q b) e))
      one false e p q = rw zero_is (none (λ x y a b. rw (alone m p a, alone n q b) e))

pub every_comparison : EveryComparison
every_comparison c l m k n = record {
  every = λ f. every-by f (judges c l m k n);
  none = λ f. none-by f (judges c l m k n);
  some = λ f g. some-by f g (judges c l m k n);
}
  where
    clash : {X : Type 0} → ((x y : ℤ) → Of x l m → Of y k n → holds c x y ≡ true) → ((x y : ℤ) → Of x l m → Of y k n → holds c x y ≡ false) → X
    clash f g = absurd (true≢false (sym (f l k (lowest-of l m) (lowest-of k n)) ∙ g l k (lowest-of l m) (lowest-of k n)))

    every-by : ((x y : ℤ) → Of x l m → Of y k n → holds c x y ≡ true) → {v : Cell} → Judged c l (high l m) k (high k n) v → v ≡ exactly (pos 1)
    every-by f (every g) = sym one-is
    every-by f (none g) = clash f (λ x y o p. g x y (one-among (of-linear o)) (one-among (of-linear p)))
    every-by f (either g h) = absurd (g (λ x y a b. f x y (among_of a) (among_of b)))

    none-by : ((x y : ℤ) → Of x l m → Of y k n → holds c x y ≡ false) → {v : Cell} → Judged c l (high l m) k (high k n) v → v ≡ exactly (pos 0)
    none-by f (every g) = clash (λ x y o p. g x y (one-among (of-linear o)) (one-among (of-linear p))) f
    none-by f (none g) = sym zero_is
    none-by f (either g h) = absurd (h (λ x y a b. f x y (among_of a) (among_of b)))

    some-by : (((x y : ℤ) → Of x l m → Of y k n → holds c x y ≡ true) → ⊥) → (((x y : ℤ) → Of x l m → Of y k n → holds c x y ≡ false) → ⊥) → {v : Cell} → Judged c l (high l m) k (high k n) v → v ≡ range (pos 0) 1
    some-by f g (every h) = absurd (f (λ x y o p. h x y (one-among (of-linear o)) (one-among (of-linear p))))
    some-by f g (none h) = absurd (g (λ x y o p. h x y (one-among (of-linear o)) (one-among (of-linear p))))
    some-by f g (either h j) = refl

-- ---- conditions

module _ (low : ℤ) (more : ℕ) where
  has-zero : le_z low (pos 0) ≡ true → le_z (pos 0) (high low more) ≡ true → Of (pos 0) low more
  has-zero e f = record { least = e; greatest = rw (high_zero (pos 0)) f }

  zero_has : Of (pos 0) low more → (le_z low (pos 0) && le_z (pos 0) (high low more)) ≡ true
  zero_has i = let f : le_z (pos 0) (high low more) ≡ true = rw (high_zero (pos 0)) at i.greatest in rw i.least f

pub every-condition : EveryCondition
unfolding condition condition_in
every-condition low more = record { lacks = λ h. lacks h (le_z low (pos 0)) refl (le_z (pos 0) (high low more)) refl; only = only; leaves = leaves }
  where
    lacks : (Of (pos 0) low more → ⊥) → (a : Bool) → le_z low (pos 0) ≡ a → (b : Bool) → le_z (pos 0) (high low more) ≡ b → condition (range low more) ≡ done IsNonzero
    lacks h true e true f = absurd (h (has-zero low more e f))
    lacks h true e false f = rw (e, f) refl
    lacks h false e b f = rw e refl

    only : ((n : ℤ) → Of n low more → n ≡ pos 0) → condition (range low more) ≡ done IsZero
    only h =
        let e : low ≡ pos 0 = h low (lowest-of low more) in
        let f : high low more ≡ pos 0 = h (high low more) (highest-of low more) in
        let k : more ≡ 0 = omega (arith, sum_is low (pos more), ap over e, ap under e, ap over f, ap under f) in
        rw (e, k) refl

    leaves : Of (pos 0) low more → (n : ℤ) → Of n low more → (n ≡ pos 0 → ⊥) → condition (range low more) ≡ done IsUnknown
    leaves i n j h = one-or-more (λ t. done (cond (le_z low (pos 0) && le_z (pos 0) (high low more)) (cond t IsZero IsUnknown) IsNonzero) ≡ done IsUnknown) more (λ e. absurd (h ((linear-one (rw e at (linear j))).0 ∙ sym (linear-one (rw e at (linear i))).0))) (λ l. rw (zero_has low more i) refl)

-- ---- results agree where cells agree

pub results_agree : ResultsAgree
results_agree = (refines-lawful, allowed-lawful)
