-- The laws of merging: the merge of two covers both, and everything that covers both covers the merge. With specs/ these are all that
-- knows how cells are merged. Assumes nothing.
use mathlib.Core.Path.{◌≡◌, refl, sym, ap, ◌∙◌}
use mathlib.Core.Bool.{Bool, true, false, cond}
use mathlib.Core.Logic.{◌↔◌}
use Prim.Native.Nat.{ℕ, ◌+◌, ◌≤◌}
use native.Mathlib.Omega.{arith}
use lib.Dec.{eqb}
use lib.IntN.{ℤ, pos, nat_abs, ◌-ℤ◌}
use lib.Signed.{le_z}
use borrow.Author.Tests.{eqb-true, eqb-false, eq-eqb, ne_eqb}
use Rattle.numbers.proofs.IntegerLaws.{over, under, sum_is, le-true, le-false, le_yes, distance_is}
use Rattle.cells.specs.Try.{Try, stuck, done}
use Rattle.cells.specs.declared.Value.{Value}
use Rattle.cells.specs.declared.Value.TheVariants.{Range, Handle}
use Rattle.cells.specs.declared.Cell.{Cell}
use Rattle.cells.specs.Cells.{cell, range, high, between, handle}
use Rattle.merge_cells.specs.Merge.{lower, upper, merge_values, merge_cells, Clash, here, there}
use Rattle.cells.specs.Order as order
use Rattle.cells.specs.Order.{Refines}
use Rattle.cells.specs.HeldConfined.{Confined}
use Rattle.cells.specs.Covering.{Covered, by_stuck, both}
use Rattle.cells.proofs.RangeLaws.{Linear, linear-trans, covers, InBits, bits-down, in-unknown}
use Rattle.cells.proofs.CellLaws.{Below, ranges, handles, below, confined-range, range-bits, unknown-bits}

-- what merging by f must do, for an order R
pub record Merging {A : Type 0} (R : A → A → Type 0) (f : A → A → Try A) : Type 0 where
  -- what is below one of two is below their merge
  pub left : (a b c : A) → R a b → Covered R (done a) (f b c)
  pub right : (a b c : A) → R a c → Covered R (done a) (f b c)
  -- what is above two is above their merge, which there is
  pub least : (a b c : A) → R a c → R b c → Covered R (f a b) (done c)

-- ---- ranges

-- the smaller and the larger of two numbers
module _ (m n : ℤ) where
  lower_by {ℓ} : (P : ℤ → Type ℓ) → (le_z m n ≡ true → P m) → (le_z m n ≡ false → P n) → P (lower m n)
  lower_by P f g = go (le_z m n) refl
    where
      go : (t : Bool) → le_z m n ≡ t → P (cond t m n)
      go true e = f e
      go false e = g e

  upper_by {ℓ} : (P : ℤ → Type ℓ) → (le_z m n ≡ true → P n) → (le_z m n ≡ false → P m) → P (upper m n)
  upper_by P f g = go (le_z m n) refl
    where
      go : (t : Bool) → le_z m n ≡ t → P (cond t n m)
      go true e = f e
      go false e = g e

  pub record Lower (z : ℤ) : Type 0 where
    pub left : over z + under m ≤ over m + under z
    pub right : over z + under n ≤ over n + under z
    pub most : (y : ℤ) → over y + under m ≤ over m + under y → over y + under n ≤ over n + under y → over y + under z ≤ over z + under y

  pub lower-is : Lower (lower m n)
  lower-is =
      lower_by Lower
      (λ e. let h = le-true m n e in record { left = omega arith; right = omega arith; most = λ y p q. p })
      (λ e. let h = le-false m n e in record { left = omega arith; right = omega arith; most = λ y p q. q })

  pub record Upper (z : ℤ) : Type 0 where
    pub left : over m + under z ≤ over z + under m
    pub right : over n + under z ≤ over z + under n
    pub least : (y : ℤ) → over m + under y ≤ over y + under m → over n + under y ≤ over y + under n → over z + under y ≤ over y + under z

  pub upper_is : Upper (upper m n)
  upper_is =
      upper_by Upper
      (λ e. let h = le-true m n e in record { left = omega arith; right = omega arith; least = λ y p q. q })
      (λ e. let h = le-false m n e in record { left = omega arith; right = omega arith; least = λ y p q. p })

-- the numbers from l to h
pub record Reaching (l h : ℤ) (n : ℕ) : Type 0 where
  pub is : between l h ≡ range l n
  pub far : n + (over l + under h) ≡ over h + under l

pub between_is : (l h : ℤ) → over l + under h ≤ over h + under l → (n : ℕ) × Reaching l h n
unfolding between
between_is l h p =
    let e = le_yes l h p in
    (nat_abs (h -ℤ l), record { is = ap (λ (t : Bool). range l (cond t (nat_abs (h -ℤ l)) 0)) e; far = distance_is l h e })

-- the range that covers two
module _ (l k : ℤ) (m n : ℕ) where
  abbrev bottom : ℤ
  bottom = lower l k

  abbrev top : ℤ
  top = upper (high l m) (high k n)

  pub record Covering (x : ℕ) : Type 0 where
    pub is : between bottom top ≡ range bottom x
    pub left : Linear l m bottom x
    pub right : Linear k n bottom x
    pub least : {z : ℤ} {y : ℕ} → Linear l m z y → Linear k n z y → Linear bottom x z y

  pub covering : (x : ℕ) × Covering x
  covering =
      let s = sum_is l (pos m) in
      let t = sum_is k (pos n) in
      let lo = lower-is l k in
      let up = upper_is (high l m) (high k n) in
      let p = lo.left in let q = up.left in let p' = lo.right in let q' = up.right in
      let b = between_is bottom top (omega arith) in
      let far = b.1.far in (
        b.0,
        record {
          is = b.1.is;
          left = record { least = omega arith; greatest = omega arith };
          right = record { least = omega arith; greatest = omega arith };
          least = λ {z} {y} i j.
              let r = sum_is z (pos y) in
              let down = lo.most z (omega (arith, i.least)) (omega (arith, j.least)) in
              let over-all = up.least (high z y) (omega (arith, i.greatest)) (omega (arith, j.greatest)) in
              record { least = omega arith; greatest = omega arith };
        },
      )

-- ---- cells

handles-left : (j : ℕ) (t : Bool) → Covered Refines (done (handle j)) (cond t (done (handle j)) stuck)
handles-left j true = both order.same
handles-left j false = by_stuck

handles-right : (j k : ℕ) (t : Bool) → eqb j k ≡ t → Covered Refines (done (handle k)) (cond t (done (handle j)) stuck)
handles-right j k true e = rw (eqb-true j k e) (both order.same)
handles-right j k false e = by_stuck

joined : {a x y : Cell} → x ≡ y → Refines a y → Covered Refines (done a) (done x)
joined {a} {x} e r = both {a = a} {b = x} (rw e r)

joined-under : {b x y : Cell} → x ≡ y → Refines y b → Covered Refines (done x) (done b)
joined-under {b} {x} e r = both {a = x} {b = b} (rw e r)

values-left : {v w : Value} (u : Value) → Below v w → Covered Refines (done (cell v)) (merge_values w u)
unfolding merge_values
values-left (Range k n) (ranges {l' = l} {m' = m} i) = let c = covering l k m n in joined c.1.is (covers (linear-trans i c.1.left))
values-left (Handle k) (ranges i) = by_stuck
values-left (Range k n) handles = by_stuck
values-left (Handle k) (handles {k = j}) = handles-left j (eqb j k)

values-right : {v w : Value} (u : Value) → Below v w → Covered Refines (done (cell v)) (merge_values u w)
unfolding merge_values
values-right (Range k n) (ranges {l' = l} {m' = m} i) = let c = covering k l n m in joined c.1.is (covers (linear-trans i c.1.right))
values-right (Handle k) (ranges i) = by_stuck
values-right (Range k n) handles = by_stuck
values-right (Handle k) (handles {k = j}) = handles-right k j (eqb k j) refl

values-least : {v w u : Value} → Below v u → Below w u → Covered Refines (merge_values v w) (done (cell u))
unfolding merge_values
values-least (ranges {l} {m = m} i) (ranges {l = k} {m = n} j) = let c = covering l k m n in joined-under c.1.is (covers (c.1.least i j))
values-least (handles {k}) handles = rw (eq-eqb k k refl) (both order.same)

pub cell-merging : Merging Refines merge_cells
unfolding merge_cells
cell-merging = record {
  left = λ a b c r. values-left c.value (below r);
  right = λ a b c r. values-right b.value (below r);
  least = λ a b c p q. values-least (below p) (below q);
}

-- ---- two cells cannot be merged exactly where they clash

made-not : {A B : Type 0} (a : A) → done a ≡ stuck → B
made-not a e = let z : ◌≡◌ {A = ℕ} 0 1 = cc in absurd (omega arith)

done-equal : {A : Type 0} {a b : A} → done a ≡ done b → a ≡ b
done-equal e = cc

range-apart : (l : ℤ) (m k : ℕ) → range l m ≡ handle k → ⊥
range-apart l m k e =
    let h : Range l m ≡ Handle k = ap (λ c. c.value) e in
    let z : ◌≡◌ {A = ℕ} 0 1 = cc in
    omega arith

handles-equal : {j k : ℕ} → handle j ≡ handle k → j ≡ k
handles-equal {j} {k} e =
    let h : Handle j ≡ Handle k = ap (λ c. c.value) e in
    cc

values-clash : (v w : Value) → merge_values v w ≡ stuck → Clash (cell v) (cell w)
unfolding merge_values
values-clash (Range l m) (Range k n) e = made-not _ e
values-clash (Range l m) (Handle k) e = there (range-apart l m k)
values-clash (Handle j) (Range l m) e = here (λ h. range-apart l m j (sym h))
values-clash (Handle j) (Handle k) e = go (eqb j k) refl e
  where
    go : (t : Bool) → eqb j k ≡ t → cond t (done (handle j)) stuck ≡ stuck → Clash (handle j) (handle k)
    go true q e = made-not _ e
    go false q e = here (λ h. eqb-false j k q (handles-equal h))

other-left : (k : ℕ) (w : Value) → (handle k ≡ cell w → ⊥) → merge_values (Handle k) w ≡ stuck
unfolding merge_values
other-left k (Range l m) h = refl
other-left k (Handle j) h = rw (ne_eqb k j (λ e. h (ap handle e))) refl

other-right : (k : ℕ) (v : Value) → (cell v ≡ handle k → ⊥) → merge_values v (Handle k) ≡ stuck
unfolding merge_values
other-right k (Range l m) h = refl
other-right k (Handle j) h = rw (ne_eqb j k (λ e. h (ap handle e))) refl

clash-stuck : {a b : Cell} → Clash a b → merge_cells a b ≡ stuck
unfolding merge_cells
clash-stuck (here {k} {b} h) = other-left k b.value h
clash-stuck (there {k} {a} h) = other-right k a.value h

pub cells-clash : (a b : Cell) → (merge_cells a b ≡ stuck) ↔ Clash a b
unfolding merge_cells
cells-clash a b = (values-clash a.value b.value, clash-stuck)

-- what clashes with a cell clashes with all below it
stuck-down : (l l' : ℤ) (m m' : ℕ) (w : Value) → merge_values (Range l' m') w ≡ stuck → merge_values (Range l m) w ≡ stuck
unfolding merge_values
stuck-down l l' m m' (Range k n) e = made-not _ e
stuck-down l l' m m' (Handle k) e = refl

pub clash-down : {a b c : Cell} → Refines a b → Clash b c → Clash a c
unfolding merge_cells
clash-down order.same k = k
clash-down {c = c} (order.inside {low} {low'} {more} {more'} i) k =
    (cells-clash (range low more) c).0 (stuck-down low low' more more' c.value ((cells-clash (range low' more') c).1 k))

-- ---- cells that are confined to numbers

bits-least : {l k : ℤ} {m n x : ℕ} → InBits l m → InBits k n → Covering l k m n x → InBits (lower l k) x
bits-least {l} {k} {m} {n} a b c = bits-down (c.least (in-unknown l m a) (in-unknown k n b)) unknown-bits

values-confined : (v w : Value) (c : Cell) → Confined (cell v) → Confined (cell w) → done c ≡ merge_values v w → Confined c
unfolding merge_values
values-confined (Range l m) (Range k n) c p q e =
    let x = covering l k m n in
    let made : c ≡ range (lower l k) x.0 = done-equal e ∙ x.1.is in
    rw made (confined-range (bits-least (range-bits p) (range-bits q) x.1))
values-confined (Range l m) (Handle k) c p q e = made-not c e
values-confined (Handle j) (Range l m) c p q e = made-not c e
values-confined (Handle j) (Handle k) c p q e = go (eqb j k) e
  where
    go : (t : Bool) → done c ≡ cond t (done (handle j)) stuck → Confined c
    go true e = rw (done-equal e) p
    go false e = made-not c e

pub merged-confined : {a b c : Cell} → Confined a → Confined b → done c ≡ merge_cells a b → Confined c
unfolding merge_cells
merged-confined {a} {b} {c} p q e = values-confined a.value b.value c p q e

-- ---- a cell that is merged with itself stays

either_way : {A : Type 0} (t : Bool) (x : A) → cond t x x ≡ x
either_way true x = refl
either_way false x = refl

values_same : (v : Value) → merge_values v v ≡ done (cell v)
unfolding merge_values
values_same (Range low more) =
    let s = sum_is low (pos more) in
    let b = between_is low (high low more) (omega arith) in
    let far = b.1.far in
    let n : b.0 ≡ more = omega arith in
    ap (λ (l : ℤ). done (between l (upper (high low more) (high low more)))) (either_way (le_z low low) low)
    ∙ ap (λ (h : ℤ). done (between low h)) (either_way (le_z (high low more) (high low more)) (high low more))
    ∙ ap done (b.1.is ∙ ap (range low) n)
values_same (Handle k) = ap (λ (t : Bool). cond t (done (handle k)) stuck) (eq-eqb k k refl)

pub merge-same : (a : Cell) → merge_cells a a ≡ done a
unfolding merge_cells
merge-same a = values_same a.value

-- ---- what the code gives

pub merged-values : (a c : Cell) {v w : Value} {m : Try Cell} → a.value ≡ v → c.value ≡ w → m ≡ merge_values v w → m ≡ merge_cells a c
unfolding merge_cells
merged-values a c {w = w} p q e = e ∙ ap (λ v. merge_values v w) (sym p) ∙ ap (merge_values a.value) (sym q)
