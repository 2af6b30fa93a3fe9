-- The laws of cells, for the erasure order, for the plain cells that a cell allows, and for cells that are confined to numbers. With specs/
-- these are all that knows what a cell is. Assumes nothing.
use mathlib.Core.Path.{◌≡◌, refl, ap, subst, ◌∙◌}
use mathlib.Core.Bool.{Bool, true, false, cond, ◌&&◌}
use Prim.Native.Nat.{ℕ, ◌+◌, ◌-◌, ◌<◌, ◌≤◌}
use native.Mathlib.Omega.{arith}
use lib.Dec.{eqb}
use lib.IntN.{ℤ, pos, ◌+ℤ◌, ◌-ℤ◌}
use lib.Signed.{le_z}
use Rattle.numbers.specs.Numbers.{bits, modulus, wrap, numbers}
use Rattle.numbers.proofs.IntegerLaws.{over, under, sum_is, difference-is, le-true, le-false, le_yes}
use Rattle.cells.specs.declared.Value.{Value}
use Rattle.cells.specs.declared.Value.TheVariants.{Range, Handle}
use Rattle.cells.specs.declared.Cell.{Cell}
use Rattle.cells.specs.declared.Unary.{Unary}
use Rattle.cells.specs.declared.Condition.{Condition}
use Rattle.cells.specs.declared.Condition.TheVariants.{IsZero, IsNonzero, IsUnknown}
use Rattle.numbers.specs.declared.Comparison.{Comparison}
use Rattle.numbers.specs.declared.Comparison.TheVariants.{Equal, Unequal, Less, AtMost, Greater, AtLeast}
use Rattle.cells.specs.declared.Binary.{Binary}
use Rattle.cells.specs.declared.Binary.TheVariants.{Add, Subtract, Compare}
use Rattle.cells.specs.Try.{Try}
use Rattle.cells.specs.Cells.{range, high, exactly, unknown, handle, calculate₁, calculate₂, results, least₁, range₁, wider, range₂, map₁, compare_handles, combine_handles, map₂, operate₁, operate₂, condition_in, condition, handled, block}
use Rattle.cells.specs.Order.{Refines, same, inside, Allowed, among, same_handle}
use Rattle.cells.specs.HeldConfined.{confine_value, confine, Confined, Kept}
use Rattle.cells.specs.Covering.{Covered, by_stuck, both, Narrower, zeros, nonzeros, zero_unknown, nonzero_unknown, unknowns, Lawful}
use Rattle.cells.proofs.Covering.{covered-self}
use Rattle.cells.proofs.RangeLaws.{Linear, linear, lies, covers, linear-self, linear-trans, linear-one, one-allowed, InBits, fitting-yes, Results, fits, whole, results-is, wrap-bits, wrap-unknown, results-refine, number-refines, one-or-more, high_zero, range₁-refines}
use Rattle.cells.proofs.JudgeLaws.{Among, Judged, every, none, either, judged-is, Within, judged-refines, pair-judged}

-- ---- the order, by what the cells hold

pub data Below : Value → Value → Type 0 where
  ranges : {l l' : ℤ} {m m' : ℕ} → Linear l m l' m' → Below (Range l m) (Range l' m')
  handles : {k : ℕ} → Below (Handle k) (Handle k)

below_self : (v : Value) → Below v v
below_self (Range l m) = ranges (linear-self l m)
below_self (Handle k) = handles

pub below : {a b : Cell} → Refines a b → Below a.value b.value
below (same {a}) = below_self a.value
below (inside i) = ranges (linear i)

pub refines-trans : {a b c : Cell} → Refines a b → Refines b c → Refines a c
refines-trans same q = q
refines-trans (inside i) same = inside i
refines-trans (inside i) (inside j) = covers (linear-trans (linear i) (linear j))

pub allowed-refines : {a b : Cell} → Allowed a b → Refines a b
allowed-refines (among i) = inside i
allowed-refines same_handle = same

-- an allowed cell allows itself: it is plain
pub allowed-plain : {a b : Cell} → Allowed a b → Allowed a a
allowed-plain (among {n} i) = among (lies (linear-self n 0))
allowed-plain same_handle = same_handle

pub known-allowed : (n : ℤ) → Allowed (range n 0) (range n 0)
known-allowed n = among (lies (linear-self n 0))

pub number-allowed : (n : ℤ) → Allowed (exactly n) unknown
number-allowed n = among (lies (wrap-unknown n))

-- ---- operations on two ranges

-- the numbers of a range
pub some_number : (l : ℤ) (m : ℕ) → le_z l (high l m) ≡ true
some_number l m = let s = sum_is l (pos m) in le_yes l (high l m) (omega arith)

all-within : {l l' : ℤ} {m m' : ℕ} → Linear l m l' m' → Within l (high l m) l' (high l' m')
all-within {l} {l'} {m} {m'} i =
    let s = sum_is l (pos m) in
    let t = sum_is l' (pos m') in
    record { all = λ n a. record { least = omega (arith, a.least, i.least); greatest = omega (arith, a.greatest, i.greatest) } }

pub one-among : {n l : ℤ} {m : ℕ} → Linear n 0 l m → Among n l (high l m)
one-among {n} {l} {m} i = let s = sum_is l (pos m) in record { least = i.least; greatest = omega (arith, i.greatest) }

module _ {l l' k k' : ℤ} {m m' n n' : ℕ} (h : Linear l m l' m') (g : Linear k n k' n') where
  sum-linear : Linear (l +ℤ k) (m + n) (l' +ℤ k') (m' + n')
  sum-linear =
      let s = sum_is l k in let t = sum_is l' k' in
      record { least = omega (arith, h.least, g.least); greatest = omega (arith, h.greatest, g.greatest) }

  difference-linear : Linear (l -ℤ high k n) (m + n) (l' -ℤ high k' n') (m' + n')
  difference-linear =
      let s = sum_is k (pos n) in let t = sum_is k' (pos n') in
      let s' = difference-is l (high k n) in let t' = difference-is l' (high k' n') in
      record { least = omega (arith, h.least, g.greatest); greatest = omega (arith, h.greatest, g.least) }

  wider-refines : (b : Binary) → Refines (wider b l m k n) (wider b l' m' k' n')
  unfolding wider
  wider-refines Add = results-refine sum-linear
  wider-refines Subtract = results-refine difference-linear
  wider-refines (Compare c) =
      judged-refines c (some_number l m) (some_number k n) (all-within h) (all-within g)
      (judged-is c (some_number l m) (some_number k n)) (judged-is c (some_number l' m') (some_number k' n'))

module _ {l l' k k' : ℤ} {m' n' : ℕ} (h : Linear l 0 l' m') (g : Linear k 0 k' n') where
  pair-refines : (b : Binary) → Refines (exactly (calculate₂ b l k)) (wider b l' m' k' n')
  unfolding wider calculate₂
  pair-refines Add = number-refines (sum-linear h g)
  pair-refines Subtract = number-refines (rw (high_zero k) at (difference-linear h g))
  pair-refines (Compare c) = pair-judged c l k (one-among h) (one-among g) (judged-is c (some_number l' m') (some_number k' n'))

module _ (b : Binary) {l l' k k' : ℤ} {m m' n n' : ℕ} (h : Linear l m l' m') (g : Linear k n k' n') where
  one₂ : m' + n' ≡ 0 → Refines (range₂ b l m k n) (exactly (calculate₂ b l' k'))
  unfolding range₂
  one₂ e =
      let p : m' ≡ 0 = omega arith in
      let q : n' ≡ 0 = omega arith in
      let x = linear-one (rw p at h) in
      let y = linear-one (rw q at g) in
      rw (x.0, x.1, y.0, y.1) same

  more₂ : Refines (range₂ b l m k n) (wider b l' m' k' n')
  unfolding range₂
  more₂ =
      one-or-more (λ t. Refines (cond t (exactly (calculate₂ b l k)) (wider b l m k n)) (wider b l' m' k' n')) (m + n)
      (λ e. let p : m ≡ 0 = omega arith in let q : n ≡ 0 = omega arith in pair-refines (rw p at h) (rw q at g) b)
      (λ j. wider-refines h g b)

  pub range₂-refines : Refines (range₂ b l m k n) (range₂ b l' m' k' n')
  unfolding range₂
  range₂-refines =
      one-or-more (λ t. Refines (range₂ b l m k n) (cond t (exactly (calculate₂ b l' k')) (wider b l' m' k' n'))) (m' + n')
      (λ e. one₂ e)
      (λ j. more₂)

-- ---- the operations

map₁-below : (u : Unary) (i : ℤ) {v w : Value} → Below v w → Covered Refines (map₁ u i v) (map₁ u i w)
unfolding map₁
map₁-below u i (ranges h) = both (range₁-refines u i h)
map₁-below u i handles = by_stuck

map₂-below : (b : Binary) {v w v' w' : Value} → Below v v' → Below w w' → Covered Refines (map₂ b v w) (map₂ b v' w')
unfolding map₂
map₂-below b (ranges h) (ranges g) = both (range₂-refines b h g)
map₂-below b (ranges h) handles = by_stuck
map₂-below b handles (ranges g) = by_stuck
map₂-below b handles handles = covered-self (λ c. same) _

-- what they give of plain cells is plain

pub range₁-one : (u : Unary) (i n : ℤ) → range₁ u i n 0 ≡ exactly (calculate₁ u i n)
unfolding range₁
range₁-one u i n = refl

pub range₂-one : (b : Binary) (m n : ℤ) → range₂ b m 0 n 0 ≡ exactly (calculate₂ b m n)
unfolding range₂
range₂-one b m n = refl

plain : (z : ℤ) {x y : Cell} → x ≡ exactly z → Refines x y → Allowed x y
plain z e r = rw e (one-allowed (rw e at r))

map₁-allowed : (u : Unary) (i : ℤ) {a a' : Cell} → Allowed a a' → Covered Allowed (map₁ u i a.value) (map₁ u i a'.value)
unfolding map₁
map₁-allowed u i (among {n} h) = both (plain _ (range₁-one u i n) (range₁-refines u i (linear h)))
map₁-allowed u i same_handle = by_stuck

-- what two handles give is plain
handles-allowed : (b : Binary) (j k : ℕ) → Covered Allowed (combine_handles b j k) (combine_handles b j k)
unfolding combine_handles compare_handles
handles-allowed Add j k = by_stuck
handles-allowed Subtract j k = by_stuck
handles-allowed (Compare Equal) j k = both (known-allowed _)
handles-allowed (Compare Unequal) j k = both (known-allowed _)
handles-allowed (Compare Less) j k = by_stuck
handles-allowed (Compare AtMost) j k = by_stuck
handles-allowed (Compare Greater) j k = by_stuck
handles-allowed (Compare AtLeast) j k = by_stuck

map₂-allowed : (b : Binary) {a c a' c' : Cell} → Allowed a a' → Allowed c c' → Covered Allowed (map₂ b a.value c.value) (map₂ b a'.value c'.value)
unfolding map₂
map₂-allowed b (among {n = m} h) (among {n} g) = both (plain _ (range₂-one b m n) (range₂-refines b (linear h) (linear g)))
map₂-allowed b (among h) same_handle = by_stuck
map₂-allowed b same_handle (among g) = by_stuck
map₂-allowed b (same_handle {k = j}) (same_handle {k}) = handles-allowed b j k

-- ---- conditions and handles

-- where a range lies beside 0
data Zone (l : ℤ) (m : ℕ) : Condition → Type 0 where
  at-0 : over l ≡ under l → m ≡ 0 → Zone l m IsZero
  above : under l < over l → Zone l m IsNonzero
  under-0 : over l + m < under l → Zone l m IsNonzero
  across : over l ≤ under l → under l ≤ over l + m → 0 < m → Zone l m IsUnknown

module _ (l : ℤ) (m : ℕ) where
  around : le_z l (pos 0) ≡ true → le_z (pos 0) (high l m) ≡ true → Zone l m (cond (eqb m 0) IsZero IsUnknown)
  around p q =
      let x = le-true l (pos 0) p in let y = le-true (pos 0) (high l m) q in let s = sum_is l (pos m) in
      let h : over l ≤ under l = omega arith in
      let g : under l ≤ over l + m = omega arith in
      one-or-more (λ t. Zone l m (cond t IsZero IsUnknown)) m (λ e. at-0 (omega arith) e) (λ k. across h g k)

  zone-is : Zone l m (cond (le_z l (pos 0) && le_z (pos 0) (high l m)) (cond (eqb m 0) IsZero IsUnknown) IsNonzero)
  zone-is = go (le_z l (pos 0)) refl (le_z (pos 0) (high l m)) refl
    where
      go : (t : Bool) → le_z l (pos 0) ≡ t → (r : Bool) → le_z (pos 0) (high l m) ≡ r → Zone l m (cond (t && r) (cond (eqb m 0) IsZero IsUnknown) IsNonzero)
      go true p true q = around p q
      go true p false q = let y = le-false (pos 0) (high l m) q in let s = sum_is l (pos m) in under-0 (omega arith)
      go false p r q = let x = le-false l (pos 0) p in above (omega arith)

zone-law : {two : Type 0} {l l' : ℤ} {m m' : ℕ} {x y : Condition} → Linear l m l' m' → (0 < m → two) → Zone l m x → Zone l' m' y → Narrower two x y
zone-law i t (at-0 e f) (at-0 g h) = zeros
zone-law i t (at-0 e f) (above g) = absurd (omega (arith, i.least, i.greatest))
zone-law i t (at-0 e f) (under-0 g) = absurd (omega (arith, i.least, i.greatest))
zone-law i t (at-0 e f) (across g h k) = zero_unknown
zone-law i t (above e) (at-0 g h) = absurd (omega (arith, i.least, i.greatest))
zone-law i t (above e) (above g) = nonzeros
zone-law i t (above e) (under-0 g) = nonzeros
zone-law i t (above e) (across g h k) = nonzero_unknown
zone-law i t (under-0 e) (at-0 g h) = absurd (omega (arith, i.least, i.greatest))
zone-law i t (under-0 e) (above g) = nonzeros
zone-law i t (under-0 e) (under-0 g) = nonzeros
zone-law i t (under-0 e) (across g h k) = nonzero_unknown
zone-law i t (across e f l) (at-0 g h) = absurd (omega (arith, i.least, i.greatest))
zone-law i t (across e f l) (above g) = absurd (omega (arith, i.least, i.greatest))
zone-law i t (across e f l) (under-0 g) = absurd (omega (arith, i.least, i.greatest))
zone-law i t (across e f l) (across g h k) = unknowns (t l)

condition-below : {v w : Value} → Below v w → Covered (Narrower (Unit {0})) (condition_in v) (condition_in w)
unfolding condition_in
condition-below (ranges {l} {l'} {m} {m'} i) = both (zone-law i (λ h. tt) (zone-is l m) (zone-is l' m'))
condition-below handles = by_stuck

condition-refines : {a a' : Cell} → Refines a a' → Covered (Narrower (Unit {0})) (condition a) (condition a')
unfolding condition
condition-refines r = condition-below (below r)

condition-allowed : {a a' : Cell} → Allowed a a' → Covered (Narrower ⊥) (condition a) (condition a')
unfolding condition condition_in
condition-allowed (among {n} {low} {more} i) = both (zone-law (linear i) (λ h. omega arith) (zone-is n 0) (zone-is low more))
condition-allowed same_handle = by_stuck

block-below : {v w : Value} → Below v w → Covered ◌≡◌ (handled v) (handled w)
unfolding handled
block-below (ranges i) = by_stuck
block-below handles = both refl

block-refines : {a a' : Cell} → Refines a a' → Covered ◌≡◌ (block a) (block a')
unfolding block
block-refines r = block-below (below r)

pub refines-lawful : Lawful Refines (Unit {0})
unfolding operate₁ operate₂
refines-lawful = record {
  numbers = λ n. same;
  operates₁ = λ u i r. map₁-below u i (below r);
  operates₂ = λ b r q. map₂-below b (below r) (below q);
  conditions = condition-refines;
  blocks = block-refines;
}

pub allowed-lawful : Lawful Allowed ⊥
unfolding operate₁ operate₂
allowed-lawful = record {
  numbers = λ n. known-allowed (wrap n);
  operates₁ = λ u i r. map₁-allowed u i r;
  operates₂ = λ b r q. map₂-allowed b r q;
  conditions = condition-allowed;
  blocks = λ r. block-refines (allowed-refines r);
}

-- ---- cells that are confined to numbers

pub confined-range : {l : ℤ} {m : ℕ} → InBits l m → Confined (range l m)
unfolding confine confine_value results
confined-range {l} {m} b = record { stays = ap (λ (t : Bool). cond t (range l m) unknown) (fitting-yes l m b) }

-- all numbers are
pub unknown-bits : InBits numbers.low (modulus bits - 1)
unknown-bits = record { above = omega arith; below = omega arith }

pub unknown-confined : Confined unknown
unknown-confined = confined-range unknown-bits

pub number-confined : (n : ℤ) → Confined (exactly n)
number-confined n = confined-range (wrap-bits n)

pub handle-confined : (k : ℕ) → Confined (handle k)
unfolding confine confine_value
handle-confined k = record { stays = refl }

results-confined-by : {l : ℤ} {m : ℕ} {x : Cell} → Results l m x → Confined x
results-confined-by (fits b) = confined-range b
results-confined-by (whole n) = unknown-confined

pub results-confined : (l : ℤ) (m : ℕ) → Confined (results l m)
results-confined l m = results-confined-by (results-is l m)

-- and the numbers of a confined range have `bits` bits
pub range-bits : {l : ℤ} {m : ℕ} → Confined (range l m) → InBits l m
unfolding confine confine_value
range-bits {l} {m} c = go (results-is l m) c.stays
  where
    go : {x : Cell} → Results l m x → x ≡ range l m → InBits l m
    go (fits b) e = b
    go (whole n) e =
        let p : numbers.low ≡ l = cc in
        let q : modulus bits - 1 ≡ m = cc in
        subst (λ z. InBits z m) p (subst (InBits numbers.low) q unknown-bits)

judged-confined : {c : Comparison} {l h l' h' : ℤ} {x : Cell} → Judged c l h l' h' x → Confined x
judged-confined (every f) = confined-range (record { above = omega arith; below = omega arith })
judged-confined (none f) = confined-range (record { above = omega arith; below = omega arith })
judged-confined (either f g) = confined-range (record { above = omega arith; below = omega arith })

range₁-confined : (u : Unary) (i l : ℤ) (m : ℕ) → Confined (range₁ u i l m)
unfolding range₁
range₁-confined u i l m =
    one-or-more (λ t. Confined (cond t (exactly (calculate₁ u i l)) (results (least₁ u i l m) m))) m
    (λ e. number-confined (calculate₁ u i l))
    (λ h. results-confined (least₁ u i l m) m)

wider-confined : (b : Binary) (l : ℤ) (m : ℕ) (k : ℤ) (n : ℕ) → Confined (wider b l m k n)
unfolding wider
wider-confined Add l m k n = results-confined (l +ℤ k) (m + n)
wider-confined Subtract l m k n = results-confined (l -ℤ high k n) (m + n)
wider-confined (Compare c) l m k n = judged-confined (judged-is c (some_number l m) (some_number k n))

range₂-confined : (b : Binary) (l : ℤ) (m : ℕ) (k : ℤ) (n : ℕ) → Confined (range₂ b l m k n)
unfolding range₂
range₂-confined b l m k n =
    one-or-more (λ t. Confined (cond t (exactly (calculate₂ b l k)) (wider b l m k n))) (m + n)
    (λ e. number-confined (calculate₂ b l k))
    (λ h. wider-confined b l m k n)

keeps : {m : Try Cell} → Covered Kept m m → {n : Try Cell} → m ≡ n → Covered Kept m n
keeps {m} c e = subst (Covered Kept m) e c

pub kept_self : {a : Cell} → Confined a → Kept a a
kept_self c = record { alike = refl; kept = c }

map₁-kept : (u : Unary) (i : ℤ) (v : Value) → Covered Kept (map₁ u i v) (map₁ u i v)
unfolding map₁
map₁-kept u i (Range l m) = both (kept_self (range₁-confined u i l m))
map₁-kept u i (Handle k) = by_stuck

handles-kept : (b : Binary) (j k : ℕ) → Covered Kept (combine_handles b j k) (combine_handles b j k)
unfolding combine_handles compare_handles
handles-kept Add j k = by_stuck
handles-kept Subtract j k = by_stuck
handles-kept (Compare Equal) j k = both (kept_self (number-confined _))
handles-kept (Compare Unequal) j k = both (kept_self (number-confined _))
handles-kept (Compare Less) j k = by_stuck
handles-kept (Compare AtMost) j k = by_stuck
handles-kept (Compare Greater) j k = by_stuck
handles-kept (Compare AtLeast) j k = by_stuck

map₂-kept : (b : Binary) (v w : Value) → Covered Kept (map₂ b v w) (map₂ b v w)
unfolding map₂
map₂-kept b (Range l m) (Range k n) = both (kept_self (range₂-confined b l m k n))
map₂-kept b (Range l m) (Handle k) = by_stuck
map₂-kept b (Handle j) (Range k n) = by_stuck
map₂-kept b (Handle j) (Handle k) = handles-kept b j k

pub kept-lawful : Lawful Kept (Unit {0})
unfolding operate₁ operate₂
kept-lawful = record {
  numbers = λ n. kept_self (number-confined n);
  operates₁ = λ u i {a} r. keeps (map₁-kept u i a.value) (ap (λ (c : Cell). map₁ u i c.value) r.alike);
  operates₂ = λ b {a} {c} {a'} {c'} r q.
      keeps (map₂-kept b a.value c.value) (ap (λ (x : Cell). map₂ b x.value c.value) r.alike ∙ ap (λ (x : Cell). map₂ b a'.value x.value) q.alike);
  conditions = λ {a} r. subst (λ (x : Cell). Covered (Narrower (Unit {0})) (condition a) (condition x)) r.alike (condition-refines same);
  blocks = λ {a} r. subst (λ (x : Cell). Covered ◌≡◌ (block a) (block x)) r.alike (block-refines same);
}

-- the answers of a primitive are all numbers
pub unknown-kept : Kept unknown unknown
unknown-kept = kept_self unknown-confined
