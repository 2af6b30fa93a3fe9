-- Laws of comparisons of ranges: a comparison gives 1 exactly where it holds for every pair of numbers, 0 exactly where for none. Assumes
-- nothing.
use mathlib.Core.Path.{◌≡◌, refl, sym, ap, ◌∙◌}
use mathlib.Core.Bool.{Bool, true, false, cond, not, ◌&&◌, true≢false, false≢true}
use Prim.Native.Nat.{◌+◌, ◌≤◌}
use native.Mathlib.Omega.{arith}
use lib.IntN.{ℤ, pos}
use lib.Signed.{lt_z, le_z}
use Rattle.numbers.specs.Numbers.{same, holds, bit}
use Rattle.numbers.specs.declared.Comparison.{Comparison}
use Rattle.numbers.specs.declared.Comparison.TheVariants.{Equal, Unequal, Less, AtMost, Greater, AtLeast}
use Rattle.numbers.proofs.SignedLaws.{bit-keeps}
use Rattle.numbers.proofs.IntegerLaws.{over, under, le-true, le-false, le_yes, le-no, lt-true, lt-false, lt_yes, equal_by, same_true, same-yes}
use Rattle.cells.specs.declared.Cell.{Cell}
use Rattle.cells.specs.Cells.{range, exactly, always, negated, judged}
use Rattle.cells.specs.Order.{Refines, same as itself}
use Rattle.cells.proofs.RangeLaws.{covers}

-- n is one of the numbers from l to h
pub record Among (n l h : ℤ) : Type 0 where
  pub least : over l + under n ≤ over n + under l
  pub greatest : over n + under h ≤ over h + under n

pub among-low : {l h : ℤ} → le_z l h ≡ true → Among l l h
among-low {l} {h} e = record { least = omega arith; greatest = le-true l h e }

pub among-high : {l h : ℤ} → le_z l h ≡ true → Among h l h
among-high {l} {h} e = record { least = le-true l h e; greatest = omega arith }

or-true : (a b : Bool) {X : Type 0} → cond a true b ≡ true → (a ≡ true → X) → (b ≡ true → X) → X
or-true true b e f g = f refl
or-true false b e f g = g e

not_same : (m n : ℤ) → (m ≡ n → ⊥) → not (same m n) ≡ true
not_same m n f = go (same m n) refl
  where
    go : (t : Bool) → same m n ≡ t → not t ≡ true
    go true e = absurd (f (same_true m n e))
    go false e = refl

-- what `always` says holds of every pair
pub always-holds : (c : Comparison) {l h l' h' : ℤ} → always c l h l' h' ≡ true → (m n : ℤ) → Among m l h → Among n l' h' → holds c m n ≡ true
unfolding always holds
always-holds Equal {l} {h} {l'} {h'} e m n a b =
    let p = both (same l h') (same h l') e in
    let q = same_true l h' p.0 in
    let r = same_true h l' p.1 in
    let q' = ap over q in let q'' = ap under q in let r' = ap over r in let r'' = ap under r in
    same-yes m n (equal_by m n (omega (arith, a.least, a.greatest, b.least, b.greatest)))
  where
    both : (x y : Bool) → (x && y) ≡ true → (x ≡ true) × (y ≡ true)
    both true y e = (refl, e)
    both false y e = absurd (false≢true e)
always-holds Unequal {l} {h} {l'} {h'} e m n a b =
    or-true (lt_z h l') (lt_z h' l) e
    (λ p. not_same m n (λ q. let s = lt-true h l' p in let q' = ap over q in let q'' = ap under q in omega (arith, a.greatest, b.least)))
    (λ p. not_same m n (λ q. let s = lt-true h' l p in let q' = ap over q in let q'' = ap under q in omega (arith, a.least, b.greatest)))
always-holds Less {l} {h} {l'} {h'} e m n a b = let s = lt-true h l' e in lt_yes m n (omega (arith, a.greatest, b.least))
always-holds AtMost {l} {h} {l'} {h'} e m n a b = let s = le-true h l' e in le_yes m n (omega (arith, a.greatest, b.least))
always-holds Greater {l} {h} {l'} {h'} e m n a b = let s = lt-true h' l e in lt_yes n m (omega (arith, a.least, b.greatest))
always-holds AtLeast {l} {h} {l'} {h'} e m n a b = let s = le-true h' l e in le_yes n m (omega (arith, a.least, b.greatest))

-- what holds of every pair, `always` says
module _ {l h l' h' : ℤ} (some : le_z l h ≡ true) (some' : le_z l' h' ≡ true) where
  -- a number of both ranges, where neither is below the other
  apart : ((m n : ℤ) → Among m l h → Among n l' h' → holds Unequal m n ≡ true) → cond (lt_z h l') true (lt_z h' l) ≡ true
  unfolding holds
  apart f = go (lt_z h l') refl
    where
      alike : (n : ℤ) → Among n l h → Among n l' h' → ⊥
      alike n a b = true≢false (sym (f n n a b) ∙ ap not (same-yes n n refl))

      met : (t : Bool) → le_z l l' ≡ t → lt_z h l' ≡ false → lt_z h' l ≡ false → ⊥
      met true e p q = alike l' (record { least = le-true l l' e; greatest = lt-false h l' p }) (among-low some')
      met false e p q = alike l (among-low some) (record { least = let s = le-false l l' e in omega arith; greatest = lt-false h' l q })

      or : (t : Bool) → lt_z h' l ≡ t → lt_z h l' ≡ false → t ≡ true
      or true q p = refl
      or false q p = absurd (met (le_z l l') refl p q)

      go : (t : Bool) → lt_z h l' ≡ t → cond t true (lt_z h' l) ≡ true
      go true p = refl
      go false p = or (lt_z h' l) refl p

  pub holds-always : (c : Comparison) → ((m n : ℤ) → Among m l h → Among n l' h' → holds c m n ≡ true) → always c l h l' h' ≡ true
  unfolding always holds
  holds-always Equal f = rw (f l h' (among-low some) (among-high some'), f h l' (among-high some) (among-low some')) refl
  holds-always Unequal f = apart f
  holds-always Less f = f h l' (among-high some) (among-low some')
  holds-always AtMost f = f h l' (among-high some) (among-low some')
  holds-always Greater f = f l h' (among-low some) (among-high some')
  holds-always AtLeast f = f l h' (among-low some) (among-high some')

-- one comparison holds exactly where its opposite does not
not-not : (b : Bool) → b ≡ not (not b)
not-not true = refl
not-not false = refl

le_not_lt : (m n : ℤ) → le_z n m ≡ not (lt_z m n)
le_not_lt m n = go (lt_z m n) refl
  where
    go : (t : Bool) → lt_z m n ≡ t → le_z n m ≡ not t
    go true e = le-no n m (lt-true m n e)
    go false e = le_yes n m (lt-false m n e)

pub holds-opposite : (c : Comparison) (m n : ℤ) → holds (negated c) m n ≡ not (holds c m n)
unfolding holds negated
holds-opposite Equal m n = refl
holds-opposite Unequal m n = not-not (same m n)
holds-opposite Less m n = le_not_lt m n
holds-opposite AtMost m n = not-not (lt_z n m) ∙ ap not (sym (le_not_lt n m))
holds-opposite Greater m n = le_not_lt n m
holds-opposite AtLeast m n = not-not (lt_z m n) ∙ ap not (sym (le_not_lt m n))

not-false : (b : Bool) → not b ≡ true → b ≡ false
not-false true e = absurd (false≢true e)
not-false false e = refl

-- what `judged` gives
pub data Judged (c : Comparison) (l h l' h' : ℤ) : Cell → Type 0 where
  every : ((m n : ℤ) → Among m l h → Among n l' h' → holds c m n ≡ true) → Judged c l h l' h' (range (pos 1) 0)
  none : ((m n : ℤ) → Among m l h → Among n l' h' → holds c m n ≡ false) → Judged c l h l' h' (range (pos 0) 0)
  either : (((m n : ℤ) → Among m l h → Among n l' h' → holds c m n ≡ true) → ⊥) → (((m n : ℤ) → Among m l h → Among n l' h' → holds c m n ≡ false) → ⊥)
      → Judged c l h l' h' (range (pos 0) 1)

pub one-is : exactly (pos 1) ≡ range (pos 1) 0
one-is = ap (λ (z : ℤ). range z 0) (bit-keeps true)

pub zero_is : exactly (pos 0) ≡ range (pos 0) 0
zero_is = ap (λ (z : ℤ). range z 0) (bit-keeps false)

module _ (c : Comparison) {l h l' h' : ℤ} (some : le_z l h ≡ true) (some' : le_z l' h' ≡ true) where
  never : always (negated c) l h l' h' ≡ true → (m n : ℤ) → Among m l h → Among n l' h' → holds c m n ≡ false
  never e m n a b = not-false (holds c m n) (sym (holds-opposite c m n) ∙ always-holds (negated c) e m n a b)

  pub judged-is : Judged c l h l' h' (judged c l h l' h')
  unfolding judged
  judged-is = go (always c l h l' h') refl (always (negated c) l h l' h') refl
    where
      go : (t : Bool) → always c l h l' h' ≡ t → (r : Bool) → always (negated c) l h l' h' ≡ r
          → Judged c l h l' h' (cond t (exactly (pos 1)) (cond r (exactly (pos 0)) (range (pos 0) 1)))
      go true e r q = rw one-is (every (always-holds c e))
      go false e true q = rw zero_is (none (never q))
      go false e false q =
          either (λ f. true≢false (sym (holds-always some some' c f) ∙ e))
          (λ f. true≢false (sym (holds-always some some' (negated c) (λ m n a b. holds-opposite c m n ∙ ap not (f m n a b))) ∙ q))

-- ---- what is judged of less is covered by what is judged of more

-- the numbers of one range are among those of another
pub record Within (l h l' h' : ℤ) : Type 0 where
  pub all : (n : ℤ) → Among n l h → Among n l' h'

module _ (c : Comparison) {l h k j l' h' k' j' : ℤ} (some : le_z l h ≡ true) (other : le_z k j ≡ true) (left : Within l h l' h') (right : Within k j k' j') where
  -- what a comparison gives of one pair is both
  clash : {X : Type 0} → ((m n : ℤ) → Among m l h → Among n k j → holds c m n ≡ true) → ((m n : ℤ) → Among m l h → Among n k j → holds c m n ≡ false) → X
  clash f g = absurd (true≢false (sym (f l k (among-low some) (among-low other)) ∙ g l k (among-low some) (among-low other)))

  pub judged-refines : {x y : Cell} → Judged c l h k j x → Judged c l' h' k' j' y → Refines x y
  judged-refines (every f) (every g) = itself
  judged-refines (every f) (none g) = clash f (λ m n a b. g m n (left.all m a) (right.all n b))
  judged-refines (every f) (either g g') = covers (record { least = omega arith; greatest = omega arith })
  judged-refines (none f) (every g) = clash (λ m n a b. g m n (left.all m a) (right.all n b)) f
  judged-refines (none f) (none g) = itself
  judged-refines (none f) (either g g') = covers (record { least = omega arith; greatest = omega arith })
  judged-refines (either f f') (every g) = absurd (f (λ m n a b. g m n (left.all m a) (right.all n b)))
  judged-refines (either f f') (none g) = absurd (f' (λ m n a b. g m n (left.all m a) (right.all n b)))
  judged-refines (either f f') (either g g') = itself

-- what it gives of one pair
pub pair-judged : (c : Comparison) {l h l' h' : ℤ} (m n : ℤ) → Among m l h → Among n l' h' → {y : Cell} → Judged c l h l' h' y → Refines (exactly (bit (holds c m n))) y
pair-judged c m n a b (every f) = rw (f m n a b, one-is) itself
pair-judged c m n a b (none f) = rw (f m n a b, zero_is) itself
pair-judged c m n a b (either f g) = go (holds c m n)
  where
    go : (t : Bool) → Refines (exactly (bit t)) (range (pos 0) 1)
    go true = rw one-is (covers (record { least = omega arith; greatest = omega arith }))
    go false = rw zero_is (covers (record { least = omega arith; greatest = omega arith }))
