-- What the states that come to an address are together: their merge covers them and is the least that does, its sums are the largest, and
-- there is none exactly where two of them are unlike. Assumes nothing.
use mathlib.Core.Path.{◌≡◌, refl, ap, subst}
use mathlib.Core.Bool.{Bool, true, false}
use mathlib.Core.Logic.{◌⊎◌, inl, inr}
use mathlib.Core.List.{List, [], ◌∷◌, map}
use Prim.Native.Nat.{ℕ, suc, max}
use native.Mathlib.Omega.{arith}
use lib.Dec.{eqb, ltb}
use lib.ListN.{length}
use borrow.Author.Tests.{eqb-true, eqb-false, ltb-true, ltb-false}
use Rattle.cells.specs.Try.{Try, stuck, done, ◌>>=◌}
use Rattle.cells.specs.Order.{Pointwise, end, cons}
use Rattle.merge_cells.specs.Merge.{merge_cells, Clash}
use Rattle.cells.specs.Covering.{Covered, by_stuck, both}
use Rattle.merge_cells.proofs.MergeLaws.{cells-clash, clash-down}
use Rattle.machine.specs.Machine.{State, Price, height}
use Rattle.merge_theory.specs.Merge.{merge_lists, merge_states, Arrival, Slot, empty, unlike, held, larger, settle, join, slot}
use Rattle.merge_theory.specs.Ways as ways
use Rattle.merge_theory.specs.Ways.{Among, first, later, Under, NoMore, Together, Somewhere, Unlike}
use Rattle.merge_theory.proofs.MergeLaws.{under-self, states-merging}
use Rattle.merge_theory.proofs.FillLaws.{among-head}

-- ---- two states cannot be merged exactly where they are parted: unlike, or with other blocks

-- two lists that have not one length, or somewhere two entries that are apart
pub data Apart {A : Type 0} (R : A → A → Type 0) : List A → List A → Type 0 where
  shorter : {y : A} {ys : List A} → Apart R [] (y ∷ ys)
  longer : {x : A} {xs : List A} → Apart R (x ∷ xs) []
  here : {x y : A} {xs ys : List A} → R x y → Apart R (x ∷ xs) (y ∷ ys)
  there : {x y : A} {xs ys : List A} → Apart R xs ys → Apart R (x ∷ xs) (y ∷ ys)

pub data Parted (s t : State) : Type 0 where
  in_accu : Clash s.accu t.accu → Parted s t
  in_stack : Apart Clash s.stack t.stack → Parted s t
  in_blocks : Apart (Apart Clash) s.blocks t.blocks → Parted s t

done-not : {A B : Type 0} (a : A) → done a ≡ stuck → B
done-not a e = let z : ◌≡◌ {A = ℕ} 0 1 = cc in absurd (omega arith)

first-stuck : {A B : Type 0} {m : Try A} (f : A → Try B) → m ≡ stuck → (m >>= f) ≡ stuck
unfolding ◌>>=◌
first-stuck f e = rw e refl

rest-stuck : {A B : Type 0} (m : Try A) (f : A → Try B) → ((a : A) → f a ≡ stuck) → (m >>= f) ≡ stuck
unfolding ◌>>=◌
rest-stuck stuck f h = refl
rest-stuck (done a) f h = h a

two-stuck : {A B C : Type 0} (m : Try A) (n : Try B) (k : A → B → C) → (m >>= λ a. n >>= λ b. done (k a b)) ≡ stuck → (m ≡ stuck) ⊎ (n ≡ stuck)
unfolding ◌>>=◌
two-stuck stuck n k e = inl refl
two-stuck (done a) stuck k e = inr refl
two-stuck (done a) (done b) k e = done-not (k a b) e

three-stuck : {A B C D : Type 0} (m : Try A) (n : Try B) (o : Try C) (k : A → B → C → D) →
    (m >>= λ a. n >>= λ b. o >>= λ c. done (k a b c)) ≡ stuck → (m ≡ stuck) ⊎ (n ≡ stuck) ⊎ (o ≡ stuck)
unfolding ◌>>=◌
three-stuck stuck n o k e = inl refl
three-stuck (done a) stuck o k e = inr (inl refl)
three-stuck (done a) (done b) stuck k e = inr (inr refl)
three-stuck (done a) (done b) (done c) k e = done-not (k a b c) e

module _ {A : Type 0} (f : A → A → Try A) (R : A → A → Type 0) where
  lists-apart : ((a b : A) → f a b ≡ stuck → R a b) → (xs ys : List A) → merge_lists f xs ys ≡ stuck → Apart R xs ys
  unfolding merge_lists
  lists-apart h [] [] e = done-not _ e
  lists-apart h [] (y ∷ ys) e = shorter
  lists-apart h (x ∷ xs) [] e = longer
  lists-apart h (x ∷ xs) (y ∷ ys) e = go (two-stuck (f x y) (merge_lists f xs ys) (λ z zs. z ∷ zs) e) (lists-apart h xs ys)
    where
      go : (f x y ≡ stuck) ⊎ (merge_lists f xs ys ≡ stuck) → (merge_lists f xs ys ≡ stuck → Apart R xs ys) → Apart R (x ∷ xs) (y ∷ ys)
      go (inl g) ih = here (h x y g)
      go (inr g) ih = there (ih g)

  apart-stuck : ((a b : A) → R a b → f a b ≡ stuck) → {xs ys : List A} → Apart R xs ys → merge_lists f xs ys ≡ stuck
  unfolding merge_lists
  apart-stuck h shorter = refl
  apart-stuck h longer = refl
  apart-stuck h (here {x} {y} r) = first-stuck _ (h x y r)
  apart-stuck h (there {x} {y} k) = rest-stuck (f x y) _ (λ z. first-stuck _ (apart-stuck h k))

stuck-parted : (s t : State) → merge_states s t ≡ stuck → Parted s t
unfolding merge_states
stuck-parted s t e = go (three-stuck (merge_cells s.accu t.accu) (merge_lists merge_cells s.stack t.stack) (merge_lists (merge_lists merge_cells) s.blocks t.blocks) _ e)
  where
    go : (merge_cells s.accu t.accu ≡ stuck) ⊎ (merge_lists merge_cells s.stack t.stack ≡ stuck) ⊎ (merge_lists (merge_lists merge_cells) s.blocks t.blocks ≡ stuck) → Parted s t
    go (inl g) = in_accu ((cells-clash s.accu t.accu).0 g)
    go (inr (inl g)) = in_stack (lists-apart merge_cells Clash (λ a b h. (cells-clash a b).0 h) s.stack t.stack g)
    go (inr (inr g)) =
        in_blocks (lists-apart (merge_lists merge_cells) (Apart Clash) (λ xs ys k. lists-apart merge_cells Clash (λ a b h. (cells-clash a b).0 h) xs ys k) s.blocks t.blocks g)

parted-stuck : (s t : State) → Parted s t → merge_states s t ≡ stuck
unfolding merge_states
parted-stuck s t (in_accu h) = first-stuck _ ((cells-clash s.accu t.accu).1 h)
parted-stuck s t (in_stack h) = rest-stuck _ _ (λ a. first-stuck _ (apart-stuck merge_cells Clash (λ a b h. (cells-clash a b).1 h) h))
parted-stuck s t (in_blocks h) =
    rest-stuck _ _ (λ a.
    rest-stuck _ _ (λ cs.
    first-stuck _ (apart-stuck (merge_lists merge_cells) (Apart Clash) (λ xs ys k. apart-stuck merge_cells Clash (λ a b h. (cells-clash a b).1 h) k) h)))

-- what is parted from a state is parted from all below it
apart-down : {A : Type 0} {R Q : A → A → Type 0} → ((a b c : A) → R a b → Q b c → Q a c) → {xs ys zs : List A} → Pointwise R xs ys → Apart Q ys zs → Apart Q xs zs
apart-down h end shorter = shorter
apart-down h (cons r rs) longer = longer
apart-down h (cons {a} {b} r rs) (here {y = c} q) = here (h a b c r q)
apart-down h (cons r rs) (there q) = there (apart-down h rs q)

parted-down : {s m t : State} → Under s m → Parted m t → Parted s t
parted-down u (in_accu h) = in_accu (clash-down u.accu h)
parted-down u (in_stack h) = in_stack (apart-down (λ a b c r q. clash-down r q) u.stack h)
parted-down u (in_blocks h) = in_blocks (apart-down (λ xs ys zs r q. apart-down (λ a b c r q. clash-down r q) r q) u.blocks h)

-- where the blocks are of one size, parted is unlike

parted-cells : {A : Type 0} {R : A → A → Type 0} {xs ys : List A} → length xs ≡ length ys → Apart R xs ys → Somewhere R xs ys
parted-cells e shorter = absurd (omega arith)
parted-cells e longer = absurd (omega arith)
parted-cells e (here r) = ways.here r
parted-cells e (there k) = ways.there (parted-cells (omega arith) k)

parted-lists : {A : Type 0} {R : A → A → Type 0} (xs ys : List (List A)) → map length xs ≡ map length ys → Apart (Apart R) xs ys → Somewhere (Somewhere R) xs ys
parted-lists [] [] e k = elim k [ ]
parted-lists [] (y ∷ ys) e k = let z : ◌≡◌ {A = ℕ} 0 1 = cc in absurd (omega arith)
parted-lists (x ∷ xs) [] e k = let z : ◌≡◌ {A = ℕ} 0 1 = cc in absurd (omega arith)
parted-lists (x ∷ xs) (y ∷ ys) e (here k) = let h : length x ≡ length y = cc in ways.here (parted-cells h k)
parted-lists (x ∷ xs) (y ∷ ys) e (there k) = let h : map length xs ≡ map length ys = cc in ways.there (parted-lists xs ys h k)

pub parted-unlike : (s t : State) → map length s.blocks ≡ map length t.blocks → Parted s t → Unlike s t
unfolding height
parted-unlike s t e (in_accu h) = ways.in_accu h
parted-unlike s t e (in_stack h) = go (eqb (height s) (height t)) refl
  where
    go : (b : Bool) → eqb (height s) (height t) ≡ b → Unlike s t
    go true f = ways.in_stack (parted-cells (eqb-true (height s) (height t) f) h)
    go false f = ways.heights (eqb-false (height s) (height t) f)
parted-unlike s t e (in_blocks h) = ways.in_blocks (parted-lists s.blocks t.blocks e h)

-- what is unlike is parted

lengths-apart : {A : Type 0} {R : A → A → Type 0} (xs ys : List A) → (length xs ≡ length ys → ⊥) → Apart R xs ys
lengths-apart [] [] h = absurd (h refl)
lengths-apart [] (y ∷ ys) h = shorter
lengths-apart (x ∷ xs) [] h = longer
lengths-apart (x ∷ xs) (y ∷ ys) h = there (lengths-apart xs ys (λ e. h (ap suc e)))

somewhere-apart : {A : Type 0} {R Q : A → A → Type 0} → ((a b : A) → R a b → Q a b) → {xs ys : List A} → Somewhere R xs ys → Apart Q xs ys
somewhere-apart f (ways.here {x} {y} r) = here (f x y r)
somewhere-apart f (ways.there k) = there (somewhere-apart f k)

pub unlike-parted : (s t : State) → Unlike s t → Parted s t
unfolding height
unlike-parted s t (ways.heights h) = in_stack (lengths-apart s.stack t.stack h)
unlike-parted s t (ways.in_accu h) = in_accu h
unlike-parted s t (ways.in_stack h) = in_stack (somewhere-apart (λ a b r. r) h)
unlike-parted s t (ways.in_blocks h) = in_blocks (somewhere-apart (λ xs ys k. somewhere-apart (λ a b r. r) k) h)

-- ---- all that come

pub data Summary (xs : List Arrival) : Slot → Type 0 where
  of_none : xs ≡ [] → Summary xs empty
  of-unlike : {x y : Arrival} → Among x xs → Among y xs → Parted x.state y.state → Summary xs unlike
  of-held : {m : State} {p : Price} → Together xs m p → Summary xs (held m p)

above-done : {s t : State} {m : Try State} → Covered Under (done s) m → m ≡ done t → Under s t
above-done by_stuck e = let z : ◌≡◌ {A = ℕ} 0 1 = cc in absurd (omega arith)
above-done {t = t} (both {b = v} u) e = let h : v ≡ t = cc in rw h at u

below-done : {s t : State} {m : Try State} → Covered Under m (done t) → m ≡ done s → Under s t
below-done {s} (both {a = v} u) e = let h : v ≡ s = cc in rw h at u

pub nobody : {x : Arrival} {xs : List Arrival} → xs ≡ [] → Among x xs → ⊥
nobody e first = let z : ◌≡◌ {A = ℕ} 0 1 = cc in omega arith
nobody e (later k) = let z : ◌≡◌ {A = ℕ} 0 1 = cc in omega arith

same-state : {x y : Arrival} → x ≡ y → Under x.state y.state
same-state {y} e = rw e (under-self y.state)

same-spent : {x y : Arrival} → x ≡ y → NoMore x.spent y.spent
same-spent {y} e = rw e (omega arith)

no-more-first : {p q : Price} (r : Price) → NoMore p q → NoMore p (larger q r)
unfolding larger
no-more-first r h = omega (arith, h)

no-more-second : {p r : Price} (q : Price) → NoMore p r → NoMore p (larger q r)
unfolding larger
no-more-second q h = omega (arith, h)

one : (x : Arrival) (xs : List Arrival) → xs ≡ [] → Together (x ∷ xs) x.state x.spent
one x xs e = record {
  covers = λ y h. (alone y (among-head h)).0;
  least = λ u h. h x first;
  sums = λ y h. (alone y (among-head h)).1;
  cycles = (x, first, refl);
  words = (x, first, refl);
}
  where
    alone : (y : Arrival) → (y ≡ x) ⊎ Among y xs → Under y.state x.state × NoMore y.spent x.spent
    alone y (inl h) = (same-state h, same-spent h)
    alone y (inr h) = absurd (nobody e h)

-- one of two has the larger number
largest : (f : Arrival → ℕ) (x : Arrival) (xs : List Arrival) (k : ℕ) → (y : Arrival) × Among y xs × (f y ≡ k) → (y : Arrival) × Among y (x ∷ xs) × (f y ≡ max k (f x))
largest f x xs k (y, h, e) = go (ltb k (f x)) refl
  where
    go : (t : Bool) → ltb k (f x) ≡ t → (y : Arrival) × Among y (x ∷ xs) × (f y ≡ max k (f x))
    go true t = let l = ltb-true k (f x) t in (x, first, omega arith)
    go false t = let l = ltb-false k (f x) t in (y, later h, omega arith)

another : (x : Arrival) (xs : List Arrival) (m n : State) (p : Price) → Together xs m p → merge_states m x.state ≡ done n → Together (x ∷ xs) n (larger p x.spent)
unfolding larger
another x xs m n p h e = record {
  covers = λ y k. (each y (among-head k)).0;
  least = λ u k. below-done (states-merging.least m x.state u (h.least u (λ y l. k y (later l))) (k x first)) e;
  sums = λ y k. (each y (among-head k)).1;
  cycles = largest (λ y. y.spent.cycles) x xs p.cycles h.cycles;
  words = largest (λ y. y.spent.words) x xs p.words h.words;
}
  where
    each : (y : Arrival) → (y ≡ x) ⊎ Among y xs → Under y.state n × NoMore y.spent (larger p x.spent)
    each y (inl k) = (above-done (states-merging.right y.state m x.state (same-state k)) e, no-more-second p (same-spent k))
    each y (inr k) = (above-done (states-merging.left y.state m x.state (h.covers y k)) e, no-more-first x.spent (h.sums y k))

join-summary : (x : Arrival) (xs : List Arrival) {i : Slot} → Summary xs i → Summary (x ∷ xs) (join i x)
unfolding join settle
join-summary x xs (of_none e) = of-held (one x xs e)
join-summary x xs (of-unlike a b u) = of-unlike (later a) (later b) u
join-summary x xs (of-held {m} {p} h) = go (merge_states m x.state) refl
  where
    apart : merge_states m x.state ≡ stuck → Summary (x ∷ xs) unlike
    apart e = let (y, k, l) = h.cycles in of-unlike (later k) first (parted-down (h.covers y k) (stuck-parted m x.state e))

    go : (n : Try State) → merge_states m x.state ≡ n → Summary (x ∷ xs) (settle (larger p x.spent) n)
    go stuck e = apart e
    go (done n) e = of-held (another x xs m n p h e)

pub summary : (xs : List Arrival) → Summary xs (slot xs)
unfolding slot
summary [] = of_none refl
summary (x ∷ xs) = join-summary x xs (summary xs)

-- read off a slot

pub slot_held : {xs : List Arrival} {i : Slot} {m : State} {p : Price} → Summary xs i → i ≡ held m p → Together xs m p
slot_held (of_none h) e = let z : ◌≡◌ {A = ℕ} 0 1 = cc in absurd (omega arith)
slot_held (of-unlike a b u) e = let z : ◌≡◌ {A = ℕ} 0 1 = cc in absurd (omega arith)
slot_held {xs} {m = m} {p = p} (of-held {m = n} {p = q} h) e =
    let k : n ≡ m = cc in
    let l : q ≡ p = cc in
    subst (λ x. Together xs m x) l (subst (λ x. Together xs x q) k h)

pub slot-unlike : {xs : List Arrival} {i : Slot} {x y : Arrival} → Summary xs i → Among x xs → Among y xs → Parted x.state y.state → i ≡ unlike
slot-unlike (of_none h) a b u = absurd (nobody h a)
slot-unlike (of-unlike a' b' u') a b u = refl
slot-unlike {x = x} {y = y} (of-held {m} h) a b u = refute (states-merging.least x.state y.state m (h.covers x a) (h.covers y b)) (parted-stuck x.state y.state u)
  where
    refute : {B : Type 0} {n : Try State} {v : State} → Covered Under n (done v) → n ≡ stuck → B
    refute (both k) e = done-not _ e
