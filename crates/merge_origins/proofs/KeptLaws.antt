-- Laws of what is kept for each goal: numbers are put down for one, and the others stay; one more has come. Assumes nothing.
use Prim.Native.Nat.{ℕ, zero, suc, ◌+◌, ◌*◌, ◌<◌, ◌≤◌}
use mathlib.Core.Path.{◌≡◌, refl, sym, ap, ◌∙◌}
use mathlib.Core.Bool.{Bool, true, false, cond}
use mathlib.Core.List.{List}
use native.Mathlib.Omega.{arith}
use lib.Dec.{eqb, ltb}
use lib.ListN.{replicate, length, get_or, set, length-set}
use lib.Seq.{get_or-set_same, get_or-set_other}
use borrow.Author.Tests.{eqb-true, eqb-false, eq-eqb, ne_eqb, ltb-true, ltb-false, lt-ltb, le-ltb}
use Rattle.bound_figures.specs.HeldFigures.{encode}
use Rattle.bound_figures.proofs.PartLaws.{encode-positive}
use Rattle.machine.specs.Machine.{State, Price, height}
use Rattle.bound_theory.specs.Tree.{Decision}
use Rattle.bound_theory.specs.Traces.{Move, move}
use Rattle.machine_step.specs.declared.Price as code
use Rattle.machine_step.specs.HeldStep.{of_price, SmallPrice}
use Rattle.merge_way.specs.Way.{out, to, same, Kept, nothing, kept, keep, Origins, nowhence, mark}
use Rattle.merge_origins.specs.declared.Last.{Last}
use Rattle.merge_origins.specs.HeldOrigins.{last_at, keep_last, last_by, IsLast, Holds, Keeps}

-- ---- numbers are put down

-- a record by its fields
last-is : (l : Last) {a b c d e f : ℕ} → a ≡ l.way → b ≡ l.sum → c ≡ l.cycles → d ≡ l.words → e ≡ l.depth → f ≡ l.row
    → ◌≡◌ {A = Last} (record { way = a; sum = b; cycles = c; words = d; depth = e; row = f }) l
last-is l a b c d e f = rw (a, b, c, d, e, f) refl

module _ (ks : List ℕ) (g : ℕ) (l : Last) (long : length ks ≡ 6156) (few : g < 1026) where
  abbrev ks1 : List ℕ
  ks1 = set ks (6 * g) l.way

  abbrev ks2 : List ℕ
  ks2 = set ks1 (6 * g + 1) l.sum

  abbrev ks3 : List ℕ
  ks3 = set ks2 (6 * g + 2) l.cycles

  abbrev ks4 : List ℕ
  ks4 = set ks3 (6 * g + 3) l.words

  abbrev ks5 : List ℕ
  ks5 = set ks4 (6 * g + 4) l.depth

  abbrev ks6 : List ℕ
  ks6 = set ks5 (6 * g + 5) l.row

  pub long1 : length ks1 ≡ 6156
  long1 = length-set ks (6 * g) l.way ∙ long

  pub long2 : length ks2 ≡ 6156
  long2 = length-set ks1 (6 * g + 1) l.sum ∙ long1

  pub long3 : length ks3 ≡ 6156
  long3 = length-set ks2 (6 * g + 2) l.cycles ∙ long2

  pub long4 : length ks4 ≡ 6156
  long4 = length-set ks3 (6 * g + 3) l.words ∙ long3

  pub long5 : length ks5 ≡ 6156
  long5 = length-set ks4 (6 * g + 4) l.depth ∙ long4

  -- a number that is none of the six
  untouched : (i : ℕ) → ((k : ℕ) → k < 6 → i ≡ 6 * g + k → ⊥) → get_or ks6 i 0 ≡ get_or ks i 0
  untouched i n =
      get_or-set_other ks5 (6 * g + 5) i l.row 0 (n 5 (omega arith))
      ∙ get_or-set_other ks4 (6 * g + 4) i l.depth 0 (n 4 (omega arith))
      ∙ get_or-set_other ks3 (6 * g + 3) i l.words 0 (n 3 (omega arith))
      ∙ get_or-set_other ks2 (6 * g + 2) i l.cycles 0 (n 2 (omega arith))
      ∙ get_or-set_other ks1 (6 * g + 1) i l.sum 0 (n 1 (omega arith))
      ∙ get_or-set_other ks (6 * g) i l.way 0 (λ e. n 0 (omega arith) (omega arith))

  -- those that are kept for another goal
  others : (h : ℕ) → (h ≡ g → ⊥) → last_at ks6 h ≡ last_at ks h
  unfolding last_at
  others h n =
      last-is (last_at ks h) (untouched (6 * h) (λ k f e. n (omega arith))) (untouched (6 * h + 1) (λ k f e. n (omega arith)))
      (untouched (6 * h + 2) (λ k f e. n (omega arith))) (untouched (6 * h + 3) (λ k f e. n (omega arith)))
      (untouched (6 * h + 4) (λ k f e. n (omega arith))) (untouched (6 * h + 5) (λ k f e. n (omega arith)))

  -- and for its own
  own : last_at ks6 g ≡ l
  unfolding last_at
  own =
      last-is l
      (get_or-set_other ks5 (6 * g + 5) (6 * g) l.row 0 (λ e. omega arith) ∙ get_or-set_other ks4 (6 * g + 4) (6 * g) l.depth 0 (λ e. omega arith)
      ∙ get_or-set_other ks3 (6 * g + 3) (6 * g) l.words 0 (λ e. omega arith) ∙ get_or-set_other ks2 (6 * g + 2) (6 * g) l.cycles 0 (λ e. omega arith)
      ∙ get_or-set_other ks1 (6 * g + 1) (6 * g) l.sum 0 (λ e. omega arith) ∙ get_or-set_same ks (6 * g) l.way 0 (omega arith))
      (get_or-set_other ks5 (6 * g + 5) (6 * g + 1) l.row 0 (λ e. omega arith) ∙ get_or-set_other ks4 (6 * g + 4) (6 * g + 1) l.depth 0 (λ e. omega arith)
      ∙ get_or-set_other ks3 (6 * g + 3) (6 * g + 1) l.words 0 (λ e. omega arith) ∙ get_or-set_other ks2 (6 * g + 2) (6 * g + 1) l.cycles 0 (λ e. omega arith)
      ∙ get_or-set_same ks1 (6 * g + 1) l.sum 0 (omega (arith, long1)))
      (get_or-set_other ks5 (6 * g + 5) (6 * g + 2) l.row 0 (λ e. omega arith) ∙ get_or-set_other ks4 (6 * g + 4) (6 * g + 2) l.depth 0 (λ e. omega arith)
      ∙ get_or-set_other ks3 (6 * g + 3) (6 * g + 2) l.words 0 (λ e. omega arith) ∙ get_or-set_same ks2 (6 * g + 2) l.cycles 0 (omega (arith, long2)))
      (get_or-set_other ks5 (6 * g + 5) (6 * g + 3) l.row 0 (λ e. omega arith) ∙ get_or-set_other ks4 (6 * g + 4) (6 * g + 3) l.depth 0 (λ e. omega arith)
      ∙ get_or-set_same ks3 (6 * g + 3) l.words 0 (omega (arith, long3)))
      (get_or-set_other ks5 (6 * g + 5) (6 * g + 4) l.row 0 (λ e. omega arith) ∙ get_or-set_same ks4 (6 * g + 4) l.depth 0 (omega (arith, long4)))
      (get_or-set_same ks5 (6 * g + 5) l.row 0 (omega (arith, long5)))

  pub put-down : (h : ℕ) → last_at ks6 h ≡ cond (eqb h g) l (last_at ks h)
  put-down h = go (eqb h g) refl
    where
      go : (t : Bool) → eqb h g ≡ t → last_at ks6 h ≡ cond t l (last_at ks h)
      go true e = ap (last_at ks6) (eqb-true h g e) ∙ own
      go false e = others h (eqb-false h g e)

-- ---- one more has come

module _ (l k : Last) where
  pub first-kept : k.way ≡ 0 → l ≡ keep_last l k
  unfolding keep_last
  first-kept z = rw (eq-eqb k.way 0 z) refl

  pub more-kept : (k.way ≡ 0 → ⊥) → k.sum < l.sum → l ≡ keep_last l k
  unfolding keep_last
  more-kept n m = rw (ne_eqb k.way 0 n, lt-ltb k.sum l.sum m) refl

  pub less-kept : (k.way ≡ 0 → ⊥) → l.sum ≤ k.sum → k ≡ keep_last l k
  unfolding keep_last
  less-kept n m = rw (ne_eqb k.way 0 n, le-ltb k.sum l.sum m) refl

-- it is put down
pub put-kept : (ks ks' : List ℕ) (g : ℕ) (l k : Last) → k ≡ last_at ks g → l ≡ keep_last l k → ((h : ℕ) → last_at ks' h ≡ cond (eqb h g) l (last_at ks h))
    → (h : ℕ) → last_at ks' h ≡ cond (eqb h g) (keep_last l (last_at ks g)) (last_at ks h)
put-kept ks ks' g l k e q p h = p h ∙ ap (λ (x : Last). cond (eqb h g) x (last_at ks h)) (q ∙ ap (keep_last l) e)

-- or not
pub stays-kept : (ks : List ℕ) (g : ℕ) (l k : Last) → k ≡ last_at ks g → k ≡ keep_last l k → (h : ℕ) → last_at ks h ≡ cond (eqb h g) (keep_last l (last_at ks g)) (last_at ks h)
stays-kept ks g l k e q h = go (eqb h g) refl
  where
    go : (t : Bool) → eqb h g ≡ t → last_at ks h ≡ cond t (keep_last l (last_at ks g)) (last_at ks h)
    go true i = ap (last_at ks) (eqb-true h g i) ∙ sym e ∙ q ∙ ap (keep_last l) e
    go false i = refl

-- what is kept then, by the definition
keep-holds : (first : ℕ) (l k : Last) (x : ℕ) (m : Move) (K : Kept) → Holds first k K → IsLast first l x m → Holds first (keep_last l k) (keep x m K)
unfolding keep
keep-holds first l k x m nothing h i = rw (← first-kept l k h) i
keep-holds first l k x m (kept y n) h i = go (ltb y x) refl
  where
    some : k.way ≡ 0 → ⊥
    some z = omega (arith, h.way, encode-positive n.decision)

    go : (t : Bool) → ltb y x ≡ t → Holds first (keep_last l k) (cond t (kept x m) (kept y n))
    go true e = rw (← more-kept l k some (omega (arith, h.sum, i.sum, ltb-true y x e))) i
    go false e = rw (← less-kept l k some (omega (arith, h.sum, i.sum, ltb-false y x e))) h

module _ (first : ℕ) (ks : List ℕ) (l : Last) (o : Origins) (p : Price) (m : Move) (holds : Keeps first ks o) (is : IsLast first l (p.cycles + m.price.cycles) m) where
  abbrev x : ℕ
  x = p.cycles + m.price.cycles

  -- to the address of row g
  pub mark-row : (ks' : List ℕ) (g at : ℕ) → g < 1025 → first + g ≡ at → ((h : ℕ) → last_at ks' h ≡ cond (eqb h g) (keep_last l (last_at ks g)) (last_at ks h)) → Keeps first ks' (mark p m (to at) o)
  unfolding mark same
  mark-row ks' g at few q e = record { rows = λ b c. rw (e b) (go b c (eqb b g) refl); stop = rw (e 1025, ne_eqb 1025 g (λ z. omega arith)) holds.stop }
    where
      go : (b : ℕ) → b < 1025 → (t : Bool) → eqb b g ≡ t → Holds first (cond t (keep_last l (last_at ks g)) (last_at ks b)) (cond (eqb (first + b) at) (keep x m (o (to (first + b)))) (o (to (first + b))))
      go b c true v =
          let z : b ≡ g = eqb-true b g v in
          rw (eq-eqb (first + b) at (omega arith), z) (keep-holds first l (last_at ks g) x m (o (to (first + g))) (holds.rows g few) is)
      go b c false v = let n = eqb-false b g v in rw (ne_eqb (first + b) at (λ y. n (omega arith))) (holds.rows b c)

  -- to an address that has no row
  pub mark-none : (at : ℕ) → ((b : ℕ) → b < 1025 → first + b ≡ at → ⊥) → Keeps first ks (mark p m (to at) o)
  unfolding mark same
  mark-none at n = record { rows = λ b c. rw (ne_eqb (first + b) at (n b c)) (holds.rows b c); stop = holds.stop }

  -- to STOP
  pub mark-stop : (ks' : List ℕ) → ((h : ℕ) → last_at ks' h ≡ cond (eqb h 1025) (keep_last l (last_at ks 1025)) (last_at ks h)) → Keeps first ks' (mark p m out o)
  unfolding mark same
  mark-stop ks' e = record {
    rows = λ b c. rw (e b, ne_eqb b 1025 (λ z. omega arith)) (holds.rows b c);
    stop = rw (e 1025) (keep-holds first l (last_at ks 1025) x m (o out) holds.stop is);
  }

-- the numbers of a move
pub is_last : (first row spent depth : ℕ) (l : Last) (way : ℕ) (c : code.Price) (p : Price) (s : State) (ds : List Decision) → l ≡ last_by way c spent depth row → way ≡ encode ds → p.cycles ≡ spent
    → s.at ≡ first + row → height s ≡ depth → row < 1025 → SmallPrice c → IsLast first l (p.cycles + c.cycles) (move s (of_price c) ds)
is_last first row spent depth l way c p s ds e w q a h few small = rw e (record {
  way = w;
  sum = omega arith;
  cycles = refl;
  words = refl;
  depth = sym h;
  at = sym a;
  inside = few;
  small = (small.cycles, small.words);
})

-- ---- nothing is kept yet

pub zeros : (n i : ℕ) → ◌≡◌ {A = ℕ} (get_or (replicate n 0) i 0) 0
zeros zero i = refl
zeros (suc n) zero = refl
zeros (suc n) (suc i) = zeros n i

pub nothing-kept : (first n : ℕ) → Keeps first (replicate n 0) nowhence
unfolding nowhence last_at
nothing-kept first n = record { rows = λ b h. zeros n (6 * b); stop = zeros n 6150 }
