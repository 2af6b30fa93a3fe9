-- A range cut at a number, and the state with a part of one of its cells. Assumes nothing.
use mathlib.Core.Path.{◌≡◌, refl, sym, ◌∙◌}
use mathlib.Core.Bool.{Bool, true, false, ◌&&◌, true≢false, false≢true}
use mathlib.Core.Logic.{◌⊎◌, inl, inr}
use Prim.Native.Nat.{ℕ, ◌+◌, ◌≤◌, ◌<◌}
use native.Mathlib.Omega.{arith}
use lib.IntN.{ℤ, pos, ◌-ℤ◌}
use lib.Signed.{lt_z, le_z}
use Rattle.numbers.proofs.IntegerLaws.{over, under, sum_is, difference-is, le-true, le-false, le_yes, lt-true, lt-false, lt_yes}
use Rattle.cells.specs.Try.{Try, stuck, done}
use Rattle.cells.specs.declared.Value.{Value}
use Rattle.cells.specs.declared.Value.TheVariants.{Range, Handle}
use Rattle.cells.specs.declared.Cell.{Cell}
use Rattle.cells.specs.Cells.{cell, range, high, between}
use Rattle.cells.specs.Order.{Refines, same, Allowed, among, same_handle}
use Rattle.cells.specs.HeldConfined.{Confined, Kept}
use Rattle.cells.proofs.RangeLaws.{Linear, linear, covers, bits-down}
use Rattle.cells.proofs.CellLaws as cell_laws
use Rattle.cells.proofs.CellLaws.{Below, ranges, handles, allowed-refines, range-bits, confined-range, kept_self}
use Rattle.merge_cells.proofs.MergeLaws.{between_is}
use Rattle.cells.proofs.AllowLaws.{refines-where}
use Rattle.machine.specs.Machine.{State}
use Rattle.machine.specs.Order.{Cellwise}
use Rattle.machine.proofs.StateLaws.{cellwise-refl, cellwise-trans, cellwise-map, cellwise-self}
use Rattle.nearest_changes.specs.declared.Position.{Position}
use Rattle.nearest_changes.specs.Places.{cell_at, replace_at}
use Rattle.split_theory.specs.Split.{divides_value, lower_part, upper_part, divides_cell, divides, cut_to, below, from}
use Rattle.split_theory.proofs.PlaceLaws.{Alike, neither, each, cell-alike, replace-law, replace-right, replace-left, replace-there}

-- ---- one range

-- n divides the range of l and m beyond it, as facts about natural numbers
pub record Divided (n l : ℤ) (m : ℕ) : Type 0 where
  pub least : over l + under n < over n + under l
  pub greatest : over n + under l ≤ over l + under n + m

pub divided : (n l : ℤ) (m : ℕ) → (lt_z l n && le_z n (high l m)) ≡ true → Divided n l m
divided n l m e = go (lt_z l n) refl e
  where
    go : (b : Bool) → lt_z l n ≡ b → (b && le_z n (high l m)) ≡ true → Divided n l m
    go true p q =
        let x = lt-true l n p in let y = le-true n (high l m) q in let s = sum_is l (pos m) in
        record { least = omega arith; greatest = omega arith }
    go false p q = absurd (false≢true q)

pub divides-yes : (n l : ℤ) (m : ℕ) → Divided n l m → (lt_z l n && le_z n (high l m)) ≡ true
divides-yes n l m d =
    let s = sum_is l (pos m) in
    rw (lt_yes l n d.least) (le_yes n (high l m) (omega (arith, d.greatest)))

-- one that does not lies on one side
one_side : (n l : ℤ) (m : ℕ) → (lt_z l n && le_z n (high l m)) ≡ false → (over n + under l ≤ over l + under n) ⊎ (over l + under n + m < over n + under l)
one_side n l m e = go (lt_z l n) refl e
  where
    go : (b : Bool) → lt_z l n ≡ b → (b && le_z n (high l m)) ≡ false → (over n + under l ≤ over l + under n) ⊎ (over l + under n + m < over n + under l)
    go true p q = let y = le-false n (high l m) q in let s = sum_is l (pos m) in inr (omega arith)
    go false p q = inl (lt-false l n p)

-- what the two parts are
module _ (n l : ℤ) (m : ℕ) (d : Divided n l m) where
  pub record Lower (x : ℕ) : Type 0 where
    pub is : between l (n -ℤ pos 1) ≡ range l x
    pub far : over l + under n + x + 1 ≡ over n + under l

  pub lower-is : (x : ℕ) × Lower x
  lower-is =
      let s = difference-is n (pos 1) in
      let h = d.least in
      let b = between_is l (n -ℤ pos 1) (omega arith) in
      let f = b.1.far in
      (b.0, record { is = b.1.is; far = omega arith })

  pub record Upper (x : ℕ) : Type 0 where
    pub is : between n (high l m) ≡ range n x
    pub far : over n + under l + x ≡ over l + under n + m

  pub upper_is : (x : ℕ) × Upper x
  upper_is =
      let s = sum_is l (pos m) in
      let h = d.greatest in
      let b = between_is n (high l m) (omega arith) in
      let f = b.1.far in
      (b.0, record { is = b.1.is; far = omega arith })

-- ---- one cell

refine : {a b x y : Cell} → a ≡ x → b ≡ y → Refines x y → Refines a b
refine e f r = rw (e, f) r

-- what divides a value divides what covers it, and the parts are covered by the parts
record Deeper (n : ℤ) (v w : Value) : Type 0 where
  divides : divides_value n w ≡ true
  lower : Refines (lower_part n v) (lower_part n w)
  upper : Refines (upper_part n v) (upper_part n w)

deeper-value : (n : ℤ) {v w : Value} → Below v w → divides_value n v ≡ true → Deeper n v w
unfolding divides_value lower_part upper_part
deeper-value n (ranges {l} {l'} {m} {m'} i) e =
    let d = divided n l m e in
    let p = d.least in let q = d.greatest in let p' = i.least in let q' = i.greatest in
    let d' : Divided n l' m' = record { least = omega arith; greatest = omega arith } in
    let (x, a) = lower-is n l m d in let (x', a') = lower-is n l' m' d' in
    let (y, b) = upper_is n l m d in let (y', b') = upper_is n l' m' d' in
    let f = a.far in let f' = a'.far in let g = b.far in let g' = b'.far in
    record {
      divides = divides-yes n l' m' d';
      lower = refine a.is a'.is (covers (record { least = omega arith; greatest = omega arith }));
      upper = refine b.is b'.is (covers (record { least = omega arith; greatest = omega arith }));
    }
deeper-value n handles e = absurd (false≢true e)

-- a value that is covered by a divided one, and is not divided, is covered by a part
side-value : (n : ℤ) {v w : Value} → Below v w → divides_value n w ≡ true → divides_value n v ≡ false → Refines (cell v) (lower_part n w) ⊎ Refines (cell v) (upper_part n w)
unfolding divides_value lower_part upper_part
side-value n (ranges {l} {l'} {m} {m'} i) e f = go (one_side n l m f)
  where
    go : (over n + under l ≤ over l + under n) ⊎ (over l + under n + m < over n + under l) → Refines (range l m) (between l' (n -ℤ pos 1)) ⊎ Refines (range l m) (between n (high l' m'))
    go (inl h) =
        let (y, b) = upper_is n l' m' (divided n l' m' e) in
        let g = b.far in let q = i.greatest in
        inr (refine refl b.is (covers (record { least = omega arith; greatest = omega arith })))
    go (inr h) =
        let (x, a) = lower-is n l' m' (divided n l' m' e) in
        let g = a.far in let p = i.least in
        inl (refine refl a.is (covers (record { least = omega arith; greatest = omega arith })))
side-value n handles e f = absurd (false≢true e)

-- the parts of a value are covered by it, and apart
record Parts (n : ℤ) (v : Value) : Type 0 where
  lower : Refines (lower_part n v) (cell v)
  upper : Refines (upper_part n v) (cell v)
  apart : (a : Cell) → Allowed a (lower_part n v) → Allowed a (upper_part n v) → ⊥

number-linear : {a : Cell} {l l' : ℤ} {m m' : ℕ} → Allowed a (range l m) → Allowed a (range l' m') → (over l' + under l ≤ over l + under l' + m)
number-linear (among i) (among j) = let p = linear i in let q = linear j in omega arith

value-parts : (n : ℤ) (v : Value) → divides_value n v ≡ true → Parts n v
unfolding divides_value lower_part upper_part
value-parts n (Range l m) e =
    let d = divided n l m e in
    let p = d.least in let q = d.greatest in
    let (x, a) = lower-is n l m d in let (y, b) = upper_is n l m d in
    let f = a.far in let g = b.far in
    record {
      lower = refine a.is refl (covers (record { least = omega arith; greatest = omega arith }));
      upper = refine b.is refl (covers (record { least = omega arith; greatest = omega arith }));
      apart = λ z h k. let s = number-linear (rw a.is at h) (rw b.is at k) in omega arith;
    }
value-parts n (Handle k) e = absurd (false≢true e)

plain_value : (n : ℤ) {a b : Cell} → Allowed a b → divides_value n a.value ≡ false
unfolding divides_value
plain_value n (among {n = l} i) = go (lt_z l n && le_z n (high l 0)) refl
  where
    go : (b : Bool) → (lt_z l n && le_z n (high l 0)) ≡ b → b ≡ false
    go true e = let d = divided n l 0 e in let p = d.least in let q = d.greatest in absurd (omega arith)
    go false e = refl
plain_value n same_handle = refl

-- ---- states

module _ (p : Position) (n : ℤ) where
  -- the same of states: s knows more than t
  pub record Narrower (s t : State) : Type 0 where
    pub divides : divides p n t ≡ true
    pub lower : Cellwise Refines (below p n s) (below p n t)
    pub upper : Cellwise Refines (from p n s) (from p n t)

  pub narrower : {s t : State} → Cellwise Refines s t → divides p n s ≡ true → Narrower s t
  unfolding divides below from divides_cell cut_to
  narrower {s} {t} e h = let (a, b, c) = go (cell-alike p e) h in record { divides = a; lower = b; upper = c }
    where
      go : {x y : Try Cell} → Alike Refines x y → divides_cell n x ≡ true →
          (divides_cell n y ≡ true) × Cellwise Refines (cut_to (lower_part n) p x s) (cut_to (lower_part n) p y t) × Cellwise Refines (cut_to (upper_part n) p x s) (cut_to (upper_part n) p y t)
      go neither h = absurd (false≢true h)
      go (each r) h = let d = deeper-value n (cell_laws.below r) h in (d.divides, replace-law p e d.lower, replace-law p e d.upper)

  -- one that is not divided is on one side
  pub side : {s t : State} → Cellwise Refines s t → divides p n t ≡ true → divides p n s ≡ false → Cellwise Refines s (below p n t) ⊎ Cellwise Refines s (from p n t)
  unfolding divides below from divides_cell cut_to
  side {s} {t} e h k = go (cell_at p s) refl (cell-alike p e) h k
    where
      go : (x : Try Cell) → cell_at p s ≡ x → {y : Try Cell} → Alike Refines x y → divides_cell n y ≡ true → divides_cell n x ≡ false →
          Cellwise Refines s (cut_to (lower_part n) p y t) ⊎ Cellwise Refines s (cut_to (upper_part n) p y t)
      go stuck f neither h k = absurd (false≢true h)
      go (done a) f (each {b} r) h k = put (side-value n (cell_laws.below r) h k)
        where
          put : Refines a (lower_part n b.value) ⊎ Refines a (upper_part n b.value) →
              Cellwise Refines s (replace_at p (lower_part n b.value) t) ⊎ Cellwise Refines s (replace_at p (upper_part n b.value) t)
          put (inl q) = inl (replace-right p e f q)
          put (inr q) = inr (replace-right p e f q)

  -- the parts of a state are covered by it
  pub parts : (s : State) → divides p n s ≡ true → Cellwise Refines (below p n s) s × Cellwise Refines (from p n s) s
  unfolding divides below from divides_cell cut_to
  parts s h = go (cell_at p s) refl h
    where
      go : (x : Try Cell) → cell_at p s ≡ x → divides_cell n x ≡ true → Cellwise Refines (cut_to (lower_part n) p x s) s × Cellwise Refines (cut_to (upper_part n) p x s) s
      go stuck f h = absurd (false≢true h)
      go (done a) f h =
          let d = value-parts n a.value h in
          let e = cellwise-refl (λ c. same) s in
          (replace-left p e f d.lower, replace-left p e f d.upper)

  -- a plain state is not divided
  pub undivided : (s : State) → Cellwise Allowed s s → divides p n s ≡ false
  unfolding divides divides_cell
  undivided s e = go (cell-alike p e)
    where
      go : {x y : Try Cell} → Alike Allowed x y → divides_cell n x ≡ false
      go neither = refl
      go (each r) = plain_value n r

-- what a state allows, one that covers it allows
pub allowed-by : {s t u : State} → Cellwise Allowed s t → Cellwise Refines t u → Cellwise Allowed s u
allowed-by e f = cellwise-trans (λ a b c h r. (refines-where b c).0 r a h) e f

pub plain-self : {s t : State} → Cellwise Allowed s t → Cellwise Allowed s s
plain-self e = cellwise-self (λ a b h. cell_laws.allowed-plain h) e

pub erase : {s t : State} → Cellwise Allowed s t → Cellwise Refines s t
erase e = cellwise-map (λ a b h. allowed-refines h) e

meet : {x : Try Cell} {b d : Cell} → Alike Allowed x (done b) → Alike Allowed x (done d) → ((a : Cell) → Allowed a b → Allowed a d → ⊥) → ⊥
meet (each {a} r) (each q) k = k a r q

-- no state is in both parts
pub apart : (p : Position) (n : ℤ) (s : State) → divides p n s ≡ true → (t : State) → Cellwise Allowed t (below p n s) → Cellwise Allowed t (from p n s) → ⊥
unfolding divides below from divides_cell cut_to
apart p n s h t e f = go (cell_at p s) refl h e f
  where
    go : (x : Try Cell) → cell_at p s ≡ x → divides_cell n x ≡ true → Cellwise Allowed t (cut_to (lower_part n) p x s) → Cellwise Allowed t (cut_to (upper_part n) p x s) → ⊥
    go stuck i h e f = absurd (false≢true h)
    go (done a) i h e f =
        let l = replace-there p s (lower_part n a.value) i in
        let u = replace-there p s (upper_part n a.value) i in
        meet (rw l at (cell-alike p e)) (rw u at (cell-alike p f)) (value-parts n a.value h).apart

-- ---- a part is not divided again

done-value : (n : ℤ) (v : Value) → divides_value n v ≡ true → (divides_value n (lower_part n v).value ≡ false) × (divides_value n (upper_part n v).value ≡ false)
unfolding divides_value lower_part upper_part
done-value n (Range l m) e =
    let d = divided n l m e in
    let (x, a) = lower-is n l m d in let (y, b) = upper_is n l m d in
    (rw a.is (low x a (lt_z l n && le_z n (high l x)) refl), rw b.is (up y (lt_z n n && le_z n (high n y)) refl))
  where
    low : (x : ℕ) → Lower n l m (divided n l m e) x → (t : Bool) → (lt_z l n && le_z n (high l x)) ≡ t → t ≡ false
    low x a true f = let g = divided n l x f in let q = g.greatest in let h = a.far in absurd (omega arith)
    low x a false f = refl

    up : (y : ℕ) (t : Bool) → (lt_z n n && le_z n (high n y)) ≡ t → t ≡ false
    up y true f = let g = divided n n y f in let q = g.least in absurd (omega arith)
    up y false f = refl
done-value n (Handle k) e = absurd (false≢true e)

pub cut-done : (p : Position) (n : ℤ) (s : State) → divides p n s ≡ true → (divides p n (below p n s) ≡ false) × (divides p n (from p n s) ≡ false)
unfolding divides below from divides_cell cut_to
cut-done p n s h = go (cell_at p s) refl h
  where
    go : (x : Try Cell) → cell_at p s ≡ x → divides_cell n x ≡ true → (divides_cell n (cell_at p (cut_to (lower_part n) p x s)) ≡ false) × (divides_cell n (cell_at p (cut_to (upper_part n) p x s)) ≡ false)
    go stuck i h = absurd (false≢true h)
    go (done a) i h =
        let (l, u) = done-value n a.value h in
        (rw (replace-there p s (lower_part n a.value) i) l, rw (replace-there p s (upper_part n a.value) i) u)

-- nor is a state that knows more than one that is not divided
pub stays-whole : (p : Position) (n : ℤ) {s t : State} → Cellwise Refines s t → divides p n t ≡ false → divides p n s ≡ false
stays-whole p n {s} e h = go (divides p n s) refl
  where
    go : (b : Bool) → divides p n s ≡ b → b ≡ false
    go true f = absurd (true≢false (sym (narrower p n e f).divides ∙ h))
    go false f = refl

-- ---- parts whose numbers have as many bits

kept-value : (n : ℤ) (v : Value) → divides_value n v ≡ true → Confined (cell v) → Confined (lower_part n v) × Confined (upper_part n v)
unfolding divides_value lower_part upper_part
kept-value n (Range l m) e k =
    let d = divided n l m e in
    let p = d.least in let q = d.greatest in
    let (x, a) = lower-is n l m d in let (y, b) = upper_is n l m d in
    let f = a.far in let g = b.far in
    let i : Linear l x l m = record { least = omega arith; greatest = omega arith } in
    let j : Linear n y l m = record { least = omega arith; greatest = omega arith } in
    (rw a.is (confined-range (bits-down i (range-bits k))), rw b.is (confined-range (bits-down j (range-bits k))))
kept-value n (Handle k) e c = absurd (false≢true e)

pub parts-kept : (p : Position) (n : ℤ) (s : State) → divides p n s ≡ true → Cellwise Kept s s → Cellwise Kept (below p n s) (below p n s) × Cellwise Kept (from p n s) (from p n s)
unfolding divides below from divides_cell cut_to
parts-kept p n s h e = go (cell-alike p e) h
  where
    go : {x y : Try Cell} → Alike Kept x y → divides_cell n x ≡ true →
        Cellwise Kept (cut_to (lower_part n) p x s) (cut_to (lower_part n) p x s) × Cellwise Kept (cut_to (upper_part n) p x s) (cut_to (upper_part n) p x s)
    go neither h = absurd (false≢true h)
    go (each {a} r) h = let (l, u) = kept-value n a.value h r.kept in (replace-law p e (kept_self l), replace-law p e (kept_self u))
