-- A cut that divides its cell and one that does not, as the code finds it, and what is found of two cases. Assumes nothing.
use Rattle.std.specs.Prelude.{Err, Ok, Result, ⊤}
use Prim.Native.Nat.{ℕ, suc, ◌+◌, ◌-◌, ◌<◌}
use mathlib.Core.Path.{◌≡◌, refl, sym, ap, ap₂, subst, ◌∙◌}
use mathlib.Core.Bool.{Bool, true, false, cond}
use mathlib.Core.List.{List, [], ◌∷◌}
use native.Mathlib.Omega.{arith}
use lib.IntN.{ℤ}
use Rattle.refusals.specs.declared.Refusal.{Refusal}
use Rattle.cells.specs.Try.{Try, stuck, done}
use Rattle.cells.specs.declared.Value.{Value}
use Rattle.cells.specs.declared.Cell.{Cell}
use Rattle.cells.specs.HeldConfined.{Kept}
use Rattle.machine.specs.Machine.{State, Code, load, restack, reblock}
use Rattle.machine.specs.Order.{Cellwise}
use Rattle.machine_state.specs.declared.State as states
use Rattle.machine_state.specs.HeldProgram.{sizes_of}
use Rattle.machine_state.specs.HeldState.{whole}
use Rattle.bound_theory.specs.Tree.{Report, Verdict, accepted, refused}
use Rattle.merge_theory.specs.Merge.{merged}
use Rattle.bound_figures.specs.declared.Found.{Found}
use Rattle.bound_figures.specs.HeldFigures.{encode, accepted_as, Shows}
use Rattle.merge_sweep.specs.HeldPass.{Figures}
use Rattle.nearest_changes.specs.declared.Position.{Position}
use Rattle.nearest_changes.specs.declared.Position.TheVariants.{Accu, Entry, Field}
use Rattle.nearest_changes.specs.Places.{cell_at, replace_at}
use Rattle.nearest_changes.specs.Held.{Present}
use Rattle.split_theory.specs.declared.Cuts.{Cuts}
use Rattle.split_theory.specs.Split.{divides_value, lower_part, upper_part, divides_cell, divides, cut_to, below, from, Cut, largest, larger, split}
use Rattle.split_theory.specs.Held.{cut_in, cuts_at, cuts_from}
use Rattle.split_theory.proofs.Theorems.{split-kept}
use Rattle.split_bound.specs.declared.Case.{Case}
use Rattle.split_bound.specs.declared.Parts.{Parts}
use Rattle.split_bound.specs.declared.Parts.TheVariants.{Two, Whole}
use Rattle.split_bound.specs.Held.{parts_of, parts_at, Splittable, Replaced, larger_by, larger_of}

-- ---- the cuts that are left

pub cuts-end : (x : Cuts) (i : ℕ) → i ≡ x.count → [] ≡ cuts_from x i
unfolding cuts_at
cuts-end x i e = let z : x.count - i ≡ 0 = omega arith in rw z refl

pub cuts-more : (x : Cuts) (i : ℕ) → i < x.count → cuts_from x i ≡ cut_in x i ∷ cuts_from x (i + 1)
unfolding cuts_at
cuts-more x i h =
    let m : x.count - i ≡ suc (x.count - (i + 1)) = omega arith in
    let n : i + 1 ≡ suc i = omega arith in
    rw m (ap (λ j. cut_in x i ∷ cuts_at x.places x.numbers j (x.count - (i + 1))) (sym n))

-- ---- a cut

cell-whole : (n : ℤ) (v : Value) → Whole ≡ parts_of n v → divides_value n v ≡ false
unfolding parts_of
cell-whole n v e = go (divides_value n v) e
  where
    go : (b : Bool) → Whole ≡ cond b (Two (lower_part n v) (upper_part n v)) Whole → b ≡ false
    go true e = absurd (let z : ◌≡◌ {A = ℕ} 0 1 = cc in omega arith)
    go false e = refl

-- n divides v, and these are the parts
record Both (n : ℤ) (v : Value) (l u : Cell) : Type 0 where
  divides : divides_value n v ≡ true
  lower : l ≡ lower_part n v
  upper : u ≡ upper_part n v

cell-two : (n : ℤ) (v : Value) (l u : Cell) → Two l u ≡ parts_of n v → Both n v l u
unfolding parts_of
cell-two n v l u e = go (divides_value n v) refl e
  where
    go : (b : Bool) → divides_value n v ≡ b → Two l u ≡ cond b (Two (lower_part n v) (upper_part n v)) Whole → Both n v l u
    go true p e = record { divides = p; lower = cc; upper = cc }
    go false p e = absurd (let z : ◌≡◌ {A = ℕ} 0 1 = cc in omega arith)

-- the parts of the cell that is there
pub held-parts : {r : Parts} {m n : ℤ} {x : Try Cell} {c : Cell} → r ≡ parts_of m c.value → m ≡ n → x ≡ done c → r ≡ parts_at n x
unfolding parts_at
held-parts {n = n} {c = c} e f g = e ∙ ap (λ k. parts_of k c.value) f ∙ sym (ap (parts_at n) g)

module _ (p : Position) (n : ℤ) (s : State) where
  pub cut-whole : Whole ≡ parts_at n (cell_at p s) → divides p n s ≡ false
  unfolding parts_at divides divides_cell
  cut-whole e = go (cell_at p s) e
    where
      go : (m : Try Cell) → Whole ≡ parts_at n m → divides_cell n m ≡ false
      go stuck e = refl
      go (done c) e = cell-whole n c.value e

  -- the cut divides its cell, and the states with the parts are the two cases
  pub record Divides (l u : Cell) : Type 0 where
    pub divided : divides p n s ≡ true
    pub there : Present p s
    pub lower : replace_at p l s ≡ below p n s
    pub upper : replace_at p u s ≡ from p n s

  pub cut-two : (l u : Cell) → Two l u ≡ parts_at n (cell_at p s) → Divides l u
  unfolding parts_at divides divides_cell below from cut_to
  cut-two l u e = go (cell_at p s) refl e
    where
      go : (m : Try Cell) → cell_at p s ≡ m → Two l u ≡ parts_at n m → Divides l u
      go stuck q e = absurd (let z : ◌≡◌ {A = ℕ} 0 1 = cc in omega arith)
      go (done c) q e =
          let b = cell-two n c.value l u e in
          record {
            divided = ap (divides_cell n) q ∙ b.divides;
            there = record { cell = c; there = q };
            lower = ap (λ d. replace_at p d s) b.lower ∙ sym (ap (λ m. cut_to (lower_part n) p m s) q);
            upper = ap (λ d. replace_at p d s) b.upper ∙ sym (ap (λ m. cut_to (upper_part n) p m s) q);
          }

-- a cell that is replaced leaves the address
pub replace-at : (p : Position) (c : Cell) (s : State) → (replace_at p c s).at ≡ s.at
unfolding replace_at load restack reblock
replace-at Accu c s = refl
replace-at (Entry k) c s = refl
replace-at (Field b k) c s = refl

-- ---- the cases can be cut and bounded in their turn

module _ {code : List ℕ} {start : states.State} {fields : List Cell} (s : Splittable code start fields) {p : Position} {n : ℤ} {l u : Cell}
    (d : Divides p n (whole (sizes_of code) fields start) l u) where
  both-kept : Cellwise Kept (below p n (whole (sizes_of code) fields start)) (below p n (whole (sizes_of code) fields start))
      × Cellwise Kept (from p n (whole (sizes_of code) fields start)) (from p n (whole (sizes_of code) fields start))
  both-kept = split-kept p n (whole (sizes_of code) fields start) d.divided s.numeric

  splittable : {c : Cell} {t : State} {r : Case} → Replaced code start fields p c r → replace_at p c (whole (sizes_of code) fields start) ≡ t → Cellwise Kept t t → Splittable code r.start r.blocks
  splittable x e k = record {
    program = s.program;
    formed = x.formed;
    room = x.room;
    numeric = subst (λ t. Cellwise Kept t t) (sym (x.is ∙ e)) k;
    placed = rw x.at s.placed;
  }

  pub lower-case : {r : Case} → Replaced code start fields p l r → Splittable code r.start r.blocks
  lower-case x = splittable x d.lower both-kept.0

  pub upper-case : {r : Case} → Replaced code start fields p u r → Splittable code r.start r.blocks
  upper-case x = splittable x d.upper both-kept.1

-- ---- the bound

pub split-none : (c : Code) {xs : List Cut} → [] ≡ xs → (s : State) → merged c s ≡ split c xs s
unfolding split
split-none c e s = ap (λ xs. split c xs s) e

module _ (c : Code) (x : Cut) (xs : List Cut) (s : State) where
  pub split-whole : divides x.place x.number s ≡ false → split c xs s ≡ split c (x ∷ xs) s
  unfolding split
  split-whole e =
      sym (ap (λ b. cond b (larger (split c xs (below x.place x.number s)) (split c xs (from x.place x.number s))) (split c xs s)) e)

  pub split-two : divides x.place x.number s ≡ true → larger (split c xs (below x.place x.number s)) (split c xs (from x.place x.number s)) ≡ split c (x ∷ xs) s
  unfolding split
  split-two e =
      sym (ap (λ b. cond b (larger (split c xs (below x.place x.number s)) (split c xs (from x.place x.number s))) (split c xs s)) e)

-- ---- what is found

pub shows : (f : Found) {v w : Verdict} → v ≡ w → Shows f v → Shows f w
shows f e h = subst (Shows f) e h

pub first-refused : (f : Found) (x : Refusal) (v w : Verdict) → f.verdict ≡ Err x → Shows f v → Shows f (larger v w)
unfolding larger accepted_as
first-refused f x (accepted q) w e h = absurd (let g = ap (λ (r : Found). r.verdict) h in let z : ◌≡◌ {A = ℕ} 0 1 = cc in omega arith)
first-refused f x (refused y) w e h = h

larger-by : (f g : Found) (q : Report) (w : Verdict) → f ≡ accepted_as q → Shows g w → Shows (larger_by f g g.verdict) (larger (accepted q) w)
unfolding larger largest larger_by accepted_as encode
larger-by f g q (accepted r) e h =
    ap (larger_by f g) (ap (λ (t : Found). t.verdict) h) ∙ ap₂ (λ a b. larger_by a b (Ok tt)) e h
larger-by f g q (refused y) e h = ap (λ v. (larger_by f g v).verdict) h ∙ h

pub larger-shown : (f g : Found) (v w : Verdict) → f.verdict ≡ Ok tt → Shows f v → Shows g w → Shows (larger_of f g) (larger v w)
unfolding larger_of
larger-shown f g (accepted q) w a h k = larger-by f g q w h k
larger-shown f g (refused y) w a h k = absurd (let z : ◌≡◌ {A = ℕ} 0 1 = cc in omega arith)

pub larger-figures : (f g : Found) → Figures 1025 f → Figures 1025 g → Figures 1025 (larger_of f g)
unfolding larger_of larger_by
larger-figures f g a b = go g.verdict
  where
    go : (v : Result ⊤ Refusal) → Figures 1025 (larger_by f g v)
    go (Ok tt) =
        record {
          used = omega (arith, a.used, b.used);
          cycles = omega (arith, a.cycles, b.cycles);
          words = omega (arith, a.words, b.words);
          depth = omega (arith, a.depth, b.depth);
        }
    go (Err x) = b
