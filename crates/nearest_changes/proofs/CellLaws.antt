-- The cells of the code's start by their places, and one of them replaced. Assumes nothing.
use Prim.Native.Nat.{ℕ, ◌+◌, ◌-◌, ◌<◌, ◌≤◌}
use mathlib.Core.Path.{◌≡◌, refl, sym, ap, ap₂, ◌∙◌}
use mathlib.Core.Bool.{Bool, true, false}
use mathlib.Core.List.{List, []}
use native.Mathlib.Omega.{arith}
use lib.Dec.{ltb}
use lib.IntN.{ℤ}
use lib.ListN.{length, get_or, set, length-set}
use lib.Seq.{get_or-drop, drop-set-add}
use borrow.Author.Tests.{ltb-true, ltb-false}
use Rattle.cells.specs.Try.{Try, stuck, done, ◌>>=◌}
use Rattle.cells.specs.declared.Cell.{Cell}
use Rattle.cells.specs.Cells.{range, handle, block, handled}
use Rattle.machine.specs.Lists.{nth, put}
use Rattle.machine.specs.Machine.{State, load, restack, reblock, get_field, set_field}
use Rattle.machine.proofs.ListLaws.{nth_in, nth-out, put_in, put-out}
use Rattle.machine_state.specs.declared.State as code
use Rattle.machine_state.specs.HeldState.{view, WellFormed, Fits, blocks_of, slot, whole}
use Rattle.machine_state.proofs.StateLaws.{height-is}
use Rattle.machine_state.proofs.BlockLaws.{get_field-slot, set_field-slot, slot-below}
use Rattle.nearest_changes.specs.declared.Position.{Position}
use Rattle.nearest_changes.specs.declared.Position.TheVariants.{Accu, Entry, Field}
use Rattle.nearest_changes.specs.Single.{single}
use Rattle.nearest_changes.specs.Places.{cell_at, replace_at}
use Rattle.nearest_changes.specs.Changes.{number_at}
use Rattle.nearest_changes.specs.Held.{Present}
use Rattle.nearest_changes.proofs.SingleLaws.{single-is}

pub never : {A X : Type 0} (a : A) → stuck ≡ done a → X
never a e = let z : ◌≡◌ {A = ℕ} 0 1 = cc in absurd (omega arith)

pub number-in : (p : Position) (s : State) (c : Cell) → cell_at p s ≡ done c → number_at p s ≡ single c
unfolding number_at ◌>>=◌
number-in p s c e = rw e refl

pub number-out : (p : Position) (s : State) → cell_at p s ≡ stuck → number_at p s ≡ stuck
unfolding number_at ◌>>=◌
number-out p s e = rw e refl

-- a number stands in a cell, which holds it alone
pub number-cell : (p : Position) (s : State) (v : ℤ) → number_at p s ≡ done v → cell_at p s ≡ done (range v 0)
unfolding number_at ◌>>=◌
number-cell p s v h = go (cell_at p s) h
  where
    go : (m : Try Cell) → (m >>= λ c. single c) ≡ done v → m ≡ done (range v 0)
    go stuck h = never v h
    go (done c) h = ap done (single-is c v h)

pub number-present : (p : Position) (s : State) (v : ℤ) → number_at p s ≡ done v → Present p s
number-present p s v h = record { cell = range v 0; there = number-cell p s v h }

-- a block set, in two ways
set-blocks : (k n : ℕ) (c : Cell) (bs x : List (List Cell)) (s : State) →
    (nth k bs >>= λ b. put n c b >>= λ b'. put k b' bs >>= λ bs'. done (reblock bs' s)) ≡ done (reblock x s) → x ≡ set bs k (set (get_or bs k []) n c)
unfolding ◌>>=◌ reblock
set-blocks k n c bs x s = outer (ltb k (length bs)) refl
  where
    inner : k < length bs → (b : Bool) → ltb n (length (get_or bs k [])) ≡ b →
        (put n c (get_or bs k []) >>= λ b'. put k b' bs >>= λ bs'. done (reblock bs' s)) ≡ done (reblock x s) → x ≡ set bs k (set (get_or bs k []) n c)
    inner h true l e =
        let f : done (reblock (set bs k (set (get_or bs k []) n c)) s) ≡ done (reblock x s)
        = rw (put_in n c (get_or bs k []) (ltb-true n (length (get_or bs k [])) l), put_in k (set (get_or bs k []) n c) bs h) at e in
        let g : reblock (set bs k (set (get_or bs k []) n c)) s ≡ reblock x s = cc in
        sym (ap (λ (r : State). r.blocks) g)
    inner h false l e = never (reblock x s) (rw (put-out n c (get_or bs k []) (ltb-false n (length (get_or bs k [])) l)) at e)

    outer : (b : Bool) → ltb k (length bs) ≡ b →
        (nth k bs >>= λ b. put n c b >>= λ b'. put k b' bs >>= λ bs'. done (reblock bs' s)) ≡ done (reblock x s) → x ≡ set bs k (set (get_or bs k []) n c)
    outer true h e = inner (ltb-true k (length bs) h) (ltb n (length (get_or bs k []))) refl (rw (nth_in k bs [] (ltb-true k (length bs) h)) at e)
    outer false h e = never (reblock x s) (rw (nth-out k bs (ltb-false k (length bs) h)) at e)

module _ (ns : List ℕ) (fs : List Cell) (s : code.State) where
  pub accu-there : cell_at Accu (whole ns fs s) ≡ done s.accu
  unfolding cell_at whole reblock
  accu-there = refl

  module _ (formed : WellFormed s) where
    pub entry-there : (n : ℕ) (d : Cell) → s.free + n < 64 → cell_at (Entry n) (whole ns fs s) ≡ done (get_or s.stack (s.free + n) d)
    unfolding cell_at whole reblock
    entry-there n d h = nth_in n (view s).stack d (omega (arith, height-is s formed)) ∙ ap done (get_or-drop s.free s.stack n d)

    pub entry-lacks : (n : ℕ) → 64 - s.free ≤ n → cell_at (Entry n) (whole ns fs s) ≡ stuck
    unfolding cell_at whole reblock
    entry-lacks n h = nth-out n (view s).stack (omega (arith, height-is s formed))

    pub entry-present : (n : ℕ) → Present (Entry n) (whole ns fs s) → s.free + n < 64
    entry-present n p = go (ltb n (64 - s.free)) refl
      where
        go : (b : Bool) → ltb n (64 - s.free) ≡ b → s.free + n < 64
        go true e = let h = ltb-true n (64 - s.free) e in let k = formed.free in omega arith
        go false e = never p.cell (sym (entry-lacks n (ltb-false n (64 - s.free) e)) ∙ p.there)

  module _ (fits : Fits ns fs) where
    -- a field, by its slot
    field-slot : (k n : ℕ) (d : Cell) → cell_at (Field k n) (whole ns fs s) ≡ (slot ns (handle k) n >>= λ j. done (get_or fs j d))
    unfolding cell_at whole reblock get_field block handled load ◌>>=◌
    field-slot k n d = get_field-slot ns fs fits (load (handle k) (whole ns fs s)) refl n d

    pub field-there : (k n j : ℕ) (d : Cell) → slot ns (handle k) n ≡ done j → cell_at (Field k n) (whole ns fs s) ≡ done (get_or fs j d)
    unfolding ◌>>=◌
    field-there k n j d e = field-slot k n d ∙ ap (λ m. m >>= λ i. done (get_or fs i d)) e

    pub field-lacks : (k n : ℕ) → slot ns (handle k) n ≡ stuck → cell_at (Field k n) (whole ns fs s) ≡ stuck
    unfolding ◌>>=◌
    field-lacks k n e = field-slot k n (handle 0) ∙ ap (λ m. m >>= λ i. done (get_or fs i (handle 0))) e

    pub field-present : {X : Type 0} (k n : ℕ) → Present (Field k n) (whole ns fs s) → slot ns (handle k) n ≡ stuck → X
    field-present k n p e = never p.cell (sym (field-lacks k n e) ∙ p.there)

    pub field-set : (k n j : ℕ) (c : Cell) → slot ns (handle k) n ≡ done j → blocks_of ns (set fs j c) ≡ (replace_at (Field k n) c (whole ns fs s)).blocks
    unfolding replace_at whole reblock set_field block handled load ◌>>=◌
    field-set k n j c e =
        let u = load (handle k) (whole ns fs s) in
        set-blocks k n c (blocks_of ns fs) (blocks_of ns (set fs j c)) u
        (set_field-slot ns fs fits u refl n c ∙ ap (λ m. m >>= λ i. done (reblock (blocks_of ns (set fs i c)) u)) e)

    pub slot-in : (k n j : ℕ) → slot ns (handle k) n ≡ done j → j < length fs
    slot-in k n j e = let b = slot-below ns fs fits (handle k) n j e in let r = fits.room in omega arith

-- an entry set
abbrev pub entered : ℕ → Cell → code.State → code.State
entered n c s = record { at = s.at; accu = s.accu; free = s.free; stack = set s.stack (s.free + n) c }

pub entry_set : (s : code.State) (n : ℕ) (c : Cell) → view (entered n c s) ≡ replace_at (Entry n) c (view s)
unfolding replace_at restack
entry_set s n c = rw (drop-set-add s.free s.stack n c) refl

pub entry-formed : (s : code.State) → WellFormed s → (n : ℕ) (c : Cell) → WellFormed (entered n c s)
entry-formed s f n c = record { free = f.free; places = length-set s.stack _ _ ∙ f.places }

-- the start by its two parts
pub whole-replaced : (ns : List ℕ) (fs gs : List Cell) (s t : code.State) (p : Position) (c : Cell) →
    view t ≡ replace_at p c (view s) → blocks_of ns gs ≡ (replace_at p c (whole ns fs s)).blocks → whole ns gs t ≡ replace_at p c (whole ns fs s)
unfolding whole replace_at load restack reblock
whole-replaced ns fs gs s t Accu c e b = ap₂ reblock b e
whole-replaced ns fs gs s t (Entry n) c e b = ap₂ reblock b e
whole-replaced ns fs gs s t (Field k n) c e b = ap₂ reblock b e

-- ---- what stays

pub replace-accu : (p : Position) (c : Cell) (s : State) → p ≡ Accu → load c s ≡ replace_at p c s
unfolding replace_at
replace-accu p c s e = rw e refl

-- the stack, without its blocks, has no field
pub replace-field : (p : Position) (c : Cell) (s : code.State) (k n : ℕ) → p ≡ Field k n → view s ≡ replace_at p c (view s)
unfolding replace_at reblock
replace-field p c s k n e = rw e refl

module _ (ns : List ℕ) (fs : List Cell) (s : code.State) (p : Position) (c : Cell) where
  pub accu-blocks : p ≡ Accu → blocks_of ns fs ≡ (replace_at p c (whole ns fs s)).blocks
  unfolding replace_at whole reblock load
  accu-blocks e = rw e refl

  pub entry-blocks : (n : ℕ) → p ≡ Entry n → blocks_of ns fs ≡ (replace_at p c (whole ns fs s)).blocks
  unfolding replace_at whole reblock restack
  entry-blocks n e = rw e refl
