-- Laws of what comes to an address: the way at hand, and what its row holds. Assumes nothing.
use Prim.Native.Nat.{ℕ, ◌+◌, ◌≤◌}
use mathlib.Core.Path.{◌≡◌, refl, sym, ap, ap₂, subst, ◌∙◌}
use mathlib.Core.Bool.{Bool, true, false, cond}
use mathlib.Core.List.{List, ◌∷◌}
use native.Mathlib.Nat.{max-le, le_trans}
use native.Mathlib.Omega.{arith}
use lib.Dec.{eqb}
use lib.ListN.{get_or}
use borrow.Author.Tests.{eqb-true, eqb-false, eq-eqb, ne_eqb}
use Rattle.cells.specs.Try.{Try, stuck, done}
use Rattle.machine.specs.Machine.{State, Price}
use Rattle.merge_theory.specs.Merge.{Arrival, Slot, empty, unlike, held, larger, settle, merge_states, join, Table, slot, arrive}
use Rattle.merge_rows.specs.declared.Way.{Way}
use Rattle.merge_sweep.specs.declared.Mark.TheVariants.{Nothing, Unlike, Is}
use Rattle.merge_rows.specs.HeldRows.{arrival_of, slot_in, arrival_in, join_at, with, waiting}
use Rattle.merge_sweep.specs.HeldPass.{came_as, Comes, Spent}
use Rattle.merge_rows.proofs.RowLaws.{slot-empty, slot_held, slot-unlike}
use Rattle.merge_rows.proofs.PartLaws.{comes-to}

-- ---- the way at hand

pub same_test : (a b c d : ℕ) → (a ≡ b → c ≡ d) → (c ≡ d → a ≡ b) → eqb a b ≡ eqb c d
same_test a b c d f g = go (eqb a b) refl
  where
    go : (t : Bool) → eqb a b ≡ t → t ≡ eqb c d
    go true e = sym (eq-eqb c d (f (eqb-true a b e)))
    go false e = sym (ne_eqb c d (λ h. eqb-false a b e (g h)))

-- it goes to the next address
pub falls : (ns : List ℕ) (w : Way) (first j b : ℕ) (s : Slot) → w.state.at ≡ first + j + 1 → waiting ns true w (j + 1) b s ≡ join_at (first + b) (arrival_of ns w) s
unfolding waiting with join_at
falls ns w first j b s e =
    let at : (arrival_of ns w).state.at ≡ first + j + 1 = comes-to ns w ∙ e in
    ap (λ (t : Bool). cond t (join s (arrival_of ns w)) s) (same_test b (j + 1) (first + b) (arrival_of ns w).state.at (λ h. omega arith) (λ h. omega arith))

-- there is none
pub alone : (ns : List ℕ) (w : Way) (j b : ℕ) (s : Slot) → waiting ns false w j b s ≡ s
unfolding waiting with
alone ns w j b s = go (eqb b j)
  where
    go : (t : Bool) → cond t s s ≡ s
    go true = refl
    go false = refl

-- at its own address, and at another
pub waiting-here : (ns : List ℕ) (here : Bool) (w : Way) (j : ℕ) (s : Slot) → waiting ns here w j j s ≡ with ns here w s
unfolding waiting
waiting-here ns here w j s = ap (λ (t : Bool). cond t (with ns here w s) s) (eq-eqb j j refl)

pub waiting-other : (ns : List ℕ) (here : Bool) (w : Way) (j b : ℕ) (s : Slot) → (b ≡ j → ⊥) → waiting ns here w j b s ≡ s
unfolding waiting
waiting-other ns here w j b s n = ap (λ (t : Bool). cond t (with ns here w s) s) (ne_eqb b j n)

-- ---- what a row holds, as the code's answer

module _ (ns : List ℕ) (at : ℕ) (r : List ℕ) where
  pub came-nothing : (w : Way) → get_or r 0 0 ≡ 0 → came_as ns Nothing w ≡ slot_in ns at r
  unfolding came_as
  came-nothing w e = sym (slot-empty ns at r e)

  pub came-way : (w : Way) → get_or r 0 0 ≡ 1 → arrival_of ns w ≡ arrival_in ns at r → came_as ns Is w ≡ slot_in ns at r
  unfolding came_as
  came-way w e a = ap (λ (x : Arrival). held x.state x.spent) a ∙ sym (slot_held ns at r e)

  pub came-unlike : (w : Way) → (get_or r 0 0 ≡ 0 → ⊥) → (get_or r 0 0 ≡ 1 → ⊥) → came_as ns Unlike w ≡ slot_in ns at r
  unfolding came_as
  came-unlike w n k = sym (slot-unlike ns at r n k)

-- ---- the same with the way at hand

pub with_none : (ns : List ℕ) (here : Bool) (w : Way) (s : Slot) → here ≡ false → s ≡ with ns here w s
unfolding with
with_none ns here w s e = ap (λ (b : Bool). with ns b w s) (sym e)

pub with_first : (ns : List ℕ) (here : Bool) (w : Way) (s : Slot) → here ≡ true → s ≡ empty → came_as ns Is w ≡ with ns here w s
unfolding with came_as join
with_first ns here w s e q = ap₂ (λ (b : Bool) (t : Slot). with ns b w t) (sym e) (sym q)

pub with-next : (ns : List ℕ) (here : Bool) (w : Way) (at : ℕ) (s t : ℕ → Slot) → here ≡ true → w.state.at ≡ at → t w.state.at ≡ join (s w.state.at) (arrival_of ns w)
    → t at ≡ with ns here w (s at)
unfolding with
with-next ns here w at s t e a q =
    ap t (sym a) ∙ q ∙ ap (λ (i : ℕ). join (s i) (arrival_of ns w)) a ∙ ap (λ (b : Bool). with ns b w (s at)) (sym e)

pub comes-here : (ns : List ℕ) (here : Bool) (w : Way) (at : ℕ) → here ≡ true → Comes ns here w at → Comes ns true w at
comes-here ns here w at e c = subst (λ (b : Bool). Comes ns b w at) e c

-- ---- the table of the definition

pub arrived : (x : Arrival) (tab : Table) (a : ℕ) → slot (arrive x tab a) ≡ join_at a x (slot (tab a))
unfolding arrive join_at slot
arrived x tab a = go (eqb a x.state.at)
  where
    go : (t : Bool) → slot (cond t (x ∷ tab a) (tab a)) ≡ cond t (join (slot (tab a)) x) (slot (tab a))
    go true = refl
    go false = refl

-- ---- sums

pub spent-more : (m n : ℕ) → m ≤ n → (s : Slot) → Spent m s → Spent n s
spent-more m n h empty p = tt
spent-more m n h unlike p = tt
spent-more m n h (held s q) p = (le_trans p.0 h, le_trans p.1 h)

settled : (m : ℕ) (p : Price) (t : Try State) → p.cycles ≤ m → p.words ≤ m → Spent m (settle p t)
unfolding settle
settled m p stuck h k = tt
settled m p (done s) h k = (h, k)

spent-join : (m : ℕ) (s : Slot) (x : Arrival) → Spent m s → x.spent.cycles ≤ m → x.spent.words ≤ m → Spent m (join s x)
unfolding join larger
spent-join m empty x p h k = (h, k)
spent-join m unlike x p h k = tt
spent-join m (held s q) x p h k = settled m (larger q x.spent) (merge_states s x.state) (max-le p.0 h) (max-le p.1 k)

pub spent-at : (m a : ℕ) (s : Slot) (x : Arrival) → Spent m s → x.spent.cycles ≤ m → x.spent.words ≤ m → Spent m (join_at a x s)
unfolding join_at
spent-at m a s x p h k = go (eqb a x.state.at)
  where
    go : (t : Bool) → Spent m (cond t (join s x) s)
    go true = spent-join m s x p h k
    go false = p
