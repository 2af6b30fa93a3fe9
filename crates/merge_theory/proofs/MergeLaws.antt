-- Merging lists and states: the merge covers both, and what covers both covers it. Only the laws of merging cells are used.
-- Assumes nothing.
use mathlib.Core.Path.{◌≡◌, refl, ap, ap₂}
use mathlib.Core.List.{List, [], ◌∷◌, map}
use Prim.Native.Nat.{suc}
use lib.ListN.{length}
use Rattle.cells.specs.Try.{Try, done, ◌>>=◌}
use Rattle.cells.specs.Order.{Refines, same, Pointwise, end, cons}
use Rattle.cells.specs.Covering.{Covered, by_stuck, both}
use Rattle.merge_cells.proofs.MergeLaws.{Merging, cell-merging}
use Rattle.machine.specs.Machine.{State, height}
use Rattle.machine.specs.Order.{Cellwise}
use Rattle.machine.proofs.StateLaws.{cellwise-refl}
use Rattle.merge_theory.specs.Merge.{merge_lists, merge_states}
use Rattle.merge_theory.specs.Ways.{Under}

-- merging is monotone
module _ {A : Type 0} {R : A → A → Type 0} {f : A → A → Try A} (M : Merging R f) where
  below : (a b : A) {m : Try A} → Covered R (done a) m → Covered R (done b) m → Covered R (f a b) m
  below a b by_stuck q = by_stuck
  below a b (both {b = c} r) (both q) = M.least a b c r q

  pub merging-monotone : (a b a' b' : A) → R a a' → R b b' → Covered R (f a b) (f a' b')
  merging-monotone a b a' b' p q = below a b (M.left a a' b' p) (M.right b a' b' q)

under : {A B : Type 0} {R : A → A → Type 0} {Q : B → B → Type 0} {a : A} {x : B} {m : Try A} {g : A → Try B} →
    Covered R (done a) m → ((b : A) → R a b → Covered Q (done x) (g b)) → Covered Q (done x) (m >>= g)
unfolding ◌>>=◌
under by_stuck k = by_stuck
under (both {b} r) k = k b r

over : {A B : Type 0} {R : A → A → Type 0} {Q : B → B → Type 0} {c : A} {x : B} {m : Try A} {g : A → Try B} →
    Covered R m (done c) → ((b : A) → R b c → Covered Q (g b) (done x)) → Covered Q (m >>= g) (done x)
unfolding ◌>>=◌
over (both {a} r) k = k a r

-- lists

module _ {A : Type 0} {R : A → A → Type 0} {f : A → A → Try A} (M : Merging R f) where
  lists-left : (zs : List A) → {xs ys : List A} → Pointwise R xs ys → Covered (Pointwise R) (done xs) (merge_lists f ys zs)
  unfolding merge_lists
  lists-left [] end = both end
  lists-left (z ∷ zs) end = by_stuck
  lists-left [] (cons r rs) = by_stuck
  lists-left (z ∷ zs) (cons r rs) = under (M.left _ _ z r) (λ b h. under (lists-left zs rs) (λ bs hs. both (cons h hs)))

  lists-right : (ys : List A) → {xs zs : List A} → Pointwise R xs zs → Covered (Pointwise R) (done xs) (merge_lists f ys zs)
  unfolding merge_lists
  lists-right [] end = both end
  lists-right (y ∷ ys) end = by_stuck
  lists-right [] (cons r rs) = by_stuck
  lists-right (y ∷ ys) (cons r rs) = under (M.right _ y _ r) (λ b h. under (lists-right ys rs) (λ bs hs. both (cons h hs)))

  lists-least : {xs ys zs : List A} → Pointwise R xs zs → Pointwise R ys zs → Covered (Pointwise R) (merge_lists f xs ys) (done zs)
  unfolding merge_lists
  lists-least end end = both end
  lists-least (cons r rs) (cons q qs) = over (M.least _ _ _ r q) (λ b h. over (lists-least rs qs) (λ bs hs. both (cons h hs)))

  pub lists-merging : Merging (Pointwise R) (merge_lists f)
  lists-merging = record { left = λ a b c r. lists-left c r; right = λ a b c r. lists-right b r; least = λ a b c p q. lists-least p q }

-- states, whatever their addresses

pub cellwise-under : {s t : State} → Cellwise Refines s t → Under s t
cellwise-under e = record { accu = e.accu; stack = e.stack; blocks = e.blocks }

pub under-self : (s : State) → Under s s
under-self s = cellwise-under (cellwise-refl (λ a. same) s)

pointwise-length : {A : Type 0} {R : A → A → Type 0} {xs ys : List A} → Pointwise R xs ys → length xs ≡ length ys
pointwise-length end = refl
pointwise-length (cons r rs) = ap suc (pointwise-length rs)

pointwise-sizes : {A : Type 0} {R : A → A → Type 0} {xs ys : List (List A)} → Pointwise (Pointwise R) xs ys → map length xs ≡ map length ys
pointwise-sizes end = refl
pointwise-sizes (cons r rs) = ap₂ ◌∷◌ (pointwise-length r) (pointwise-sizes rs)

-- what one state is under has as many entries, and blocks of the same sizes
pub under-height : {s t : State} → Under s t → height s ≡ height t
unfolding height
under-height u = pointwise-length u.stack

pub under-sizes : {s t : State} → Under s t → map length s.blocks ≡ map length t.blocks
under-sizes u = pointwise-sizes u.blocks

pub states-merging : Merging Under merge_states
unfolding merge_states
states-merging =
    let m = cell-merging in
    let ms = lists-merging cell-merging in
    let mss = lists-merging (lists-merging cell-merging) in
    record {
      left = λ a b c r.
          under (m.left _ _ c.accu r.accu) (λ x h.
          under (ms.left _ _ c.stack r.stack) (λ y k.
          under (mss.left _ _ c.blocks r.blocks) (λ z l. both (record { accu = h; stack = k; blocks = l }))));
      right = λ a b c r.
          under (m.right _ b.accu _ r.accu) (λ x h.
          under (ms.right _ b.stack _ r.stack) (λ y k.
          under (mss.right _ b.blocks _ r.blocks) (λ z l. both (record { accu = h; stack = k; blocks = l }))));
      least = λ a b c p q.
          over (m.least _ _ _ p.accu q.accu) (λ x h.
          over (ms.least _ _ _ p.stack q.stack) (λ y k.
          over (mss.least _ _ _ p.blocks q.blocks) (λ z l. both (record { accu = h; stack = k; blocks = l }))));
    }
