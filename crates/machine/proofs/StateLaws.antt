-- The parts of a step keep a relation of cells: lists, the state's replacements, push and pop. Assumes nothing.
use mathlib.Core.Path.{◌≡◌, refl, ◌∙◌, ap}
use mathlib.Core.Bool.{Bool, true, false, cond}
use mathlib.Core.List.{List, [], ◌∷◌}
use Prim.Native.Nat.{ℕ, zero, suc}
use lib.Dec.{ltb}
use lib.ListN.{length}
use Rattle.cells.specs.Try.{stuck, done}
use Rattle.cells.specs.declared.Cell.{Cell}
use Rattle.cells.specs.Order.{Pointwise, end, cons}
use Rattle.cells.specs.Covering.{Covered, by_stuck, both}
use Rattle.cells.proofs.Covering.{bind}
use Rattle.machine.specs.Lists.{nth, put, without}
use Rattle.machine.specs.Machine.{State, stack_limit, height, jump, load, restack, reblock, push, pop, advance}
use Rattle.machine.specs.Order.{Cellwise}

module _ {A : Type 0} {Q : A → A → Type 0} where
  pub nth-law : {m n : ℕ} → m ≡ n → {xs ys : List A} → Pointwise Q xs ys → Covered Q (nth m xs) (nth n ys)
  unfolding nth
  nth-law {m} {n} e h = rw e (go n h)
    where
      go : (n : ℕ) {xs ys : List A} → Pointwise Q xs ys → Covered Q (nth n xs) (nth n ys)
      go n end = by_stuck
      go zero (cons q qs) = both q
      go (suc n) (cons q qs) = go n qs

  pub put-law : {m n : ℕ} {xs ys : List A} {x y : A} → m ≡ n → Pointwise Q xs ys → Q x y → Covered (Pointwise Q) (put m x xs) (put n y ys)
  unfolding put
  put-law {m} {n} e h q = rw e (go n h q)
    where
      go : (n : ℕ) {xs ys : List A} {x y : A} → Pointwise Q xs ys → Q x y → Covered (Pointwise Q) (put n x xs) (put n y ys)
      go n end q = by_stuck
      go zero (cons r rs) q = both (cons q rs)
      go (suc n) (cons r rs) q = bind (go n rs q) (λ a b h. both (cons r h))

  without-law : (n : ℕ) {xs ys : List A} → Pointwise Q xs ys → Covered (Pointwise Q) (without n xs) (without n ys)
  unfolding without
  without-law zero h = both h
  without-law (suc n) end = by_stuck
  without-law (suc n) (cons q qs) = without-law n qs

  length-law : {xs ys : List A} → Pointwise Q xs ys → length xs ≡ length ys
  length-law end = refl
  length-law (cons q qs) = ap suc (length-law qs)

module _ {R : Cell → Cell → Type 0} where
  pub height-law : {s t : State} → Cellwise R s t → height s ≡ height t
  unfolding height
  height-law e = length-law e.stack

  pub jump-law : (a : ℕ) {s t : State} → Cellwise R s t → Cellwise R (jump a s) (jump a t)
  unfolding jump
  jump-law a e = record { at = refl; accu = e.accu; stack = e.stack; blocks = e.blocks }

  pub advance-law : {s t : State} → Cellwise R s t → Cellwise R (advance s) (advance t)
  unfolding advance jump
  advance-law e = record { at = ap suc e.at; accu = e.accu; stack = e.stack; blocks = e.blocks }

  pub load-law : {s t : State} {c d : Cell} → Cellwise R s t → R c d → Cellwise R (load c s) (load d t)
  unfolding load
  load-law e r = record { at = e.at; accu = r; stack = e.stack; blocks = e.blocks }

  pub restack-law : {s t : State} {xs ys : List Cell} → Cellwise R s t → Pointwise R xs ys → Cellwise R (restack xs s) (restack ys t)
  unfolding restack
  restack-law e r = record { at = e.at; accu = e.accu; stack = r; blocks = e.blocks }

  pub reblock-law : {s t : State} {xs ys : List (List Cell)} → Cellwise R s t → Pointwise (Pointwise R) xs ys → Cellwise R (reblock xs s) (reblock ys t)
  unfolding reblock
  reblock-law e r = record { at = e.at; accu = e.accu; stack = e.stack; blocks = r }

  cond-law : (b : Bool) {s t : State} → Cellwise R s t → Covered (Cellwise R) (cond b (done s) stuck) (cond b (done t) stuck)
  cond-law true e = both e
  cond-law false e = by_stuck

  pub push-law : {s t : State} → Cellwise R s t → Covered (Cellwise R) (push s) (push t)
  unfolding push
  push-law {s} {t} e = rw (height-law e) (cond-law (ltb (height t) stack_limit) (restack-law e (cons e.accu e.stack)))

  pub pop-law : (n : ℕ) {s t : State} → Cellwise R s t → Covered (Cellwise R) (pop n s) (pop n t)
  unfolding pop
  pop-law n e = bind (without-law n e.stack) (λ xs ys h. both (restack-law e h))

-- a relation of states, from one of cells

pointwise-map : {A : Type 0} {P Q : A → A → Type 0} → ((a b : A) → P a b → Q a b) → {xs ys : List A} → Pointwise P xs ys → Pointwise Q xs ys
pointwise-map f end = end
pointwise-map f (cons {a} {b} p ps) = cons (f a b p) (pointwise-map f ps)

pub cellwise-map : {P Q : Cell → Cell → Type 0} → ((a b : Cell) → P a b → Q a b) → {s t : State} → Cellwise P s t → Cellwise Q s t
cellwise-map f e = record { at = e.at; accu = f _ _ e.accu; stack = pointwise-map f e.stack; blocks = pointwise-map (λ xs ys h. pointwise-map f h) e.blocks }

pointwise-refl : {A : Type 0} {P : A → A → Type 0} → ((a : A) → P a a) → (xs : List A) → Pointwise P xs xs
pointwise-refl p [] = end
pointwise-refl p (x ∷ xs) = cons (p x) (pointwise-refl p xs)

pub cellwise-refl : {P : Cell → Cell → Type 0} → ((a : Cell) → P a a) → (s : State) → Cellwise P s s
cellwise-refl p s = record { at = refl; accu = p s.accu; stack = pointwise-refl p s.stack; blocks = pointwise-refl (pointwise-refl p) s.blocks }

-- by way of a state between: relations P of a to b, Q of b to c, S of a to c
pointwise-trans : {A : Type 0} {P Q S : A → A → Type 0} → ((a b c : A) → P a b → Q b c → S a c) →
    {xs ys zs : List A} → Pointwise P xs ys → Pointwise Q ys zs → Pointwise S xs zs
pointwise-trans p end end = end
pointwise-trans p (cons {a} {b} h hs) (cons {b = c} k ks) = cons (p a b c h k) (pointwise-trans p hs ks)

pub cellwise-trans : {P Q S : Cell → Cell → Type 0} → ((a b c : Cell) → P a b → Q b c → S a c) →
    {s t u : State} → Cellwise P s t → Cellwise Q t u → Cellwise S s u
cellwise-trans p d e = record {
  at = d.at ∙ e.at;
  accu = p _ _ _ d.accu e.accu;
  stack = pointwise-trans p d.stack e.stack;
  blocks = pointwise-trans (λ xs ys zs h k. pointwise-trans p h k) d.blocks e.blocks;
}

-- what is related to something is related to itself
pointwise-self : {A : Type 0} {P : A → A → Type 0} → ((a b : A) → P a b → P a a) → {xs ys : List A} → Pointwise P xs ys → Pointwise P xs xs
pointwise-self p end = end
pointwise-self p (cons {a} {b} h hs) = cons (p a b h) (pointwise-self p hs)

pub cellwise-self : {P : Cell → Cell → Type 0} → ((a b : Cell) → P a b → P a a) → {s t : State} → Cellwise P s t → Cellwise P s s
cellwise-self p e = record { at = refl; accu = p _ _ e.accu; stack = pointwise-self p e.stack; blocks = pointwise-self (λ xs ys h. pointwise-self p h) e.blocks }
