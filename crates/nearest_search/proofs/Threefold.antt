-- Three states side by side: the start as it is, the start with a handle in the place of one number, and the start with another number
-- there. A step on the number is stuck in the second, and a step on the handle is stuck in the first: where both go on, so does the third,
-- and the three stay side by side. Assumes nothing.
use mathlib.Core.Path.{◌≡◌, refl, ap, ◌∙◌}
use mathlib.Core.Bool.{Bool, true, false, cond, not}
use mathlib.Core.List.{List, [], ◌∷◌}
use Prim.Native.Nat.{ℕ, zero, suc}
use lib.Dec.{ltb}
use lib.IntN.{ℤ, pos, negsuc}
use lib.ListN.{length}
use borrow.Author.Tests.{eq-eqb}
use Rattle.numbers.specs.Numbers.{same, holds, bit}
use Rattle.numbers.specs.declared.Comparison.TheVariants.{Equal, Unequal, Less, AtMost, Greater, AtLeast}
use Rattle.cells.specs.Try.{Try, stuck, done, ◌>>=◌}
use Rattle.cells.specs.declared.Value.{Value}
use Rattle.cells.specs.declared.Value.TheVariants.{Range, Handle}
use Rattle.cells.specs.declared.Cell.{Cell}
use Rattle.cells.specs.declared.Unary.{Unary}
use Rattle.cells.specs.declared.Binary.{Binary}
use Rattle.cells.specs.declared.Binary.TheVariants.{Add, Subtract, Compare}
use Rattle.cells.specs.declared.Condition.{Condition}
use Rattle.cells.specs.declared.Condition.TheVariants.{IsZero, IsNonzero, IsUnknown}
use Rattle.cells.specs.Cells.{range, exactly, handle, calculate₂, map₁, compare_handles, combine_handles, map₂, operate₁, operate₂, condition_in, condition, handled, block}
use Rattle.cells.proofs.CellLaws.{range₂-one}
use Rattle.instructions.specs.declared.Operation.{Operation}
use Rattle.instructions.specs.declared.Operation.TheVariants.{Nothing, Access, Drop, Assign, Constant, GetField, SetField, Branch, BranchIf, BranchIfNot, Call, Stop, Alter, Combine}
use Rattle.machine.specs.Lists.{nth, put, without}
use Rattle.machine.specs.Machine.{State, stack_limit, height, index, Price, Instruction, Code, fetch, Next, stops, goes, opens, jump, load, restack, reblock, push, pop, store, get_field, set_field, advance, ahead, ways, opposite, perform, prepare, execute, step}

-- ---- three values

-- one value, three times
pub data Alike {A : Type 0} : A → A → A → Type 0 where
  alike : {a : A} → Alike a a a

-- three actions: where the first and the second give something, so does the third, and what they give is related
pub data Together {A : Type 0} (R : A → A → A → Type 0) : Try A → Try A → Try A → Type 0 where
  first-stuck : {n k : Try A} → Together R stuck n k
  second_stuck : {m k : Try A} → Together R m stuck k
  all : {a b c : A} → R a b c → Together R (done a) (done b) (done c)

bind : {A B : Type 0} {R : A → A → A → Type 0} {Q : B → B → B → Type 0} {m n k : Try A} {f g h : A → Try B} →
    Together R m n k → ((a b c : A) → R a b c → Together Q (f a) (g b) (h c)) → Together Q (m >>= f) (n >>= g) (k >>= h)
unfolding ◌>>=◌
bind first-stuck q = first-stuck
bind second_stuck q = second_stuck
bind (all {a} {b} {c} r) q = q a b c r

together-self : {A : Type 0} {R : A → A → A → Type 0} → ((a : A) → R a a a) → (m : Try A) → Together R m m m
together-self r stuck = first-stuck
together-self r (done a) = all (r a)

-- three lists, entry by entry
pub data Entries {A : Type 0} (R : A → A → A → Type 0) : List A → List A → List A → Type 0 where
  end : Entries R [] [] []
  cons : {a b c : A} {xs ys zs : List A} → R a b c → Entries R xs ys zs → Entries R (a ∷ xs) (b ∷ ys) (c ∷ zs)

pub entries-self : {A : Type 0} {R : A → A → A → Type 0} → ((a : A) → R a a a) → (xs : List A) → Entries R xs xs xs
entries-self r [] = end
entries-self r (x ∷ xs) = cons (r x) (entries-self r xs)

module _ {A : Type 0} {Q : A → A → A → Type 0} where
  nth-at : (n : ℕ) {xs ys zs : List A} → Entries Q xs ys zs → Together Q (nth n xs) (nth n ys) (nth n zs)
  unfolding nth
  nth-at n end = first-stuck
  nth-at zero (cons q qs) = all q
  nth-at (suc n) (cons q qs) = nth-at n qs

  nth-law : {l m n : ℕ} → Alike l m n → {xs ys zs : List A} → Entries Q xs ys zs → Together Q (nth l xs) (nth m ys) (nth n zs)
  nth-law (alike {a = n}) h = nth-at n h

  put-at : (n : ℕ) {xs ys zs : List A} {x y z : A} → Entries Q xs ys zs → Q x y z → Together (Entries Q) (put n x xs) (put n y ys) (put n z zs)
  unfolding put
  put-at n end q = first-stuck
  put-at zero (cons r rs) q = all (cons q rs)
  put-at (suc n) (cons r rs) q = bind (put-at n rs q) (λ a b c h. all (cons r h))

  put-law : {l m n : ℕ} → Alike l m n → {xs ys zs : List A} {x y z : A} → Entries Q xs ys zs → Q x y z → Together (Entries Q) (put l x xs) (put m y ys) (put n z zs)
  put-law (alike {a = n}) h q = put-at n h q

  without-law : (n : ℕ) {xs ys zs : List A} → Entries Q xs ys zs → Together (Entries Q) (without n xs) (without n ys) (without n zs)
  unfolding without
  without-law zero h = all h
  without-law (suc n) end = first-stuck
  without-law (suc n) (cons q qs) = without-law n qs

  length-law : {xs ys zs : List A} → Entries Q xs ys zs → (length ys ≡ length xs) × (length zs ≡ length xs)
  length-law end = (refl, refl)
  length-law (cons q qs) = let h = length-law qs in (ap suc h.0, ap suc h.1)

-- three states, cell by cell
pub record Side (R : Cell → Cell → Cell → Type 0) (s t u : State) : Type 0 where
  pub at : Alike s.at t.at u.at
  pub accu : R s.accu t.accu u.accu
  pub stack : Entries R s.stack t.stack u.stack
  pub blocks : Entries (Entries R) s.blocks t.blocks u.blocks

alike-suc : {l m n : ℕ} → Alike l m n → Alike (suc l) (suc m) (suc n)
alike-suc alike = alike

module _ {R : Cell → Cell → Cell → Type 0} {s t u : State} (e : Side R s t u) where
  jump-law : (a : ℕ) → Side R (jump a s) (jump a t) (jump a u)
  unfolding jump
  jump-law a = record { at = alike; accu = e.accu; stack = e.stack; blocks = e.blocks }

  advance-law : Side R (advance s) (advance t) (advance u)
  unfolding advance jump
  advance-law = record { at = alike-suc e.at; accu = e.accu; stack = e.stack; blocks = e.blocks }

  load-law : {a b c : Cell} → R a b c → Side R (load a s) (load b t) (load c u)
  unfolding load
  load-law r = record { at = e.at; accu = r; stack = e.stack; blocks = e.blocks }

  restack-law : {xs ys zs : List Cell} → Entries R xs ys zs → Side R (restack xs s) (restack ys t) (restack zs u)
  unfolding restack
  restack-law r = record { at = e.at; accu = e.accu; stack = r; blocks = e.blocks }

  reblock-law : {xs ys zs : List (List Cell)} → Entries (Entries R) xs ys zs → Side R (reblock xs s) (reblock ys t) (reblock zs u)
  unfolding reblock
  reblock-law r = record { at = e.at; accu = e.accu; stack = e.stack; blocks = r }

module _ {R : Cell → Cell → Cell → Type 0} {s t u : State} (e : Side R s t u) where
  guarded : (b : Bool) → Together (Side R) (cond b (done s) stuck) (cond b (done t) stuck) (cond b (done u) stuck)
  guarded true = all e
  guarded false = first-stuck

module _ {R : Cell → Cell → Cell → Type 0} {s t u : State} (e : Side R s t u) where
  push-law : Together (Side R) (push s) (push t) (push u)
  unfolding push height
  push-law =
      let h = length-law e.stack in
      rw (h.0, h.1) (guarded (restack-law e (cons e.accu e.stack)) (ltb (length s.stack) stack_limit))

  pop-law : (n : ℕ) → Together (Side R) (pop n s) (pop n t) (pop n u)
  unfolding pop
  pop-law n = bind (without-law n e.stack) (λ xs ys zs h. all (restack-law e h))

-- ---- three cells

-- the same cell three times, or the number v, the handle of block k and the number n
pub data Stands (v : ℤ) (k : ℕ) (n : ℤ) : Cell → Cell → Cell → Type 0 where
  same-cell : {a : Cell} → Stands v k n a a a
  swapped : Stands v k n (range v 0) (handle k) (range n 0)

same_number : (z : ℤ) → same z z ≡ true
same_number (pos n) = eq-eqb n n refl
same_number (negsuc n) = eq-eqb n n refl

module _ (v : ℤ) (k : ℕ) (n : ℤ) where
  abbrev S : Cell → Cell → Cell → Type 0
  S = Stands v k n

  operates₁ : (u : Unary) (i : ℤ) {a b c : Cell} → S a b c → Together S (operate₁ u i a) (operate₁ u i b) (operate₁ u i c)
  unfolding operate₁ map₁
  operates₁ u i (same-cell {a}) = together-self (λ x. same-cell) (operate₁ u i a)
  operates₁ u i swapped = second_stuck

  -- the number and the handle against one cell: one of the two is stuck
  beside-right : (b : Binary) (w : Value) → Together S (map₂ b (Range v 0) w) (map₂ b (Handle k) w) (map₂ b (Range n 0) w)
  unfolding map₂
  beside-right b (Range l m) = second_stuck
  beside-right b (Handle j) = first-stuck

  beside-left : (b : Binary) (w : Value) → Together S (map₂ b w (Range v 0)) (map₂ b w (Handle k)) (map₂ b w (Range n 0))
  unfolding map₂
  beside-left b (Range l m) = second_stuck
  beside-left b (Handle j) = first-stuck

  -- the number against itself, and the handle: only EQ and NEQ go on, and what they give is known
  known : (x : ℤ) {a b c : Cell} → a ≡ exactly x → b ≡ exactly x → c ≡ exactly x → Together S (done a) (done b) (done c)
  known x e f g = rw (e, f, g) (all same-cell)

  itself : (b : Binary) → Together S (map₂ b (Range v 0) (Range v 0)) (map₂ b (Handle k) (Handle k)) (map₂ b (Range n 0) (Range n 0))
  unfolding map₂ combine_handles compare_handles calculate₂ holds
  itself Add = second_stuck
  itself Subtract = second_stuck
  itself (Compare Equal) =
      known (pos 1)
      (range₂-one (Compare Equal) v v ∙ ap (λ t. exactly (bit t)) (same_number v))
      (ap (λ t. exactly (bit t)) (eq-eqb k k refl))
      (range₂-one (Compare Equal) n n ∙ ap (λ t. exactly (bit t)) (same_number n))
  itself (Compare Unequal) =
      known (pos 0)
      (range₂-one (Compare Unequal) v v ∙ ap (λ t. exactly (bit (not t))) (same_number v))
      (ap (λ t. exactly (bit (not t))) (eq-eqb k k refl))
      (range₂-one (Compare Unequal) n n ∙ ap (λ t. exactly (bit (not t))) (same_number n))
  itself (Compare Less) = second_stuck
  itself (Compare AtMost) = second_stuck
  itself (Compare Greater) = second_stuck
  itself (Compare AtLeast) = second_stuck

  operates₂ : (b : Binary) {a c d a' c' d' : Cell} → S a c d → S a' c' d' → Together S (operate₂ b a a') (operate₂ b c c') (operate₂ b d d')
  unfolding operate₂
  operates₂ b (same-cell {a}) (same-cell {a = a'}) = together-self (λ x. same-cell) (operate₂ b a a')
  operates₂ b (same-cell {a}) swapped = beside-left b a.value
  operates₂ b swapped (same-cell {a = a'}) = beside-right b a'.value
  operates₂ b swapped swapped = itself b

  conditions : {a b c : Cell} → S a b c → Together Alike (condition a) (condition b) (condition c)
  unfolding condition condition_in
  conditions (same-cell {a}) = together-self (λ x. alike) (condition a)
  conditions swapped = second_stuck

  handles : {a b c : Cell} → S a b c → Together Alike (block a) (block b) (block c)
  unfolding block handled
  handles (same-cell {a}) = together-self (λ x. alike) (block a)
  handles swapped = first-stuck

-- ---- a step

-- what three steps lead to
pub data Nexts (R : State → State → State → Type 0) : Next → Next → Next → Type 0 where
  all-stop : {p : Price} → Nexts R (stops p) (stops p) (stops p)
  all_go : {p : Price} {s t u : State} → R s t u → Nexts R (goes p s) (goes p t) (goes p u)
  all-open : {p q : Price} {s t u s' t' u' : State} → R s t u → R s' t' u' → Nexts R (opens p s q s') (opens p t q t') (opens p u q u')

module _ (v : ℤ) (k : ℕ) (n : ℤ) where
  abbrev R : State → State → State → Type 0
  R = Side (Stands v k n)

  get_field-law : (i : ℕ) {s t u : State} → R s t u → Together (Stands v k n) (get_field i s) (get_field i t) (get_field i u)
  unfolding get_field
  get_field-law i e =
      bind (handles v k n e.accu) (λ a b c h.
      bind (nth-law h e.blocks) (λ x y z g.
      nth-at i g))

  set_field-law : (i : ℕ) {s t u : State} {a b c : Cell} → R s t u → Stands v k n a b c → Together R (set_field i a s) (set_field i b t) (set_field i c u)
  unfolding set_field
  set_field-law i e r =
      bind (handles v k n e.accu) (λ a b c h.
      bind (nth-law h e.blocks) (λ x y z g.
      bind (put-at i g r) (λ x y z g'.
      bind (put-law h e.blocks g') (λ xs ys zs f.
      all (reblock-law e f)))))

  ahead-law : (p : Price) {l m o : Try State} → Together R l m o → Together (Nexts R) (ahead p l) (ahead p m) (ahead p o)
  unfolding ahead
  ahead-law p h = bind h (λ s t u e. all (all_go (advance-law e)))

  ways-at : (p : Price) (x a : ℕ) {s t u : State} (d : Condition) → R s t u → Nexts R (ways p x a s d) (ways p x a t d) (ways p x a u d)
  unfolding ways
  ways-at p x a IsZero e = all_go (advance-law e)
  ways-at p x a IsNonzero e = all_go (jump-law e a)
  ways-at p x a IsUnknown e = all-open (advance-law e) (jump-law e a)

  ways-law : (p : Price) (x a : ℕ) {s t u : State} {d d' d'' : Condition} → R s t u → Alike d d' d'' → Nexts R (ways p x a s d) (ways p x a t d') (ways p x a u d'')
  ways-law p x a e (alike {a = d}) = ways-at p x a d e

  opposite-law : {d d' d'' : Condition} → Alike d d' d'' → Alike (opposite d) (opposite d') (opposite d'')
  opposite-law alike = alike

  perform-law : (p : Price) (x : ℕ) (r : Cell) (o : Operation) (i : ℤ) {s t u : State} → R s t u →
      Together (Nexts R) (perform p x r o i s) (perform p x r o i t) (perform p x r o i u)
  unfolding perform store
  perform-law p x r Nothing i e = ahead-law p (all e)
  perform-law p x r Access i e = ahead-law p (bind (nth-at (index i) e.stack) (λ a b c h. all (load-law e h)))
  perform-law p x r Drop i e = ahead-law p (pop-law e (index i))
  perform-law p x r Assign i e = ahead-law p (bind (put-at (index i) e.stack e.accu) (λ xs ys zs h. all (load-law (restack-law e h) same-cell)))
  perform-law p x r Constant i e = ahead-law p (all (load-law e same-cell))
  perform-law p x r (Alter w) i e = ahead-law p (bind (operates₁ v k n w i e.accu) (λ a b c h. all (load-law e h)))
  perform-law p x r (Combine b) i e =
      ahead-law p
      (bind (nth-at 0 e.stack) (λ a c d h.
      bind (operates₂ v k n b e.accu h) (λ a c d g.
      bind (pop-law e 1) (λ s t u f.
      all (load-law f g)))))
  perform-law p x r GetField i e = ahead-law p (bind (get_field-law (index i) e) (λ a b c h. all (load-law e h)))
  perform-law p x r SetField i e =
      ahead-law p
      (bind (nth-at 0 e.stack) (λ a b c h.
      bind (pop-law e 1) (λ s t u f.
      bind (set_field-law (index i) f h) (λ s t u g.
      all (load-law g same-cell)))))
  perform-law p x r Branch i e = all (all_go (jump-law e (index i)))
  perform-law p x r BranchIf i e = bind (conditions v k n e.accu) (λ a b c h. all (ways-law p x (index i) e h))
  perform-law p x r BranchIfNot i e = bind (conditions v k n e.accu) (λ a b c h. all (ways-law p x (index i) e (opposite-law h)))
  perform-law p x r Call i e = ahead-law p (bind (pop-law e (index i)) (λ s t u h. all (load-law h same-cell)))
  perform-law p x r Stop i e = all all-stop

  prepare-law : (b : Bool) {s t u : State} → R s t u → Together R (prepare b s) (prepare b t) (prepare b u)
  unfolding prepare
  prepare-law true e = push-law e
  prepare-law false e = all e

  execute-law : (r : Cell) (i : Instruction) {s t u : State} → R s t u → Together (Nexts R) (execute r i s) (execute r i t) (execute r i u)
  unfolding execute
  execute-law r i e = bind (prepare-law i.pushes e) (λ s t u f. perform-law i.price i.extra r i.operation i.operand f)

  fetched : (c : Code) {l m o : ℕ} → Alike l m o → Together Alike (fetch c l) (fetch c m) (fetch c o)
  fetched c (alike {a}) = together-self (λ i. alike) (fetch c a)

  executes : (r : Cell) {i i' i'' : Instruction} {s t u : State} → Alike i i' i'' → R s t u → Together (Nexts R) (execute r i s) (execute r i' t) (execute r i'' u)
  executes r (alike {a = i}) e = execute-law r i e

  pub step-law : (c : Code) (r : Cell) {s t u : State} → R s t u → Together (Nexts R) (step c r s) (step c r t) (step c r u)
  unfolding step
  step-law c r e = bind (fetched c e.at) (λ i i' i'' h. executes r h e)
