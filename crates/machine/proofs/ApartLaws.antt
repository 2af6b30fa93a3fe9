-- Push, pop and store look at the accumulator and the stack alone: a change of the address or of the blocks may come before or after them;
-- so may a change of the address when a field is set.
-- Assumes nothing.
use mathlib.Core.Path.{◌≡◌, refl, sym, ap, ◌∙◌}
use mathlib.Core.Bool.{Bool, true, false, cond}
use mathlib.Core.List.{List, ◌∷◌}
use Prim.Native.Nat.{ℕ, suc}
use native.Mathlib.Omega.{arith}
use lib.Dec.{ltb}
use lib.IntN.{pos}
use lib.ListN.{length}
use Rattle.cells.specs.Try.{Try, stuck, done, ◌>>=◌}
use Rattle.cells.specs.declared.Cell.{Cell}
use Rattle.cells.specs.Cells.{exactly, block}
use Rattle.machine.specs.Lists.{nth, put, without}
use Rattle.machine.specs.Machine.{State, stack_limit, height, push, pop, store, set_field, load, restack, reblock, advance, jump}

-- f changes neither the accumulator nor the stack, and does not look at them
record Apart (f : State → State) : Type 0 where
  accu : (s : State) → (f s).accu ≡ s.accu
  stack : (s : State) → (f s).stack ≡ s.stack
  restacks : (cs : List Cell) (s : State) → restack cs (f s) ≡ f (restack cs s)
  loads : (c : Cell) (s : State) → load c (f s) ≡ f (load c s)

module _ (f : State → State) (apart : Apart f) where
  -- the rest of a method that goes by the stack
  chosen : (b : Bool) (s : State) → cond b (done (f s)) stuck ≡ (cond b (done s) stuck >>= λ t. done (f t))
  unfolding ◌>>=◌
  chosen true s = refl
  chosen false s = refl

  restacked : (m : Try (List Cell)) (s : State) → (m >>= λ cs. done (restack cs (f s))) ≡ ((m >>= λ cs. done (restack cs s)) >>= λ t. done (f t))
  unfolding ◌>>=◌
  restacked stuck s = refl
  restacked (done cs) s = ap done (apart.restacks cs s)

  stored : (m : Try (List Cell)) (s : State) → (m >>= λ cs. done (load (exactly (pos 0)) (restack cs (f s)))) ≡ ((m >>= λ cs. done (load (exactly (pos 0)) (restack cs s))) >>= λ t. done (f t))
  unfolding ◌>>=◌
  stored stuck s = refl
  stored (done cs) s = ap (λ u. done (load (exactly (pos 0)) u)) (apart.restacks cs s) ∙ ap done (apart.loads (exactly (pos 0)) (restack cs s))

  push-apart : (s : State) → push (f s) ≡ (push s >>= λ t. done (f t))
  unfolding push height
  push-apart s =
      ap (λ cs. cond (ltb (length cs) stack_limit) (done (restack ((f s).accu ∷ cs) (f s))) stuck) (apart.stack s)
      ∙ ap (λ c. cond (ltb (height s) stack_limit) (done (restack (c ∷ s.stack) (f s))) stuck) (apart.accu s)
      ∙ ap (λ u. cond (ltb (height s) stack_limit) (done u) stuck) (apart.restacks (s.accu ∷ s.stack) s)
      ∙ chosen (ltb (height s) stack_limit) (restack (s.accu ∷ s.stack) s)

  pop-apart : (n : ℕ) (s : State) → pop n (f s) ≡ (pop n s >>= λ t. done (f t))
  unfolding pop restack
  pop-apart n s = rw (apart.stack s) (restacked (without n s.stack) s)

  store_apart : (n : ℕ) (s : State) → store n (f s) ≡ (store n s >>= λ t. done (f t))
  unfolding store restack load
  store_apart n s = rw (apart.accu s, apart.stack s) (stored (put n s.accu s.stack) s)

jump-aside : (a : ℕ) → Apart (jump a)
unfolding jump restack load
jump-aside a = record { accu = λ s. refl; stack = λ s. refl; restacks = λ cs s. refl; loads = λ c s. refl }

reblock-aside : (bs : List (List Cell)) → Apart (reblock bs)
unfolding reblock restack load
reblock-aside bs = record { accu = λ s. refl; stack = λ s. refl; restacks = λ cs s. refl; loads = λ c s. refl }

-- a field is set in blocks, whatever the address

bind-after : {A : Type 0} (f : State → State) (m : Try A) (k k' : A → Try State) → ((a : A) → k' a ≡ (k a >>= λ t. done (f t))) → (m >>= k') ≡ ((m >>= k) >>= λ t. done (f t))
unfolding ◌>>=◌
bind-after f stuck k k' e = refl
bind-after f (done a) k k' e = e a

set_field-apart : (n : ℕ) (c : Cell) (a : ℕ) (s : State) → set_field n c (jump a s) ≡ (set_field n c s >>= λ t. done (jump a t))
unfolding set_field jump reblock ◌>>=◌
set_field-apart n c a s =
    bind-after (jump a) (block s.accu) _ _ (λ k.
    bind-after (jump a) (nth k s.blocks) _ _ (λ b.
    bind-after (jump a) (put n c b) _ _ (λ d.
    bind-after (jump a) (put k d s.blocks) _ _ (λ bs. refl))))

-- ---- the next address before a method m, or after it

module _ (m : State → Try State) (apart : (a : ℕ) (s : State) → m (jump a s) ≡ (m s >>= λ t. done (jump a t))) (s : State) where
  -- a method keeps the address
  kept : (t : State) → m s ≡ done t → t.at ≡ s.at
  unfolding jump ◌>>=◌
  kept t e =
      let g : done t ≡ done (jump s.at t) = sym e ∙ apart s.at s ∙ ap (λ m. m >>= λ t. done (jump s.at t)) e in
      cc

  advanced : m (advance s) ≡ (m s >>= λ t. done (advance t))
  unfolding advance ◌>>=◌
  advanced = go (m s) refl
    where
      go : (r : Try State) → m s ≡ r → m (advance s) ≡ (r >>= λ t. done (advance t))
      go stuck e = apart (suc s.at) s ∙ ap (λ m. m >>= λ t. done (jump (suc s.at) t)) e
      go (done t) e =
          apart (suc s.at) s ∙ ap (λ m. m >>= λ t. done (jump (suc s.at) t)) e ∙ ap (λ a. done (jump (suc a) t)) (sym (kept t e))

pub push-advance : (s : State) → push (advance s) ≡ (push s >>= λ t. done (advance t))
push-advance = advanced push (λ a. push-apart (jump a) (jump-aside a))

pub pop-advance : (n : ℕ) (s : State) → pop n (advance s) ≡ (pop n s >>= λ t. done (advance t))
pop-advance n = advanced (pop n) (λ a. pop-apart (jump a) (jump-aside a) n)

pub store-advance : (n : ℕ) (s : State) → store n (advance s) ≡ (store n s >>= λ t. done (advance t))
store-advance n = advanced (store n) (λ a. store_apart (jump a) (jump-aside a) n)

pub set_field-advance : (n : ℕ) (c : Cell) (s : State) → set_field n c (advance s) ≡ (set_field n c s >>= λ t. done (advance t))
set_field-advance n c = advanced (set_field n c) (set_field-apart n c)

pub push_at : (s t : State) → done t ≡ push s → t.at ≡ s.at
push_at s t e = kept push (λ a. push-apart (jump a) (jump-aside a)) s t (sym e)

pub pop-at : (n : ℕ) (s t : State) → done t ≡ pop n s → t.at ≡ s.at
pop-at n s t e = kept (pop n) (λ a. pop-apart (jump a) (jump-aside a) n) s t (sym e)

pub store_at : (n : ℕ) (s t : State) → done t ≡ store n s → t.at ≡ s.at
store_at n s t e = kept (store n) (λ a. store_apart (jump a) (jump-aside a) n) s t (sym e)

-- ---- a method that has given t, with the blocks

module _ (bs : List (List Cell)) (s t : State) where
  pub push-reblock : done t ≡ push s → push (reblock bs s) ≡ done (reblock bs t)
  unfolding ◌>>=◌
  push-reblock e = push-apart (reblock bs) (reblock-aside bs) s ∙ ap (λ m. m >>= λ t. done (reblock bs t)) (sym e)

  pub pop-reblock : (n : ℕ) → done t ≡ pop n s → pop n (reblock bs s) ≡ done (reblock bs t)
  unfolding ◌>>=◌
  pop-reblock n e = pop-apart (reblock bs) (reblock-aside bs) n s ∙ ap (λ m. m >>= λ t. done (reblock bs t)) (sym e)

  pub store-reblock : (n : ℕ) → done t ≡ store n s → store n (reblock bs s) ≡ done (reblock bs t)
  unfolding ◌>>=◌
  store-reblock n e = store_apart (reblock bs) (reblock-aside bs) n s ∙ ap (λ m. m >>= λ t. done (reblock bs t)) (sym e)

-- a pop keeps the accumulator
pub pop-accu : (n : ℕ) (s t : State) → done t ≡ pop n s → t.accu ≡ s.accu
unfolding pop restack ◌>>=◌
pop-accu n s t e = go (without n s.stack) e
  where
    go : (m : Try (List Cell)) → done t ≡ (m >>= λ cs. done (restack cs s)) → t.accu ≡ s.accu
    go stuck e = let z : ◌≡◌ {A = ℕ} 0 1 = cc in absurd (omega arith)
    go (done cs) e = cc
