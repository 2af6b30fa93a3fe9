-- The step of code at other addresses: it leads to the same, at addresses that are higher by f. Assumes nothing.
use Prim.Native.Nat.{ℕ, zero, suc, ◌+◌, ◌-◌}
use mathlib.Core.Path.{◌≡◌, refl, ap, ap₂, ◌∙◌}
use mathlib.Core.Bool.{Bool, true, false, cond}
use mathlib.Core.List.{List, [], ◌∷◌, map}
use native.Mathlib.Omega.{arith}
use lib.Dec.{ltb}
use lib.IntN.{ℤ, pos}
use Rattle.text.proofs.TextLaws.{ltb-agree}
use Rattle.cells.specs.Try.{Try, stuck, done, ◌>>=◌}
use Rattle.cells.specs.declared.Cell.{Cell}
use Rattle.cells.specs.Cells.{condition, operate₁, operate₂, block}
use Rattle.cells.specs.declared.Condition.{Condition}
use Rattle.cells.specs.declared.Condition.TheVariants.{IsZero, IsNonzero, IsUnknown}
use Rattle.instructions.specs.declared.Operation.{Operation}
use Rattle.instructions.specs.declared.Operation.TheVariants.{Nothing, Access, Drop, Assign, Constant, GetField, SetField, Branch, BranchIf, BranchIfNot, Call, Stop, Alter, Combine}
use Rattle.machine.specs.Lists.{nth, put, without}
use Rattle.machine.specs.Forward.{branches}
use Rattle.machine.specs.Machine.{index, State, stack_limit, height, Price, Instruction, Code, fetch, Next, stops, goes, opens, jump, load, restack, reblock, push, pop, store, get_field, set_field, advance, ahead, with_extra, ways, opposite, perform, prepare, execute, step, takes, takes_answer}
use Rattle.relocation_theory.specs.Raised.{raise_instruction, raise_code, raise_state}

-- what is done, changed
unfoldable pub map_try : {A B : Type 0} → (A → B) → Try A → Try B
map_try g stuck = stuck
map_try g (done a) = done (g a)

-- what a step leads to
unfoldable pub raise_next : ℕ → Next → Next
raise_next f (stops p) = stops p
raise_next f (goes p t) = goes p (raise_state f t)
raise_next f (opens p t q u) = opens p (raise_state f t) q (raise_state f u)

module _ (f : ℕ) where
  -- one action after another, where the first is the same
  bind-raised : {A : Type 0} (m : Try A) (k l : A → Try State) → ((a : A) → l a ≡ map_try (raise_state f) (k a)) → (m >>= l) ≡ map_try (raise_state f) (m >>= k)
  unfolding map_try ◌>>=◌
  bind-raised stuck k l h = refl
  bind-raised (done a) k l h = h a

  -- and where it is higher
  then-raised : (m : Try State) {n : Try State} (k l : State → Try State) → n ≡ map_try (raise_state f) m → ((t : State) → l (raise_state f t) ≡ map_try (raise_state f) (k t)) → (n >>= l) ≡ map_try (raise_state f) (m >>= k)
  unfolding map_try ◌>>=◌
  then-raised stuck k l e h = ap (λ x. x >>= l) e
  then-raised (done t) k l e h = ap (λ x. x >>= l) e ∙ h t

  push-raised : (s : State) → push (raise_state f s) ≡ map_try (raise_state f) (push s)
  unfolding push raise_state jump restack height map_try
  push-raised s = go (ltb (height s) stack_limit)
    where
      go : (b : Bool) → cond b (done (restack (s.accu ∷ s.stack) (raise_state f s))) stuck ≡ map_try (raise_state f) (cond b (done (restack (s.accu ∷ s.stack) s)) stuck)
      go true = refl
      go false = refl

  pop-raised : (n : ℕ) (s : State) → pop n (raise_state f s) ≡ map_try (raise_state f) (pop n s)
  unfolding pop raise_state jump restack map_try
  pop-raised n s = bind-raised (without n s.stack) (λ cs. done (restack cs s)) (λ cs. done (restack cs (raise_state f s))) (λ cs. refl)

  store-raised : (n : ℕ) (s : State) → store n (raise_state f s) ≡ map_try (raise_state f) (store n s)
  unfolding store raise_state jump restack load map_try
  store-raised n s = bind-raised (put n s.accu s.stack) _ _ (λ cs. refl)

  field-raised : (n : ℕ) (c : Cell) (s : State) → set_field n c (raise_state f s) ≡ map_try (raise_state f) (set_field n c s)
  unfolding set_field raise_state jump reblock map_try
  field-raised n c s =
      bind-raised (block s.accu) _ _ (λ k.
      bind-raised (nth k s.blocks) _ _ (λ b.
      bind-raised (put n c b) _ _ (λ d.
      bind-raised (put k d s.blocks) _ _ (λ bs. refl))))

  prepare-raised : (b : Bool) (s : State) → prepare b (raise_state f s) ≡ map_try (raise_state f) (prepare b s)
  unfolding prepare map_try
  prepare-raised true s = push-raised s
  prepare-raised false s = refl

  -- the address rises by one
  advance-raised : (s : State) → advance (raise_state f s) ≡ raise_state f (advance s)
  unfolding advance raise_state jump
  advance-raised s = let e : suc (s.at + f) ≡ suc s.at + f = omega arith in ap (λ a. jump a s) e

  ahead-raised : (p : Price) (m : Try State) {n : Try State} → n ≡ map_try (raise_state f) m → ahead p n ≡ map_try (raise_next f) (ahead p m)
  unfolding ahead map_try raise_next ◌>>=◌
  ahead-raised p stuck e = ap (ahead p) e
  ahead-raised p (done s) e = ap (ahead p) e ∙ ap (λ t. done (goes p t)) (advance-raised s)

  ways-raised : (p : Price) (x a : ℕ) (s : State) (c : Condition) → ways p x (a + f) (raise_state f s) c ≡ raise_next f (ways p x a s c)
  unfolding ways raise_next raise_state jump advance
  ways-raised p x a s IsZero = ap (goes p) (advance-raised s)
  ways-raised p x a s IsNonzero = refl
  ways-raised p x a s IsUnknown = ap (λ t. opens p t (with_extra x p) (jump (a + f) s)) (advance-raised s)

  condition-raised : (m : Try Condition) (k l : Condition → Next) → ((c : Condition) → l c ≡ raise_next f (k c)) → (m >>= λ c. done (l c)) ≡ map_try (raise_next f) (m >>= λ c. done (k c))
  unfolding map_try ◌>>=◌
  condition-raised stuck k l h = refl
  condition-raised (done c) k l h = ap done (h c)

  -- the operand of an operation
  abbrev raised : Operation → ℤ → ℤ
  raised o i = cond (branches o) (pos (index i + f)) i

  perform-raised : (p : Price) (x : ℕ) (r : Cell) (o : Operation) (i : ℤ) (s : State) → perform p x r o (raised o i) (raise_state f s) ≡ map_try (raise_next f) (perform p x r o i s)
  unfolding perform raise_state jump load get_field map_try raise_next
  perform-raised p x r Nothing i s = ahead-raised p (done s) refl
  perform-raised p x r Access i s = ahead-raised p (nth (index i) s.stack >>= λ c. done (load c s)) (bind-raised (nth (index i) s.stack) _ _ (λ c. refl))
  perform-raised p x r Drop i s = ahead-raised p (pop (index i) s) (pop-raised (index i) s)
  perform-raised p x r Assign i s = ahead-raised p (store (index i) s) (store-raised (index i) s)
  perform-raised p x r Constant i s = ahead-raised p (done (load _ s)) refl
  perform-raised p x r (Alter u) i s = ahead-raised p (operate₁ u i s.accu >>= λ c. done (load c s)) (bind-raised (operate₁ u i s.accu) _ _ (λ c. refl))
  perform-raised p x r (Combine b) i s =
      ahead-raised p (nth 0 s.stack >>= λ c. operate₂ b s.accu c >>= λ d. pop 1 s >>= λ t. done (load d t))
      (bind-raised (nth 0 s.stack) _ _ (λ c.
      bind-raised (operate₂ b s.accu c) _ _ (λ d.
      then-raised (pop 1 s) _ _ (pop-raised 1 s) (λ t. refl))))
  perform-raised p x r GetField i s = ahead-raised p (get_field (index i) s >>= λ c. done (load c s)) (bind-raised (get_field (index i) s) _ _ (λ c. refl))
  perform-raised p x r SetField i s =
      ahead-raised p (nth 0 s.stack >>= λ c. pop 1 s >>= λ t. set_field (index i) c t >>= λ u. done (load _ u))
      (bind-raised (nth 0 s.stack) _ _ (λ c.
      then-raised (pop 1 s) _ _ (pop-raised 1 s) (λ t.
      then-raised (set_field (index i) c t) _ _ (field-raised (index i) c t) (λ u. refl))))
  perform-raised p x r Branch i s = refl
  perform-raised p x r BranchIf i s = condition-raised (condition s.accu) (λ c. ways p x (index i) s c) _ (λ c. ways-raised p x (index i) s c)
  perform-raised p x r BranchIfNot i s = condition-raised (condition s.accu) (λ c. ways p x (index i) s (opposite c)) _ (λ c. ways-raised p x (index i) s (opposite c))
  perform-raised p x r Call i s = ahead-raised p (pop (index i) s >>= λ t. done (load r t)) (then-raised (pop (index i) s) _ _ (pop-raised (index i) s) (λ t. refl))
  perform-raised p x r Stop i s = refl

  execute-raised : (r : Cell) (i : Instruction) (s : State) → execute r (raise_instruction f i) (raise_state f s) ≡ map_try (raise_next f) (execute r i s)
  unfolding execute raise_instruction map_try ◌>>=◌
  execute-raised r i s = go (prepare i.pushes s) (prepare-raised i.pushes s)
    where
      go : (m : Try State) {n : Try State} → n ≡ map_try (raise_state f) m →
          (n >>= λ t. perform i.price i.extra r i.operation (raised i.operation i.operand) t) ≡ map_try (raise_next f) (m >>= λ t. perform i.price i.extra r i.operation i.operand t)
      go stuck e = ap (λ n. n >>= λ t. perform i.price i.extra r i.operation (raised i.operation i.operand) t) e
      go (done t) e =
          ap (λ n. n >>= λ u. perform i.price i.extra r i.operation (raised i.operation i.operand) u) e
          ∙ perform-raised i.price i.extra r i.operation i.operand t

  nth-raised : (n : ℕ) (is : List Instruction) → nth n (map (raise_instruction f) is) ≡ map_try (raise_instruction f) (nth n is)
  unfolding nth map_try
  nth-raised n [] = refl
  nth-raised zero (i ∷ is) = refl
  nth-raised (suc n) (i ∷ is) = nth-raised n is

  fetch-raised : (c : Code) (a : ℕ) → fetch (raise_code f c) (a + f) ≡ map_try (raise_instruction f) (fetch c a)
  unfolding fetch raise_code map_try
  fetch-raised c a =
      let below : ltb (a + f) (c.first + f) ≡ ltb a c.first = ltb-agree (a + f) (c.first + f) a c.first (λ h. omega arith) (λ h. omega arith) in
      let far : a + f - (c.first + f) ≡ a - c.first = omega arith in
      ap₂ (λ b n. cond b stuck (nth n (map (raise_instruction f) c.instructions))) below far ∙ go (ltb a c.first)
    where
      go : (b : Bool) → cond b stuck (nth (a - c.first) (map (raise_instruction f) c.instructions)) ≡ map_try (raise_instruction f) (cond b stuck (nth (a - c.first) c.instructions))
      go true = refl
      go false = nth-raised (a - c.first) c.instructions

  pub step-raised : (c : Code) (r : Cell) (s : State) → step (raise_code f c) r (raise_state f s) ≡ map_try (raise_next f) (step c r s)
  unfolding step raise_state jump map_try ◌>>=◌
  step-raised c r s = go (fetch c s.at) (fetch-raised c s.at)
    where
      go : (m : Try Instruction) {n : Try Instruction} → n ≡ map_try (raise_instruction f) m → (n >>= λ i. execute r i (raise_state f s)) ≡ map_try (raise_next f) (m >>= λ i. execute r i s)
      go stuck e = ap (λ n. n >>= λ i. execute r i (raise_state f s)) e
      go (done i) e = ap (λ n. n >>= λ j. execute r j (raise_state f s)) e ∙ execute-raised r i s

  pub takes-raised : (c : Code) (s : State) → takes_answer (raise_code f c) (raise_state f s) ≡ takes_answer c s
  unfolding takes_answer raise_state jump takes map_try raise_instruction
  takes-raised c s = ap takes (fetch-raised c s.at) ∙ go (fetch c s.at)
    where
      go : (m : Try Instruction) → takes (map_try (raise_instruction f) m) ≡ takes m
      go stuck = refl
      go (done i) = refl
