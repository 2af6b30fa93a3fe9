-- The states that a step leads to: a property that the parts of a step keep holds of all of them. Assumes nothing.
use mathlib.Core.Path.{◌≡◌, refl, sym, ◌∙◌, ap}
use mathlib.Core.Bool.{Bool, true, false, cond}
use mathlib.Core.List.{List, [], ◌∷◌, map}
use Prim.Native.Nat.{ℕ, zero, suc, max, ◌≤◌}
use native.Mathlib.Omega.{arith}
use lib.Dec.{ltb}
use lib.IntN.{ℤ}
use lib.ListN.{length}
use borrow.Author.Tests.{ltb-true}
use Rattle.cells.specs.Try.{Try, stuck, done, ◌>>=◌}
use Rattle.cells.specs.declared.Cell.{Cell}
use Rattle.cells.specs.Cells.{condition, operate₁, operate₂, block}
use Rattle.cells.specs.declared.Condition.{Condition}
use Rattle.cells.specs.declared.Condition.TheVariants.{IsZero, IsNonzero, IsUnknown}
use Rattle.instructions.specs.declared.Operation.{Operation}
use Rattle.instructions.specs.declared.Operation.TheVariants.{Nothing, Access, Drop, Assign, Constant, GetField, SetField, Branch, BranchIf, BranchIfNot, Call, Stop, Alter, Combine}
use Rattle.machine.specs.Lists.{nth, put, without}
use Rattle.machine.specs.Forward.{branches}
use Rattle.machine.specs.Machine.{index, State, stack_limit, height, Price, Instruction, Code, fetch, Next, stops, goes, opens, jump, load, restack, reblock, push, pop, store, get_field, set_field, advance, ahead, ways, opposite, perform, prepare, execute, step}

-- what an action gives, if it gives anything, has a property
data Gives {A : Type 0} (P : A → Type 0) : Try A → Type 0 where
  nothing-given : Gives P stuck
  given : {a : A} → P a → Gives P (done a)

bind : {A B : Type 0} {P : A → Type 0} {Q : B → Type 0} {m : Try A} {f : A → Try B} → Gives P m → ((a : A) → P a → Gives Q (f a)) → Gives Q (m >>= f)
unfolding ◌>>=◌
bind nothing-given k = nothing-given
bind (given {a} p) k = k a p

itself : {A : Type 0} (m : Try A) → Gives (λ a. m ≡ done a) m
itself stuck = nothing-given
itself (done a) = given refl

put-length : {A : Type 0} (n : ℕ) (a : A) (xs : List A) → Gives (λ ys. length ys ≡ length xs) (put n a xs)
unfolding put
put-length n a [] = nothing-given
put-length zero a (x ∷ xs) = given refl
put-length (suc n) a (x ∷ xs) = bind (put-length n a xs) (λ ys e. given (omega arith))

-- a list in the place of one as long
put-sizes : {A : Type 0} (n : ℕ) (x : List A) (xs : List (List A)) {y : List A} → nth n xs ≡ done y → length x ≡ length y → Gives (λ ys. map length ys ≡ map length xs) (put n x xs)
unfolding put nth
put-sizes n x [] e l = nothing-given
put-sizes zero x (z ∷ zs) {y} e l = let h : z ≡ y = cc in given (ap (λ k. k ∷ map length zs) (l ∙ ap length (sym h)))
put-sizes (suc n) x (z ∷ zs) e l = bind (put-sizes n x zs e l) (λ ys h. given (ap (λ ks. length z ∷ ks) h))

without-length : {A : Type 0} (n : ℕ) (xs : List A) → Gives (λ ys. length ys ≤ length xs) (without n xs)
unfolding without
without-length zero xs = given {a = xs} (omega arith)
without-length (suc n) [] = nothing-given
without-length {A} (suc n) (x ∷ xs) = longer (without-length n xs)
  where
    longer : {m : Try (List A)} → Gives (λ ys. length ys ≤ length xs) m → Gives (λ ys. length ys ≤ suc (length xs)) m
    longer nothing-given = nothing-given
    longer (given {a} h) = given {a = a} (omega arith)

-- Q holds of each state that is led to
pub data Leads (Q : State → Type 0) : Next → Type 0 where
  stops-there : {p : Price} → Leads Q (stops p)
  goes_to : {p : Price} {t : State} → Q t → Leads Q (goes p t)
  opens-to : {p q : Price} {t u : State} → Q t → Q u → Leads Q (opens p t q u)

pub goes-there : {Q : State → Type 0} {p : Price} {t : State} → Leads Q (goes p t) → Q t
goes-there (goes_to h) = h

pub opens-there : {Q : State → Type 0} {p q : Price} {t u : State} → Leads Q (opens p t q u) → Q t × Q u
opens-there (opens-to h k) = (h, k)

-- P is kept by every change but that of the address, and gives Q of the next address and of an address with the property T that is jumped to
pub record Keeps (P Q : State → Type 0) (T : ℕ → Type 0) : Type 0 where
  pub loads : (c : Cell) (s : State) → P s → P (load c s)
  pub restacks : (cs : List Cell) (s : State) → length cs ≤ max (height s) stack_limit → P s → P (restack cs s)
  pub reblocks : (bs : List (List Cell)) (s : State) → map length bs ≡ map length s.blocks → P s → P (reblock bs s)
  pub advances : (s : State) → P s → Q (advance s)
  pub jumps : (a : ℕ) (s : State) → T a → P s → Q (jump a s)

module _ {P Q : State → Type 0} {T : ℕ → Type 0} (keeps : Keeps P Q T) where
  push-keeps : (s : State) → P s → Gives P (push s)
  unfolding push height
  push-keeps s h = go (ltb (height s) stack_limit) refl
    where
      go : (b : Bool) → ltb (height s) stack_limit ≡ b → Gives P (cond b (done (restack (s.accu ∷ s.stack) s)) stuck)
      go true e = let l = ltb-true (height s) stack_limit e in given (keeps.restacks (s.accu ∷ s.stack) s (omega arith) h)
      go false e = nothing-given

  pop-keeps : (n : ℕ) (s : State) → P s → Gives P (pop n s)
  unfolding pop height
  pop-keeps n s h = bind (without-length n s.stack) (λ cs e. given (keeps.restacks cs s (omega arith) h))

  set_field-keeps : (n : ℕ) (c : Cell) (s : State) → P s → Gives P (set_field n c s)
  unfolding set_field
  set_field-keeps n c s h =
      bind (itself (block s.accu)) (λ k u.
      bind (itself (nth k s.blocks)) (λ b v.
      bind (put-length n c b) (λ d w.
      bind (put-sizes k d s.blocks v w) (λ bs x.
      given (keeps.reblocks bs s x h)))))

  ahead-leads : (p : Price) {m : Try State} → Gives P m → Gives (Leads Q) (ahead p m)
  unfolding ahead
  ahead-leads p g = bind g (λ s h. given (goes_to (keeps.advances s h)))

  ways-lead : (p : Price) (n a : ℕ) (s : State) (x : Condition) → T a → P s → Leads Q (ways p n a s x)
  unfolding ways
  ways-lead p n a s IsZero t h = goes_to (keeps.advances s h)
  ways-lead p n a s IsNonzero t h = goes_to (keeps.jumps a s t h)
  ways-lead p n a s IsUnknown t h = opens-to (keeps.advances s h) (keeps.jumps a s t h)

  perform-leads : (p : Price) (n : ℕ) (r : Cell) (o : Operation) (i : ℤ) (s : State) → (branches o ≡ true → T (index i)) → P s → Gives (Leads Q) (perform p n r o i s)
  unfolding perform store height
  perform-leads p n r Nothing i s t h = ahead-leads p (given h)
  perform-leads p n r Access i s t h = ahead-leads p (bind (itself (nth (index i) s.stack)) (λ c u. given (keeps.loads c s h)))
  perform-leads p n r Drop i s t h = ahead-leads p (pop-keeps (index i) s h)
  perform-leads p n r Assign i s t h =
      ahead-leads p (bind (put-length (index i) s.accu s.stack) (λ cs e. given (keeps.loads _ (restack cs s) (keeps.restacks cs s (omega arith) h))))
  perform-leads p n r Constant i s t h = ahead-leads p (given (keeps.loads _ s h))
  perform-leads p n r (Alter u) i s t h = ahead-leads p (bind (itself (operate₁ u i s.accu)) (λ c v. given (keeps.loads c s h)))
  perform-leads p n r (Combine b) i s t h =
      ahead-leads p
      (bind (itself (nth 0 s.stack)) (λ c u.
      bind (itself (operate₂ b s.accu c)) (λ d v.
      bind (pop-keeps 1 s h) (λ t l.
      given (keeps.loads d t l)))))
  perform-leads p n r GetField i s t h = ahead-leads p (bind (itself (get_field (index i) s)) (λ c u. given (keeps.loads c s h)))
  perform-leads p n r SetField i s t h =
      ahead-leads p
      (bind (itself (nth 0 s.stack)) (λ c u.
      bind (pop-keeps 1 s h) (λ t l.
      bind (set_field-keeps (index i) c t l) (λ v m.
      given (keeps.loads _ v m)))))
  perform-leads p n r Branch i s t h = given (goes_to (keeps.jumps (index i) s (t refl) h))
  perform-leads p n r BranchIf i s t h = bind (itself (condition s.accu)) (λ x u. given (ways-lead p n (index i) s x (t refl) h))
  perform-leads p n r BranchIfNot i s t h = bind (itself (condition s.accu)) (λ x u. given (ways-lead p n (index i) s (opposite x) (t refl) h))
  perform-leads p n r Call i s t h = ahead-leads p (bind (pop-keeps (index i) s h) (λ t l. given (keeps.loads r t l)))
  perform-leads p n r Stop i s t h = given stops-there

  prepare-keeps : (b : Bool) (s : State) → P s → Gives P (prepare b s)
  unfolding prepare
  prepare-keeps true s h = push-keeps s h
  prepare-keeps false s h = given h

  step_gives : (c : Code) (r : Cell) (s : State) → ((i : Instruction) → fetch c s.at ≡ done i → P s × (branches i.operation ≡ true → T (index i.operand))) → Gives (Leads Q) (step c r s)
  unfolding step execute
  step_gives c r s h =
      bind (itself (fetch c s.at)) (λ i e.
      bind (prepare-keeps i.pushes s (h i e).0) (λ t l.
      perform-leads i.price i.extra r i.operation i.operand t (h i e).1 l))

  -- where P holds of a state that is not outside the code, and T of the address that its instruction, if it is a branch, jumps to
  pub step-leads : (c : Code) (r : Cell) (s : State) (n : Next) → step c r s ≡ done n → ((i : Instruction) → fetch c s.at ≡ done i → P s × (branches i.operation ≡ true → T (index i.operand))) → Leads Q n
  step-leads c r s n e h = out (rw e at (step_gives c r s h))
    where
      out : {n : Next} → Gives (Leads Q) (done n) → Leads Q n
      out (given l) = l
