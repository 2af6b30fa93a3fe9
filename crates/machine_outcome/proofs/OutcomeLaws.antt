-- An operation is its outcome, resumed at the next address: what the step and the explorer do to their states is `perform`. Assumes nothing.
use mathlib.Core.Path.{◌≡◌, refl, sym, ap, ◌∙◌}
use Prim.Native.Nat.{ℕ, ◌<◌}
use mathlib.Core.Bool.{Bool, true, false, cond}
use lib.Dec.{leb, ltb}
use lib.IntN.{ℤ, pos}
use lib.ListN.{length, get_or, drop}
use borrow.Author.Tests.{ltb-true, ltb-false, leb-true, leb-false}
use Rattle.cells.specs.Try.{Try, stuck, done, ◌>>=◌}
use Rattle.cells.specs.declared.Cell.{Cell}
use Rattle.cells.specs.declared.Unary.{Unary}
use Rattle.cells.specs.declared.Binary.{Binary}
use Rattle.cells.specs.declared.Condition.{Condition}
use Rattle.cells.specs.declared.Condition.TheVariants.{IsZero, IsNonzero, IsUnknown}
use Rattle.cells.specs.Cells.{exactly, operate₁, operate₂, condition}
use Rattle.instructions.specs.declared.Operation.{Operation}
use Rattle.instructions.specs.declared.Operation.TheVariants.{Nothing, Access, Drop, Assign, Constant, GetField, SetField, Branch, BranchIf, BranchIfNot, Call, Stop, Alter, Combine}
use Rattle.machine_outcome.specs.declared.Outcome.{Outcome}
use Rattle.machine_outcome.specs.declared.Outcome.TheVariants.{Gives, Operates, Stores, Sets, Stuck}
use Rattle.machine.specs.Lists.{nth, without}
use Rattle.machine.specs.Machine.{State, height, Price, goes, index, jump, load, restack, pop, store, get_field, set_field, advance, ahead, ways, opposite, perform}
use Rattle.machine_outcome.specs.HeldOutcome.{entry_of, drops, operated, branching, outcome, resume}
use Rattle.machine.proofs.ApartLaws.{set_field-advance}
use Rattle.machine.proofs.ListLaws.{nth_in, nth-out, put_in, put-out, without_in, without-out}

module _ (p : Price) (x : ℕ) (r : Cell) (i : ℤ) (s : State) (d : Cell) where
  -- the entry that the operation looks at, and the outcome with it
  abbrev seen : Operation → Cell
  seen o = get_or s.stack (entry_of o (index i)) d

  abbrev comes : Operation → Outcome
  comes o = outcome o i r (height s) s.accu (seen o)

  access-is : perform p x r Access i s ≡ resume p x Access i (advance s) (seen Access) (comes Access)
  unfolding perform resume outcome entry_of drops height ahead ◌>>=◌ pop without advance jump load restack
  access-is = go (ltb (index i) (length s.stack)) refl
    where
      go : (b : Bool) → ltb (index i) (length s.stack) ≡ b →
          ahead p (nth (index i) s.stack >>= λ c. done (load c s)) ≡ resume p x Access i (advance s) (seen Access) (cond b (Gives (get_or s.stack (index i) d)) Stuck)
      go true e = rw (nth_in (index i) s.stack d (ltb-true (index i) (length s.stack) e)) refl
      go false e = rw (nth-out (index i) s.stack (ltb-false (index i) (length s.stack) e)) refl

  drop-is : perform p x r Drop i s ≡ resume p x Drop i (advance s) (seen Drop) (comes Drop)
  unfolding perform resume outcome drops height ahead ◌>>=◌ pop advance jump load restack
  drop-is = go (leb (index i) (length s.stack)) refl
    where
      go : (b : Bool) → leb (index i) (length s.stack) ≡ b → ahead p (pop (index i) s) ≡ resume p x Drop i (advance s) (seen Drop) (cond b (Gives s.accu) Stuck)
      go true e = rw (without_in (index i) s.stack (leb-true (index i) (length s.stack) e)) refl
      go false e = rw (without-out (index i) s.stack (leb-false (index i) (length s.stack) e)) refl

  assign-is : perform p x r Assign i s ≡ resume p x Assign i (advance s) (seen Assign) (comes Assign)
  unfolding perform resume outcome height ahead ◌>>=◌ store advance jump load restack
  assign-is = go (ltb (index i) (length s.stack)) refl
    where
      go : (b : Bool) → ltb (index i) (length s.stack) ≡ b →
          ahead p (store (index i) s) ≡ resume p x Assign i (advance s) (seen Assign) (cond b Stores Stuck)
      go true e = rw (put_in (index i) s.accu s.stack (ltb-true (index i) (length s.stack) e)) refl
      go false e = rw (put-out (index i) s.accu s.stack (ltb-false (index i) (length s.stack) e)) refl

  call-is : perform p x r Call i s ≡ resume p x Call i (advance s) (seen Call) (comes Call)
  unfolding perform resume outcome drops height ahead ◌>>=◌ pop advance jump load restack
  call-is = go (leb (index i) (length s.stack)) refl
    where
      go : (b : Bool) → leb (index i) (length s.stack) ≡ b →
          ahead p (pop (index i) s >>= λ t. done (load r t)) ≡ resume p x Call i (advance s) (seen Call) (cond b (Gives r) Stuck)
      go true e = rw (without_in (index i) s.stack (leb-true (index i) (length s.stack) e)) refl
      go false e = rw (without-out (index i) s.stack (leb-false (index i) (length s.stack) e)) refl

  set_is : perform p x r SetField i s ≡ resume p x SetField i (advance s) (seen SetField) (comes SetField)
  unfolding perform resume outcome entry_of height ahead ◌>>=◌ pop advance jump load restack
  set_is = go (ltb 0 (length s.stack)) refl
    where
      moved : (m : Try State) → ahead p (m >>= λ u. done (load (exactly (pos 0)) u)) ≡ ((m >>= λ u. done (advance u)) >>= λ u. done (goes p (load (exactly (pos 0)) u)))
      moved stuck = refl
      moved (done u) = refl

      go : (b : Bool) → ltb 0 (length s.stack) ≡ b →
          ahead p (nth 0 s.stack >>= λ c. pop 1 s >>= λ t. set_field (index i) c t >>= λ u. done (load (exactly (pos 0)) u))
          ≡ resume p x SetField i (advance s) (seen SetField) (cond b (Sets (get_or s.stack 0 d)) Stuck)
      go true e =
          let h = ltb-true 0 (length s.stack) e in
          let c = get_or s.stack 0 d in
          rw (nth_in 0 s.stack d h, without_in 1 s.stack h)
          (moved (set_field (index i) c (restack (drop 1 s.stack) s)) ∙ ap (λ m. m >>= λ u. done (goes p (load (exactly (pos 0)) u))) (sym (set_field-advance (index i) c (restack (drop 1 s.stack) s))))
      go false e = rw (nth-out 0 s.stack (ltb-false 0 (length s.stack) e)) refl

  combine-is : (b : Binary) → perform p x r (Combine b) i s ≡ resume p x (Combine b) i (advance s) (seen (Combine b)) (comes (Combine b))
  unfolding perform resume outcome operated entry_of drops height ahead ◌>>=◌ pop advance jump load restack
  combine-is b = go (ltb 0 (length s.stack)) refl
    where
      given : (m : Try Cell) → 0 < length s.stack →
          ahead p (m >>= λ d. pop 1 s >>= λ t. done (load d t)) ≡ (m >>= λ c. pop 1 (advance s) >>= λ t. done (goes p (load c t)))
      given stuck h = refl
      given (done c) h = rw (without_in 1 s.stack h) refl

      go : (t : Bool) → ltb 0 (length s.stack) ≡ t →
          ahead p (nth 0 s.stack >>= λ c. operate₂ b s.accu c >>= λ d. pop 1 s >>= λ t. done (load d t))
          ≡ resume p x (Combine b) i (advance s) (seen (Combine b)) (cond t Operates Stuck)
      go true e =
          let h = ltb-true 0 (length s.stack) e in
          rw (nth_in 0 s.stack d h) (given (operate₂ b s.accu (get_or s.stack 0 d)) h)
      go false e = rw (nth-out 0 s.stack (ltb-false 0 (length s.stack) e)) refl

  alter-is : (u : Unary) → perform p x r (Alter u) i s ≡ resume p x (Alter u) i (advance s) (seen (Alter u)) (comes (Alter u))
  unfolding perform outcome resume operated drops ahead ◌>>=◌ pop without advance jump restack load
  alter-is u = go (operate₁ u i s.accu)
    where
      go : (m : Try Cell) → ahead p (m >>= λ c. done (load c s)) ≡ (m >>= λ c. pop 0 (advance s) >>= λ t. done (goes p (load c t)))
      go stuck = refl
      go (done c) = refl

  branch-is : (m : Try Condition) → (m >>= λ c. done (ways p x (index i) s c)) ≡ resume p x BranchIf i (advance s) (seen BranchIf) (branching false s.accu m)
  unfolding ways resume branching drops ◌>>=◌ pop without advance jump restack load
  branch-is stuck = refl
  branch-is (done IsZero) = refl
  branch-is (done IsNonzero) = refl
  branch-is (done IsUnknown) = refl

  branch-not-is : (m : Try Condition) → (m >>= λ c. done (ways p x (index i) s (opposite c))) ≡ resume p x BranchIfNot i (advance s) (seen BranchIfNot) (branching true s.accu m)
  unfolding ways opposite resume branching drops ◌>>=◌ pop without advance jump restack load
  branch-not-is stuck = refl
  branch-not-is (done IsZero) = refl
  branch-not-is (done IsNonzero) = refl
  branch-not-is (done IsUnknown) = refl

  get-is : (m : Try Cell) → ahead p (m >>= λ c. done (load c s)) ≡ (m >>= λ c. done (goes p (load c (advance s))))
  unfolding ahead ◌>>=◌ advance jump load
  get-is stuck = refl
  get-is (done c) = refl

  pub perform-resumes : (o : Operation) → perform p x r o i s ≡ resume p x o i (advance s) (seen o) (comes o)
  unfolding perform resume outcome drops ahead ◌>>=◌ pop without advance jump restack load get_field
  perform-resumes Nothing = refl
  perform-resumes Access = access-is
  perform-resumes Drop = drop-is
  perform-resumes Assign = assign-is
  perform-resumes Constant = refl
  perform-resumes GetField = get-is (get_field (index i) s)
  perform-resumes SetField = set_is
  perform-resumes Branch = refl
  perform-resumes BranchIf = branch-is (condition s.accu)
  perform-resumes BranchIfNot = branch-not-is (condition s.accu)
  perform-resumes Call = call-is
  perform-resumes Stop = refl
  perform-resumes (Alter u) = alter-is u
  perform-resumes (Combine b) = combine-is b
