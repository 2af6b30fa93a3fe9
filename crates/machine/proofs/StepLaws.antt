-- The law of the step, for any lawful relation of cells: where the step from the larger state is not stuck, neither is that from the
-- smaller, and what they lead to is related. With specs/ this, PriceLaws and HeightLaws are all that knows the instructions.
-- Assumes nothing.
use mathlib.Core.Path.{refl, ap}
use mathlib.Core.Bool.{Bool, true, false}
use Prim.Native.Nat.{ℕ}
use lib.IntN.{ℤ, pos}
use Rattle.cells.specs.Try.{Try}
use Rattle.cells.specs.declared.Cell.{Cell}
use Rattle.cells.specs.declared.Condition.{Condition}
use Rattle.cells.specs.Covering.{Covered, both, Narrower, zeros, nonzeros, zero_unknown, nonzero_unknown, unknowns, Lawful}
use Rattle.cells.proofs.Covering.{bind, covered-equal}
use Rattle.instructions.specs.declared.Operation.{Operation}
use Rattle.instructions.specs.declared.Operation.TheVariants.{Nothing, Access, Drop, Assign, Constant, GetField, SetField, Branch, BranchIf, BranchIfNot, Call, Stop, Alter, Combine}
use Rattle.machine.specs.Machine.{index, State, Price, Instruction, Code, fetch, get_field, set_field, store, ahead, ways, opposite, perform, prepare, execute, step}
use Rattle.machine.specs.Order.{Cellwise}
use Rattle.machine.specs.Covering.{NextCovered, stops_too, goes_too, opens_too, goes_not_taken, goes_taken}
use Rattle.machine.proofs.StateLaws.{nth-law, put-law, jump-law, advance-law, load-law, restack-law, reblock-law, push-law, pop-law}

module _ {R : Cell → Cell → Type 0} {two : Type 0} (L : Lawful R two) where
  get_field-law : (n : ℕ) {s t : State} → Cellwise R s t → Covered R (get_field n s) (get_field n t)
  unfolding get_field
  get_field-law n e =
      bind (L.blocks e.accu) (λ k k' h.
      bind (nth-law h e.blocks) (λ b b' g.
      nth-law refl g))

  set_field-law : (n : ℕ) {s t : State} {c d : Cell} → Cellwise R s t → R c d → Covered (Cellwise R) (set_field n c s) (set_field n d t)
  unfolding set_field
  set_field-law n e r =
      bind (L.blocks e.accu) (λ k k' h.
      bind (nth-law h e.blocks) (λ b b' g.
      bind (put-law refl g r) (λ b b' g'.
      bind (put-law h e.blocks g') (λ bs bs' f.
      both (reblock-law e f)))))

  ahead-law : (p : Price) {m n : Try State} → Covered (Cellwise R) m n → Covered (NextCovered (Cellwise R) two) (ahead p m) (ahead p n)
  unfolding ahead
  ahead-law p h = bind h (λ s t e. both (goes_too (advance-law e)))

  ways-law : (p : Price) (n a : ℕ) {s t : State} {x y : Condition} → Cellwise R s t → Narrower two x y → NextCovered (Cellwise R) two (ways p n a s x) (ways p n a t y)
  unfolding ways
  ways-law p n a e zeros = goes_too (advance-law e)
  ways-law p n a e nonzeros = goes_too (jump-law a e)
  ways-law p n a e zero_unknown = goes_not_taken (advance-law e)
  ways-law p n a e nonzero_unknown = goes_taken (jump-law a e)
  ways-law p n a e (unknowns h) = opens_too h (advance-law e) (jump-law a e)

  opposite-law : {x y : Condition} → Narrower two x y → Narrower two (opposite x) (opposite y)
  unfolding opposite
  opposite-law zeros = nonzeros
  opposite-law nonzeros = zeros
  opposite-law zero_unknown = nonzero_unknown
  opposite-law nonzero_unknown = zero_unknown
  opposite-law (unknowns h) = unknowns h

  perform-law : (p : Price) (n : ℕ) {r r' : Cell} (o : Operation) (i : ℤ) {s t : State} → R r r' → Cellwise R s t →
      Covered (NextCovered (Cellwise R) two) (perform p n r o i s) (perform p n r' o i t)
  unfolding perform store
  perform-law p n Nothing i k e = ahead-law p (both e)
  perform-law p n Access i k e = ahead-law p (bind (nth-law refl e.stack) (λ c d h. both (load-law e h)))
  perform-law p n Drop i k e = ahead-law p (pop-law (index i) e)
  perform-law p n Assign i k e = ahead-law p (bind (put-law refl e.stack e.accu) (λ c d h. both (load-law (restack-law e h) (L.numbers (pos 0)))))
  perform-law p n Constant i k e = ahead-law p (both (load-law e (L.numbers i)))
  perform-law p n (Alter u) i k e = ahead-law p (bind (L.operates₁ u i e.accu) (λ c d h. both (load-law e h)))
  perform-law p n (Combine b) i k e =
      ahead-law p
      (bind (nth-law refl e.stack) (λ c c' h.
      bind (L.operates₂ b e.accu h) (λ d d' g.
      bind (pop-law 1 e) (λ s t f.
      both (load-law f g)))))
  perform-law p n GetField i k e = ahead-law p (bind (get_field-law (index i) e) (λ c d h. both (load-law e h)))
  perform-law p n SetField i k e =
      ahead-law p
      (bind (nth-law refl e.stack) (λ c c' h.
      bind (pop-law 1 e) (λ s t f.
      bind (set_field-law (index i) f h) (λ u u' g.
      both (load-law g (L.numbers (pos 0)))))))
  perform-law p n Branch i k e = both (goes_too (jump-law (index i) e))
  perform-law p n BranchIf i k e = bind (L.conditions e.accu) (λ x y h. both (ways-law p n (index i) e h))
  perform-law p n BranchIfNot i k e = bind (L.conditions e.accu) (λ x y h. both (ways-law p n (index i) e (opposite-law h)))
  perform-law p n Call i k e = ahead-law p (bind (pop-law (index i) e) (λ s t h. both (load-law h k)))
  perform-law p n Stop i k e = both stops_too

  prepare-law : (b : Bool) {s t : State} → Cellwise R s t → Covered (Cellwise R) (prepare b s) (prepare b t)
  unfolding prepare
  prepare-law true e = push-law e
  prepare-law false e = both e

  execute-law : {r r' : Cell} (i : Instruction) {s t : State} → R r r' → Cellwise R s t → Covered (NextCovered (Cellwise R) two) (execute r i s) (execute r' i t)
  unfolding execute
  execute-law i h e = bind (prepare-law i.pushes e) (λ s t f. perform-law i.price i.extra i.operation i.operand h f)

  pub step-law : (c : Code) {r r' : Cell} {s t : State} → R r r' → Cellwise R s t → Covered (NextCovered (Cellwise R) two) (step c r s) (step c r' t)
  unfolding step
  step-law c h e =
      bind (covered-equal (ap (λ a. fetch c a) e.at)) (λ i i' f.
      rw f (execute-law i' h e))
