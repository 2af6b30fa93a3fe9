-- What is proved of the step, by the names of specs/Promises. Nothing else needs to be read of proofs/. Assumes nothing.
use Prim.Native.Nat.{ℕ, ◌<◌}
use mathlib.Core.Path.{◌≡◌, refl, sym, ap, ◌∙◌}
use mathlib.Core.List.{◌∷◌}
use mathlib.Core.Bool.{Bool, true, false, cond, ◌&&◌}
use native.Mathlib.Omega.{arith}
use lib.Dec.{eqb, ltb}
use lib.IntN.{ℤ, pos}
use lib.Signed.{le_z}
use borrow.Author.Tests.{eqb-false}
use Rattle.cells.specs.Try.{Try, stuck, done, ◌>>=◌}
use Rattle.cells.specs.declared.Value.{Value}
use Rattle.cells.specs.declared.Value.TheVariants.{Range, Handle}
use Rattle.cells.specs.declared.Cell.{Cell}
use Rattle.cells.specs.declared.Condition.{Condition}
use Rattle.cells.specs.declared.Condition.TheVariants.{IsZero, IsNonzero, IsUnknown}
use Rattle.cells.specs.Cells.{cell, range, high, condition_in, condition}
use Rattle.cells.specs.Order.{same}
use Rattle.cells.specs.Promises.{Of}
use Rattle.cells.proofs.CellLaws.{refines-lawful, allowed-lawful}
use Rattle.cells.proofs.RangeLaws.{high_zero}
use Rattle.instructions.specs.declared.Operation.{Operation}
use Rattle.instructions.specs.declared.Operation.TheVariants.{Nothing, Access, Drop, Assign, Constant, GetField, SetField, Branch, BranchIf, BranchIfNot, Call, Stop, Alter, Combine}
use Rattle.machine.specs.Machine.{index, State, Price, Next, opens, Code, fetch, restack, push, stack_limit, height, ahead, ways, opposite, perform, prepare, execute, step}
use Rattle.machine.specs.Promises.{StepRefines, StepPlain, OpensWhere}
use Rattle.machine.proofs.StepLaws.{step-law}

pub step-refines : StepRefines
step-refines c s t e = step-law refines-lawful c same e

pub step-plain : StepPlain
step-plain c a s t h e = step-law allowed-lawful c h e

-- ---- where two ways open

-- a condition that leaves both open has 0 and more
abbrev Wide : Cell → Type 0
Wide a = (low : ℤ) × (more : ℕ) × (a ≡ range low more) × Of (pos 0) low more × (0 < more)

value-wide : (v : Value) → condition_in v ≡ done IsUnknown → Wide (cell v)
unfolding condition_in
value-wide (Handle k) e = let z : ◌≡◌ {A = ℕ} 0 1 = cc in absurd (omega arith)
value-wide (Range low more) e = go (le_z low (pos 0)) refl (le_z (pos 0) (high low more)) refl (eqb more 0) refl e
  where
    go : (a : Bool) → le_z low (pos 0) ≡ a → (b : Bool) → le_z (pos 0) (high low more) ≡ b → (d : Bool) → eqb more 0 ≡ d → done (cond (a && b) (cond d IsZero IsUnknown) IsNonzero) ≡ done IsUnknown → Wide (range low more)
    go true f true g false h e = let k = eqb-false more 0 h in (low, more, refl, record { least = f; greatest = rw (high_zero (pos 0)) g }, omega arith)
    go true f true g true h e = let z : ◌≡◌ {A = ℕ} 0 1 = cc in absurd (omega arith)
    go true f false g d h e = let z : ◌≡◌ {A = ℕ} 0 1 = cc in absurd (omega arith)
    go false f b g d h e = let z : ◌≡◌ {A = ℕ} 0 1 = cc in absurd (omega arith)

-- it opens two ways on such a condition alone
abbrev OpensOn : Cell → Try Next → Type 0
OpensOn a m = (t u : State) (p q : Price) → m ≡ done (opens p t q u) → condition a ≡ done IsUnknown

ahead-on : (a : Cell) (p : Price) (m : Try State) → OpensOn a (ahead p m)
unfolding ahead ◌>>=◌
ahead-on a p stuck t u p' q e = let z : ◌≡◌ {A = ℕ} 0 1 = cc in absurd (omega arith)
ahead-on a p (done s) t u p' q e = let z : ◌≡◌ {A = ℕ} 0 1 = cc in absurd (omega arith)

ways_on : (a : Cell) (f : Condition → Condition) → ((c : Condition) → f c ≡ IsUnknown → c ≡ IsUnknown) → (p : Price) (x i : ℕ) (s : State) (m : Try Condition) → condition a ≡ m → OpensOn a (m >>= λ c. done (ways p x i s (f c)))
unfolding ways ◌>>=◌
ways_on a f h p x i s stuck e t u p' q g = let z : ◌≡◌ {A = ℕ} 0 1 = cc in absurd (omega arith)
ways_on a f h p x i s (done c) e t u p' q g = e ∙ ap done (h c (by (f c) g))
  where
    by : (d : Condition) → done (ways p x i s d) ≡ done (opens p' t q u) → d ≡ IsUnknown
    by IsZero g = let z : ◌≡◌ {A = ℕ} 0 1 = cc in absurd (omega arith)
    by IsNonzero g = let z : ◌≡◌ {A = ℕ} 0 1 = cc in absurd (omega arith)
    by IsUnknown g = refl

opposite-open : (c : Condition) → opposite c ≡ IsUnknown → c ≡ IsUnknown
unfolding opposite
opposite-open IsZero e = let z : ◌≡◌ {A = ℕ} 0 1 = cc in absurd (omega arith)
opposite-open IsNonzero e = let z : ◌≡◌ {A = ℕ} 0 1 = cc in absurd (omega arith)
opposite-open IsUnknown e = refl

perform-on : (p : Price) (x : ℕ) (r : Cell) (o : Operation) (i : ℤ) (s : State) → OpensOn s.accu (perform p x r o i s)
unfolding perform
perform-on p x r Nothing i s = ahead-on _ p _
perform-on p x r Access i s = ahead-on _ p _
perform-on p x r Drop i s = ahead-on _ p _
perform-on p x r Assign i s = ahead-on _ p _
perform-on p x r Constant i s = ahead-on _ p _
perform-on p x r (Alter u) i s = ahead-on _ p _
perform-on p x r (Combine b) i s = ahead-on _ p _
perform-on p x r GetField i s = ahead-on _ p _
perform-on p x r SetField i s = ahead-on _ p _
perform-on p x r Branch i s = λ t u p' q e. let z : ◌≡◌ {A = ℕ} 0 1 = cc in absurd (omega arith)
perform-on p x r BranchIf i s = ways_on s.accu (λ c. c) (λ c e. e) p x (index i) s (condition s.accu) refl
perform-on p x r BranchIfNot i s = ways_on s.accu opposite opposite-open p x (index i) s (condition s.accu) refl
perform-on p x r Call i s = ahead-on _ p _
perform-on p x r Stop i s = λ t u p' q e. let z : ◌≡◌ {A = ℕ} 0 1 = cc in absurd (omega arith)

-- a push keeps the accumulator
prepared : (b : Bool) (s t : State) → prepare b s ≡ done t → t.accu ≡ s.accu
unfolding prepare push restack
prepared false s t e = let h : s ≡ t = cc in ap (λ (x : State). x.accu) (sym h)
prepared true s t e = go (ltb (height s) stack_limit) e
  where
    go : (b : Bool) → cond b (done (restack (s.accu ∷ s.stack) s)) stuck ≡ done t → t.accu ≡ s.accu
    go true e = let h : restack (s.accu ∷ s.stack) s ≡ t = cc in ap (λ (x : State). x.accu) (sym h)
    go false e = let z : ◌≡◌ {A = ℕ} 0 1 = cc in absurd (omega arith)

then-on : {A : Type 0} (a : Cell) (m : Try A) (f : A → Try Next) → ((x : A) → m ≡ done x → OpensOn a (f x)) → OpensOn a (m >>= f)
unfolding ◌>>=◌
then-on a stuck f h t u p q e = let z : ◌≡◌ {A = ℕ} 0 1 = cc in absurd (omega arith)
then-on a (done x) f h t u p q e = h x refl t u p q e

step-on : (c : Code) (r : Cell) (s : State) → OpensOn s.accu (step c r s)
unfolding step execute
step-on c r s =
    then-on s.accu (fetch c s.at) (λ i. execute r i s) (λ i f.
    then-on s.accu (prepare i.pushes s) (perform i.price i.extra r i.operation i.operand) (λ v g t u p q e.
    ap condition (sym (prepared i.pushes s v g)) ∙ perform-on i.price i.extra r i.operation i.operand v t u p q e))

pub opens-where : OpensWhere
unfolding condition
opens-where c r s t u p q e = value-wide s.accu.value (step-on c r s t u p q e)
