-- One turn of the explorer's loop, or one step, apart from its code: the line is fetched, the address rises, a push is made or not, the
-- operation comes to its outcome, and the state and the blocks are changed by it. Assumes nothing.
use mathlib.Core.Path.{◌≡◌, refl, sym, ap, ◌∙◌}
use mathlib.Core.Bool.{Bool, true, false, cond}
use mathlib.Core.List.{List}
use Prim.Native.Nat.{ℕ, ◌≤◌, ◌<◌}
use native.Mathlib.Omega.{arith}
use lib.Dec.{leb, ltb}
use lib.IntN.{ℤ, pos}
use lib.ListN.{length, get_or, set}
use borrow.Author.Tests.{leb-true, ltb-true, ltb-false, le-ltb}
use Rattle.cells.specs.Try.{Try, stuck, done, ◌>>=◌}
use Rattle.cells.specs.declared.Cell.{Cell}
use Rattle.cells.specs.declared.Condition.{Condition}
use Rattle.cells.specs.declared.Condition.TheVariants.{IsZero, IsNonzero, IsUnknown}
use Rattle.cells.specs.Cells.{exactly, condition}
use Rattle.instructions.specs.declared.Operation.{Operation}
use Rattle.instructions.specs.declared.Operation.TheVariants.{Nothing, Access, Drop, Assign, Constant, GetField, SetField, Branch, BranchIf, BranchIfNot, Call, Stop, Alter, Combine}
use Rattle.machine_outcome.specs.declared.Outcome.{Outcome}
use Rattle.machine_outcome.specs.declared.Outcome.TheVariants.{Gives, Operates, Stores, Sets, Gets, Goes, Jumps, Opens, Halts, Stuck}
use Rattle.machine.specs.Machine.{State, stack_limit, height, Price, Instruction, Code, fetch, Next, goes, opens, stops, with_extra, index, jump, load, reblock, push, pop, store, set_field, advance, prepare, execute, step}
use Rattle.machine.proofs.ApartLaws.{push-advance, pop-accu}
use Rattle.machine_outcome.specs.HeldOutcome.{entry_of, drops, is_on_cells, operated, branching, outcome, resume, Room}
use Rattle.machine_outcome.proofs.OutcomeLaws.{perform-resumes}
use Rattle.machine_state.specs.declared.State as code
use Rattle.machine_state.specs.HeldState.{view, blocks_of, slot, Fits, whole}
use Rattle.machine_state.proofs.BlockLaws.{get_field-slot, set_field-slot}
use Rattle.machine_state.proofs.StateLaws.{push-whole, pop-whole, store-whole, load-whole, jump-whole}

-- ---- what an outcome asks of the stack

module _ (o : Operation) (n h : ℕ) where
  under-test : (b : Bool) (x : Outcome) → (b ≡ true → Room o n h x) → Room o n h (cond b x Stuck)
  under-test true x f = f refl
  under-test false x f = tt

  branching-room : (z : Bool) (a : Cell) (m : Try Condition) → drops o n ≡ 0 → Room o n h (branching z a m)
  unfolding branching
  branching-room z a stuck e = tt
  branching-room true a (done IsZero) e = tt
  branching-room false a (done IsZero) e = omega arith
  branching-room true a (done IsNonzero) e = omega arith
  branching-room false a (done IsNonzero) e = tt
  branching-room z a (done IsUnknown) e = tt

-- what an outcome asks of the stack is there
pub room : (o : Operation) (i : ℤ) (r : Cell) (h : ℕ) (a e : Cell) → Room o (index i) h (outcome o i r h a e)
unfolding outcome drops is_on_cells
room Nothing i r h a e = omega arith
room Access i r h a e = under-test Access (index i) h (ltb (index i) h) (Gives e) (λ t. omega arith)
room Drop i r h a e = under-test Drop (index i) h (leb (index i) h) (Gives a) (leb-true (index i) h)
room Assign i r h a e = under-test Assign (index i) h (ltb (index i) h) Stores (ltb-true (index i) h)
room Constant i r h a e = omega arith
room GetField i r h a e = tt
room SetField i r h a e = under-test SetField (index i) h (ltb 0 h) (Sets e) (ltb-true 0 h)
room Branch i r h a e = tt
room BranchIf i r h a e = branching-room BranchIf (index i) h false a (condition a) refl
room BranchIfNot i r h a e = branching-room BranchIfNot (index i) h true a (condition a) refl
room Call i r h a e = under-test Call (index i) h (leb (index i) h) (Gives r) (leb-true (index i) h)
room Stop i r h a e = tt
room (Alter u) i r h a e = (omega arith, refl)
room (Combine b) i r h a e = under-test (Combine b) (index i) h (ltb 0 h) Operates (λ t. (ltb-true 0 h t, refl))

-- the entry does not matter where there is none

at-no-entry : (p : Price) (y : ℕ) (s : State) (o : Operation) (i : ℤ) (b : Bool) (x : Outcome) (e e' : Cell) → resume p y o i s e x ≡ resume p y o i s e' x → resume p y o i s e (cond b x Stuck) ≡ resume p y o i s e' (cond b x Stuck)
unfolding resume
at-no-entry p y s o i true x e e' g = g
at-no-entry p y s o i false x e e' g = refl

branches-no-entry : (p : Price) (y : ℕ) (s : State) (o : Operation) (i : ℤ) (z : Bool) (a : Cell) (m : Try Condition) (e e' : Cell) → resume p y o i s e (branching z a m) ≡ resume p y o i s e' (branching z a m)
unfolding resume branching
branches-no-entry p y s o i z a stuck e e' = refl
branches-no-entry p y s o i true a (done IsZero) e e' = refl
branches-no-entry p y s o i false a (done IsZero) e e' = refl
branches-no-entry p y s o i true a (done IsNonzero) e e' = refl
branches-no-entry p y s o i false a (done IsNonzero) e e' = refl
branches-no-entry p y s o i z a (done IsUnknown) e e' = refl

no-entry : (p : Price) (y : ℕ) (s : State) (o : Operation) (i : ℤ) (r : Cell) (h : ℕ) (a e e' : Cell) → h ≤ entry_of o (index i) →
    resume p y o i s e (outcome o i r h a e) ≡ resume p y o i s e' (outcome o i r h a e')
unfolding outcome entry_of resume operated
no-entry p y s Nothing i r h a e e' l = refl
no-entry p y s Access i r h a e e' l = rw (le-ltb (index i) h l) refl
no-entry p y s Drop i r h a e e' l = at-no-entry p y s Drop i (leb (index i) h) (Gives a) e e' refl
no-entry p y s Assign i r h a e e' l = at-no-entry p y s Assign i (ltb (index i) h) Stores e e' refl
no-entry p y s Constant i r h a e e' l = refl
no-entry p y s GetField i r h a e e' l = refl
no-entry p y s SetField i r h a e e' l = rw (le-ltb 0 h l) refl
no-entry p y s Branch i r h a e e' l = refl
no-entry p y s BranchIf i r h a e e' l = branches-no-entry p y s BranchIf i false a (condition a) e e'
no-entry p y s BranchIfNot i r h a e e' l = branches-no-entry p y s BranchIfNot i true a (condition a) e e'
no-entry p y s Call i r h a e e' l = at-no-entry p y s Call i (leb (index i) h) (Gives r) e e' refl
no-entry p y s Stop i r h a e e' l = refl
no-entry p y s (Alter u) i r h a e e' l = refl
no-entry p y s (Combine b) i r h a e e' l = rw (le-ltb 0 h l) refl

-- ---- a turn

-- a push after the address has risen is one before it
prepare-before : (b : Bool) (s u : State) → prepare b (advance s) ≡ done u → (t : State) × (prepare b s ≡ done t) × (advance t ≡ u)
unfolding prepare ◌>>=◌
prepare-before false s u e = (s, refl, (let g : done (advance s) ≡ done u = e in cc))
prepare-before true s u e = go (push s) refl
  where
    go : (m : Try State) → push s ≡ m → (t : State) × (push s ≡ done t) × (advance t ≡ u)
    go stuck g = let z : stuck ≡ done u = ap (λ m. m >>= λ t. done (advance t)) (sym g) ∙ sym (push-advance s) ∙ e in let y : ◌≡◌ {A = ℕ} 0 1 = cc in absurd (omega arith)
    go (done t) g = (t, g, (let z : done (advance t) ≡ done u = ap (λ m. m >>= λ t. done (advance t)) (sym g) ∙ sym (push-advance s) ∙ e in cc))

-- and the other way round
pub prepare-after : (b : Bool) (s t : State) → prepare b s ≡ done t → prepare b (advance s) ≡ done (advance t)
unfolding prepare ◌>>=◌
prepare-after false s t e = (let g : done s ≡ done t = e in ap (λ m. m >>= λ t. done (advance t)) g)
prepare-after true s t e = push-advance s ∙ ap (λ m. m >>= λ t. done (advance t)) e

module _ (ns : List ℕ) (fs : List Cell) where
  -- a push, where the instruction pushes first
  pub pushed : (s t : code.State) → done (view t) ≡ push (view s) → prepare true (whole ns fs s) ≡ done (whole ns fs t)
  unfolding prepare
  pushed s t e = push-whole ns fs s t e

  pub not-pushed : (s : code.State) → prepare false (whole ns fs s) ≡ done (whole ns fs s)
  unfolding prepare
  not-pushed s = refl

  pub full : (s : code.State) → stack_limit ≤ length (view s).stack → prepare true (whole ns fs s) ≡ stuck
  unfolding prepare push height whole reblock
  full s h = rw (le-ltb (length (view s).stack) stack_limit h) refl

  -- the step, resumed from the state u after the address has risen and the push is made
  module _ (c : Code) (r : Cell) (s u : code.State) (i : Instruction) (f : fetch c s.at ≡ done i) (p : prepare i.pushes (advance (whole ns fs s)) ≡ done (whole ns fs u)) where
    pub turns : (h : ℕ) (e : Cell) → h ≡ length (view u).stack → (entry_of i.operation (index i.operand) < h → e ≡ get_or (view u).stack (entry_of i.operation (index i.operand)) e) →
        step c r (whole ns fs s) ≡ resume i.price i.extra i.operation i.operand (whole ns fs u) e (outcome i.operation i.operand r h u.accu e)
    unfolding step execute ◌>>=◌ advance jump height whole reblock
    turns h e g k =
        let (t, q, m) = prepare-before i.pushes (whole ns fs s) (whole ns fs u) p in
        rw (f, q) (perform-resumes i.price i.extra r i.operand t e i.operation ∙ ap from m ∙ seen (ltb (entry_of i.operation (index i.operand)) h) refl)
      where
        -- the outcome from a state, by its own entry
        from : State → Try Next
        from v =
            resume i.price i.extra i.operation i.operand v (get_or v.stack (entry_of i.operation (index i.operand)) e)
            (outcome i.operation i.operand r (height v) v.accu (get_or v.stack (entry_of i.operation (index i.operand)) e))

        seen : (b : Bool) → ltb (entry_of i.operation (index i.operand)) h ≡ b →
            from (whole ns fs u) ≡ resume i.price i.extra i.operation i.operand (whole ns fs u) e (outcome i.operation i.operand r h u.accu e)
        seen true l =
            ap (λ d. resume i.price i.extra i.operation i.operand (whole ns fs u) d (outcome i.operation i.operand r (length (view u).stack) u.accu d)) (sym (k (ltb-true _ h l)))
            ∙ ap (λ h. resume i.price i.extra i.operation i.operand (whole ns fs u) e (outcome i.operation i.operand r h u.accu e)) (sym g)
        seen false l =
            ap (λ h. resume i.price i.extra i.operation i.operand (whole ns fs u) (get_or (view u).stack (entry_of i.operation (index i.operand)) e) (outcome i.operation i.operand r h u.accu (get_or (view u).stack (entry_of i.operation (index i.operand)) e))) (sym g)
            ∙ no-entry i.price i.extra (whole ns fs u) i.operation i.operand r h u.accu _ e (ltb-false _ h l)

  -- the state after each outcome of an operation o with operand i, at the price p, with the extra y
  module _ (p : Price) (y : ℕ) (o : Operation) (i : ℤ) (u : code.State) (e : Cell) where
    module _ (c : Cell) (k : ℕ) (v w : code.State) (some : k ≡ drops o (index i)) (popped : done (view v) ≡ pop k (view u)) (loaded : view w ≡ load c (view v)) where
      dropped : (pop (drops o (index i)) (whole ns fs u) >>= λ t. done (goes p (load c t))) ≡ done (goes p (whole ns fs w))
      unfolding ◌>>=◌
      dropped =
          ap (λ k. pop k (whole ns fs u) >>= λ t. done (goes p (load c t))) (sym some)
          ∙ ap (λ m. m >>= λ t. done (goes p (load c t))) (pop-whole ns fs u v k popped)
          ∙ ap (λ s. done (goes p s)) (sym (load-whole ns fs v w c loaded))

      pub gives_goes : resume p y o i (whole ns fs u) e (Gives c) ≡ done (goes p (whole ns fs w))
      unfolding resume
      gives_goes = dropped

      pub operates-goes : operated o i u.accu e ≡ done c → resume p y o i (whole ns fs u) e Operates ≡ done (goes p (whole ns fs w))
      unfolding resume ◌>>=◌ whole reblock
      operates-goes g = rw g dropped

    pub operates-stuck : operated o i u.accu e ≡ stuck → resume p y o i (whole ns fs u) e Operates ≡ stuck
    unfolding resume ◌>>=◌ whole reblock
    operates-stuck g = rw g refl

    pub stores-goes : (w : code.State) → done (view w) ≡ store (index i) (view u) → resume p y o i (whole ns fs u) e Stores ≡ done (goes p (whole ns fs w))
    unfolding resume ◌>>=◌
    stores-goes w g = ap (λ m. m >>= λ t. done (goes p t)) (store-whole ns fs u w (index i) g)

    module _ (w : code.State) (jumped : view w ≡ jump (index i) (view u)) where
      pub branches-goes : resume p y o i (whole ns fs u) e Goes ≡ done (goes p (whole ns fs w))
      unfolding resume
      branches-goes = ap (λ s. done (goes p s)) (sym (jump-whole ns fs u w (index i) jumped))

      pub jumps-goes : resume p y o i (whole ns fs u) e Jumps ≡ done (goes (with_extra y p) (whole ns fs w))
      unfolding resume
      jumps-goes = ap (λ s. done (goes (with_extra y p) s)) (sym (jump-whole ns fs u w (index i) jumped))

      pub opens-both : resume p y o i (whole ns fs u) e Opens ≡ done (opens p (whole ns fs u) (with_extra y p) (whole ns fs w))
      unfolding resume
      opens-both = ap (λ s. done (opens p (whole ns fs u) (with_extra y p) s)) (sym (jump-whole ns fs u w (index i) jumped))

    pub halts : resume p y o i (whole ns fs u) e Halts ≡ done (stops p)
    unfolding resume
    halts = refl

    pub is_stuck : resume p y o i (whole ns fs u) e Stuck ≡ stuck
    unfolding resume
    is_stuck = refl

    module _ (fits : Fits ns fs) where
      pub gets-goes : (j : ℕ) (d : Cell) (w : code.State) → slot ns u.accu (index i) ≡ done j → view w ≡ load (get_or fs j d) (view u) →
          resume p y o i (whole ns fs u) e Gets ≡ done (goes p (whole ns fs w))
      unfolding resume ◌>>=◌ whole reblock
      gets-goes j d w at loaded =
          rw (get_field-slot ns fs fits (whole ns fs u) refl (index i) d, at) (ap (λ s. done (goes p s)) (sym (load-whole ns fs u w (get_or fs j d) loaded)))

      pub gets-stuck : slot ns u.accu (index i) ≡ stuck → resume p y o i (whole ns fs u) e Gets ≡ stuck
      unfolding resume ◌>>=◌ whole reblock
      gets-stuck at = rw (get_field-slot ns fs fits (whole ns fs u) refl (index i) u.accu, at) refl

      module _ (c : Cell) (v : code.State) (popped : done (view v) ≡ pop 1 (view u)) where
        -- the field is set after the pop
        set_after : resume p y o i (whole ns fs u) e (Sets c) ≡ (slot ns u.accu (index i) >>= λ j. done (goes p (load (exactly (pos 0)) (whole ns (set fs j c) v))))
        unfolding resume ◌>>=◌ whole reblock
        set_after =
            let kept : v.accu ≡ u.accu = pop-accu 1 (view u) (view v) popped in
            ap (λ m. m >>= λ t. set_field (index i) c t >>= λ w. done (goes p (load (exactly (pos 0)) w))) (pop-whole ns fs u v 1 popped)
            ∙ ap (λ m. m >>= λ w. done (goes p (load (exactly (pos 0)) w))) (set_field-slot ns fs fits (whole ns fs v) refl (index i) c)
            ∙ from (slot ns v.accu (index i))
            ∙ ap (λ a. slot ns a (index i) >>= λ j. done (goes p (load (exactly (pos 0)) (whole ns (set fs j c) v)))) kept
          where
            from : (m : Try ℕ) → ((m >>= λ j. done (reblock (blocks_of ns (set fs j c)) (whole ns fs v))) >>= λ w. done (goes p (load (exactly (pos 0)) w)))
                ≡ (m >>= λ j. done (goes p (load (exactly (pos 0)) (whole ns (set fs j c) v))))
            from stuck = refl
            from (done j) = refl

        pub sets-goes : (j : ℕ) (w : code.State) → slot ns u.accu (index i) ≡ done j → view w ≡ load (exactly (pos 0)) (view v) →
            resume p y o i (whole ns fs u) e (Sets c) ≡ done (goes p (whole ns (set fs j c) w))
        unfolding ◌>>=◌
        sets-goes j w at loaded =
            set_after ∙ ap (λ m. m >>= λ j. done (goes p (load (exactly (pos 0)) (whole ns (set fs j c) v)))) at
            ∙ ap (λ s. done (goes p s)) (sym (load-whole ns (set fs j c) v w (exactly (pos 0)) loaded))

        pub sets-stuck : slot ns u.accu (index i) ≡ stuck → resume p y o i (whole ns fs u) e (Sets c) ≡ stuck
        unfolding ◌>>=◌
        sets-stuck at = set_after ∙ ap (λ m. m >>= λ j. done (goes p (load (exactly (pos 0)) (whole ns (set fs j c) v)))) at
