-- A turn of the explorer's loop over the code's own values: the push in place, the loop's invariant, and the next turn.
-- Assumes nothing.
use mathlib.Core.Path.{◌≡◌, refl, sym, subst, ◌∙◌, ap}
use mathlib.Core.Bool.{Bool, true, false, cond}
use mathlib.Core.List.{List}
use Prim.Native.Nat.{ℕ, ◌+◌, ◌-◌, ◌*◌, ◌≤◌, ◌<◌}
use native.Mathlib.Omega.{arith}
use lib.Dec.{eqb}
use borrow.Author.Tests.{eqb-true}
use native.Mathlib.Numerals.{add-one}
use lib.ListN.{length, set}
use Rattle.cells.specs.Try.{Try, stuck, done, ◌>>=◌}
use Rattle.cells.specs.declared.Cell.{Cell}
use Rattle.cells.specs.Cells.{unknown}
use Rattle.machine.specs.Machine.{height, Price, Instruction, Next, goes, jump, advance, reblock, fetch, prepare, execute, step}
use Rattle.machine.specs.Machine as machine
use Rattle.machine_outcome.proofs.TurnLaws as turn
use Rattle.machine_state.specs.declared.State.{State}
use Rattle.machine_state.specs.declared.registers.Registers.{Registers}
use Rattle.machine_state.specs.declared.code.Line.{Line}
use Rattle.machine_state.specs.HeldRegisters.{registers_of, with_stack}
use Rattle.machine_state.specs.HeldRegisters as registers
use Rattle.machine_state.specs.HeldState.{view, WellFormed, Fits, whole}
use Rattle.machine_state.specs.HeldProgram.{program_of, sizes_of}
use Rattle.machine_state.proofs.StateLaws.{height-is, pushed, push-is, push-formed, advance-whole}
use Rattle.bound_figures.specs.declared.Tally.{Tally}
use Rattle.bound_figures.specs.HeldFigures.{zero_tally, more_of}
use Rattle.bound_turns.specs.HeldTurn.{reached}
use Rattle.bound_explorer.proofs.LoopLaws as loop

-- ---- the push, and the next address

-- the state at the next address
abbrev pub ahead : State → State
ahead s = record { at = s.at + 1; accu = s.accu; free = s.free; stack = s.stack }

pub rises : (s : State) → view (ahead s) ≡ advance (view s)
unfolding advance jump
rises s = simp add-one

-- u is s after the push, where the line pushes first
pub record Prepared (ns : List ℕ) (fs : List Cell) (l : Line) (s u : State) : Type 0 where
  pub ready : prepare l.pushes (advance (whole ns fs s)) ≡ done (whole ns fs (ahead u))
  pub formed : WellFormed u
  pub same_at : u.at ≡ s.at

module _ (ns : List ℕ) (fs : List Cell) (l : Line) (s : State) (formed : WellFormed s) where
  risen : (b : Bool) (u : State) → prepare b (whole ns fs s) ≡ done (whole ns fs u) → prepare b (advance (whole ns fs s)) ≡ done (whole ns fs (ahead u))
  risen b u e = turn.prepare-after b (whole ns fs s) (whole ns fs u) e ∙ ap done (sym (advance-whole ns fs u (ahead u) (rises u)))

  pub pushes : l.pushes ≡ true → 0 < s.free → (r : Registers) (st : List Cell) (c : Cell) → r ≡ registers.pushed (registers_of s) → c ≡ r.accu → st ≡ set s.stack r.free c → Prepared ns fs l s (with_stack r st)
  pushes p some r st c is written at =
      let same : with_stack r st ≡ pushed s = ap (with_stack r) (at ∙ ap (set s.stack r.free) (written ∙ ap (λ x. x.accu) is) ∙ ap (λ x. set s.stack x.free s.accu) is) ∙ ap (λ x. with_stack x (pushed s).stack) is in
      subst (Prepared ns fs l s) (sym same) (record {
        ready = ap (λ b. prepare b (advance (whole ns fs s))) p ∙ risen true (pushed s) (turn.pushed ns fs s (pushed s) (push-is s formed some));
        formed = push-formed s formed some;
        same_at = refl;
      })

  pub keeps : l.pushes ≡ false → (u : State) → u ≡ s → Prepared ns fs l s u
  keeps p u same =
      subst (Prepared ns fs l s) (sym same) (record {
        ready = ap (λ b. prepare b (advance (whole ns fs s))) p ∙ risen false s (turn.not-pushed ns fs s);
        formed = formed;
        same_at = refl;
      })

module _ (ps : List ℕ) (o budget : ℕ) (fs₀ : List Cell) (s₀ : State) where
  abbrev pub act : machine.State → Try Next
  act = step (program_of ps) unknown

  -- what holds whenever the loop's test is reached
  pub record Turn (fs : List Cell) (s : State) (left : ℕ) (t : Tally) : Type 0 where
    pub inv : loop.Inv act o budget (whole (sizes_of ps) fs₀ s₀) (whole (sizes_of ps) fs s) left t
    pub formed : WellFormed s
    pub fits : Fits (sizes_of ps) fs
    pub size : length fs ≡ length fs₀
    pub cycles : t.cycles ≤ 8589934592 * (budget - left)
    pub words : t.words ≤ 4294967296 * (budget - left)

  pub starts : WellFormed s₀ → Fits (sizes_of ps) fs₀ → Turn fs₀ s₀ budget (zero_tally budget)
  starts formed fits =
      record { inv = loop.begins act o budget (whole (sizes_of ps) fs₀ s₀); formed = formed; fits = fits; size = refl; cycles = omega arith; words = omega arith }

  whole-height : (fs : List Cell) (s : State) → WellFormed s → height (whole (sizes_of ps) fs s) ≡ 64 - s.free
  unfolding height whole reblock
  whole-height fs s formed = height-is s formed

  -- a full stack, where the instruction pushes first
  overflows : (fs : List Cell) (s : State) (i : Instruction) → fetch (program_of ps) s.at ≡ done i → i.pushes ≡ true → WellFormed s → s.free ≡ 0 →
      act (whole (sizes_of ps) fs s) ≡ stuck
  unfolding step execute ◌>>=◌ whole reblock
  overflows fs s i found pushes formed none =
      let h : prepare true (whole (sizes_of ps) fs s) ≡ stuck = turn.full (sizes_of ps) fs s (omega (arith, height-is s formed)) in
      rw (found, pushes, h) refl

  outside : (fs : List Cell) (s : State) → stuck ≡ fetch (program_of ps) s.at → act (whole (sizes_of ps) fs s) ≡ stuck
  unfolding step ◌>>=◌ whole reblock
  outside fs s e = rw (sym e) refl

  -- no line that can be made
  pub unreached : (fs : List Cell) (s : State) → WellFormed s → stuck ≡ reached (program_of ps) (registers_of s) → act (whole (sizes_of ps) fs s) ≡ stuck
  unfolding reached ◌>>=◌
  unreached fs s formed e = go (fetch (program_of ps) s.at) refl
    where
      pushing : (i : Instruction) (b z : Bool) → fetch (program_of ps) s.at ≡ done i → i.pushes ≡ b → eqb s.free 0 ≡ z → stuck ≡ cond b (cond z stuck (done i)) (done i) → act (whole (sizes_of ps) fs s) ≡ stuck
      pushing i true true f p q h = overflows fs s i f p formed (eqb-true s.free 0 q)
      pushing i true false f p q h = let y : ◌≡◌ {A = ℕ} 0 1 = cc in absurd (omega arith)
      pushing i false z f p q h = let y : ◌≡◌ {A = ℕ} 0 1 = cc in absurd (omega arith)

      from : Instruction → Try Instruction
      from i = cond i.pushes (cond (eqb s.free 0) stuck (done i)) (done i)

      go : (m : Try Instruction) → fetch (program_of ps) s.at ≡ m → act (whole (sizes_of ps) fs s) ≡ stuck
      go stuck f = outside fs s (sym f)
      go (done i) f = pushing i i.pushes (eqb s.free 0) f refl refl (e ∙ ap (λ m. m >>= from) f)

  -- ---- the next turn

  module _ (fs : List Cell) (s : State) (left : ℕ) (t : Tally) (i : Turn fs s left t) (h : 0 < left) (p : Price) (small : (p.cycles < 8589934592) × (p.words < 4294967296)) (t' : Tally)
      (grown : t' ≡ more_of t p (64 - s.free)) where
    pub more-is : t' ≡ more_of t p (height (whole (sizes_of ps) fs s))
    more-is = grown ∙ ap (more_of t p) (sym (whole-height fs s i.formed))

    -- the tally stays within what the code's numbers hold
    pub costs : (t'.cycles ≤ 8589934592 * (budget - (left - 1))) × (t'.words ≤ 4294967296 * (budget - (left - 1)))
    unfolding more_of
    costs =
        let a : t'.cycles ≡ t.cycles + p.cycles = ap (λ x. x.cycles) grown in
        let b : t'.words ≡ t.words + p.words = ap (λ x. x.words) grown in
        let w = i.inv.within in
        (omega (arith, i.cycles), omega (arith, i.words))

    pub again : (fs' : List Cell) (v : State) → act (whole (sizes_of ps) fs s) ≡ done (goes p (whole (sizes_of ps) fs' v)) → WellFormed v → Fits (sizes_of ps) fs' → length fs' ≡ length fs → Turn fs' v (left - 1) t'
    again fs' v e formed fits size = record {
      inv = subst (loop.Inv act o budget (whole (sizes_of ps) fs₀ s₀) (whole (sizes_of ps) fs' v) (left - 1)) (sym more-is) (loop.again act o budget (whole (sizes_of ps) fs₀ s₀) (whole (sizes_of ps) fs s) left t i.inv h p (whole (sizes_of ps) fs' v) e);
      formed = formed;
      fits = fits;
      size = size ∙ i.size;
      cycles = costs.0;
      words = costs.1;
    }
