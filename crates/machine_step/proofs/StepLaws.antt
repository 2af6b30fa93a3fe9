-- The step by value advances in its arms, after the methods; the laws of the arms have the address rise first. Assumes nothing.
use mathlib.Core.Path.{◌≡◌, refl, sym, ap, ◌∙◌}
use mathlib.Core.Bool.{true, false}
use mathlib.Core.List.{List}
use Prim.Native.Nat.{ℕ, suc}
use native.Mathlib.Omega.{arith}
use lib.IntN.{ℤ}
use Rattle.cells.specs.Try.{Try, stuck, done, ◌>>=◌}
use Rattle.cells.specs.declared.Cell.{Cell}
use Rattle.instructions.specs.declared.Operation.{Operation}
use Rattle.machine.specs.Machine.{Price, Next, opens, with_extra, Code, fetch, push, pop, store, load, jump, advance, reblock, prepare, execute, step, takes, takes_answer}
use Rattle.machine.proofs.ApartLaws.{push_at, pop-advance, store-advance}
use Rattle.machine_outcome.specs.declared.Outcome.{Outcome}
use Rattle.machine_outcome.specs.declared.Outcome.TheVariants.{Opens}
use Rattle.machine_outcome.proofs.TurnLaws as turn
use Rattle.machine_outcome.proofs.ArmLaws.{Arm, opens-both}
use Rattle.machine_state.specs.declared.State.{State}
use Rattle.machine_state.specs.declared.code.Line.{Line}
use Rattle.machine_state.specs.HeldProgram.{line_of}
use Rattle.machine_state.specs.HeldState.{view, WellFormed, blocks_of, whole}
use Rattle.machine_state.proofs.StateLaws.{placed, height-is}

-- a state at the next address
abbrev pub next : State → State
next s = placed (suc s.at) s

-- ---- the methods, and then the next address

pub popped-next : (s t : State) (n : ℕ) → done (view t) ≡ pop n (view s) → done (view (next t)) ≡ pop n (view (next s))
unfolding advance jump ◌>>=◌
popped-next s t n e = sym (pop-advance n (view s) ∙ ap (λ m. m >>= λ t. done (advance t)) (sym e))

pub stored_next : (s t w : State) (n : ℕ) → done (view t) ≡ store n (view s) → view w ≡ advance (view t) → done (view w) ≡ store n (view (next s))
unfolding advance jump ◌>>=◌
stored_next s t w n e g = ap done g ∙ sym (store-advance n (view s) ∙ ap (λ m. m >>= λ t. done (advance t)) (sym e))

pub loaded-next : (s t w : State) (c : Cell) → view t ≡ load c (view s) → view w ≡ advance (view t) → view w ≡ load c (view (next s))
unfolding advance jump load
loaded-next s t w c e g = g ∙ ap advance e

pub jumped-next : (s w : State) (a : ℕ) → view w ≡ jump a (view s) → view w ≡ jump a (view (next s))
unfolding jump
jumped-next s w a e = e

-- ---- the push

pub record Ready (ns : List ℕ) (fs : List Cell) (l : Line) (s t : State) : Type 0 where
  pub formed : WellFormed t
  pub prepared : prepare l.pushes (whole ns fs s) ≡ done (whole ns fs t)
  pub stays : t.at ≡ s.at

module _ (ns : List ℕ) (fs : List Cell) (l : Line) (s t : State) where
  pub pushes : (v : State) → l.pushes ≡ true → done (view v) ≡ push (view s) → WellFormed v → t ≡ v → Ready ns fs l s t
  pushes v p e formed same =
      rw same (record {
        formed = formed;
        prepared = ap (λ b. prepare b (whole ns fs s)) p ∙ turn.pushed ns fs s v e;
        stays = push_at (view s) (view v) e;
      })

  pub keeps : l.pushes ≡ false → WellFormed s → t ≡ s → Ready ns fs l s t
  keeps p formed same =
      rw same (record {
        formed = formed;
        prepared = ap (λ b. prepare b (whole ns fs s)) p ∙ turn.not-pushed ns fs s;
        stays = refl;
      })

  -- the same at the next address
  pub rises : Ready ns fs l s t → prepare l.pushes (advance (whole ns fs s)) ≡ done (whole ns fs (next t))
  unfolding whole reblock advance jump
  rises ready = turn.prepare-after l.pushes (whole ns fs s) (whole ns fs t) ready.prepared

-- ---- a step that is stuck before its operation, and whether it takes an answer

module _ (c : Code) (r : Cell) (ns : List ℕ) (fs : List Cell) (s : State) where
  pub outside : stuck ≡ fetch c s.at → (stuck ≡ step c r (whole ns fs s)) × (false ≡ takes_answer c (whole ns fs s))
  unfolding step takes_answer takes ◌>>=◌ whole reblock
  outside e = rw (← e) (refl, refl)

  pub overflows : (l : Line) → done (line_of l) ≡ fetch c s.at → l.pushes ≡ true → WellFormed s → s.free ≡ 0 → stuck ≡ step c r (whole ns fs s)
  unfolding step execute ◌>>=◌ whole reblock
  overflows l found pushes formed none =
      let h : prepare true (whole ns fs s) ≡ stuck = turn.full ns fs s (omega (arith, height-is s formed)) in
      rw (← found, pushes, h) refl

  pub calls : (l : Line) → done (line_of l) ≡ fetch c s.at → l.calls ≡ takes_answer c (whole ns fs s)
  unfolding takes_answer takes whole reblock
  calls l found = rw (← found) refl

-- the two ways of a branch, which differ in the address
pub opened : (ns : List ℕ) (fs : List Cell) (t w : State) {m : Try Next} {p : Price} {y : ℕ} {o : Operation} {i : ℤ} {r e : Cell} {n : ℕ} {out : Outcome} → Arm m ns fs p y o i r (next t) n e out → out ≡ Opens → view w ≡ advance (view t) →
    m ≡ done (opens p (whole ns fs w) (with_extra y p) (jump n (whole ns fs w)))
unfolding whole reblock advance jump
opened ns fs t w {m} {p} {y} {o} {i} {r} {e} {n} arm g is =
    opens-both arm (placed n t) refl g ∙ ap (λ v. done (opens p (reblock (blocks_of ns fs) v) (with_extra y p) (jump n (reblock (blocks_of ns fs) v)))) (sym is)
