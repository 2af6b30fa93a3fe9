-- Laws of the ways of a step: what the code has marked is what the definition marks, by what the step leads to. Assumes nothing.
use Prim.Native.Nat.{ℕ}
use mathlib.Core.Path.{◌≡◌, refl}
use mathlib.Core.List.{List, [], ◌∷◌}
use native.Mathlib.Omega.{arith}
use Rattle.machine.specs.Machine.{State, Price, jump}
use Rattle.bound_theory.specs.Tree.{N, T}
use Rattle.bound_theory.specs.Traces.{move}
use Rattle.machine_step.specs.declared.Price as code
use Rattle.machine_step.specs.declared.Next.{Next}
use Rattle.machine_step.specs.declared.Next.TheVariants.{Stuck, Stops, Goes, Opens}
use Rattle.machine_step.specs.HeldStep.{of_price, of_next}
use Rattle.bound_figures.specs.HeldFigures.{encode}
use Rattle.merge_way.specs.Way.{out, to, Origins, mark, marks, marked}
use Rattle.merge_origins.specs.HeldOrigins.{Keeps}

-- the decisions of a move as numbers
pub way-none : 1 ≡ encode []
unfolding encode
way-none = refl

pub way-not-taken : 2 ≡ encode (N ∷ [])
unfolding encode
way-not-taken = omega arith

pub way-taken : 3 ≡ encode (T ∷ [])
unfolding encode
way-taken = omega arith

module _ (first : ℕ) (ks : List ℕ) (next : Next) (o : Origins) (p : Price) (s t : State) (at : ℕ) (there : t.at ≡ at) where
  pub depart-stuck : next ≡ Stuck → Keeps first ks o → Keeps first ks (marked p s (of_next next t) o)
  unfolding of_next marked
  depart-stuck e k = rw e k

  pub depart-stops : (c : code.Price) → next ≡ Stops c → Keeps first ks (mark p (move s (of_price c) []) out o) → Keeps first ks (marked p s (of_next next t) o)
  unfolding of_next marked marks
  depart-stops c e k = rw e k

  pub depart-goes : (c : code.Price) → next ≡ Goes c → Keeps first ks (mark p (move s (of_price c) []) (to at) o) → Keeps first ks (marked p s (of_next next t) o)
  unfolding of_next marked marks
  depart-goes c e k = rw (e, there) k

  pub depart-opens : (c d : code.Price) (place : ℕ) → next ≡ Opens c place d → Keeps first ks (mark p (move s (of_price c) (N ∷ [])) (to at) (mark p (move s (of_price d) (T ∷ [])) (to place) o))
      → Keeps first ks (marked p s (of_next next t) o)
  unfolding of_next marked marks jump
  depart-opens c d place e k = rw (e, there) k
