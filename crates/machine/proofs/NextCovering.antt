-- An action that covers itself. Assumes nothing.
use mathlib.Core.Path.{◌≡◌, subst}
use Prim.Native.Nat.{ℕ}
use native.Mathlib.Omega.{arith}
use Rattle.cells.specs.Try.{Try, stuck, done}
use Rattle.cells.specs.Covering.{Covered, by_stuck, both}
use Rattle.machine.specs.Covering.{NextCovered, stops_too, goes_too, opens_too, goes_not_taken, goes_taken}
use Rattle.machine.specs.Machine.{State, Next, stops, goes, opens}

-- each state that an action leads to has a property
abbrev pub Leads : (State → Type 0) → Try Next → Type 0
Leads P stuck = Unit {0}
Leads P (done (stops p)) = Unit {0}
Leads P (done (goes p t)) = P t
Leads P (done (opens p t q u)) = P t × P u

-- where an action covers itself, each state that it leads to is related to itself
pub leads-self : {R : State → State → Type 0} {two : Type 0} {m n : Try Next} → n ≡ m → Covered (NextCovered R two) m n → Leads (λ s. R s s) m
leads-self {R} e by_stuck = subst (Leads (λ s. R s s)) e tt
leads-self e (both stops_too) = tt
leads-self e (both (goes_too {s} {t} r)) = let h : t ≡ s = cc in rw h at r
leads-self e (both (opens_too {s} {t} {s'} {t'} w r q)) = let h : s' ≡ s = cc in let k : t' ≡ t = cc in (rw h at r, rw k at q)
leads-self e (both (goes_not_taken r)) = let z : ◌≡◌ {A = ℕ} 0 1 = cc in absurd (omega arith)
leads-self e (both (goes_taken r)) = let z : ◌≡◌ {A = ℕ} 0 1 = cc in absurd (omega arith)
