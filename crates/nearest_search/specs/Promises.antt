-- What is promised of the search, as statements. `proofs/Theorems` proves each by its name. (document 02, §13)
use Rattle.std.specs.Prelude.{◌⊎◌, ◌≡◌}
use Rattle.refusals.specs.Library.{ℕ, some, none}
use Rattle.bound_theory.specs.Terms.{Refusal, number, Report, Verdict, accepted, refused, bound, State, Code}
use Rattle.nearest_changes.specs.declared.Change.{Change}
use Rattle.nearest_changes.specs.Changes.{applied}
use Rattle.nearest_changes.specs.Promises.{Direction, ChangeBy, Before}
use Rattle.nearest_search.specs.Search.{found, search}

-- a verdict "alters CYCLES or makes the routine refused by 7, 8 or 9", against a report q
pub data Moves (q : Report) : Verdict → Type 0 where
  other_cycles : {r : Report} → (r.cycles ≡ q.cycles → ⊥) → Moves q (accepted r)
  now_refused : {x : Refusal} → (number x ≡ 7) ⊎ (number x ≡ 8) ⊎ (number x ≡ 9) → Moves q (refused x)

-- the bound of s, which reports q, is moved by the change x, and by no change before it
pub record MovedFirst (c : Code) (budget : ℕ) (s : State) (q : Report) (x : Change) : Type 0 where
  pub reports : bound c budget s ≡ accepted q
  pub amount : ℕ
  pub direction : Direction
  pub change : ChangeBy s amount direction x
  pub moves : Moves q (bound c budget (applied x s))
  pub first : (m : ℕ) (e : Direction) (y : Change) → ChangeBy s m e y → Before m y.place e amount x.place direction → Moves q (bound c budget (applied y s)) → ⊥

-- no change moves it
pub record NeverMoved (c : Code) (budget : ℕ) (s : State) (q : Report) : Type 0 where
  pub reports : bound c budget s ≡ accepted q
  pub still : (n : ℕ) (d : Direction) (x : Change) → ChangeBy s n d x → Moves q (bound c budget (applied x s)) → ⊥

-- the change printed moves the bound, and no change before it in the order does
abbrev pub FoundMoves : Type 0
FoundMoves = (c : Code) (budget : ℕ) (s : State) (x : Change) → search c budget s ≡ found (some x) → (q : Report) × MovedFirst c budget s q x

-- "`NONE` is printed only if no such change exists", and then it is
abbrev pub NoneMoves : Type 0
NoneMoves =
    (c : Code) (budget : ℕ) (s : State) →
    (search c budget s ≡ found none → (q : Report) × NeverMoved c budget s q) × ((q : Report) → NeverMoved c budget s q → search c budget s ≡ found none)
