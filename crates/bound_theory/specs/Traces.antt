-- Document 000 over an action on states: nondeterministic traces (Definition 7), the maximum cost (Definition 5), the maximum trace
-- (Definition 11); and, apart from any fuel, which step of the tree has which number.
use Rattle.std.specs.Prelude.{◌+◌, ◌≤◌, ◌<◌, ◌∷◌, ◌++◌, ◌≡◌}
use Rattle.refusals.specs.Library.{ℕ, suc, max, List, []}
use Rattle.refusals.specs.declared.Refusal.{Refusal}
use Rattle.refusals.specs.declared.Refusal.TheVariants.{Stuck, Openings, Spent}
use Rattle.cells.specs.Try.{Try, stuck, done}
use Rattle.machine.specs.Machine.{State, Price, Next, stops, goes, opens, with_extra}
use Rattle.bound_theory.specs.Tree.{Decision, N, T}

-- an element of a trace: the state, what the step from it costs, the decision if it is an unknown branch
pub record Move : Type 0 where
  pub state : State
  pub price : Price
  pub decision : List Decision

-- a move by its parts
abbrev pub move : State → Price → List Decision → Move
move s p d = record { state = s; price = p; decision = d }

-- the cost of a trace: "the sum of the costs of all transitions"
unfoldable pub cost : List Move → ℕ
cost [] = 0
cost (m ∷ ms) = m.price.cycles + cost ms

-- the sum of the words of all transitions
unfoldable pub word_sum : List Move → ℕ
word_sum [] = 0
word_sum (m ∷ ms) = m.price.words + word_sum ms

-- the decisions at the unknown branches of a trace, in order
unfoldable pub decisions : List Move → List Decision
decisions [] = []
decisions (m ∷ ms) = m.decision ++ decisions ms

module _ (act : State → Try Next) where
  -- Figures 5 and 6: the nondeterministic step
  pub data Transition : State → Move → State → Type 0 where
    goes_on : {s t : State} {p : Price} → act s ≡ done (goes p t) → Transition s (move s p []) t
    not_taken : {s t u : State} {p q : Price} → act s ≡ done (opens p t q u) → Transition s (move s p (N ∷ [])) t
    taken : {s t u : State} {p q : Price} → act s ≡ done (opens p t q u) → Transition s (move s q (T ∷ [])) u

  -- Definition 7: a finite sequence of transitions
  pub data Trace : State → List Move → State → Type 0 where
    here : {s : State} → Trace s [] s
    step : {s t u : State} {m : Move} {ms : List Move} → Transition s m t → Trace t ms u → Trace s (m ∷ ms) u

  -- a path: a trace that ends in STOP, which counts
  pub data Path : State → List Move → Type 0 where
    stop : {s : State} {p : Price} → act s ≡ done (stops p) → Path s (move s p [] ∷ [])
    step : {s t : State} {m : Move} {ms : List Move} → Transition s m t → Path t ms → Path s (m ∷ ms)

  -- Definition 5, rule by rule, "with the extra on the taken way" (document 02 §1): an unknown branch costs c, and x more if it jumps
  pub data CostMax : State → ℕ → Type 0 where
    stop : {s : State} {c : Price} → act s ≡ done (stops c) → CostMax s c.cycles
    next : {s t : State} {c : Price} {k : ℕ} → act s ≡ done (goes c t) → CostMax t k → CostMax s (c.cycles + k)
    fork : {s t u : State} {c : Price} {k k' : ℕ} (x : ℕ) → act s ≡ done (opens c t (with_extra x c) u) → CostMax t k → CostMax u k' →
        CostMax s (c.cycles + max k (x + k'))

  -- Definition 11, rule by rule, with the same extra
  pub data RunMax : State → List Move → Type 0 where
    stop : {s : State} {c : Price} → act s ≡ done (stops c) → RunMax s (move s c [] ∷ [])
    next : {s t : State} {c : Price} {ms : List Move} → act s ≡ done (goes c t) → RunMax t ms → RunMax s (move s c [] ∷ ms)
    taken : {s t u : State} {c : Price} {ms ms' : List Move} (x : ℕ) → act s ≡ done (opens c t (with_extra x c) u) → RunMax t ms → RunMax u ms' →
        cost ms ≤ x + cost ms' → RunMax s (move s (with_extra x c) (T ∷ []) ∷ ms')
    not_taken : {s t u : State} {c : Price} {ms ms' : List Move} (x : ℕ) → act s ≡ done (opens c t (with_extra x c) u) → RunMax t ms → RunMax u ms' →
        x + cost ms' < cost ms → RunMax s (move s c (N ∷ []) ∷ ms)

  -- with o openings on a path, the tree from s is finite, every step of it is made, and it has n steps
  pub data Finite : ℕ → State → ℕ → Type 0 where
    stop : {o : ℕ} {s : State} {p : Price} → act s ≡ done (stops p) → Finite o s 1
    next : {o n : ℕ} {s t : State} {p : Price} → act s ≡ done (goes p t) → Finite o t n → Finite o s (suc n)
    fork : {o m n : ℕ} {s t u : State} {p q : Price} → act s ≡ done (opens p t q u) → Finite o t m → Finite o u n → Finite (suc o) s (suc (m + n))

  -- with o openings, after k steps that are all made the depth-first order comes to the step from t, with o' openings left there
  pub data Comes : ℕ → State → ℕ → ℕ → State → Type 0 where
    here : {o : ℕ} {s : State} → Comes o s 0 o s
    next : {o k o' : ℕ} {s t v : State} {p : Price} → act s ≡ done (goes p t) → Comes o t k o' v → Comes o s (suc k) o' v
    not_taken : {o k o' : ℕ} {s t u v : State} {p q : Price} → act s ≡ done (opens p t q u) → Comes o t k o' v → Comes (suc o) s (suc k) o' v
    taken : {o n k o' : ℕ} {s t u v : State} {p q : Price} → act s ≡ done (opens p t q u) → Finite o t n → Comes o u k o' v → Comes (suc o) s (suc (n + k)) o' v

  -- the listed cases: refusals 7 and 8 at a step among the first BUDGET, 9 at step BUDGET + 1
  pub data Listed (o budget : ℕ) (s : State) : Refusal → Type 0 where
    is_stuck : {k o' : ℕ} {t : State} → Comes o s k o' t → k < budget → act t ≡ stuck → Listed o budget s (Stuck t.at)
    opens_too_many : {k : ℕ} {t u v : State} {p q : Price} → Comes o s k 0 t → k < budget → act t ≡ done (opens p u q v) → Listed o budget s (Openings t.at)
    is_spent : {o' : ℕ} {t : State} → Comes o s budget o' t → Listed o budget s (Spent t.at)
