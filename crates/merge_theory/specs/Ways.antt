-- What comes to each address, and the ways through the merged states: what the figures and the refusals of the merging bound are of.
-- (document 02 §9)
use Rattle.std.specs.Prelude.{◌+◌, ◌≤◌, ◌<◌, ◌∷◌, ◌≡◌}
use Rattle.refusals.specs.Library.{ℕ, zero, suc, List, []}
use Rattle.bound_theory.specs.Terms.{Refusal, Stuck, NoMeeting, Move, move, Transition, Try, done, stuck, unknown, Refines, State, Code, Price, Next, stops, step, height}
use Rattle.bound_theory.specs.Terms.{jump}
use Rattle.merge_cells.specs.Merge.{Clash}
use Rattle.cells.specs.Order.{Pointwise}
use Rattle.machine.specs.Machine.{sum}
use Rattle.merge_theory.specs.Merge.{Arrival, arrival, Slot, empty, unlike, held, slot, Table, send, span, only}

-- a step that is stuck has no ways
unfoldable pub sent : Price → Try Next → Table → Table
sent p stuck tab = tab
sent p (done n) tab = send p n tab

-- the ways from the address a, by what has come to it, go to their addresses; there are none where a 14 or a 7 is
unfoldable pub sends : (State → Try Next) → ℕ → Slot → Table → Table
sends act a empty tab = tab
sends act a unlike tab = tab
sends act a (held s p) tab = sent p (act (jump a s)) tab

-- n addresses from a on, in rising order
unfoldable pub fill : (State → Try Next) → ℕ → ℕ → Table → Table
fill act zero a tab = tab
fill act (suc n) a tab = fill act n (suc a) (sends act a (slot (tab a)) tab)

-- what comes to each address from the state s on
unfoldable pub table : Code → State → Table
table c s = fill (step c unknown) (span c s) s.at (only s)

-- x is one of those that come
pub data Among (x : Arrival) : List Arrival → Type 0 where
  first : {xs : List Arrival} → Among x (x ∷ xs)
  later : {y : Arrival} {xs : List Arrival} → Among x xs → Among x (y ∷ xs)

-- the cells of s refine those of t, whatever the addresses
pub record Under (s t : State) : Type 0 where
  pub accu : Refines s.accu t.accu
  pub stack : Pointwise Refines s.stack t.stack
  pub blocks : Pointwise (Pointwise Refines) s.blocks t.blocks

-- p is in cycles and in words no more than q
pub record NoMore (p q : Price) : Type 0 where
  pub cycles : p.cycles ≤ q.cycles
  pub words : p.words ≤ q.words

-- the state m is the merge of those that come, and p has their largest sums
pub record Together (xs : List Arrival) (m : State) (p : Price) : Type 0 where
  -- each that comes is allowed by it, and nothing smaller allows them all
  pub covers : (x : Arrival) → Among x xs → Under x.state m
  pub least : (u : State) → ((x : Arrival) → Among x xs → Under x.state u) → Under m u
  -- none has cost more, and one has cost as many cycles, and one as many words
  pub sums : (x : Arrival) → Among x xs → NoMore x.spent p
  pub cycles : (x : Arrival) × Among x xs × (x.spent.cycles ≡ p.cycles)
  pub words : (x : Arrival) × Among x xs × (x.spent.words ≡ p.words)

-- two lists with entries that R relates, at one place
pub data Somewhere {A : Type 0} (R : A → A → Type 0) : List A → List A → Type 0 where
  here : {x y : A} {xs ys : List A} → R x y → Somewhere R (x ∷ xs) (y ∷ ys)
  there : {x y : A} {xs ys : List A} → Somewhere R xs ys → Somewhere R (x ∷ xs) (y ∷ ys)

-- "stack heights differ at a meeting or a cell is a handle on one way and anything else on the other"
pub data Unlike (s t : State) : Type 0 where
  heights : (height s ≡ height t → ⊥) → Unlike s t
  in_accu : Clash s.accu t.accu → Unlike s t
  in_stack : Somewhere Clash s.stack t.stack → Unlike s t
  in_blocks : Somewhere (Somewhere Clash) s.blocks t.blocks → Unlike s t

module _ (act : State → Try Next) (came : Table) where
  -- a way through the merged states from the address a to a STOP
  pub data MergedPath : ℕ → List Move → Type 0 where
    stop : {a : ℕ} {s : State} {p q : Price} → slot (came a) ≡ held s p → act (jump a s) ≡ done (stops q) → MergedPath a (move (jump a s) q [] ∷ [])
    go_on : {a : ℕ} {s t : State} {p : Price} {m : Move} {ms : List Move} → slot (came a) ≡ held s p → Transition act (jump a s) m t → MergedPath t.at ms → MergedPath a (m ∷ ms)

  -- x comes to its address: it is the start, with nothing spent, or a way from a merged state leads to it, with what that has cost at most
  pub data Arrives (start : State) (x : Arrival) : Type 0 where
    begins : x ≡ arrival start (record { cycles = 0; words = 0 }) → Arrives start x
    follows : (a : ℕ) {s t : State} {p : Price} {m : Move} → slot (came a) ≡ held s p → Transition act (jump a s) m t → x ≡ arrival t (sum p m.price) → Arrives start x

  -- a refusal at the address a: 14 where two of the states that come are unlike, 7 where the merged state is stuck
  pub data Fault (a : ℕ) : Refusal → Type 0 where
    no_meeting : {x y : Arrival} → Among x (came a) → Among y (came a) → Unlike x.state y.state → Fault a (NoMeeting a)
    is_stuck : {s : State} {p : Price} → slot (came a) ≡ held s p → act (jump a s) ≡ stuck → Fault a (Stuck a)

  -- "the lowest address with a 14 or a 7 decides"
  pub record FirstFault (x : Refusal) : Type 0 where
    pub address : ℕ
    pub fault : Fault address x
    pub lower : (b : ℕ) (y : Refusal) → b < address → Fault b y → ⊥

  -- a number is the height of some merged state, and none is higher
  pub record LargestMerged (largest : ℕ) : Type 0 where
    pub address : ℕ
    pub deepest : State
    pub spent : Price
    pub merges : slot (came address) ≡ held deepest spent
    pub attains : height deepest ≡ largest
    pub most : (a : ℕ) (s : State) (p : Price) → slot (came a) ≡ held s p → height s ≤ largest

-- whether an address is reached, as a number
unfoldable pub one : Slot → ℕ
one empty = 0
one unlike = 1
one (held s p) = 1

-- how many of n addresses from a on are reached
unfoldable pub count : Table → ℕ → ℕ → ℕ
count came zero a = 0
count came (suc n) a = one (slot (came a)) + count came n (suc a)
