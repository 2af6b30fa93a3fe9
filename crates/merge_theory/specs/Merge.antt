-- The second bound: it "goes through the addresses in rising order and merges the states where ways meet". (document 02 §9)
-- Everything is over an action on states: in the bound it is `step c unknown`.
use Rattle.std.specs.Prelude.{◌+◌, ◌-◌, ◌∷◌}
use Rattle.refusals.specs.Library.{ℕ, zero, suc, max, eqb, length, cond, List, []}
use Rattle.bound_theory.specs.Terms.{Stuck, NoMeeting, Report, Verdict, accepted, refused, Try, done, stuck, ◌>>=◌, unknown, State, Code, Price, Next, stops, goes, opens}
use Rattle.bound_theory.specs.Terms.{step, height, jump}
use Rattle.merge_cells.specs.Merge.{merge_cells}
use Rattle.machine.specs.Machine.{sum}

-- two lists merged entry by entry; stuck where their lengths differ: "when stack heights differ at a meeting"
unfoldable pub merge_lists : {A : Type 0} → (A → A → Try A) → List A → List A → Try (List A)
merge_lists f [] [] = done []
merge_lists f [] (y ∷ ys) = stuck
merge_lists f (x ∷ xs) [] = stuck
merge_lists f (x ∷ xs) (y ∷ ys) = f x y >>= λ z. merge_lists f xs ys >>= λ zs. done (z ∷ zs)

-- two states merged cell by cell: the accumulator, the stack, the blocks field by field; the address is that of the first
unfoldable pub merge_states : State → State → Try State
merge_states s t =
    merge_cells s.accu t.accu >>= λ a.
    merge_lists merge_cells s.stack t.stack >>= λ cs.
    merge_lists (merge_lists merge_cells) s.blocks t.blocks >>= λ bs.
    done (record { at = s.at; accu = a; stack = cs; blocks = bs })

-- a state that comes to its address, and what the ways to it have cost at most, in cycles and in words
pub record Arrival : Type 0 where
  pub state : State
  pub spent : Price

-- the same by its parts
abbrev pub arrival : State → Price → Arrival
arrival s p = record { state = s; spent = p }

-- what has come to an address, taken together: nothing, states that cannot be merged, or the merged state, with the largest cycles and
-- the largest words of the ways to it
pub data Slot : Type 0 where
  empty : Slot
  unlike : Slot
  held : State → Price → Slot

-- "the largest sums": of cycles and of words, each by itself
unfoldable pub larger : Price → Price → Price
larger p q = record { cycles = max p.cycles q.cycles; words = max p.words q.words }

-- a merged state, if there is one
unfoldable pub settle : Price → Try State → Slot
settle p stuck = unlike
settle p (done s) = held s p

-- one state more has come
unfoldable pub join : Slot → Arrival → Slot
join empty x = held x.state x.spent
join unlike x = unlike
join (held s p) x = settle (larger p x.spent) (merge_states s x.state)

-- all that have come, the last of them first
unfoldable pub slot : List Arrival → Slot
slot [] = empty
slot (x ∷ xs) = join (slot xs) x

-- what has come to each address
abbrev pub Table : Type 0
Table = ℕ → List Arrival

-- before anything has come
unfoldable pub nowhere : Table
nowhere a = []

-- a state comes to its address
unfoldable pub arrive : Arrival → Table → Table
arrive x tab a = cond (eqb a x.state.at) (x ∷ tab a) (tab a)

-- the ways of a step go to their addresses, the taken way of a branch first; p is what the ways to the step have cost
unfoldable pub send : Price → Next → Table → Table
send p (stops q) tab = tab
send p (goes q t) tab = arrive (arrival t (sum p q)) tab
send p (opens q t r u) tab = arrive (arrival t (sum p q)) (arrive (arrival u (sum p r)) tab)

-- an address more is reached, whose merged state is s: "DEPTH is the largest height of the merged states", "STEPS is the number of
-- addresses reached", "PATH is `-`"
unfoldable pub reach : State → Report → Report
reach s r = record { cycles = r.cycles; words = r.words; depth = max r.depth (height s); steps = suc r.steps; path = [] }

-- ways end in STOP: "CYCLES and WORDS are the largest sums over the ways that stay open"
unfoldable pub finish : Price → Next → Report → Report
finish p (stops q) r = record { cycles = max r.cycles (p.cycles + q.cycles); words = max r.words (p.words + q.words); depth = r.depth; steps = r.steps; path = [] }
finish p (goes q t) r = r
finish p (opens q t q' u) r = r

-- the address a, where the merged state s is carried out, by what its step leads to; `rest` goes on with the addresses above
unfoldable pub carry : (Table → Report → Verdict) → ℕ → Table → Report → State → Price → Try Next → Verdict
carry rest a tab r s p stuck = refused (Stuck a)
carry rest a tab r s p (done n) = rest (send p n tab) (finish p n (reach s r))

-- the address a, by what has come to it: "14 comes before 7 there, and the place is that address"
unfoldable pub visit : (State → Try Next) → (Table → Report → Verdict) → ℕ → Table → Report → Slot → Verdict
visit act rest a tab r empty = rest tab r
visit act rest a tab r unlike = refused (NoMeeting a)
visit act rest a tab r (held s p) = carry rest a tab r s p (act (jump a s))

-- n addresses from a on, in rising order: "the lowest address with a 14 or a 7 decides"
unfoldable pub sweep : (State → Try Next) → ℕ → ℕ → Table → Report → Verdict
sweep act zero a tab r = accepted r
sweep act (suc n) a tab r = visit act (sweep act n (suc a)) a tab r (slot (tab a))

-- the address after the last, where every step is stuck
abbrev pub end : Code → ℕ
end c = c.first + length c.instructions

-- how many addresses are gone through from a state on: its own up to that after the last
abbrev pub span : Code → State → ℕ
span c s = suc (end c - s.at)

-- nothing but the state s has come, and nothing is spent
unfoldable pub only : State → Table
only s = arrive (arrival s (record { cycles = 0; words = 0 })) nowhere

-- nothing is reached
abbrev pub none : Report
none = record { cycles = 0; words = 0; depth = 0; steps = 0; path = [] }

-- the merging bound: "It takes no BUDGET and no limit on openings."
unfoldable pub merged : Code → State → Verdict
merged c s = sweep (step c unknown) (span c s) s.at (only s) none
