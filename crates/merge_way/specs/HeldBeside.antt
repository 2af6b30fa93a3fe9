-- What a pass that has the rows only keeps of the ways, and what is enough to keep and to list. No promise to users needs it.
use Rattle.std.specs.Prelude.{◌+◌, ◌∷◌, ◌≡◌}
use Rattle.refusals.specs.Library.{ℕ, zero, suc, List, [], map}
use Rattle.bound_theory.specs.Terms.{Decision, Report, accepted, Move, Try, unknown, State, Code, Price, Next, step}
use Rattle.merge_theory.specs.Merge.{slot, Table, Slot, empty, unlike, held, span, only, merged}
use Rattle.merge_theory.specs.Ways.{sends}
use Rattle.merge_theory.specs.Promises.{OfSinglePass}
use Rattle.merge_way.specs.Way.{Kept, Origins, departs, spent_at, out, to, nothing, kept, nowhence, origins, costliest_way}

-- the same beside the table, while this is filled: a pass that has the rows only
unfoldable pub beside : (State → Try Next) → ℕ → ℕ → Table → Origins → Origins
beside act zero a tab o = o
beside act (suc n) a tab o = beside act n (suc a) (sends act a (slot (tab a)) tab) (departs act a (slot (tab a)) o)

-- of a move, its address and the decision there
pub record Point : Type 0 where
  pub at : ℕ
  pub decision : List Decision

unfoldable pub point : Move → Point
point m = record { at = m.state.at; decision = m.decision }

-- the origin of the largest cycles, without the cycles
pub data Origin : Type 0 where
  nowhere : Origin
  from : Point → Origin

unfoldable pub origin : Kept → Origin
origin nothing = nowhere
origin (kept x m) = from (point m)

-- at most n places back from an origin
unfoldable pub places_back : (ℕ → Origin) → ℕ → Origin → List Point → List Point
places_back o zero i ps = ps
places_back o (suc n) nowhere ps = ps
places_back o (suc n) (from x) ps = places_back o n (o x.at) (x ∷ ps)

-- a line of the listing: the address, the sum so far before its step, and the decision there
pub record WayLine : Type 0 where
  pub at : ℕ
  pub before : ℕ
  pub decision : List Decision

-- the lines of a way, where x cycles are spent before it
unfoldable pub lines_from : ℕ → List Move → List WayLine
lines_from x [] = []
lines_from x (m ∷ ms) = record { at = m.state.at; before = x; decision = m.decision } ∷ lines_from (x + m.price.cycles) ms

-- one sweep keeps the same beside the table
abbrev pub KeptBeside : Type 0
KeptBeside = OfSinglePass (λ c. (s : State) → beside (step c unknown) (span c s) s.at (only s) nowhence ≡ origins c s)

-- the addresses and decisions of the way are found by the origins alone
abbrev pub PlacesEnough : Type 0
PlacesEnough = (c : Code) (s : State) → places_back (λ a. origin (origins c s (to a))) (span c s) (origin (origins c s out)) [] ≡ map point (costliest_way c s)

-- the line of a place, with the largest cycles of the ways to it
abbrev pub line_at : (ℕ → ℕ) → Point → WayLine
line_at f x = record { at = x.at; before = f x.at; decision = x.decision }

-- the listing, with the sums so far, is that of the places, with what the table holds for each
abbrev pub LinesFound : Type 0
LinesFound = OfSinglePass (λ c. (s : State) (q : Report) → merged c s ≡ accepted q → lines_from 0 (costliest_way c s) ≡ map (λ m. line_at (spent_at c s) (point m)) (costliest_way c s))

-- what is kept for an address has the cycles that its row holds; where states cannot be merged nothing is said
pub data Agrees : Slot → Kept → Type 0 where
  none : Agrees empty nothing
  apart : {k : Kept} → Agrees unlike k
  alike : {s : State} {p : Price} {x : ℕ} {m : Move} → x ≡ p.cycles → Agrees (held s p) (kept x m)

-- this stays so at every address while a pass goes on, so that it compares with the cycles of the row and keeps no others
abbrev pub RowsAgree : Type 0
RowsAgree = (act : State → Try Next) (a : ℕ) (i : Slot) (tab : Table) (o : Origins) (b : ℕ) → Agrees (slot (tab b)) (o (to b)) → Agrees (slot (sends act a i tab b)) (departs act a i o (to b))
