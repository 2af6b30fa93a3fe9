-- The nearest number that moves the first bound. (document 02, §13)
use Rattle.refusals.specs.Library.{ℕ, eqb, Bool, true, not, Option}
use Rattle.bound_theory.specs.Terms.{Refusal, Verdict, accepted, refused, bound, State, Code}
use Rattle.nearest_changes.specs.declared.Change.{Change}
use Rattle.nearest_changes.specs.Changes.{nearest}

-- a change that "alters CYCLES or makes the routine refused by 7, 8 or 9": what the bound then says, against CYCLES before
unfoldable pub moved : ℕ → Verdict → Bool
moved cycles (accepted q) = not (eqb q.cycles cycles)
moved cycles (refused r) = true

-- the nearest change if there is one, or the refusal of the start as it is
pub data Searched : Type 0 where
  found : Option Change → Searched
  refused_by : Refusal → Searched

-- by the verdict on the start
unfoldable pub search_from : Code → ℕ → State → Verdict → Searched
search_from c budget s (accepted q) = found (nearest (λ t. moved q.cycles (bound c budget t)) s)
search_from c budget s (refused r) = refused_by r

-- of a start, under the file's BUDGET
unfoldable pub search : Code → ℕ → State → Searched
search c budget s = search_from c budget s (bound c budget s)
