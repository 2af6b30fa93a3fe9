-- What a step by value stands for.
use Rattle.std.specs.Prelude.{◌<◌, ◌≡◌, None, Option, Some}
use Rattle.refusals.specs.Library.{ℕ, set, Bool, List}
use Rattle.machine.specs.Terms.{Try, done, stuck, Cell, State, Price, Next, stops, goes, opens, jump}
use Rattle.machine_state.specs.declared.State as states
use Rattle.machine_step.specs.declared.Next.TheVariants.{Stuck, Stops, Goes, Opens}
use Rattle.machine_step.specs.declared.Stepped.{Stepped}
use Rattle.machine_step.specs.declared.Price as code
use Rattle.machine_step.specs.declared.Next as code-next

-- a price by its cycles and its words
abbrev pub of_price : code.Price → Price
of_price p = record { cycles = p.cycles; words = p.words }

-- a price that can be added up: two numbers of 32 bits at most
pub record SmallPrice (p : code.Price) : Type 0 where
  pub cycles : p.cycles < 8589934592
  pub words : p.words < 4294967296

-- and those of what comes next
abbrev pub Small : code-next.Next → Type 0
Small Stuck = Unit {0}
Small (Stops p) = SmallPrice p
Small (Goes p) = SmallPrice p
Small (Opens p a q) = SmallPrice p × SmallPrice q

-- what comes next, with the state s that the step left: the two ways of a branch differ in the address only
unfoldable pub of_next : code-next.Next → State → Try Next
of_next Stuck s = stuck
of_next (Stops p) s = done (stops (of_price p))
of_next (Goes p) s = done (goes (of_price p) s)
of_next (Opens p a q) s = done (opens (of_price p) s (of_price q) (jump a s))

-- the fields gs differ from fs by the change: in nothing, or at one of the 128 places
abbrev pub Differs : Option (ℕ × Cell) → List Cell → List Cell → Type 0
Differs None fs gs = gs ≡ fs
Differs (Some (j, c)) fs gs = (j < 128) × (gs ≡ set fs j c)

-- a step that leaves the blocks as they were, and one that sets the field at place j
abbrev pub keeping : code-next.Next → Bool → states.State → List Cell → Stepped
keeping n b s fs = record { next = n; calls = b; change = None; state = s; blocks = fs }

abbrev pub setting_field : code-next.Next → Bool → ℕ → Cell → states.State → List Cell → Stepped
setting_field n b j c s fs = record { next = n; calls = b; change = Some (j, c); state = s; blocks = set fs j c }
