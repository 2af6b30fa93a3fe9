-- "the same blocks with as many fields in each": no step changes how many blocks there are or how many fields one has. Assumes nothing.
use mathlib.Core.Path.{◌≡◌, ◌∙◌}
use mathlib.Core.List.{List, map}
use Prim.Native.Nat.{ℕ}
use lib.ListN.{length}
use Rattle.cells.specs.Try.{done}
use Rattle.cells.specs.declared.Cell.{Cell}
use Rattle.machine.specs.Machine.{State, Code, Next, jump, load, restack, reblock, advance, step}
use Rattle.machine.proofs.LeadLaws.{Leads, Keeps, step-leads}

pub record Sized (ns : List ℕ) (s : State) : Type 0 where
  pub sizes : map length s.blocks ≡ ns

sized-kept : (ns : List ℕ) → Keeps (Sized ns) (Sized ns) (λ a. Unit {0})
unfolding load restack reblock advance jump
sized-kept ns = record {
  loads = λ c s h. record { sizes = h.sizes };
  restacks = λ cs s l h. record { sizes = h.sizes };
  reblocks = λ bs s l h. record { sizes = l ∙ h.sizes };
  advances = λ s h. record { sizes = h.sizes };
  jumps = λ a s t h. record { sizes = h.sizes };
}

pub step-sized : (ns : List ℕ) (c : Code) (r : Cell) (s : State) (n : Next) → step c r s ≡ done n → Sized ns s → Leads (Sized ns) n
step-sized ns c r s n e h = step-leads (sized-kept ns) c r s n e (λ i f. (h, λ b. tt))
