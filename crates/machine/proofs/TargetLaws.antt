-- Code whose branches jump forwards and stay inside it: a step leads to higher addresses, that after the last at most. Assumes nothing.
use mathlib.Core.Path.{◌≡◌, refl}
use Prim.Native.Nat.{ℕ, ◌+◌, ◌<◌, ◌≤◌}
use native.Mathlib.Omega.{arith}
use lib.ListN.{length}
use Rattle.cells.specs.Try.{done}
use Rattle.cells.specs.declared.Cell.{Cell}
use Rattle.machine.specs.Machine.{State, Code, Next, jump, load, restack, reblock, advance, step}
use Rattle.machine.specs.Forward.{Forward}
use Rattle.machine.specs.Targets.{Closed}
use Rattle.machine.proofs.FetchLaws.{fetch-below}
use Rattle.machine.proofs.LeadLaws.{Leads, Keeps, step-leads}

record Here (a z : ℕ) (s : State) : Type 0 where
  address : s.at ≡ a
  below : a < z

-- above a, and not above z
pub record Onward (a z : ℕ) (s : State) : Type 0 where
  pub above : a < s.at
  pub inside : s.at ≤ z

onward-kept : (a z : ℕ) → Keeps (Here a z) (Onward a z) (λ b. (a < b) × (b < z))
unfolding load restack reblock advance jump
onward-kept a z = record {
  loads = λ c s h. record { address = h.address; below = h.below };
  restacks = λ cs s l h. record { address = h.address; below = h.below };
  reblocks = λ bs s l h. record { address = h.address; below = h.below };
  advances = λ s h. record { above = omega (arith, h.address); inside = omega (arith, h.address, h.below) };
  jumps = λ b s t h. record { above = t.0; inside = omega (arith, t.1) };
}

pub step-onward : (c : Code) → Forward c → Closed c → (r : Cell) (s : State) (n : Next) → step c r s ≡ done n → Leads (Onward s.at (c.first + length c.instructions)) n
step-onward c f g r s n e =
    let z = c.first + length c.instructions in
    step-leads (onward-kept s.at z) c r s n e (λ i h. (record { address = refl; below = fetch-below c s.at i h }, λ b. (f.above s.at i h b, g.inside s.at i h b)))
