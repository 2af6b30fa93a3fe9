-- "a stack of at most 64 cells": a step from a state with at most 64 entries leads only to such states. Assumes nothing.
use mathlib.Core.Path.{◌≡◌}
use Prim.Native.Nat.{◌≤◌}
use native.Mathlib.Omega.{arith}
use Rattle.cells.specs.Try.{done}
use Rattle.cells.specs.declared.Cell.{Cell}
use Rattle.machine.specs.Machine.{State, stack_limit, height, Code, Next, jump, load, restack, reblock, advance, step}
use Rattle.machine.proofs.LeadLaws.{Leads, Keeps, step-leads}

pub record Low (s : State) : Type 0 where
  pub low : height s ≤ stack_limit

-- wherever a branch jumps to
low-kept : Keeps Low Low (λ a. Unit {0})
unfolding load restack reblock advance jump height
low-kept = record {
  loads = λ c s h. record { low = h.low };
  restacks = λ cs s l h. record { low = omega (arith, h.low) };
  reblocks = λ bs s l h. record { low = h.low };
  advances = λ s h. record { low = h.low };
  jumps = λ a s t h. record { low = h.low };
}

pub step-low : (c : Code) (r : Cell) (s : State) (n : Next) → step c r s ≡ done n → Low s → Leads Low n
step-low c r s n e h = step-leads low-kept c r s n e (λ i f. (h, λ b. tt))
