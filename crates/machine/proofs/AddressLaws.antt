-- A step leads to the next address of the code, to the one past its end, or to a target. Assumes nothing.
use mathlib.Core.Path.{◌≡◌}
use mathlib.Core.Bool.{true}
use Prim.Native.Nat.{ℕ, ◌+◌, ◌≤◌, ◌<◌}
use native.Mathlib.Omega.{arith}
use lib.ListN.{length}
use Rattle.text.proofs.TextLaws.{Every}
use Rattle.cells.specs.Try.{done}
use Rattle.cells.specs.declared.Cell.{Cell}
use Rattle.machine.specs.Machine.{index, State, Instruction, Code, Next, jump, load, restack, reblock, advance, step}
use Rattle.machine.specs.Forward.{branches}
use Rattle.machine.proofs.FetchLaws.{fetch-below, fetch-every}
use Rattle.machine.proofs.LeadLaws.{Leads, Keeps, step-leads}

-- no address of the code, nor that past its end, nor a target, is above B
pub record Confined (B : ℕ) (c : Code) : Type 0 where
  pub past : c.first + length c.instructions ≤ B
  pub targets : Every (λ (i : Instruction). branches i.operation ≡ true → index i.operand ≤ B) c.instructions

pub record AddressAtMost (B : ℕ) (s : State) : Type 0 where
  pub address : s.at ≤ B

record Below (B : ℕ) (s : State) : Type 0 where
  address : s.at < B

address_kept : (B : ℕ) → Keeps (Below B) (AddressAtMost B) (λ a. a ≤ B)
unfolding load restack reblock advance jump
address_kept B = record {
  loads = λ c s h. record { address = h.address };
  restacks = λ cs s l h. record { address = h.address };
  reblocks = λ bs s l h. record { address = h.address };
  advances = λ s h. record { address = omega (arith, h.address) };
  jumps = λ a s t h. record { address = t };
}

pub step-at-most : (B : ℕ) (c : Code) → Confined B c → (r : Cell) (s : State) (n : Next) → step c r s ≡ done n → Leads (AddressAtMost B) n
step-at-most B c h r s n e =
    step-leads (address_kept B) c r s n e (λ i f. (record { address = omega (arith, fetch-below c s.at i f, h.past) }, fetch-every c s.at i f h.targets))
