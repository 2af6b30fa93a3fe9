-- Code without jumps backwards: a step is made at an address of the code, and where it goes on it leads to a higher one, from which fewer
-- addresses are left. Assumes nothing.
use mathlib.Core.Path.{◌≡◌, refl}
use Prim.Native.Nat.{ℕ, ◌+◌, ◌-◌, ◌<◌, ◌≤◌, max}
use native.Mathlib.Omega.{arith}
use lib.ListN.{length}
use Rattle.cells.specs.Try.{Try, stuck, done, ◌>>=◌}
use Rattle.cells.specs.declared.Cell.{Cell}
use Rattle.machine.specs.Machine.{State, Instruction, Code, fetch, Next, jump, load, restack, reblock, advance, execute, step}
use Rattle.machine.specs.Forward.{Forward}
use Rattle.machine.proofs.FetchLaws.{stuck-not, from_first, fetch-below}
use Rattle.machine.proofs.LeadLaws.{Leads, stops-there, goes_to, opens-to, Keeps, step-leads}

record Here (a : ℕ) (s : State) : Type 0 where
  address : s.at ≡ a

pub record Above (a : ℕ) (s : State) : Type 0 where
  pub address : a < s.at

above_kept : (a : ℕ) → Keeps (Here a) (Above a) (λ b. a < b)
unfolding load restack reblock advance jump
above_kept a = record {
  loads = λ c s h. record { address = h.address };
  restacks = λ cs s l h. record { address = h.address };
  reblocks = λ bs s l h. record { address = h.address };
  advances = λ s h. record { address = omega (arith, h.address) };
  jumps = λ b s t h. record { address = t };
}

pub step-above : (c : Code) → Forward c → (r : Cell) (s : State) (n : Next) → step c r s ≡ done n → Leads (Above s.at) n
step-above c f r s n e = step-leads (above_kept s.at) c r s n e (λ i g. (record { address = refl }, f.above s.at i g))

-- how many addresses of the code are left from that of s on, its own among them
abbrev pub left : Code → State → ℕ
left c s = (c.first + length c.instructions) - max c.first s.at

-- a step is made at an address of the code
pub step-inside : (c : Code) (r : Cell) (s : State) (n : Next) → step c r s ≡ done n → (c.first ≤ s.at) × (s.at < c.first + length c.instructions)
unfolding step ◌>>=◌
step-inside c r s n e = go (fetch c s.at) refl e
  where
    go : (m : Try Instruction) → fetch c s.at ≡ m → (m >>= λ i. execute r i s) ≡ done n → (c.first ≤ s.at) × (s.at < c.first + length c.instructions)
    go stuck q h = stuck-not n h
    go (done i) q h = ((from_first c s.at i q).0, fetch-below c s.at i q)

-- fewer are left from each state that a step leads to
pub record Fewer (c : Code) (s t : State) : Type 0 where
  pub fewer : left c t < left c s

pub step_fewer : (c : Code) → Forward c → (r : Cell) (s : State) (n : Next) → step c r s ≡ done n → Leads (Fewer c s) n
step_fewer c f r s n e = go (step-above c f r s n e)
  where
    nearer : {t : State} → Above s.at t → Fewer c s t
    nearer h = record { fewer = omega (arith, h.address, step-inside c r s n e) }

    go : {m : Next} → Leads (Above s.at) m → Leads (Fewer c s) m
    go stops-there = stops-there
    go (goes_to h) = goes_to (nearer h)
    go (opens-to h k) = opens-to (nearer h) (nearer k)
