-- `machine_outcome::entry_place` meets its contract: `i` is the place of the entry. Assumes nothing.
use mathlib.Core.Path.{◌≡◌}
use mathlib.Core.Logic.{⊎_elim}
use Prim.Native.Nat.{ℕ, ◌+◌}
use native.Mathlib.Omega.{arith}
use Rattle.instructions.specs.HeldColumns.{operations, operation_of}
use Rattle.machine_outcome.specs.HeldOutcome.{entry_of}
use Rattle.machine_outcome.proofs.CodeLaws.{entry_top}
use Rattle.machine_outcome.proofs.entry_place.Goals.{Joined-code-eq-ACCESS}
use Rattle.machine_outcome.proofs.entry_place.Goals as goal

entry-one : (k n : ℕ) → k ≡ 1 → entry_of (operation_of k) n ≡ n
unfolding operations operation_of entry_of
entry-one k n e = rw e

place : (c : Joined-code-eq-ACCESS) → c.if-code-eq-ACCESS.i ≡ c.args.free + entry_of (operation_of c.args.code) c.args.n
place c =
    let code = c.args.code in
    let n = c.args.n in
    ⊎_elim
    (λ w. omega (arith, entry-one code n w.if-code-eq-ACCESS.true, w.i-is))
    (λ w. omega (arith, entry_top code n w.if-code-eq-ACCESS.false, w.i-is))
    c.if-code-eq-ACCESS.branch-raw

pub returns-then-i-lt64 : goal.returns-then-i-lt64
returns-then-i-lt64 c = (c.if-i-lt64.true, λ h. place (goal.at.returns-then-i-lt64 c).Joined-code-eq-ACCESS)

pub returns-else-i-lt64 : goal.returns-else-i-lt64
returns-else-i-lt64 c = (omega arith, λ h. omega (arith, place (goal.at.returns-else-i-lt64 c).Joined-code-eq-ACCESS))
