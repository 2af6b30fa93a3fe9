-- `machine_state::size_of` meets its contract. Assumes nothing.
use Prim.Native.Nat.{◌+◌, ◌≤◌, ◌<◌}
use mathlib.Core.Path.{sym}
use native.Mathlib.Omega.{arith}
use lib.ListN.{get_or}
use Rattle.machine_state.specs.HeldProgram.{blocks_in}
use Rattle.machine_state.proofs.ProgramLaws.{sizes-count, size-at}
use Rattle.machine_state.proofs.size_of.Statement.{statement}
use Rattle.machine_state.proofs.size_of.Tie as tie

-- the block is there, and its size is small
within : (s : tie.Start) → s.args.k < blocks_in s.args.code.now
within s = omega (arith, sizes-count s.args.code.now s.requires.0, s.requires.1)

low : (s : tie.Start) → s.args.k < 8
low s = omega (arith, within s, s.requires.0.blocks)

small : (s : tie.Start) → get_or s.args.code.now (s.args.k + 3) 0 ≤ 16
small s = omega (arith, size-at s.args.code.now s.requires.0 s.args.k (within s), s.requires.0.sizes s.args.k)

add-result : tie.Need-overflow_add-result
add-result c = omega (arith, low c)

mul-result : tie.Need-offset_bounds-code-k
mul-result c = omega (arith, low c)

element-copy-out-result : tie.Need-bounds-code-k
element-copy-out-result c = omega (arith, low c.before)

cast-result : tie.Need-overflow_cast-result
cast-result c = omega (arith, small c.before.before)

returns : tie.Need-returns
returns c = let s = c in sym (size-at s.args.code.now s.requires.0 s.args.k (within s.before.before))

pub size_of_spec : {M : Type 1} → statement M
size_of_spec = tie.close (tie.spec add-result mul-result element-copy-out-result cast-result returns)
