-- `machine_state::count_blocks` meets its contract. Assumes nothing.
use mathlib.Core.Path.{sym}
use borrow.Author.Rules.{rules}
use Rattle.machine_state.proofs.ProgramLaws.{sizes-count}
use Rattle.machine_state.proofs.count_blocks.Statement.{statement}
use Rattle.machine_state.proofs.count_blocks.Tie as tie

returns : tie.Need-returns
returns c = let s = c in sym (sizes-count s.args.code.now s.requires)

pub count_blocks_spec : {M : Type 1} → statement M
count_blocks_spec = tie.close (tie.spec (λ c. search rules) (λ c. search rules) returns)
