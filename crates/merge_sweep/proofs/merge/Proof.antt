-- `merge_sweep::merge` meets its contract. Assumes nothing.
use mathlib.Core.Path.{refl}
use Rattle.machine_state.specs.HeldProgram.{first_address_of}
use Rattle.merge_origins.proofs.KeptLaws.{nothing-kept}
use borrow.Author.Rules.{rules}
use Rattle.merge_sweep.proofs.merge.Statement.{statement}
use Rattle.merge_sweep.proofs.merge.Tie as tie

sweep-requires : tie.Need-sweep-requires
sweep-requires c κs = let s = c in (s.requires.0, (s.requires.1, (refl, nothing-kept (first_address_of s.args.code.now) 6156)))

returns : tie.Need-returns
returns c = let e = c.sweep.ensures in (e.0, e.1.0)

pub merge_spec : {M : Type 1} → statement M
merge_spec = tie.close (tie.spec (λ c. search rules) sweep-requires returns)
