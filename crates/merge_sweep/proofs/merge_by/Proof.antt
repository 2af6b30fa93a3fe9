-- `merge_sweep::merge_by` meets its contract. Assumes nothing.
use mathlib.Core.Path.{refl, ◌∙◌}
use Rattle.machine_state.specs.HeldProgram.{first_address_of}
use Rattle.merge_origins.proofs.KeptLaws.{nothing-kept}
use borrow.Author.Rules.{rules}
use Rattle.merge_sweep.proofs.merge_by.Statement.{statement}
use Rattle.merge_sweep.proofs.merge_by.Tie as tie

sweep-by-requires : tie.Need-sweep_by-requires
sweep-by-requires c κs =
    let k = c in
    let s = k in
    (s.requires.0, (s.requires.1.0, ((k.before.before.before.rows-1.given ∙ s.requires.1.1, k.clear.ensures), (refl, nothing-kept (first_address_of s.args.code.now) 6156))))

returns : tie.Need-returns
returns c = let e = c.sweep_by.ensures in (e.0, e.1.0)

pub merge_by_spec : {M : Type 1} → statement M
merge_by_spec = tie.close (tie.spec (λ c κs. search rules) (λ c. search rules) sweep-by-requires (λ c. search rules) returns)
