-- `merge_sweep::sweep` meets its contract. Assumes nothing.
use mathlib.Core.Path.{refl}
use Rattle.machine_state.specs.HeldProgram.{first_address_of, sizes_of}
use Rattle.merge_rows.specs.HeldRows.{rows_of}
use Rattle.merge_sweep.proofs.SweepLaws.{all-empty}
use borrow.Author.Rules.{rules}
use Rattle.merge_sweep.proofs.sweep.Statement.{statement}
use Rattle.merge_sweep.proofs.sweep.Tie as tie

sweep-by-requires : tie.Need-sweep_by-requires
sweep-by-requires c κs =
    let s = c in
    let code = s.args.code.now in
    (s.requires.0, (s.requires.1.0, ((refl, all-empty (sizes_of code) (first_address_of code) (rows_of code) 201925), s.requires.1.1)))

pub sweep_spec : {M : Type 1} → statement M
sweep_spec = tie.close (tie.spec (λ c. search rules) sweep-by-requires (λ c. search rules) (λ c. search rules))
