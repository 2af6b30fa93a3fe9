-- `split_figures::bounded` meets its contract. Assumes nothing.
use mathlib.Core.Path.{◌≡◌, refl, ap, subst}
use native.Mathlib.Omega.{arith}
use lib.ListN.{length}
use Rattle.machine_state.specs.HeldProgram.{program_of, sizes_of}
use Rattle.machine_state.specs.HeldState.{whole}
use Rattle.machine_state.proofs.Stack.{length-images}
use Rattle.bound_figures.specs.HeldFigures.{Shows}
use Rattle.split_theory.specs.Split.{split}
use borrow.Author.Rules.{rules}
use Rattle.split_figures.proofs.bounded.Statement.{statement}
use Rattle.split_figures.proofs.bounded.Tie as tie

places : (s : tie.Start) → length s.args.routine.blocks ≡ 128
places s = search (rules, length-images)

split-requires : tie.Need-split-requires
split-requires c κs =
    let s = c in
    let l = s.requires.0 in
    let at = l.placed in
    (record { program = l.program; formed = l.formed; room = places s.before.before.before.before.before.before.before; numeric = l.numeric; placed = (omega arith, omega arith) }, c.cuts_of-held.ensures.1, omega arith, refl)

returns : tie.Need-returns
returns c =
    let r = c.args.routine in (
      subst (Shows c.split.result) (ap (λ xs. split (program_of r.code) xs (whole (sizes_of r.code) r.blocks r.start)) c.cuts_of-held.ensures.0) c.split.ensures.0,
      record { cycles = omega (arith, c.split.ensures.1.cycles) },
    )

pub bounded_spec : {M : Type 1} → statement M
bounded_spec = tie.close (tie.spec (λ c κs. search rules) (λ c. search rules) split-requires returns)
