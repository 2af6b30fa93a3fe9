-- `split_bound::cut_at` meets its contract. Assumes nothing.
use mathlib.Core.Path.{ap₂, ◌∙◌}
use Rattle.machine_state.specs.HeldProgram.{sizes_of}
use Rattle.machine_state.specs.HeldState.{whole}
use Rattle.nearest_changes.specs.Places.{cell_at}
use Rattle.split_theory.specs.Held.{cut_in}
use Rattle.split_bound.specs.Held.{parts_at}
use mir.Syntax.{w32}
use mir.ValLaws.{to_z-of_z}
use borrow.Author.Rules.{rules}
use Rattle.split_bound.proofs.cut_at.Statement.{statement}
use Rattle.split_bound.proofs.cut_at.Tie as tie

position-of-requires : tie.Need-position_of-p-requires
position-of-requires c κs = let s = c in s.requires.2.places s.args.i s.requires.3

returns : tie.Need-returns
returns c =
    let s = c in
    let w = whole (sizes_of s.args.code.now) s.args.blocks s.args.start in
    c.parts_at.ensures ∙ ap₂ (λ n p. parts_at n (cell_at p w)) (to_z-of_z w32 (cut_in s.args.cuts s.args.i).number (search rules)) c.position_of-p.ensures

pub cut_at_spec : {M : Type 1} → statement M
cut_at_spec =
    tie.close
    (tie.spec
    (λ c. search rules)
    (λ c. search rules)
    position-of-requires
    (λ c. search rules)
    (λ c. search rules)
    (λ c κs. search rules)
    returns)
