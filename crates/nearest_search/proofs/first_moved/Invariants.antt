-- The loop of `nearest_search::first_moved`: what is left of the trials is what there is.
use Rattle.machine_state.specs.HeldProgram.{program_of, sizes_of}
use Rattle.machine_state.specs.HeldState.{whole}
use Rattle.bound_theory.specs.Tree.{bound}
use Rattle.nearest_changes.specs.Changes.{applied, nearest}
use Rattle.nearest_changes.specs.Held.{trial_of}
use Rattle.nearest_search.specs.Search.{moved}
use Rattle.nearest_search.proofs.SearchLaws.{Left}
use Rattle.nearest_search.proofs.first_moved.Given as goal

abbrev pub invariant-loop-j : goal.invariant-loop-j
invariant-loop-j l =
    let s = whole (sizes_of l.code) l.blocks l.start in
    Left (λ x. moved l.figure (bound (program_of l.code) l.budget (applied x s))) (trial_of s) 24704 (nearest (λ t. moved l.figure (bound (program_of l.code) l.budget t)) s) l.j
