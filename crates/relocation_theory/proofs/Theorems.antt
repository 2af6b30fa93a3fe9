-- The statements of `specs/Promises`, each proved by its name. Assumes nothing.
use mathlib.Core.Path.{ap, ◌∙◌}
use Rattle.cells.specs.Cells.{unknown}
use Rattle.machine.specs.Machine.{step}
use Rattle.bound_theory.specs.Tree.{opening_limit, bound}
use Rattle.merge_theory.specs.Merge.{span, only, none, sweep, merged}
use Rattle.relocation_theory.specs.Raised.{raise_code, raise_state}
use Rattle.relocation_theory.specs.Promises.{BoundRaised, MergedRaised, RunRaised}
use Rattle.relocation_theory.proofs.StepLaws.{step-raised}
use Rattle.relocation_theory.proofs.TreeLaws.{explore-raised}
use Rattle.relocation_theory.proofs.SweepLaws.{span-raised, swept-raised}
use Rattle.relocation_theory.proofs.RunLaws.{run-is-raised}

pub bound-raised : BoundRaised
unfolding bound
bound-raised f c budget s = explore-raised f (step c unknown) (step (raise_code f c) unknown) (step-raised f c unknown) opening_limit budget s

pub merged-raised : MergedRaised
unfolding merged
merged-raised f c s =
    ap (λ n. sweep (step (raise_code f c) unknown) n (raise_state f s).at (only (raise_state f s)) none) (span-raised f c s)
    ∙ swept-raised f (step c unknown) (step (raise_code f c) unknown) (step-raised f c unknown) (span c s) s none

pub run-raised : RunRaised
run-raised f c budget s answers = run-is-raised f c budget s answers
