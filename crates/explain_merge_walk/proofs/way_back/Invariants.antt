-- The loop of `explain_merge_walk::way_back`: the goals that are put down are those of the moves so far (`Backing`).
use Prim.Native.Nat.{◌-◌}
use Rattle.explain_merge_walk.proofs.BackLaws.{Backing}
use Rattle.explain_merge_walk.proofs.way_back.Given as goal

abbrev pub invariant-loop : goal.invariant-loop
invariant-loop l = Backing l.kept l.most l.goals l.place l.goal (l.most - l.counter)
