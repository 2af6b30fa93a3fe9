-- The statements of `specs/Promises`, each proved by its name. Assumes nothing.
use mathlib.Core.Path.{◌≡◌, ap}
use native.Mathlib.Omega.{arith}
use lib.ListN.{length, take}
use lib.Seq.{take-length}
use Rattle.bound_theory.specs.Tree.{opening_limit, bound}
use Rattle.bound_theory.specs.Run.{begin}
use Rattle.bound_theory.proofs.PromiseLaws.{interruptible}
use Rattle.replay_steps.specs.Replay.{replay}
use Rattle.replay_steps.specs.Promises.{AgreesWhere, DiffersWhere, spent, SpentWithin, SpentWithinBound}
use Rattle.replay_steps.proofs.ReplayLaws.{agreed-all, all-agreed, differed-first, first-differed, spent-within}

pub agrees-where : AgreesWhere
unfolding replay
agrees-where c s answers es = (agreed-all c 2 (begin s answers) es, all-agreed c 2 (begin s answers) es)

pub differs-where : DiffersWhere
unfolding replay
differs-where c s answers es = (
  (λ n h. let f = differed-first c 2 n (begin s answers) es h in (f.place, f.is, record { there = f.there; before = f.before; differs = f.differs })),
  (λ k f. first-differed c 2 k (begin s answers) es f.there f.before f.differs),
)

pub spent-within-run : SpentWithin
unfolding replay begin
spent-within-run c s answers es h k l = let w = spent-within c 2 (begin s answers) es h k l in omega arith

pub spent-within-bound : SpentWithinBound
unfolding bound
spent-within-bound c s answers es h budget t q a w =
    let n = length es in
    let i = spent-within-run c s answers es h n (omega arith) in
    let j : spent (take n es) ≡ spent es = ap spent (take-length es) in
    let k = (interruptible c opening_limit budget t q a s w answers n).cycles in
    omega arith
