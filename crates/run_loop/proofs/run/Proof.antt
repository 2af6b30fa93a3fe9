-- `run_loop::run` meets its contract. Assumes nothing.
use borrow.Author.Rules.{rules}
use Rattle.run_loop.proofs.RunLaws.{run-judged, within-bound}
use Rattle.run_loop.proofs.run.Statement.{statement}
use Rattle.run_loop.proofs.run.Tie as tie

returns : tie.Need-returns
returns c =
    let e = run-judged _ _ _ _ _ c.judge.result (c.judge.ensures _ _) c.after-r.ensures.0 in
    (e, within-bound _ _ _ _ c.judge.result e)

pub run_spec : {M : Type 1} → statement M
run_spec = tie.close (tie.spec (λ c κs. search rules) (λ c κs. search rules) returns)
