-- `run_loop::judge` meets its contract. Assumes nothing.
use Rattle.run_loop.proofs.RunLaws.{stopped-judged, stuck-judged, spent-judged}
use Rattle.run_loop.proofs.judge.Statement.{statement}
use Rattle.run_loop.proofs.judge.Tie as tie

returns : tie.Need-returns-then-r
returns c = λ ns answers. stopped-judged ns answers _ c.args.r c.if-r.true

returns-2 : tie.Need-returns-then-r-budget
returns-2 c =
    let start = c in
    λ ns answers. stuck-judged ns answers _ start.args.r c.if-r.false c.if-r-budget.true

returns-3 : tie.Need-returns-else-r-budget
returns-3 c =
    let start = c in
    λ ns answers. spent-judged ns answers _ start.args.r c.if-r.false c.if-r-budget.false

pub judge_spec : {M : Type 1} → statement M
judge_spec = tie.close (tie.spec returns returns-2 returns-3)
