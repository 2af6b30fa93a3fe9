-- `replay_steps::after_stop` meets its contract. Assumes nothing.
use mathlib.Core.Path.{sym, ap, ◌∙◌}
use mathlib.Core.Bool.{cond}
use Prim.Native.Nat.{suc}
use native.Mathlib.Numerals.{add-one}
use native.Mathlib.Omega.{arith}
use borrow.Author.Rules.{rules}
use Rattle.text.specs.Text.{is_empty}
use Rattle.text.proofs.LineLaws.{lines_none, lines-first}
use Rattle.replay_steps.specs.Replay.{agreed, differed}
use Rattle.replay_steps.specs.Held.{of_replayed}
use Rattle.replay_steps.proofs.after_stop.Statement.{statement}
use Rattle.replay_steps.proofs.after_stop.Tie as tie

returns : tie.Need-returns-then-rest-eq0
unfolding of_replayed
returns c = let s = c.args in sym (ap (λ ls. cond (is_empty ls) agreed (differed (suc s.n))) (lines_none s.rest.now (omega arith)))

returns-2 : tie.Need-returns
unfolding of_replayed
returns-2 c =
    let s = c.args in
    ap differed (add-one s.n) ∙ sym (ap (λ ls. cond (is_empty ls) agreed (differed (suc s.n))) (lines-first s.rest.now (omega arith)))

pub after_stop_spec : {M : Type 1} → statement M
after_stop_spec = tie.close (tie.spec returns (λ c. search rules) returns-2)
