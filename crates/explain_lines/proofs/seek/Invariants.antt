-- The loop of `explain_lines::seek`: the cursor stands at the line that the loop has come to.
use Rattle.explain_lines.specs.Held.{Stands}
use Rattle.explain_lines.proofs.seek.Given as goal

abbrev pub invariant-loop : goal.invariant-loop
invariant-loop l = Stands l.body (record { byte = l.byte; line = l.counter })
