-- The state is that after as many rounds as there were turns.
use Rattle.std.proofs.Common.{◌≡◌}
use Rattle.generate_file.specs.Draws.{after}
use Rattle.generate_entry.proofs.after.Given as goal

abbrev pub invariant-loop : goal.invariant-loop
invariant-loop l = l.s ≡ after l.counter l.seed
