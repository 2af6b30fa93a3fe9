-- The first k lines of code are written (`Coding`).
use Rattle.generate_entry.proofs.RowingLaws.{Coding}
use Rattle.generate_entry.proofs.put_code.Given as goal

abbrev pub invariant-loop-k : goal.invariant-loop-k
invariant-loop-k l = Coding l.seed l.n l.fn.out l.at l.out l.e l.t l.u l.k
