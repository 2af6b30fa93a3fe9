-- The head is filled in up to the sizes of the first k blocks (`Headed`).
use Rattle.file_parts.proofs.HeadLaws.{Headed}
use Rattle.file_parts.proofs.put_head.Given as goal

abbrev pub invariant-loop-k : goal.invariant-loop-k
invariant-loop-k l = Headed l.first l.present l.sizes l.initial.code l.k l.code
