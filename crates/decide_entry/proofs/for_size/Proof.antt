-- `decide_entry::for_size` meets its contract. Assumes nothing.
use Rattle.decide_entry.proofs.FunctionLaws.{size-eight, size-other}
use borrow.Author.Rules.{rules}
use Rattle.decide_entry.proofs.for_size.Statement.{statement}
use Rattle.decide_entry.proofs.for_size.Tie as tie

returns : tie.Need-returns-then-number-eq8
returns c = size-eight _ _ c.number-number.ensures c.if-number-eq8.true

returns-2 : tie.Need-returns-else-number-eq8
returns-2 c = size-other _ _ c.number-number.ensures c.if-number-eq8.false

pub for_size_spec : {M : Type 1} → statement M
for_size_spec = tie.close (tie.spec (λ c κs. search rules) returns returns-2)
