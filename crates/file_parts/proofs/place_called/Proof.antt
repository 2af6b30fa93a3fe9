-- `file_parts::place_called` meets its contract. Assumes nothing.
use Rattle.file_parts.proofs.EntryLaws.{when_true}
use borrow.Author.Rules.{rules}
use Rattle.file_parts.proofs.place_called.Statement.{statement}
use Rattle.file_parts.proofs.place_called.Tie as tie

returns : tie.Need-returns-then-called
returns c = when_true c.if-called.true c.index_listed.ensures

pub place_called_spec : {M : Type 1} → statement M
place_called_spec = tie.close (tie.spec (λ c κs. search rules) returns (λ c. search rules))
