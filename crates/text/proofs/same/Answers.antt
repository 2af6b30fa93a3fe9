-- `text::same` meets its contract.
use Rattle.std.proofs.Common.{rules}
use Rattle.text.proofs.TextLaws.{equals-pointwise}
use Rattle.text.proofs.same.Goals as goal

pub returns : goal.returns
returns c = search (rules, equals-pointwise)
