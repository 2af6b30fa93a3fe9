-- `instructions::keyed_kinds` meets its contract: the list is that of the definition, by computation. Assumes nothing.
use Rattle.instructions.specs.Kinds.{kinds, kind_names}
use Rattle.instructions.proofs.NameLaws.{by_key}
use Rattle.instructions.proofs.keyed_kinds.Statement.{statement}
use Rattle.instructions.proofs.keyed_kinds.Tie as tie

returns : tie.Need-returns
unfolding kinds kind_names
returns c = by_key

pub keyed_kinds_spec : {M : Type 1} → statement M
keyed_kinds_spec = tie.close (tie.spec returns)
