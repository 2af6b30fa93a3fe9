-- `instructions::all_names` meets its contract: the text is that of the definition, by computation. Assumes nothing.
use Rattle.instructions.specs.Kinds.{kinds, kind_names}
use Rattle.instructions.proofs.NameLaws.{all-joined}
use Rattle.instructions.proofs.all_names.Statement.{statement}
use Rattle.instructions.proofs.all_names.Tie as tie

returns : tie.Need-returns
unfolding kinds kind_names
returns c = all-joined

pub all_names_spec : {M : Type 1} → statement M
all_names_spec = tie.close (tie.spec returns)
