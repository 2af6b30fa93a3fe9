-- `instructions::name_starts` meets its contract: the column is that of the definition, by computation. Assumes nothing.
use mathlib.Core.Path.{refl}
use Rattle.instructions.specs.Kinds.{kinds, kind_names}
use Rattle.instructions.proofs.name_starts.Statement.{statement}
use Rattle.instructions.proofs.name_starts.Tie as tie

returns : tie.Need-returns
unfolding kinds kind_names
returns c = record { at_kind = λ k h. refl }

pub name_starts_spec : {M : Type 1} → statement M
name_starts_spec = tie.close (tie.spec returns)
