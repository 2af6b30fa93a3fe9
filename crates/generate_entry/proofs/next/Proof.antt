-- `generate_entry::next` meets its contract. Assumes nothing.
use mathlib.Core.Path.{refl}
use Rattle.generate_file.specs.Draws.{next}
use Rattle.generate_entry.proofs.next.Statement.{statement}
use Rattle.generate_entry.proofs.next.Tie as tie

returns : tie.Need-returns
unfolding next
returns c = refl

pub next_spec : {M : Type 1} → statement M
next_spec = tie.close (tie.spec returns)
