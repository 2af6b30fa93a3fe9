-- `generate_entry::later` meets its contract. Assumes nothing.
use mathlib.Core.Path.{ap, ◌∙◌}
use Prim.Native.Nat.{◌+◌, ◌*◌}
use Rattle.generate_file.specs.Draws.{after}
use borrow.Author.Rules.{rules}
use Rattle.generate_entry.proofs.later.Statement.{statement}
use Rattle.generate_entry.proofs.later.Tie as tie

returns : tie.Need-returns
returns c = c.after.ensures ∙ ap (λ x. after (1 + 2 * x + c.args.i) c.args.seed) c.requires.0

pub later_spec : {M : Type 1} → statement M
later_spec = tie.close (tie.spec (λ c. search rules) (λ c. search rules) (λ c. search rules) (λ c κs. search rules) returns)
