-- `instructions::kind_named` meets its contract: it lends the tables. Assumes nothing.
use borrow.Author.Rules.{rules}
use Rattle.instructions.proofs.kind_named.Statement.{statement}
use Rattle.instructions.proofs.kind_named.Tie as tie

kind-in-requires : tie.Need-kind_in-requires
kind-in-requires c κs = (c.keyed_kinds-keyed.ensures, c.name_starts-starts.ensures, c.all_names-names.ensures)

returns : tie.Need-returns
returns c = c.kind_in.ensures

pub kind_named_spec : {M : Type 1} → statement M
kind_named_spec = tie.close (tie.spec (λ c κs. search rules) (λ c κs. search rules) (λ c κs. search rules) (λ c. search rules) kind-in-requires returns)
