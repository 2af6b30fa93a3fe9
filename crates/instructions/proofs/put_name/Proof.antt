-- `instructions::put_name` meets its contract: it lends the tables. Assumes nothing.
use borrow.Author.Rules.{rules}
use Rattle.instructions.proofs.put_name.Statement.{statement}
use Rattle.instructions.proofs.put_name.Tie as tie

put-name-in-requires : tie.Need-put_name_in-requires
put-name-in-requires c κs = ((c.name_starts-starts.ensures, c.all_names-names.ensures), c.requires)

returns : tie.Need-returns
returns c = c.put_name_in.ensures

pub put_name_spec : {M : Type 1} → statement M
put_name_spec = tie.close (tie.spec (λ c κs. search rules) (λ c κs. search rules) (λ c. search rules) put-name-in-requires (λ c. search rules) returns)
