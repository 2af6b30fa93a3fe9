-- `split_entry::split_routine` meets its contract. Assumes nothing.
use Rattle.report_theory.proofs.FoundLaws.{found-printable, found-gives}
use Rattle.split_entry.specs.Answers.{cases_routine}
use borrow.Author.Rules.{rules}
use Rattle.split_entry.proofs.split_routine.Statement.{statement}
use Rattle.split_entry.proofs.split_routine.Tie as tie

put-found-requires : tie.Need-put_found-requires
unfolding cases_routine
put-found-requires c κs = (c.bounded-found.ensures.1, found-printable _ _ _ _ c.bounded-found.ensures.0 c.requires.1)

returns : tie.Need-returns
unfolding cases_routine
returns c = found-gives _ 0 _ _ c.bounded-found.ensures.0 _ _ _ c.put_found.ensures

pub split_routine_spec : {M : Type 1} → statement M
split_routine_spec = tie.close (tie.spec (λ c κs. search rules) put-found-requires (λ c. search rules) returns)
