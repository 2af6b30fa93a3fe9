-- `bound_entry::bound_routine` meets its contract. Assumes nothing.
use Rattle.report_theory.specs.Answers.{bound_routine}
use Rattle.report_theory.proofs.FoundLaws.{found-printable, found-gives}
use borrow.Author.Rules.{rules}
use Rattle.bound_entry.proofs.bound_routine.Statement.{statement}
use Rattle.bound_entry.proofs.bound_routine.Tie as tie

put-found-requires : tie.Need-put_found-requires
unfolding bound_routine
put-found-requires c κs = (c.explored-found.ensures.1, found-printable _ _ _ _ c.explored-found.ensures.0 c.requires.1)

returns : tie.Need-returns
unfolding bound_routine
returns c = found-gives _ 0 _ _ c.explored-found.ensures.0 _ _ _ c.put_found.ensures

pub bound_routine_spec : {M : Type 1} → statement M
bound_routine_spec =
    tie.close
    (tie.spec (λ c κs. search rules) put-found-requires (λ c. search rules) returns)
