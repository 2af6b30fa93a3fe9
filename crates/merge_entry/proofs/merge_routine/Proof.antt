-- `merge_entry::merge_routine` meets its contract. Assumes nothing.
use Rattle.report_theory.specs.Answers.{merge_routine}
use Rattle.report_theory.proofs.FoundLaws.{found-printable, found-gives}
use borrow.Author.Rules.{rules}
use Rattle.merge_entry.proofs.merge_routine.Statement.{statement}
use Rattle.merge_entry.proofs.merge_routine.Tie as tie

put-found-requires : tie.Need-put_found-requires
unfolding merge_routine
put-found-requires c κs = (c.swept-found.ensures.1, found-printable _ _ _ _ c.swept-found.ensures.0 c.requires.1)

returns : tie.Need-returns
unfolding merge_routine
returns c = found-gives _ 0 _ _ c.swept-found.ensures.0 _ _ _ c.put_found.ensures

pub merge_routine_spec : {M : Type 1} → statement M
merge_routine_spec =
    tie.close
    (tie.spec (λ c κs. search rules) put-found-requires (λ c. search rules) returns)
