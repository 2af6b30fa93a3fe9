-- `routine_figures::ran` meets its contract. Assumes nothing.
use native.Mathlib.Omega.{arith}
use mathlib.Core.Path.{sym}
use Rattle.file_reader.proofs.ReaderLaws.{taken}
use borrow.Author.Rules.{rules}
use Rattle.routine_figures.proofs.ran.Statement.{statement}
use Rattle.routine_figures.proofs.ran.Tie as tie

slice-aggregate-run : tie.Need-slice_bounds-run-end
slice-aggregate-run c = let s = c in sym (taken _ s.args.routine.answers.values (omega (arith, s.requires.places, s.requires.answered)))

pub ran_spec : {M : Type 1} → statement M
ran_spec = tie.close (tie.spec (λ c. search rules) slice-aggregate-run (λ c κs. search rules) (λ c. search rules))
