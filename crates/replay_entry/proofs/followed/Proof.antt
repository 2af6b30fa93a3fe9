-- `replay_entry::followed` meets its contract. Assumes nothing.
use native.Mathlib.Omega.{arith}
use mathlib.Core.Path.{sym}
use Rattle.file_reader.proofs.ReaderLaws.{taken}
use borrow.Author.Rules.{rules}
use Rattle.replay_entry.proofs.followed.Statement.{statement}
use Rattle.replay_entry.proofs.followed.Tie as tie

slice-aggregate-replay : tie.Need-slice_bounds-replay-end
slice-aggregate-replay c = let s = c in sym (taken _ s.args.routine.answers.values (omega (arith, s.requires.0.places, s.requires.0.answered)))

pub followed_spec : {M : Type 1} → statement M
followed_spec = tie.close (tie.spec (λ c. search rules) slice-aggregate-replay (λ c κs. search rules) (λ c. search rules))
