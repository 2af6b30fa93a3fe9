-- `nearest_changes::position_of` meets its contract. Assumes nothing.
use native.Mathlib.Omega.{arith}
use Rattle.nearest_changes.proofs.PlaceLaws.{position-accu, position-entry, position-field}
use borrow.Author.Rules.{rules}
use Rattle.nearest_changes.proofs.position_of.Statement.{statement}
use Rattle.nearest_changes.proofs.position_of.Tie as tie

returns : tie.Need-returns-then-k-eq0
returns c = position-accu c.args.k (omega arith)

returns-2 : tie.Need-returns-then-k-lt65
returns-2 c = position-entry c.args.k (omega arith) (omega arith)

returns-3 : tie.Need-returns
returns-3 c = position-field c.args.k (omega arith)

pub position_of_spec : {M : Type 1} → statement M
position_of_spec = tie.close (tie.spec returns (λ c. search rules) returns-2 (λ c. search rules) returns-3)
