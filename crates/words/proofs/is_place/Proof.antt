-- `words::is_place` meets its contract. Assumes nothing.
use mathlib.Core.Path.{sym}
use Rattle.words.proofs.PlaceLaws.{place-negative, place-natural}
use borrow.Author.Rules.{rules}
use Rattle.words.proofs.is_place.Statement.{statement}
use Rattle.words.proofs.is_place.Tie as tie

returns : tie.Need-returns-then-argument-lt0
returns c = sym (place-negative c.args.listed c.args.argument c.ranges.argument c.if-argument-lt0.true)

returns-2 : tie.Need-returns
returns-2 c = place-natural c.args.listed c.args.argument c.ranges.argument c.requires c.if-argument-lt0.false

pub is_place_spec : {M : Type 1} → statement M
is_place_spec = tie.close (tie.spec returns (λ c. search rules) returns-2)
