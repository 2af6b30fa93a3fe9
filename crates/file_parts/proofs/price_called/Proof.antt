-- `file_parts::price_called` meets its contract. Assumes nothing.
use native.Mathlib.Omega.{arith}
use Rattle.file_format.specs.Layout.{list}
use Rattle.file_parts.proofs.EntryLaws.{price-natural, natural-small, when_true}
use borrow.Author.Rules.{rules}
use Rattle.file_parts.proofs.price_called.Statement.{statement}
use Rattle.file_parts.proofs.price_called.Tie as tie

natural-at-requires : tie.Need-natural_at-requires
natural-at-requires c κs = price-natural _ c.requires

returns : tie.Need-returns-then-called
returns c =
    let start = c in
    let h = natural-small start.args.range start.requires (list start.args.primitives.now) start.args.i c.natural_at.ensures in
    (when_true c.if-called.true c.natural_at.ensures, (let s = start.requires.small in omega arith))

pub price_called_spec : {M : Type 1} → statement M
price_called_spec = tie.close (tie.spec natural-at-requires returns (λ c. search rules))
