-- `test_interrupts::told_of` meets its contract. Assumes nothing.
use borrow.Author.Rules.{rules}
use Rattle.test_interrupts.proofs.InterruptLaws.{tells-accepted, tells-refused}
use Rattle.test_interrupts.proofs.told_of.Statement.{statement}
use Rattle.test_interrupts.proofs.told_of.Tie as tie

enum-known-verdict : tie.Need-enum_known-verdict
enum-known-verdict c = search rules

enum_told : tie.Need-enum_told-1
enum_told c = search rules

returns : tie.Need-returns-in_default
returns c = tells-accepted _ c.in_default.is

number-requires : tie.Need-number-requires
number-requires c κs = search rules

place-requires : tie.Need-place-requires
place-requires c κs = search rules

returns-2 : tie.Need-returns
returns-2 c = tells-refused _ _ c.in-Err.is _ _ c.number.ensures c.place.ensures

pub told_of_spec : {M : Type 1} → statement M
told_of_spec =
    tie.close
    (tie.spec enum-known-verdict enum_told returns number-requires place-requires returns-2)
