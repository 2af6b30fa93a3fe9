-- `file_code::is_address` meets its contract. Assumes nothing.
use mathlib.Core.Path.{refl, ◌∙◌}
use Rattle.file_code.proofs.CodeLaws.{sum_fits, sum-range, sum-within}
use borrow.Author.Rules.{rules}
use Rattle.file_code.proofs.is_address.Statement.{statement}
use Rattle.file_code.proofs.is_address.Tie as tie

add-own : tie.Need-overflow_add-own
add-own c = let start = c in sum_fits start.args.first start.args.k start.requires.0 start.requires.1

is-read-within-requires : tie.Need-is_read_within-requires
is-read-within-requires c κs = let start = c in sum-range start.args.first start.args.k start.requires.0 start.requires.1

returns : tie.Need-returns
returns c = λ w e. let start = c in c.is_read_within.ensures w e ∙ sum-within start.args.first start.args.k start.requires.0 start.requires.1 refl

pub is_address_spec : {M : Type 1} → statement M
is_address_spec = tie.close (tie.spec (λ c. search rules) add-own is-read-within-requires returns)
