-- `generate_entry::number_in` meets its contract. Assumes nothing.
use Rattle.generate_entry.proofs.NumberInLaws.{difference-fits, size_fits, size-cast, size-some, sum_fits, sum-cast, sum_is}
use borrow.Author.Rules.{rules}
use Rattle.generate_entry.proofs.number_in.Statement.{statement}
use Rattle.generate_entry.proofs.number_in.Tie as tie

sub-size : tie.Need-overflow_sub-size
sub-size c = difference-fits c.args.range c.requires

add-size : tie.Need-overflow_add-size
add-size c = size_fits c.args.range c.requires

cast-size : tie.Need-overflow_cast-size
cast-size c = size-cast c.args.range c.requires

below-requires : tie.Need-below-more-requires
below-requires c κs = size-some c.args.range c.requires

add-result : tie.Need-overflow_add-result
add-result c = sum_fits c.args.range c.requires c.args.d c.below-more.result c.below-more.ensures

cast-result : tie.Need-overflow_cast-result
cast-result c = sum-cast c.args.range c.requires c.args.d c.below-more.result c.below-more.ensures

returns : tie.Need-returns
returns c = sum_is c.args.range c.requires c.args.d c.below-more.result c.below-more.ensures

pub number_in_spec : {M : Type 1} → statement M
number_in_spec =
    tie.close
    (tie.spec sub-size add-size cast-size below-requires (λ c. search rules) add-result cast-result returns)
