-- `words_export::offset_to` meets its contract. Assumes nothing.
use Rattle.words_export.proofs.ArgumentLaws.{offset-fits, offset_read}
use borrow.Author.Rules.{rules}
use Rattle.words_export.proofs.offset_to.Statement.{statement}
use Rattle.words_export.proofs.offset_to.Tie as tie

sub-result : tie.Need-overflow_sub-result
sub-result c = offset-fits c.args.target c.args.index c.requires.0 c.requires.1

returns : tie.Need-returns
returns c = offset_read c.args.target c.args.index c.requires.0 c.requires.1

pub offset_to_spec : {M : Type 1} → statement M
offset_to_spec = tie.close (tie.spec (λ c. search rules) (λ c. search rules) (λ c. search rules) sub-result returns)
