-- `split_cuts::place_of` meets its contract: the words of NAMES are the names of the places, by computation. Assumes nothing.
use mathlib.Core.Path.{ap, ◌∙◌}
use Rattle.text.specs.Text.{parted_by, line_words, index_of, find}
use Rattle.text_decimals.specs.Decimal.{digits, decimal}
use Rattle.nearest_changes.specs.Places.{from, position_of, all_positions}
use Rattle.nearest_entry.specs.Answers.{name_of}
use Rattle.split_cuts.specs.Cuts.{place_number}
use borrow.Author.Rules.{rules}
use Rattle.split_cuts.proofs.place_of.Statement.{statement}
use Rattle.split_cuts.proofs.place_of.Tie as tie

returns : tie.Need-returns
unfolding parted_by line_words digits decimal from position_of all_positions name_of find place_number
returns c = c.index_of.ensures ∙ ap (λ r. index_of r.place) c.find-found.ensures

pub place_of_spec : {M : Type 1} → statement M
place_of_spec = tie.close (tie.spec
    (λ c κs. search rules)
    (λ c κs. search rules)
    returns)
