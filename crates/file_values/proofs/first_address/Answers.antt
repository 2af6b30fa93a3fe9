-- `file_values::first_address` meets its contract. Assumes nothing.
use mathlib.Core.Path.{ap, ap₂, ◌∙◌}
use mathlib.Core.List.{[]}
use lib.IntN.{nat_abs}
use lib.ListN.{get_or}
use Rattle.text.specs.Text.{line_words, lines}
use Rattle.file_format.specs.Rows.{first_addresses}
use Rattle.file_format.specs.Routine.{inside, natural_in}
use Rattle.file_values.proofs.ValueLaws.{first-spelt}
use Rattle.file_values.proofs.first_address.Goals as goal

pub returns : goal.returns
returns c =
    let body = c.args.body.now in
    c.natural_of.ensures
    ∙ ap₂ natural_in c.first_addresses.ensures (c.word_at-at.ensures ∙ ap (λ t. get_or (line_words t) 0 []) c.first_line-line.ensures)
    ∙ ap (λ z. nat_abs (inside first_addresses z)) (first-spelt (lines body))
