-- `replay_trace::entry_of` meets its contract. Assumes nothing.
use mathlib.Core.Path.{ap, ◌∙◌}
use Rattle.instructions.specs.Kinds.{addresses}
use Rattle.file_format.specs.Routine.{natural_in}
use Rattle.replay_trace.specs.Traces.{cycle_range, entry_of}
use borrow.Author.Rules.{rules}
use Rattle.replay_trace.proofs.entry_of.Statement.{statement}
use Rattle.replay_trace.proofs.entry_of.Tie as tie

returns : tie.Need-returns
unfolding entry_of
returns c =
    (c.natural_in-at.ensures ∙ ap (natural_in addresses) c.word_at.ensures, c.natural_in-cycles.ensures ∙ ap (natural_in cycle_range) c.word_at-2.ensures)

pub entry_of_spec : {M : Type 1} → statement M
entry_of_spec =
    tie.close
    (tie.spec
    (λ c κs. search rules)
    (λ c κs. search rules)
    (λ c κs. search rules)
    (λ c κs. search rules)
    (λ c. search rules)
    returns)
