-- `nearest_search::is_read` meets its contract. Assumes nothing.
use mathlib.Core.Path.{◌≡◌, sym, ap, ◌∙◌}
use Rattle.cells.specs.Try.{done}
use Rattle.machine_state.specs.HeldProgram.{program_of, sizes_of}
use Rattle.machine_state.specs.HeldState.{whole}
use Rattle.bound_theory.specs.Tree.{bound}
use Rattle.nearest_changes.specs.Places.{replace_at}
use Rattle.nearest_changes.specs.Changes.{number_at}
use Rattle.nearest_changes.proofs.CellLaws.{number-present}
use Rattle.nearest_search.specs.Search.{moved}
use Rattle.nearest_search.proofs.SearchLaws.{read_none, read_some}
use borrow.Author.Rules.{rules}
use Rattle.nearest_search.proofs.is_read.Statement.{statement}
use Rattle.nearest_search.proofs.is_read.Tie as tie

number-at-requires : tie.Need-number_at-held-requires
number-at-requires c κs = let s = c in (s.requires.formed, s.requires.explorable.formed)

returns : tie.Need-returns-in_default
returns c =
    let s = c in
    read_none _ s.args.budget s.args.figure _ s.args.p (sym c.in_default.is ∙ c.number_at-held.ensures)

-- the number that the cell holds
holds : (c : tie.In-Some) →
    let s = c in
    done c.in-Some.field-0 ≡ number_at s.args.p (whole (sizes_of s.args.code.now) s.args.blocks s.args.start)
holds c = sym (c.in-Some.is) ∙ c.number_at-held.ensures

is-moved-by-requires : tie.Need-is_moved_by-requires
is-moved-by-requires c κs = let s = c in (s.requires, number-present s.args.p _ _ (sym (holds c.before)))

returns-2 : tie.Need-returns
returns-2 c =
    let s = c in
    read_some _ s.args.budget s.args.figure _ s.args.p _ _ (holds c.before.before)
    (c.is_moved_by.ensures ∙ ap (λ x. moved s.args.figure (bound (program_of s.args.code.now) s.args.budget (replace_at s.args.p x (whole (sizes_of s.args.code.now) s.args.blocks s.args.start)))) c.handle.ensures)

pub is_read_spec : {M : Type 1} → statement M
is_read_spec =
    tie.close
    (tie.spec
    number-at-requires
    (λ c. search rules)
    (λ c. search rules)
    returns
    (λ c κs. search rules)
    is-moved-by-requires
    returns-2)
