-- `nearest_search::is_moved_by` meets its contract. Assumes nothing.
use Rattle.machine_state.specs.HeldProgram.{sizes_of}
use Rattle.nearest_changes.proofs.CellLaws.{whole-replaced}
use Rattle.nearest_search.proofs.SearchLaws.{shows-bound}
use borrow.Author.Rules.{rules}
use Rattle.nearest_search.proofs.is_moved_by.Statement.{statement}
use Rattle.nearest_search.proofs.is_moved_by.Tie as tie

with-entry-requires : tie.Need-with_entry-state-requires
with-entry-requires c κs = let s = c in (s.requires.0.formed, s.requires.0.explorable.formed, s.requires.1)

with-field-requires : tie.Need-with_field-changed-requires
with-field-requires c κs = let s = c in (s.requires.0.formed, s.requires.0.explorable.formed, s.requires.1)

explore-requires : tie.Need-explore-found-requires
explore-requires c κs =
    let s = c in
    let x = s.requires.0.explorable in (
      s.requires.0.formed,
      record {
        formed = c.with_entry-state.ensures.1;
        budget_fits = x.budget_fits;
        openings_fit = x.openings_fit;
      },
    )

returns : tie.Need-returns
returns c =
    let s = c in
    let a = s.args in
    let e = whole-replaced (sizes_of a.code.now) a.blocks c.with_field-changed.result a.start c.with_entry-state.result a.p a.c
    c.with_entry-state.ensures.0 c.with_field-changed.ensures.0 in
    c.is_moved.ensures _ (shows-bound _ a.budget c.explore-found.result _ _ e c.explore-found.ensures.0.shows)

pub is_moved_by_spec : {M : Type 1} → statement M
is_moved_by_spec =
    tie.close
    (tie.spec
    with-entry-requires
    with-field-requires
    explore-requires
    (λ c κs. search rules)
    returns)
