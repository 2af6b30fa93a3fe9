-- `nearest_search::search` meets its contract. Assumes nothing.
use mathlib.Core.Path.{refl, sym, ◌∙◌}
use Rattle.machine_state.specs.HeldProgram.{program_of, sizes_of}
use Rattle.machine_state.specs.HeldState.{whole}
use Rattle.bound_theory.specs.Tree.{bound}
use Rattle.bound_figures.specs.HeldFigures.{Shows}
use Rattle.nearest_search.proofs.SearchLaws.{shows-bound, reported, searched, search-refused}
use borrow.Author.Rules.{rules}
use Rattle.nearest_search.proofs.search.Statement.{statement}
use Rattle.nearest_search.proofs.search.Tie as tie

explore-requires : tie.Need-explore-found-requires
explore-requires c κs = let s = c in (s.requires.formed, s.requires.explorable)

-- what is found shows the bound of the start
shown : (c : tie.After-explore-found) →
    let s = c in
    Shows c.explore-found.result (bound (program_of s.args.code.now) s.args.budget (whole (sizes_of s.args.code.now) s.args.blocks s.args.start))
shown c = shows-bound _ _ _ _ _ refl c.explore-found.ensures.0.shows

returns : tie.Need-returns-in-Err
returns c =
    let found = c in
    search-refused _ _ _ found.explore-found.result _ (shown found.before) c.in-Err.is

first-moved-requires : tie.Need-first_moved-hit-requires
first-moved-requires c κs =
    let found = c in
    (found.requires, reported _ _ _ found.explore-found.result (shown found.before.before) c.in_default.is, c.cells_read-read.ensures)

returns-2 : tie.Need-returns-in-Some
returns-2 c =
    let moved = c in
    let told = moved in
    searched _ _ _ told.explore-found.result _ (shown told.before.before.before.before) told.in_default.is (sym c.in-Some.is ∙ moved.first_moved-hit.ensures)

returns-3 : tie.Need-returns-in-None
returns-3 c =
    let moved = c in
    let told = moved in
    searched _ _ _ told.explore-found.result _ (shown told.before.before.before.before) told.in_default.is (sym c.in-None.is ∙ moved.first_moved-hit.ensures)

pub search_spec : {M : Type 1} → statement M
search_spec =
    tie.close
    (tie.spec
    explore-requires
    (λ c. search rules)
    returns
    (λ c. search rules)
    (λ c κs. search rules)
    first-moved-requires
    (λ c. search rules)
    (λ c. search rules)
    returns-2
    returns-3)
