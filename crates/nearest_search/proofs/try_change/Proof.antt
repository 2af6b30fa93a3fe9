-- `nearest_search::try_change` meets its contract. Assumes nothing.
use mathlib.Core.Path.{◌≡◌, sym, ap, ◌∙◌}
use mathlib.Core.List.{[], ◌∷◌}
use mir.Syntax.{w32}
use mir.ValLaws.{to_z-of_z}
use Rattle.cells.specs.Cells.{exactly}
use Rattle.machine_state.specs.HeldProgram.{program_of, sizes_of}
use Rattle.machine_state.specs.HeldState.{whole}
use Rattle.bound_theory.specs.Tree.{bound}
use Rattle.nearest_changes.specs.declared.Change.{Change}
use Rattle.nearest_changes.specs.Places.{replace_at}
use Rattle.nearest_changes.specs.Held.{of_trial, trial_of}
use Rattle.nearest_changes.proofs.TrialLaws.{trial-present}
use Rattle.nearest_search.specs.Search.{moved}
use Rattle.nearest_search.proofs.SearchLaws.{tried-nothing, tried-hit, tried-miss}
use borrow.Author.Rules.{rules}
use Rattle.nearest_search.proofs.try_change.Statement.{statement}
use Rattle.nearest_search.proofs.try_change.Tie as tie

trial-at-requires : tie.Need-trial_at-trial-requires
trial-at-requires c κs = let s = c in (s.requires.0.formed, s.requires.0.explorable.formed, s.requires.1)

returns : tie.Need-returns-in_default
returns c =
    let s = c in
    tried-nothing _ s.args.budget s.args.figure _ _ (sym (ap of_trial c.in_default.is) ∙ c.trial_at-trial.ensures)

-- where the function begins, and the change that is tried
abbrev begun : tie.In-Some → tie.Start
begun c = c.before.before

abbrev change : tie.In-Some → Change
change c = c.in-Some.change

tried : (c : tie.In-Some) →
    let s = begun c in
    change c ∷ [] ≡ trial_of (whole (sizes_of s.args.code.now) s.args.blocks s.args.start) s.args.j
tried c = sym (ap of_trial c.in-Some.is) ∙ c.trial_at-trial.ensures

is-moved-by-requires : tie.Need-is_moved_by-requires
is-moved-by-requires c κs =
    let told = c in
    let s = begun told.before.before in
    (s.requires.0, trial-present _ s.args.j _ (tried told.before.before))

-- what is asked of it
asked : (c : tie.After-is_moved_by) →
    let told = c in
    let s = begun told.before.before.before in
    let x = change told.before.before.before in
    c.is_moved_by.result ≡ moved s.args.figure (bound (program_of s.args.code.now) s.args.budget (replace_at x.place (exactly x.value) (whole (sizes_of s.args.code.now) s.args.blocks s.args.start)))
asked c =
    let told = c in
    let s = begun told.before.before.before in
    let x = change told.before.before.before in
    c.is_moved_by.ensures
    ∙ ap (λ a. moved s.args.figure (bound (program_of s.args.code.now) s.args.budget (replace_at x.place a (whole (sizes_of s.args.code.now) s.args.blocks s.args.start))))
    (c.exactly-c.ensures ∙ ap exactly (to_z-of_z w32 x.value (search rules)))

returns-2 : tie.Need-returns-then-is_moved_by
returns-2 c =
    let told = c in
    let s = begun told.before.before.before.before in
    tried-hit _ s.args.budget s.args.figure _ _ (change told.before.before.before.before) (tried told.before.before.before.before) (sym c.if-is_moved_by.true ∙ asked c.before)

returns-3 : tie.Need-returns
returns-3 c =
    let told = c in
    let s = begun told.before.before.before.before in
    tried-miss _ s.args.budget s.args.figure _ _ (change told.before.before.before.before) (tried told.before.before.before.before) (sym c.if-is_moved_by.false ∙ asked c.before)

pub try_change_spec : {M : Type 1} → statement M
try_change_spec =
    tie.close
    (tie.spec
    trial-at-requires
    (λ c. search rules)
    (λ c. search rules)
    returns
    (λ c κs. search rules)
    is-moved-by-requires
    returns-2
    returns-3)
