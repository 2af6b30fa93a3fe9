-- `nearest_changes::trial_at` meets its contract. Assumes nothing.
use mathlib.Core.Path.{◌≡◌, sym, ap, ap₂, ◌∙◌}
use mir.Syntax.{w32, w64}
use mir.ValLaws.{to_z-of_z}
use Prim.Native.Nat.{◌+◌, ◌/◌, ◌%◌}
use Rattle.numbers.specs.Numbers.{within, numbers}
use Rattle.cells.specs.Try.{done}
use Rattle.machine_state.specs.HeldProgram.{sizes_of}
use Rattle.machine_state.specs.HeldState.{whole}
use Rattle.nearest_changes.specs.Changes.{number_at}
use Rattle.nearest_changes.specs.Held.{shift}
use Rattle.nearest_changes.proofs.TrialLaws.{cast_fits, cast_is, trial-none, trial-out, trial-in}
use borrow.Author.Rules.{rules}
use Rattle.nearest_changes.proofs.trial_at.Statement.{statement}
use Rattle.nearest_changes.proofs.trial_at.Tie as tie

returns : tie.Need-returns-in_default
returns c =
    let s = c in
    trial-none _ s.args.j _ c.position_of-p.ensures (sym c.in_default.is ∙ c.number_at-held.ensures)

-- the place that was found
abbrev placed : tie.In-Some → tie.After-position_of-p
placed c = c.before.before

-- the number that the cell holds, and what it is changed to
holds : (c : tie.In-Some) →
    let q = placed c in
    let s = q in
    done c.in-Some.n ≡ number_at q.position_of-p.result (whole (sizes_of s.args.code.now) s.args.blocks s.args.start)
holds c = sym (c.in-Some.is) ∙ c.number_at-held.ensures

changed : (c : tie.After-shifted-v) →
    let j = (placed c.before).args.j in
    c.shifted-v.result ≡ shift (j % 2) (j / 2 / 193 + 1) c.in-Some.n
changed c =
    let j = (placed c.before).args.j in
    c.shifted-v.ensures ∙ ap (shift (j % 2) (j / 2 / 193 + 1)) (to_z-of_z w32 c.in-Some.n (search rules))

-- the test is that of the range
tested : (c : tie.After-within) → within numbers c.shifted-v.result ≡ c.within.result
tested c = sym (c.within.ensures ∙ ap₂ within c.number_range.ensures (to_z-of_z w64 c.shifted-v.result (search rules)))

returns-2 : tie.Need-returns-then-not-within
returns-2 c =
    let moved = c in
    let q = placed moved.before.before.before.before in
    trial-out _ q.args.j _ q.position_of-p.ensures _ _ (holds moved.before.before.before.before) (changed moved.before.before.before) (tested c.before ∙ c.if-not-within.true)

cast-t15 : tie.Need-overflow_cast-result
cast-t15 c = cast_fits c.shifted-v.result (search rules) (tested c.before ∙ c.if-not-within.false)

returns-3 : tie.Need-returns
returns-3 c =
    let moved = c in
    let q = placed moved.before.before.before.before in
    let w = tested c.before ∙ c.if-not-within.false in
    trial-in _ q.args.j _ q.position_of-p.ensures _ _ (holds moved.before.before.before.before) (changed moved.before.before.before) _ w (cast_is moved.shifted-v.result (search rules) w)

pub trial_at_spec : {M : Type 1} → statement M
trial_at_spec =
    tie.close
    (tie.spec
    (λ c κs. search rules)
    (λ c κs. search rules)
    (λ c. search rules)
    (λ c. search rules)
    returns
    (λ c. search rules)
    (λ c κs. search rules)
    (λ c κs. search rules)
    (λ c κs. search rules)
    returns-2
    cast-t15
    returns-3)
