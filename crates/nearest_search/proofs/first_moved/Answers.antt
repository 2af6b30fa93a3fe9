-- The goals of `nearest_search::first_moved`.
use Prim.Native.Nat.{◌/◌, ◌%◌}
use mathlib.Core.Path.{◌≡◌, sym, ◌∙◌}
use Rattle.std.specs.Prelude.{None as none}
use native.Mathlib.Nat.{mod-lt}
use native.Mathlib.Omega.{arith}
use Rattle.machine_state.specs.HeldProgram.{program_of, sizes_of}
use Rattle.machine_state.specs.HeldState.{whole}
use Rattle.machine_state.proofs.ProgramLaws.{sizes-count}
use Rattle.nearest_changes.specs.Held.{trial_of}
use Rattle.nearest_search.specs.Held.{first_moved}
use Rattle.nearest_search.proofs.SearchLaws.{turn-hit, turn-miss, turns-over, trials-left}
use Rattle.nearest_search.proofs.UnreadLaws.{passed_over}
use Rattle.nearest_search.proofs.first_moved.Goals as goal
use Rattle.nearest_search.proofs.first_moved.Goals.{then-read-k+in_default, else-read-k}

pub loop-j-init : goal.loop-j-init
loop-j-init c =
    let a = c.args in
    let x = c.requires.0 in
    trials-left (sizes_of a.code.now) a.blocks a.start x.explorable.formed x.formed.sizes (omega (arith, sizes-count a.code.now x.formed, x.formed.blocks)) _

pub returns-in-Some : goal.returns-in-Some
returns-in-Some c =
    turn-hit _ _ 24704 _ c.loop-j.j _ c.loop-j-test.true c.loop-j.invariant (sym c.in-Some.is ∙ c.try_change-hit.ensures)

pub loop-j-preserved : goal.loop-j-preserved
loop-j-preserved c =
    let a = c.args in
    let j = c.loop-j.j in
    let s = whole (sizes_of a.code.now) a.blocks a.start in
    let miss : none ≡ first_moved (program_of a.code.now) a.budget a.figure s (trial_of s j) =
    elim c.if-read-k.branch [
      | then-read-k+in_default w ↦ sym w.in_default.is ∙ w.try_change-hit.ensures
      | else-read-k w ↦ passed_over _ a.budget a.figure _ c.requires.1 j (sym (c.requires.2.each (j / 2 % 193) (mod-lt (j / 2) (omega arith))) ∙ w.if-read-k.false)
    ] in
    turn-miss _ _ 24704 _ j c.loop-j-test.true c.loop-j.invariant miss

pub returns : goal.returns
returns c = turns-over _ _ 24704 _ c.loop-j.j c.loop-j-test.false c.loop-j.invariant
