-- `replay_steps::replay` meets its contract. The loop's invariant: the lines left decide what the replay says (`Following`). The measure is the
-- length of what is left. Assumes nothing.
use mathlib.Core.Path.{◌∙◌}
use lib.ListN.{length}
use native.Mathlib.Omega.{arith}
use borrow.Author.Rules.{rules}
use borrow.Author.Tests.{not-true, not-false}
use Rattle.machine_state.specs.HeldProgram.{program_of, sizes_of}
use Rattle.machine_state.specs.HeldState.{whole}
use Rattle.replay_trace.specs.Traces.{entries}
use Rattle.replay_steps.specs.Replay.{replay}
use Rattle.replay_steps.specs.Held.{of_replayed}
use Rattle.replay_steps.proofs.LoopLaws.{Following, begins, ends, differs, stops, goes_on}
use Rattle.replay_steps.proofs.replay.Statement.{statement}
use Rattle.replay_steps.proofs.replay.Tie as tie
use Rattle.replay_steps.proofs.replay.Reads as reads
use Rattle.replay_steps.proofs.replay.Lts as lts
use Rattle.replay_steps.proofs.after_stop.Reads as after-stop-reads
use Rattle.replay_steps.proofs.follow.Reads as follow-reads
use Rattle.text.proofs.first_line.Reads as first-line-reads
use Rattle.text.proofs.next_lines.Reads as next-lines-reads
use Rattle.replay_trace.proofs.entry_of.Reads as entry-of-reads

abbrev invariant-loop-rest : tie.invariant-loop-rest
invariant-loop-rest code answers trace state₀ blocks₀ taken₀ rest₀ line₀ state blocks taken rest line =
    Following (program_of code) (sizes_of code) answers (replay (program_of code) (whole (sizes_of code) blocks₀ state₀) answers (entries trace)) taken state blocks rest line

abbrev decreases-loop-rest : tie.decreases-loop-rest
decreases-loop-rest code answers trace state₀ blocks₀ taken₀ rest₀ line₀ state blocks taken rest line = length rest

loop-holds : tie.Need-loop-rest-init invariant-loop-rest decreases-loop-rest
loop-holds c = let s = c in begins _ _ _ _ _ _ _ s.requires.1 s.requires.2 c.next_lines-rest.ensures.0

follow-requires : tie.Need-follow-held-requires invariant-loop-rest decreases-loop-rest
follow-requires c κs =
    let at-loop = c in
    let s = at-loop in
    let i = at-loop.loop-rest.invariant in
    let f = i.few in
    let g = i.near in
    (s.requires.0, i.formed, omega arith)

returns : tie.Need-returns-then-not-held invariant-loop-rest decreases-loop-rest
unfolding of_replayed
returns c =
    let b = c in
    differs b.loop-rest.invariant b.loop-rest-test.true _ b.first_line.ensures _ _ b.entry_of-entry.ensures.0 b.entry_of-entry.ensures.1 _ c.follow-held.ensures (not-true _ c.if-not-held.true)

after-stop-requires : tie.Need-after_stop-requires invariant-loop-rest decreases-loop-rest
after-stop-requires c κs =
    let c1 = c in
    let at-loop = c1 in
    let i = at-loop.loop-rest.invariant in let g = i.near in omega arith

returns-2 : tie.Need-returns-then-held invariant-loop-rest decreases-loop-rest
returns-2 c =
    let at-follow = c in
    let b = at-follow in
    let at-first-line = b in
    let at-loop-test = at-first-line in
    let at-loop = at-loop-test in
    c.after_stop.ensures
    ∙ stops at-loop.loop-rest.invariant at-loop-test.loop-rest-test.true _ at-first-line.first_line.ensures _ _ b.entry_of-entry.ensures.0 b.entry_of-entry.ensures.1 _ at-follow.follow-held.ensures (not-false _ c.if-not-held.false) _ c.next_lines-next.ensures.0 c.if-held.true

add-line : tie.Need-overflow_add-line invariant-loop-rest decreases-loop-rest
add-line c =
    let c1 = c in
    let at-loop = c1 in
    let i = at-loop.loop-rest.invariant in let g = i.near in omega arith

loop-less : tie.Need-loop-rest-smaller invariant-loop-rest decreases-loop-rest
loop-less c =
    let c1 = c in
    let at-loop-test = c1 in
    let h = c.next_lines-next.ensures.1 in let t = at-loop-test.loop-rest-test.true in omega arith

loop-again : tie.Need-loop-rest-preserved invariant-loop-rest decreases-loop-rest
loop-again c =
    let at-if1 = c in
    let at-follow = at-if1 in
    let b = at-follow in
    let at-first-line = b in
    let at-loop-test = at-first-line in
    let at-loop = at-loop-test in
    goes_on at-loop.loop-rest.invariant at-loop-test.loop-rest-test.true _ at-first-line.first_line.ensures _ _ b.entry_of-entry.ensures.0 b.entry_of-entry.ensures.1 _ at-follow.follow-held.ensures (not-false _ at-if1.if-not-held.false) _ c.next_lines-next.ensures.0 c.if-held.false

returns-3 : tie.Need-returns invariant-loop-rest decreases-loop-rest
unfolding of_replayed
returns-3 c = ends c.loop-rest.invariant c.loop-rest-test.false

pub replay_spec : {M : Type 1} → statement M
replay_spec =
    tie.close
    (tie.spec
    invariant-loop-rest
    decreases-loop-rest
    (λ c κs. search rules)
    loop-holds
    (λ c κs. search rules)
    (λ c κs. search rules)
    (λ c. search rules)
    follow-requires
    returns
    (λ c κs. search rules)
    after-stop-requires
    returns-2
    add-line
    loop-less
    loop-again
    returns-3)
