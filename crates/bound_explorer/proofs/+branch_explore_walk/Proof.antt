-- `explore`, `walk` and `branch` meet their contracts: a branch has one opening less for each of its ways, and the loop goes on with a
-- smaller budget. Assumes nothing.
use Rattle.std.specs.Prelude.{Err, Ok, Result, ⊤}
use Prim.Native.Nat.{ℕ, ◌+◌, ◌-◌, ◌*◌, ◌≤◌, ◌<◌}
use borrow.Fn.Kinds.{In}
use borrow.Fn.PlainCycle.{Measures, is, falls, and}
use Rattle.bound_explorer.proofs.branch.Reads as branch
use Rattle.bound_explorer.proofs.branch.Kinds as branch-kinds
use Rattle.bound_explorer.proofs.+branch_explore_walk.Lts-branch as branch-lts
use Rattle.bound_explorer.proofs.explore.Reads as explore
use Rattle.bound_explorer.proofs.explore.Kinds as explore-kinds
use Rattle.bound_explorer.proofs.+branch_explore_walk.Lts-explore as explore-lts
use Rattle.bound_explorer.proofs.walk.Reads as walk
use Rattle.bound_explorer.proofs.walk.Kinds as walk-kinds
use Rattle.bound_explorer.proofs.+branch_explore_walk.Lts-walk as walk-lts
use Rattle.bound_explorer.proofs.stuck.Reads as stuck-reads
use Rattle.bound_turns.proofs.combined.Reads as combined-reads
use Rattle.bound_turns.proofs.reachable.Reads as reachable-reads
use Rattle.bound_turns.proofs.turn_of.Reads as turn-of-reads
use Rattle.bound_figures.proofs.both.Reads as both-reads
use Rattle.bound_figures.proofs.finished.Reads as finished-reads
use Rattle.bound_figures.proofs.jumped.Reads as jumped-reads
use Rattle.bound_figures.proofs.more.Reads as more-reads
use Rattle.bound_figures.proofs.nothing.Reads as nothing-reads
use Rattle.bound_figures.proofs.refused.Reads as refused-reads
use Rattle.cells.proofs.same.Reads as same_Reads
use Rattle.machine_outcome.proofs.index_of.Reads as index-of-reads
use Rattle.machine_state.proofs.State.advance.Reads as State-advance-reads
use Rattle.machine_state.proofs.State.jump.Reads as jump-reads
use Rattle.machine_state.proofs.State.of.Reads as of-reads
use Rattle.machine_state.proofs.State.registers.Reads as registers-reads
use Rattle.machine_state.proofs.registers.Registers.advance.Reads as advance-reads
use Rattle.machine_state.proofs.registers.Registers.load.Reads as load-reads
use Rattle.machine_state.proofs.registers.Registers.pop.Reads as pop-reads
use Rattle.machine_state.proofs.registers.Registers.push.Reads as push-reads
use Rattle.machine_state.proofs.registers.Registers.store.Reads as store-reads
use Rattle.machine_state.proofs.registers.Registers.top.Reads as top-reads
use Rattle.bound_explorer.proofs.+branch_explore_walk.{statement}
use Rattle.bound_explorer.proofs.+branch_explore_walk.Tie.{close}
use mathlib.Core.Path.{◌≡◌, refl, sym, ap, subst, ◌∙◌}
use mathlib.Core.Bool.{true}
use mathlib.Core.List.{List}
use mathlib.Core.Logic.{⊎_elim}
use native.Mathlib.Omega.{arith}
use lib.ListN.{length, get_or, set}
use lib.IntN.{pos}
use mir.Syntax.{w32}
use mir.Val.{SFits}
use mir.ValLaws.{to_z-of_z}
use borrow.Author.Rules.{rules}
use Rattle.refusals.specs.declared.Refusal.{Refusal}
use Rattle.cells.specs.Try.{Try, done}
use Rattle.cells.specs.declared.Cell.{Cell}
use Rattle.cells.specs.Cells.{unknown, range}
use Rattle.machine.specs.Machine.{index, fetch, jump, advance}
use Rattle.instructions.specs.HeldColumns.{operation_of}
use Rattle.machine_outcome.specs.HeldOutcome.{entry_of, operated, outcome}
use Rattle.machine_outcome.proofs.ArmLaws as arms
use Rattle.machine_state.specs.declared.State.{State}
use Rattle.machine_state.specs.declared.code.Line.{Line}
use Rattle.machine_state.specs.HeldRegisters.{with_stack, stored, loaded, advanced}
use Rattle.machine_state.specs.HeldState.{view, WellFormed}
use Rattle.machine_state.specs.HeldProgram.{program_of, sizes_of, line_of, of_fetched, Known}
use Rattle.machine_state.proofs.ProgramLaws.{fetch-within, fits_all}
use Rattle.machine_state.proofs.Stack.{length-images}
use Rattle.bound_figures.specs.declared.Found.{Found}
use Rattle.bound_figures.specs.declared.Tally.{Tally}
use Rattle.bound_figures.specs.HeldFigures.{jumped_of, both_of, finished_of, refused_as, Summable}
use Rattle.bound_explorer.specs.declared.Ways.{Ways}
use Rattle.bound_turns.specs.HeldTurn.{turned, Within}
use Rattle.bound_explorer.specs.HeldContract.{Explorable, Explores, Bounded}
use Rattle.bound_explorer.specs.HeldWays.{placed, WaysExplored}
use Rattle.bound_explorer.proofs.LoopLaws.{left-more, left-jumped}
use Rattle.bound_turns.proofs.MadeLaws.{leads, within}
use Rattle.bound_turns.proofs.ReachLaws.{line-there}
use Rattle.bound_explorer.proofs.TurnLaws.{rises, Prepared, pushes, keeps, Turn, starts, unreached}
use Rattle.bound_explorer.proofs.ReturnLaws.{refused-bounded, explores-at, safe-under, exact-for}
use Rattle.bound_explorer.proofs.ArmLaws.{Arm, Kept, goes_on, jumps-on, tally-small, read-place, reads_on, store-place, stores-on, combine-place, combines-on, combines-nothing, set-place, sets-on, get-place, gets-on, spent-out, stuck-out, stops-short, halts-out, both_out, sums}

-- three times the number of openings, one more for the walk and two for the explorer: a branch is called with as many openings as there are,
-- and calls with one less
abbrev μ-branch : Measures 1 branch-kinds.ps ℕ
μ-branch κs a = 3 * a.1.1.1.1.1.0

abbrev μ-explore : Measures 1 explore-kinds.ps ℕ
μ-explore κs a = 3 * a.1.1.1.0 + 2

abbrev μ-walk : Measures 1 walk-kinds.ps ℕ
μ-walk κs a = 3 * a.1.1.1.1.0 + 1

abbrev branch-at : ℕ → In 1 branch-kinds.ps
branch-at t = and 1 branch-kinds.ps (is 1 branch-kinds.ps μ-branch t) branch.Pre

abbrev branch-below : ℕ → In 1 branch-kinds.ps
branch-below t = and 1 branch-kinds.ps (falls 1 branch-kinds.ps ◌<◌ μ-branch t) branch.Pre

abbrev explore-at : ℕ → In 1 explore-kinds.ps
explore-at t = and 1 explore-kinds.ps (is 1 explore-kinds.ps μ-explore t) explore.Pre

abbrev explore-below : ℕ → In 1 explore-kinds.ps
explore-below t = and 1 explore-kinds.ps (falls 1 explore-kinds.ps ◌<◌ μ-explore t) explore.Pre

abbrev walk_at : ℕ → In 1 walk-kinds.ps
walk_at t = and 1 walk-kinds.ps (is 1 walk-kinds.ps μ-walk t) walk.Pre

abbrev walk-below : ℕ → In 1 walk-kinds.ps
walk-below t = and 1 walk-kinds.ps (falls 1 walk-kinds.ps ◌<◌ μ-walk t) walk.Pre

abbrev branch-claims : ℕ → branch-lts.Claims
branch-claims t = (
  refused-reads.Asked,
  refused-reads.Learnt,
  of-reads.Asked,
  of-reads.Learnt,
  State-advance-reads.Asked,
  State-advance-reads.Learnt,
  explore-below t,
  explore.Post,
  index-of-reads.Asked,
  index-of-reads.Learnt,
  jump-reads.Asked,
  jump-reads.Learnt,
)

abbrev explore-claims : ℕ → explore-lts.Claims
explore-claims t = (
  registers-reads.Asked,
  registers-reads.Learnt,
  walk-below t,
  walk.Post,
)

abbrev walk-claims : ℕ → walk-lts.Claims
walk-claims t = (
  nothing-reads.Asked,
  nothing-reads.Learnt,
  reachable-reads.Asked,
  reachable-reads.Learnt,
  stuck-reads.Asked,
  stuck-reads.Learnt,
  more-reads.Asked,
  more-reads.Learnt,
  push-reads.Asked,
  push-reads.Learnt,
  same_Reads.Asked,
  same_Reads.Learnt,
  top-reads.Asked,
  top-reads.Learnt,
  turn-of-reads.Asked,
  turn-of-reads.Learnt,
  jumped-reads.Asked,
  jumped-reads.Learnt,
  load-reads.Asked,
  load-reads.Learnt,
  advance-reads.Asked,
  advance-reads.Learnt,
  store-reads.Asked,
  store-reads.Learnt,
  combined-reads.Asked,
  combined-reads.Learnt,
  pop-reads.Asked,
  pop-reads.Learnt,
  branch-below t,
  branch.Post,
  both-reads.Asked,
  both-reads.Learnt,
  finished-reads.Asked,
  finished-reads.Learnt,
  refused-reads.Asked,
  refused-reads.Learnt,
)

abbrev invariant-loop-tally : walk-lts.invariant-loop-tally
invariant-loop-tally code registers₀ openings budget stack₀ blocks₀ tally₀ registers stack blocks tally =
    Turn code openings budget blocks₀ (with_stack registers₀ stack₀) blocks (with_stack registers stack) tally.left tally

abbrev decreases-loop-tally : walk-lts.decreases-loop-tally
decreases-loop-tally code registers₀ openings budget stack₀ blocks₀ tally₀ registers stack blocks tally = tally.left

-- ---- the ways of a branch

abbrev Forked : ℕ → Type 0
Forked t = branch-lts.Start (branch-claims t) (branch-at t) branch.Post

-- the state at the branch
abbrev forked : {t : ℕ} → Forked t → State
forked s = with_stack s.args.registers s.args.stack

-- an answer is not both
clash : (v : Result ⊤ Refusal) (x : Refusal) → v ≡ Ok tt → v ≡ Err x → ⊥
clash v x e f = let g : Ok tt ≡ Err x = sym e ∙ f in let z : ◌≡◌ {A = ℕ} 0 1 = cc in omega arith

branch-fitting : (t : ℕ) (s : Forked t) → SFits w32 s.args.line.operand
branch-fitting t s = search rules

-- the state at the next address, as `advance` gives it
next-is : (s v : State) → view v ≡ advance (view s) → view v ≡ view (placed (s.at + 1) s)
next-is s v e = e ∙ sym (rises s)

-- the state at the target, as `jump` gives it from there
target_is : (s v w : State) (n k : ℕ) → view v ≡ advance (view s) → view w ≡ jump n (view v) → n ≡ k → view w ≡ view (placed k s)
unfolding advance jump
target_is s v w n k e g h = g ∙ ap (jump n) e ∙ ap (λ a. view (placed a s)) h

branch-returns : (t : ℕ) → branch-lts.Need-returns-then-openings-eq0 (branch-claims t) (branch-at t) branch.Post
branch-returns t c =
    let over = c.refused-over.ensures in
    record {
      over = λ z. over;
      first = λ z. absurd (omega (arith, z, c.if-openings-eq0.true));
      second = λ z e. absurd (omega (arith, z, c.if-openings-eq0.true));
      first_bounded = refused-bounded _ _ 0 _ _ over (omega arith);
      second_bounded = refused-bounded _ _ 0 _ _ over (omega arith);
    }

branch-advance-requires : (t : ℕ) → branch-lts.Need-advance-state-requires (branch-claims t) (branch-at t) branch.Post
branch-advance-requires t c κs =
    let s : Forked t = c.before.before in
    let f : c.of.result.at ≡ s.args.registers.at = ap (λ x. x.at) c.of.ensures in
    (subst WellFormed (sym c.of.ensures) s.requires.1.1.0.formed, omega (arith, s.requires.1.1.1))

branch-sub-explore : (t : ℕ) → branch-lts.Need-overflow_sub-openings (branch-claims t) (branch-at t) branch.Post
branch-sub-explore t c = omega (arith, c.if-openings-eq0.false)

branch-explore-requires : (t : ℕ) → branch-lts.Need-explore-untaken-requires (branch-claims t) (branch-at t) branch.Post
branch-explore-requires t c κs =
    let s : Forked t = c.before.before.before in
    (omega (arith, c.if-openings-eq0.false, s.requires.0), (s.requires.1.0, record { formed = c.advance-state.ensures.1; budget_fits = s.requires.1.1.0.budget_fits; openings_fit = omega (arith, s.requires.1.1.0.openings_fit) }))

branch-returns-2 : (t : ℕ) → branch-lts.Need-returns-in-Err (branch-claims t) (branch-at t) branch.Post
branch-returns-2 t c =
    let s : Forked t = c.before.before.before.before.before.before in
    let x = c.explore-untaken in
    let refuses = c.in-Err.is in
    record {
      over = λ z. absurd (c.if-openings-eq0.false z);
      first = λ z. explores-at _ _ _ _ _ _ _ _ (next-is (forked s) c.advance-state.result (c.advance-state.ensures.0 ∙ ap (λ x. advance (view x)) c.of.ensures)) x.ensures.0;
      second = λ z e. absurd (clash _ _ e refuses);
      first_bounded = x.ensures.1.1.1;
      second_bounded = refused-bounded _ _ 0 _ _ c.refused-taken.ensures (omega arith);
    }

branch-sub-rest : (t : ℕ) → branch-lts.Need-overflow_sub-rest (branch-claims t) (branch-at t) branch.Post
branch-sub-rest t c = c.explore-untaken.ensures.1.1.1.used

branch-jump-requires : (t : ℕ) → branch-lts.Need-jump-state-requires (branch-claims t) (branch-at t) branch.Post
branch-jump-requires t c κs = c.advance-state.ensures.1

branch-sub-explore-2 : (t : ℕ) → branch-lts.Need-overflow_sub-openings-2 (branch-claims t) (branch-at t) branch.Post
branch-sub-explore-2 t c = omega (arith, c.if-openings-eq0.false)

branch-explore-requires-2 : (t : ℕ) → branch-lts.Need-explore-taken-requires (branch-claims t) (branch-at t) branch.Post
branch-explore-requires-2 t c κs =
    let s : Forked t = c.before.before.before.before.before.before.before.before.before in
    (omega (arith, c.if-openings-eq0.false, s.requires.0), (s.requires.1.0, record { formed = c.jump-state.ensures.1; budget_fits = omega (arith, s.requires.1.1.0.budget_fits); openings_fit = omega (arith, s.requires.1.1.0.openings_fit) }))

branch-returns-3 : (t : ℕ) → branch-lts.Need-returns (branch-claims t) (branch-at t) branch.Post
branch-returns-3 t c =
    let s : Forked t = c.before.before.before.before.before.before.before.before.before.before in
    let x = c.explore-untaken in
    let y = c.explore-taken in
    let v = c.advance-state in
    let e = v.ensures.0 ∙ ap (λ x. advance (view x)) c.of.ensures in
    record {
      over = λ z. absurd (c.if-openings-eq0.false z);
      first = λ z. explores-at _ _ _ _ _ _ _ _ (next-is (forked s) v.result e) x.ensures.0;
      second = λ z d. explores-at _ _ _ _ _ _ _ _ (target_is (forked s) v.result c.jump-state.result _ _ e c.jump-state.ensures.0 (c.index_of-target.ensures.0 ∙ ap index (to_z-of_z w32 _ (branch-fitting t s)))) y.ensures.0;
      first_bounded = x.ensures.1.1.1;
      second_bounded = y.ensures.1.1.1;
    }

-- ---- the state taken apart, and put together again

same : (t : ℕ) (c : explore-lts.After-registers (explore-claims t) (explore-at t) explore.Post) → with_stack c.registers.result c.args.start.stack ≡ c.args.start
same t c = ap (λ r. with_stack r c.args.start.stack) c.registers.ensures

explore-walk-requires : (t : ℕ) → explore-lts.Need-walk-requires (explore-claims t) (explore-at t) explore.Post
explore-walk-requires t c κs =
    let s = c in
    (omega (arith, s.requires.0), (s.requires.1.0, subst (λ x. Explorable x s.args.openings s.args.budget) (sym (same t c)) s.requires.1.1))

explore-returns : (t : ℕ) → explore-lts.Need-returns (explore-claims t) (explore-at t) explore.Post
explore-returns t c =
    let s = c in
    let x = subst (λ y. Explores (program_of s.args.code.now) (sizes_of s.args.code.now) s.args.blocks y s.args.openings s.args.budget c.walk.result) (same t c.before) c.walk.ensures.0 in
    (x, (safe-under _ _ _ _ _ _ _ x, (exact-for _ _ _ _ _ _ _ x, c.walk.ensures.1)))

-- ---- places in a turn, and what is known there

abbrev Entry : ℕ → Type 0
Entry t = walk-lts.Start (walk-claims t) (walk_at t) walk.Post invariant-loop-tally decreases-loop-tally

abbrev Begun : ℕ → Type 0
Begun t = walk-lts.After-nothing-tally (walk-claims t) (walk_at t) walk.Post invariant-loop-tally decreases-loop-tally

abbrev Body : ℕ → Type 0
Body t = walk-lts.In-loop-tally (walk-claims t) (walk_at t) walk.Post invariant-loop-tally decreases-loop-tally

abbrev Lined : ℕ → Type 0
Lined t = walk-lts.In-Some (walk-claims t) (walk_at t) walk.Post invariant-loop-tally decreases-loop-tally

abbrev Joined : ℕ → Type 0
Joined t = walk-lts.Joined-line (walk-claims t) (walk_at t) walk.Post invariant-loop-tally decreases-loop-tally

abbrev Acted : ℕ → Type 0
Acted t = walk-lts.After-turn_of (walk-claims t) (walk_at t) walk.Post invariant-loop-tally decreases-loop-tally

abbrev entry : {t : ℕ} → Begun t → Entry t
entry b = b.before

abbrev begun : {t : ℕ} → Body t → Begun t
begun b = b.before.before.before

abbrev body : {t : ℕ} → Lined t → Body t
body k = k.before.before

abbrev line : {t : ℕ} → Lined t → Line
line k = k.in-Some.line

abbrev lined : {t : ℕ} → Joined t → Lined t
lined j = j.before.before.before

abbrev joined : {t : ℕ} → Acted t → Joined t
joined a = a.before.before

-- the array of fields is lent with its 128 places
places : (t : ℕ) (e : Entry t) → length e.args.blocks ≡ 128
places t e = search (rules, length-images)

module _ (t : ℕ) (c : Begun t) where
  -- the state that the loop begins with
  abbrev first : State
  first = with_stack (entry c).args.registers (entry c).args.stack

  kept : (r : Found) → Kept (entry c).args.code.now (entry c).args.openings (entry c).args.budget (entry c).args.blocks first r →
      Explores (program_of (entry c).args.code.now) (sizes_of (entry c).args.code.now) (entry c).args.blocks first (entry c).args.openings (entry c).args.budget r × Bounded (entry c).args.openings (entry c).args.budget r
  kept r k = (k.explored, k.bounded)

module _ (t : ℕ) (b : Body t) where
  -- the state at the loop's test
  abbrev now-at : State
  now-at = with_stack b.loop-tally.registers b.loop-tally.stack

  turn : Turn (entry (begun b)).args.code.now (entry (begun b)).args.openings (entry (begun b)).args.budget (entry (begun b)).args.blocks (first t (begun b)) b.loop-tally.blocks now-at b.loop-tally.tally.left b.loop-tally.tally
  turn = b.loop-tally.invariant

  inside : b.loop-tally.tally.left ≤ (entry (begun b)).args.budget
  inside = turn.inv.within

module _ (t : ℕ) (k : Lined t) where
  there : (fetch (program_of (entry (begun (body k))).args.code.now) (body k).loop-tally.registers.at ≡ done (line_of (line k))) × ((line k).pushes ≡ true → 0 < (body k).loop-tally.registers.free)
  there = line-there _ _ _ (ap of_fetched (sym k.in-Some.is) ∙ k.reachable.ensures.0)

  known : (line k).code ≤ 22
  known = subst Known k.in-Some.is k.reachable.ensures.1

  small : ((line k).cycles < 4294967296) × (((line k).words < 4294967296) × ((line k).extra < 4294967296))
  small = search rules

  -- the code's address is low
  low : (body k).loop-tally.registers.at < 65536
  low =
      let e : Entry t = entry (begun (body k)) in
      omega (arith, fetch-within e.args.code.now (body k).loop-tally.registers.at (line_of (line k)) there.0, e.requires.1.0.addresses)

module _ (t : ℕ) (j : Joined t) where
  -- the state after the push
  abbrev ready_at : State
  ready_at = with_stack j.if-line.registers j.if-line.stack

  prepared : Prepared (sizes_of (entry (begun (body (lined j)))).args.code.now) (body (lined j)).loop-tally.blocks (line (lined j)) (now-at t (body (lined j))) ready_at
  prepared =
      let b : Body t = body (lined j) in
      ⊎_elim
      (λ x. pushes (sizes_of (entry (begun b)).args.code.now) b.loop-tally.blocks (line (lined j)) (now-at t b) (turn t b).formed x.if-line.true ((there t (lined j)).1 x.if-line.true) j.if-line.registers j.if-line.stack x.same.result (x.registers-is ∙ x.push-registers.ensures) (x.same.ensures ∙ ap (λ r. r.accu) (sym x.registers-is)) (x.stack-is ∙ ap (λ k. set b.loop-tally.stack k x.same.result) (x.top.ensures ∙ ap (λ r. r.free) (sym x.registers-is))))
      (λ x. keeps (sizes_of (entry (begun b)).args.code.now) b.loop-tally.blocks (line (lined j)) (now-at t b) (turn t b).formed x.if-line.false ready_at (λ i. with_stack (x.registers-is i) (x.stack-is i)))
      j.if-line.branch-raw

  low-at : j.if-line.registers.at < 65536
  low-at = omega (arith, low t (lined j), prepared.same_at)

module _ (t : ℕ) (a : Acted t) where
  abbrev b : Body t
  b = body (lined (joined a))

  abbrev e : Entry t
  e = entry (begun b)

  -- the sums with this step
  abbrev tally-at : Tally
  tally-at = (joined a).more-tally.result

  arm : Arm e.args.code.now e.args.openings e.args.budget e.args.blocks (first t (begun b))
      b.loop-tally.blocks (now-at t b) b.loop-tally.tally.left b.loop-tally.tally (line (lined (joined a))) tally-at (joined a).if-line.registers (joined a).if-line.stack (range (pos 0) 0) a.turn_of.result
  arm =
      let ns = sizes_of e.args.code.now in
      let fs = b.loop-tally.blocks in
      let r = (joined a).if-line.registers in
      let st = (joined a).if-line.stack in
      let l = line (lined (joined a)) in
      let o = operation_of l.code in
      let p = prepared t (joined a) in
      let seen = get_or st (r.free + entry_of o (index l.operand)) (range (pos 0) 0) in
      record {
        turn = turn t b;
        some = b.loop-tally-test.true;
        small = small t (lined (joined a));
        grown = (joined a).more-tally.ensures;
        at = p.same_at;
        formed = p.formed;
        leads =
            (arms.arm (program_of e.args.code.now) unknown ns fs (now-at t b) (with_stack (advanced r) st) l (there t (lined (joined a))).0 p.ready (record { free = p.formed.free; places = p.formed.places }) (turn t b).fits
            (index l.operand) (r.free + entry_of o (index l.operand)) seen (range (pos 0) 0) (outcome o l.operand unknown (64 - r.free) r.accu seen) refl (λ h. refl) refl refl).makes
            ∙ leads ns (line_of l).price l.extra l.operand r p.formed.free fs st (range (pos 0) 0) p.formed.places (turn t b).fits o
            ∙ ap (turned ns (line_of l).price l.extra o l.operand r fs st (range (pos 0) 0)) (sym a.turn_of.ensures);
        within =
            subst (Within o r fs) (sym a.turn_of.ensures)
            (within ns (line_of l).price l.extra l.operand r p.formed.free fs st (range (pos 0) 0) p.formed.places (turn t b).fits o);
      }

  -- the array of fields has its 128 places
  size_is : length b.loop-tally.blocks ≡ 128
  size_is = (turn t b).size ∙ places t e

  top-is : a.top-top.result ≡ (joined a).if-line.registers.free
  top-is = a.top-top.ensures

  -- what is given of the top entry
  combined-is : (m : Try Cell) → m ≡ operated (operation_of (line (lined (joined a))).code) (pos 0) (joined a).if-line.registers.accu (get_or (joined a).if-line.stack a.top-top.result (range (pos 0) 0)) →
      m ≡ operated (operation_of (line (lined (joined a))).code) (pos 0) (joined a).if-line.registers.accu (get_or (joined a).if-line.stack (joined a).if-line.registers.free (range (pos 0) 0))
  combined-is m h = h ∙ ap (λ k. operated (operation_of (line (lined (joined a))).code) (pos 0) (joined a).if-line.registers.accu (get_or (joined a).if-line.stack k (range (pos 0) 0))) top-is

  -- one step less is left
  less : tally-at.left ≡ b.loop-tally.tally.left - 1
  less = left-more _ _ _ _ (joined a).more-tally.ensures

  falling : tally-at.left < b.loop-tally.tally.left
  falling = omega (arith, less, b.loop-tally-test.true)

  falling-jumped : (y : Tally) (x : ℕ) → y ≡ jumped_of tally-at x → y.left < b.loop-tally.tally.left
  falling-jumped y x h = omega (arith, left-jumped _ _ _ h, falling)

  fewer : tally-at.left ≤ e.args.budget
  fewer = omega (arith, less, inside t b)

  count : e.args.budget - tally-at.left ≡ e.args.budget - (b.loop-tally.tally.left - 1)
  count = ap (λ k. e.args.budget - k) less

  abbrev Goes_on : List Cell → State → ℕ → Tally → Type 0
  Goes_on fs s left y = Turn e.args.code.now e.args.openings e.args.budget e.args.blocks (first t (begun b)) fs s left y

  onward : {fs : List Cell} {s : State} → Goes_on fs s (b.loop-tally.tally.left - 1) tally-at → Goes_on fs s tally-at.left tally-at
  onward {fs} {s} h = subst (λ k. Goes_on fs s k tally-at) (sym less) h

  onward-jumped : {fs : List Cell} {s : State} (y : Tally) (x : ℕ) → y ≡ jumped_of tally-at x → Goes_on fs s (b.loop-tally.tally.left - 1) y → Goes_on fs s y.left y
  onward-jumped {fs} {s} y x g h = subst (λ k. Goes_on fs s k y) (sym (left-jumped _ _ _ g ∙ less)) h

  -- the ways of a branch, with what is left
  explored : (w : Ways) → WaysExplored (program_of e.args.code.now) (sizes_of e.args.code.now) (line (lined (joined a))) b.loop-tally.blocks (ready_at t (joined a)) e.args.openings tally-at.left w →
      WaysExplored (program_of e.args.code.now) (sizes_of e.args.code.now) (line (lined (joined a))) b.loop-tally.blocks (ready_at t (joined a)) e.args.openings (b.loop-tally.tally.left - 1) w
  explored w h = subst (λ k. WaysExplored (program_of e.args.code.now) (sizes_of e.args.code.now) (line (lined (joined a))) b.loop-tally.blocks (ready_at t (joined a)) e.args.openings k w) less h

walk-loop-holds : (t : ℕ) → walk-lts.Need-loop-tally-init (walk-claims t) (walk_at t) walk.Post invariant-loop-tally decreases-loop-tally
walk-loop-holds t c =
    let x : Entry t = entry c in
    subst (λ y. Turn x.args.code.now x.args.openings x.args.budget x.args.blocks (first t c) x.args.blocks (first t c) y.left y) (sym c.nothing-tally.ensures)
    (starts x.args.code.now x.args.openings x.args.budget x.args.blocks (first t c) x.requires.1.1.formed (fits_all x.args.code.now x.requires.1.0 x.args.blocks (places t x)))

walk-reachable-requires : (t : ℕ) → walk-lts.Need-reachable-requires (walk-claims t) (walk_at t) walk.Post invariant-loop-tally decreases-loop-tally
walk-reachable-requires t c κs = (entry (begun c)).requires.1.0

walk-sub-stuck : (t : ℕ) → walk-lts.Need-overflow_sub-budget (walk-claims t) (walk_at t) walk.Post invariant-loop-tally decreases-loop-tally
walk-sub-stuck t c = inside t c.before.before.before

walk-add-stuck : (t : ℕ) → walk-lts.Need-overflow_add-budget (walk-claims t) (walk_at t) walk.Post invariant-loop-tally decreases-loop-tally
walk-add-stuck t c =
    let b : Body t = c.before.before.before in
    omega (arith, (entry (begun b)).requires.1.1.budget_fits)

walk-returns : (t : ℕ) → walk-lts.Need-returns-in_default (walk-claims t) (walk_at t) walk.Post invariant-loop-tally decreases-loop-tally
walk-returns t c =
    let b : Body t = c.before.before.before.before in
    let x : Entry t = entry (begun b) in
    let one : x.args.budget - b.loop-tally.tally.left + 1 ≡ x.args.budget - (b.loop-tally.tally.left - 1) = omega (arith, inside t b, b.loop-tally-test.true) in
    kept t (begun b) _
    (stuck-out (turn t b) b.loop-tally-test.true
    (unreached x.args.code.now x.args.openings x.args.budget x.args.blocks (first t (begun b)) b.loop-tally.blocks (now-at t b) (turn t b).formed (ap of_fetched (sym c.in_default.is) ∙ c.reachable.ensures.0))
    _ (c.stuck.ensures ∙ ap (refused_as _) one))

walk-sub-more : (t : ℕ) → walk-lts.Need-overflow_sub-registers (walk-claims t) (walk_at t) walk.Post invariant-loop-tally decreases-loop-tally
walk-sub-more t c = (turn t c.before.before.before).formed.free

walk-more-requires : (t : ℕ) → walk-lts.Need-more-tally-requires (walk-claims t) (walk_at t) walk.Post invariant-loop-tally decreases-loop-tally
walk-more-requires t c κs =
    let b : Body t = c.before.before.before in
    let h = (entry (begun b)).requires.1.1.budget_fits in
    (b.loop-tally-test.true, (omega (arith, (turn t b).cycles, inside t b), omega (arith, (turn t b).words, inside t b)))

walk-push-requires : (t : ℕ) → walk-lts.Need-push-registers-requires (walk-claims t) (walk_at t) walk.Post invariant-loop-tally decreases-loop-tally
walk-push-requires t c κs = (there t c.before.before.before).1 c.if-line.true

walk-mul-stack : (t : ℕ) → walk-lts.Need-offset_bounds-stack-top (walk-claims t) (walk_at t) walk.Post invariant-loop-tally decreases-loop-tally
walk-mul-stack t c =
    let k : Lined t = c.before.before.before.before.before.before.before in
    let f : c.top.result ≡ (body k).loop-tally.registers.free - 1 = c.top.ensures ∙ ap (λ r. r.free) c.push-registers.ensures in
    omega (arith, (there t k).1 c.if-line.true, (turn t (body k)).formed.free)

walk-array-set-from-stack : (t : ℕ) → walk-lts.Need-bounds-stack-top (walk-claims t) (walk_at t) walk.Post invariant-loop-tally decreases-loop-tally
walk-array-set-from-stack t c =
    let k : Lined t = c.before.before.before.before.before.before.before in
    let f : c.top.result ≡ (body k).loop-tally.registers.free - 1 = c.top.ensures ∙ ap (λ r. r.free) c.push-registers.ensures in
    omega (arith, (there t k).1 c.if-line.true, (turn t (body k)).formed.free)

walk-turn-of-requires : (t : ℕ) → walk-lts.Need-turn_of-requires (walk-claims t) (walk_at t) walk.Post invariant-loop-tally decreases-loop-tally
walk-turn-of-requires t c κs =
    let j : Joined t = c.before in
    ((entry (begun (body (lined j)))).requires.1.0, (known t (lined j), ((prepared t j).formed.free, low-at t j)))

walk-loop-less : (t : ℕ) → walk-lts.Need-loop-tally-smaller-in-Goes (walk-claims t) (walk_at t) walk.Post invariant-loop-tally decreases-loop-tally
walk-loop-less t c = falling t c.before

walk-loop-again : (t : ℕ) → walk-lts.Need-loop-tally-preserved-in-Goes (walk-claims t) (walk_at t) walk.Post invariant-loop-tally decreases-loop-tally
walk-loop-again t c = onward t c.before (goes_on (arm t c.before) _ c.in-Goes.is)

walk-jumped-requires : (t : ℕ) → walk-lts.Need-jumped-tally-requires (walk-claims t) (walk_at t) walk.Post invariant-loop-tally decreases-loop-tally
walk-jumped-requires t c κs =
    let a : Acted t = c.before in
    tally-small (arm t a) (e t a).requires.1.1.budget_fits

walk-loop-less-2 : (t : ℕ) → walk-lts.Need-loop-tally-smaller-in-Jumps (walk-claims t) (walk_at t) walk.Post invariant-loop-tally decreases-loop-tally
walk-loop-less-2 t c = falling-jumped t c.before.before _ _ c.jumped-tally.ensures

walk-loop-again-2 : (t : ℕ) → walk-lts.Need-loop-tally-preserved-in-Jumps (walk-claims t) (walk_at t) walk.Post invariant-loop-tally decreases-loop-tally
walk-loop-again-2 t c = onward-jumped t c.before.before _ _ c.jumped-tally.ensures (jumps-on (arm t c.before.before) _ c.in-Jumps.is _ c.jumped-tally.ensures)

walk-mul-load : (t : ℕ) → walk-lts.Need-offset_bounds-stack-entry (walk-claims t) (walk_at t) walk.Post invariant-loop-tally decreases-loop-tally
walk-mul-load t c = let k = read-place (arm t c.before) _ c.in-Reads.is in omega (arith, k)

walk-array-copy-out-load : (t : ℕ) → walk-lts.Need-bounds-stack-entry (walk-claims t) (walk_at t) walk.Post invariant-loop-tally decreases-loop-tally
walk-array-copy-out-load t c = let k = read-place (arm t c.before) _ c.in-Reads.is in omega (arith, k)

walk-advance-requires : (t : ℕ) → walk-lts.Need-advance-registers-requires (walk-claims t) (walk_at t) walk.Post invariant-loop-tally decreases-loop-tally
walk-advance-requires t c κs =
    let a : Acted t = c.before.before.before in
    let f : c.load.result.at ≡ (joined a).if-line.registers.at = ap (λ r. r.at) c.load.ensures in
    omega (arith, low-at t (joined a))

walk-loop-less-3 : (t : ℕ) → walk-lts.Need-loop-tally-smaller-in-Reads (walk-claims t) (walk_at t) walk.Post invariant-loop-tally decreases-loop-tally
walk-loop-less-3 t c = falling t c.before.before.before.before

walk-loop-again-3 : (t : ℕ) → walk-lts.Need-loop-tally-preserved-in-Reads (walk-claims t) (walk_at t) walk.Post invariant-loop-tally decreases-loop-tally
walk-loop-again-3 t c = onward t c.before.before.before.before (reads_on (arm t c.before.before.before.before) _ c.in-Reads.is _ (c.advance-registers.ensures ∙ ap advanced c.load.ensures))

walk-mul-stack-2 : (t : ℕ) → walk-lts.Need-offset_bounds-stack-entry-in-Stores (walk-claims t) (walk_at t) walk.Post invariant-loop-tally decreases-loop-tally
walk-mul-stack-2 t c = let k = store-place (arm t c.before.before.before) _ c.in-Stores.is in omega (arith, k)

walk-array-set-from-stack-2 : (t : ℕ) → walk-lts.Need-bounds-stack-entry-in-Stores (walk-claims t) (walk_at t) walk.Post invariant-loop-tally decreases-loop-tally
walk-array-set-from-stack-2 t c = let k = store-place (arm t c.before.before.before) _ c.in-Stores.is in omega (arith, k)

walk-advance-requires-2 : (t : ℕ) → walk-lts.Need-advance-registers-requires-in-Stores (walk-claims t) (walk_at t) walk.Post invariant-loop-tally decreases-loop-tally
walk-advance-requires-2 t c κs =
    let a : Acted t = c.before.before.before.before in
    let f : c.store.result.at ≡ (joined a).if-line.registers.at = ap (λ r. r.at) c.store.ensures in
    omega (arith, low-at t (joined a))

walk-loop-less-4 : (t : ℕ) → walk-lts.Need-loop-tally-smaller-in-Stores (walk-claims t) (walk_at t) walk.Post invariant-loop-tally decreases-loop-tally
walk-loop-less-4 t c = falling t c.before.before.before.before.before

walk-loop-again-4 : (t : ℕ) → walk-lts.Need-loop-tally-preserved-in-Stores (walk-claims t) (walk_at t) walk.Post invariant-loop-tally decreases-loop-tally
walk-loop-again-4 t c = onward t c.before.before.before.before.before (stores-on (arm t c.before.before.before.before.before) _ c.in-Stores.is _ _ (c.advance-registers-in-Stores.ensures ∙ ap advanced c.store.ensures) c.same-in-Stores.ensures)

walk-mul-combined : (t : ℕ) → walk-lts.Need-offset_bounds-stack-top-in-Combines (walk-claims t) (walk_at t) walk.Post invariant-loop-tally decreases-loop-tally
walk-mul-combined t c =
    let a : Acted t = c.before.before in
    omega (arith, top-is t a, (combine-place (arm t a) c.in-Combines.is).0)

walk-array-copy-out-combined : (t : ℕ) → walk-lts.Need-bounds-stack-top-in-Combines (walk-claims t) (walk_at t) walk.Post invariant-loop-tally decreases-loop-tally
walk-array-copy-out-combined t c =
    let a : Acted t = c.before.before in
    omega (arith, top-is t a, (combine-place (arm t a) c.in-Combines.is).0)

walk-combined-requires : (t : ℕ) → walk-lts.Need-combined-requires (walk-claims t) (walk_at t) walk.Post invariant-loop-tally decreases-loop-tally
walk-combined-requires t c κs =
    let a : Acted t = c.before.before.before in
    (known t (lined (joined a)), (combine-place (arm t a) c.in-Combines.is).1)

walk-pop-requires : (t : ℕ) → walk-lts.Need-pop-requires (walk-claims t) (walk_at t) walk.Post invariant-loop-tally decreases-loop-tally
walk-pop-requires t c κs = (combine-place (arm t c.before.before.before.before.before) c.in-Combines.is).0

walk-advance-requires-3 : (t : ℕ) → walk-lts.Need-advance-registers-requires-in-Some-combined (walk-claims t) (walk_at t) walk.Post invariant-loop-tally decreases-loop-tally
walk-advance-requires-3 t c κs =
    let a : Acted t = c.before.before.before.before.before.before.before in
    let f : c.load-in-Some-combined.result.at ≡ (joined a).if-line.registers.at = ap (λ r. r.at) (c.load-in-Some-combined.ensures ∙ ap (loaded _) c.pop.ensures) in
    omega (arith, low-at t (joined a))

walk-loop-less-5 : (t : ℕ) → walk-lts.Need-loop-tally-smaller-in-Some-combined (walk-claims t) (walk_at t) walk.Post invariant-loop-tally decreases-loop-tally
walk-loop-less-5 t c = falling t c.before.before.before.before.before.before.before.before

walk-loop-again-5 : (t : ℕ) → walk-lts.Need-loop-tally-preserved-in-Some-combined (walk-claims t) (walk_at t) walk.Post invariant-loop-tally decreases-loop-tally
walk-loop-again-5 t c =
    let a : Acted t = c.before.before.before.before.before.before.before.before in
    onward t a (combines-on (arm t a) c.in-Combines.is _ (combined-is t a _ c.combined.ensures) _ (c.in-Some-combined.is) _ (c.advance-registers-in-Some-combined.ensures ∙ ap advanced (c.load-in-Some-combined.ensures ∙ ap (loaded _) c.pop.ensures)))

walk-sub-stuck-2 : (t : ℕ) → walk-lts.Need-overflow_sub-budget-in-None (walk-claims t) (walk_at t) walk.Post invariant-loop-tally decreases-loop-tally
walk-sub-stuck-2 t c = fewer t c.before.before.before.before.before.before

walk-returns-2 : (t : ℕ) → walk-lts.Need-returns-in-None (walk-claims t) (walk_at t) walk.Post invariant-loop-tally decreases-loop-tally
walk-returns-2 t c =
    let a : Acted t = c.before.before.before.before.before.before.before in
    kept t (begun (b t a)) _ (combines-nothing (arm t a) c.in-Combines.is _ (combined-is t a _ c.combined.ensures) (c.in-None.is) _ (c.stuck-in-None.ensures ∙ ap (refused_as _) (count t a)))

walk-mul-load-2 : (t : ℕ) → walk-lts.Need-offset_bounds-blocks-field (walk-claims t) (walk_at t) walk.Post invariant-loop-tally decreases-loop-tally
walk-mul-load-2 t c =
    let a : Acted t = c.before in
    omega (arith, size_is t a, get-place (arm t a) _ c.in-Gets.is)

walk-array-copy-out-load-2 : (t : ℕ) → walk-lts.Need-bounds-blocks-field (walk-claims t) (walk_at t) walk.Post invariant-loop-tally decreases-loop-tally
walk-array-copy-out-load-2 t c =
    let a : Acted t = c.before in
    omega (arith, size_is t a, get-place (arm t a) _ c.in-Gets.is)

walk-advance-requires-4 : (t : ℕ) → walk-lts.Need-advance-registers-requires-in-Gets (walk-claims t) (walk_at t) walk.Post invariant-loop-tally decreases-loop-tally
walk-advance-requires-4 t c κs =
    let a : Acted t = c.before.before.before in
    let f : c.load-in-Gets.result.at ≡ (joined a).if-line.registers.at = ap (λ r. r.at) c.load-in-Gets.ensures in
    omega (arith, low-at t (joined a))

walk-loop-less-6 : (t : ℕ) → walk-lts.Need-loop-tally-smaller-in-Gets (walk-claims t) (walk_at t) walk.Post invariant-loop-tally decreases-loop-tally
walk-loop-less-6 t c = falling t c.before.before.before.before

walk-loop-again-6 : (t : ℕ) → walk-lts.Need-loop-tally-preserved-in-Gets (walk-claims t) (walk_at t) walk.Post invariant-loop-tally decreases-loop-tally
walk-loop-again-6 t c = onward t c.before.before.before.before (gets-on (arm t c.before.before.before.before) _ c.in-Gets.is _ (c.advance-registers-in-Gets.ensures ∙ ap advanced c.load-in-Gets.ensures))

walk-mul-same : (t : ℕ) → walk-lts.Need-offset_bounds-stack-top-in-Sets (walk-claims t) (walk_at t) walk.Post invariant-loop-tally decreases-loop-tally
walk-mul-same t c =
    let a : Acted t = c.before in
    omega (arith, top-is t a, (set-place (arm t a) _ c.in-Sets.is).1)

walk-array-copy-out-same : (t : ℕ) → walk-lts.Need-bounds-stack-top-in-Sets (walk-claims t) (walk_at t) walk.Post invariant-loop-tally decreases-loop-tally
walk-array-copy-out-same t c =
    let a : Acted t = c.before in
    omega (arith, top-is t a, (set-place (arm t a) _ c.in-Sets.is).1)

walk-mul-blocks : (t : ℕ) → walk-lts.Need-offset_bounds-blocks-field-in-Sets (walk-claims t) (walk_at t) walk.Post invariant-loop-tally decreases-loop-tally
walk-mul-blocks t c =
    let a : Acted t = c.before.before.before in
    omega (arith, size_is t a, (set-place (arm t a) _ c.in-Sets.is).0)

walk-array-set-from-blocks : (t : ℕ) → walk-lts.Need-bounds-blocks-field-in-Sets (walk-claims t) (walk_at t) walk.Post invariant-loop-tally decreases-loop-tally
walk-array-set-from-blocks t c =
    let a : Acted t = c.before.before.before in
    omega (arith, size_is t a, (set-place (arm t a) _ c.in-Sets.is).0)

walk-pop-requires-2 : (t : ℕ) → walk-lts.Need-pop-requires-in-Sets (walk-claims t) (walk_at t) walk.Post invariant-loop-tally decreases-loop-tally
walk-pop-requires-2 t c κs = (set-place (arm t c.before.before.before) _ c.in-Sets.is).1

walk-advance-requires-5 : (t : ℕ) → walk-lts.Need-advance-registers-requires-in-Sets (walk-claims t) (walk_at t) walk.Post invariant-loop-tally decreases-loop-tally
walk-advance-requires-5 t c κs =
    let a : Acted t = c.before.before.before.before.before in
    let f : c.store-in-Sets.result.at ≡ (joined a).if-line.registers.at = ap (λ r. r.at) (c.store-in-Sets.ensures ∙ ap stored c.pop-in-Sets.ensures) in
    omega (arith, low-at t (joined a))

walk-loop-less-7 : (t : ℕ) → walk-lts.Need-loop-tally-smaller (walk-claims t) (walk_at t) walk.Post invariant-loop-tally decreases-loop-tally
walk-loop-less-7 t c = falling t c.before.before.before.before.before.before

walk-loop-again-7 : (t : ℕ) → walk-lts.Need-loop-tally-preserved (walk-claims t) (walk_at t) walk.Post invariant-loop-tally decreases-loop-tally
walk-loop-again-7 t c =
    let a : Acted t = c.before.before.before.before.before.before in
    onward t a (sets-on (arm t a) _ c.in-Sets.is _ _ (c.advance-registers-in-Sets.ensures ∙ ap advanced (c.store-in-Sets.ensures ∙ ap stored c.pop-in-Sets.ensures)) (c.same-in-Sets.ensures ∙ ap (λ k. get_or (joined a).if-line.stack k (range (pos 0) 0)) (top-is t a)))

walk-branch-requires : (t : ℕ) → walk-lts.Need-branch-w-requires (walk-claims t) (walk_at t) walk.Post invariant-loop-tally decreases-loop-tally
walk-branch-requires t c κs =
    let a : Acted t = c.before in (
      omega (arith, (e t a).requires.0),
      (
        (e t a).requires.1.0,
        (
          record {
            formed = (prepared t (joined a)).formed;
            budget_fits = omega (arith, (e t a).requires.1.1.budget_fits, fewer t a);
            openings_fit = (e t a).requires.1.1.openings_fit;
          },
          low-at t (joined a),
        ),
      ),
    )

walk-sub-both : (t : ℕ) → walk-lts.Need-overflow_sub-budget-in-Opens (walk-claims t) (walk_at t) walk.Post invariant-loop-tally decreases-loop-tally
walk-sub-both t c = fewer t c.before.before.before

walk-both-requires : (t : ℕ) → walk-lts.Need-both-requires (walk-claims t) (walk_at t) walk.Post invariant-loop-tally decreases-loop-tally
walk-both-requires t c κs =
    let a : Acted t = c.before.before.before.before.before in
    subst (λ k. Summable (tally-at t a) k c.branch-w.result.untaken c.branch-w.result.taken) (sym (count t a))
    (sums (arm t a) c.in-Opens.is c.branch-w.result (explored t a c.branch-w.result c.branch-w.ensures) (e t a).requires.1.1.openings_fit (e t a).requires.1.1.budget_fits)

walk-returns-3 : (t : ℕ) → walk-lts.Need-returns-in-Opens (walk-claims t) (walk_at t) walk.Post invariant-loop-tally decreases-loop-tally
walk-returns-3 t c =
    let a : Acted t = c.before.before.before.before.before.before in
    kept t (begun (b t a)) _ (both_out (arm t a) c.in-Opens.is c.branch-w.result (explored t a c.branch-w.result c.branch-w.ensures) _ (c.both.ensures ∙ ap (λ k. both_of (tally-at t a) k c.branch-w.result.untaken (line (lined (joined a))).extra c.branch-w.result.taken) (count t a)))

walk-sub-finished : (t : ℕ) → walk-lts.Need-overflow_sub-budget-in-Halts (walk-claims t) (walk_at t) walk.Post invariant-loop-tally decreases-loop-tally
walk-sub-finished t c = fewer t c.before.before

walk-returns-4 : (t : ℕ) → walk-lts.Need-returns-in-Halts (walk-claims t) (walk_at t) walk.Post invariant-loop-tally decreases-loop-tally
walk-returns-4 t c =
    let a : Acted t = c.before.before.before in
    kept t (begun (b t a)) _ (halts-out (arm t a) c.in-Halts.is _ (c.finished.ensures ∙ ap (finished_of (tally-at t a)) (count t a)))

walk-sub-stuck-3 : (t : ℕ) → walk-lts.Need-overflow_sub-budget-in-Stuck (walk-claims t) (walk_at t) walk.Post invariant-loop-tally decreases-loop-tally
walk-sub-stuck-3 t c = fewer t c.before.before

walk-returns-5 : (t : ℕ) → walk-lts.Need-returns-in-Stuck (walk-claims t) (walk_at t) walk.Post invariant-loop-tally decreases-loop-tally
walk-returns-5 t c =
    let a : Acted t = c.before.before.before in
    kept t (begun (b t a)) _ (stops-short (arm t a) c.in-Stuck.is _ (c.stuck-in-Stuck.ensures ∙ ap (refused_as _) (count t a)))

walk-returns-6 : (t : ℕ) → walk-lts.Need-returns (walk-claims t) (walk_at t) walk.Post invariant-loop-tally decreases-loop-tally
walk-returns-6 t c = kept t c.before.before.before.before _ (spent-out c.loop-tally.invariant (omega (arith, c.loop-tally-test.false)) _ c.refused.ensures)

pub +branch_explore_walk_spec : {M : Type 1} → statement M
+branch_explore_walk_spec =
    close μ-branch μ-explore μ-walk
    (λ t. branch-lts.spec (branch-claims t) (branch-at t) branch.Post
    (λ c κs. search rules)
    (branch-returns t)
    (λ c κs. search rules)
    (branch-advance-requires t)
    (branch-sub-explore t)
    (branch-explore-requires t)
    (λ c. search rules)
    (λ c κs. search rules)
    (branch-returns-2 t)
    (λ c. search rules)
    (branch-sub-rest t)
    (λ c κs. search rules)
    (branch-jump-requires t)
    (branch-sub-explore-2 t)
    (branch-explore-requires-2 t)
    (branch-returns-3 t))
    (λ t. explore-lts.spec (explore-claims t) (explore-at t) explore.Post
    (λ c κs. search rules)
    (explore-walk-requires t)
    (explore-returns t))
    λ t. walk-lts.spec (walk-claims t) (walk_at t) walk.Post invariant-loop-tally decreases-loop-tally
    (λ c κs. search rules)
    (walk-loop-holds t)
    (walk-reachable-requires t)
    (λ c. search rules)
    (λ c. search rules)
    (walk-sub-stuck t)
    (walk-add-stuck t)
    (λ c κs. search rules)
    (walk-returns t)
    (walk-sub-more t)
    (walk-more-requires t)
    (walk-push-requires t)
    (λ c κs. search rules)
    (λ c κs. search rules)
    (walk-mul-stack t)
    (walk-array-set-from-stack t)
    (λ c κs. search rules)
    (walk-turn-of-requires t)
    (λ c. search rules)
    (walk-loop-less t)
    (walk-loop-again t)
    (λ c. search rules)
    (walk-jumped-requires t)
    (walk-loop-less-2 t)
    (walk-loop-again-2 t)
    (λ c. search rules)
    (walk-mul-load t)
    (walk-array-copy-out-load t)
    (λ c κs. search rules)
    (walk-advance-requires t)
    (walk-loop-less-3 t)
    (walk-loop-again-3 t)
    (λ c. search rules)
    (λ c κs. search rules)
    (walk-mul-stack-2 t)
    (walk-array-set-from-stack-2 t)
    (λ c κs. search rules)
    (walk-advance-requires-2 t)
    (walk-loop-less-4 t)
    (walk-loop-again-4 t)
    (λ c. search rules)
    (walk-mul-combined t)
    (walk-array-copy-out-combined t)
    (walk-combined-requires t)
    (λ c. search rules)
    (walk-pop-requires t)
    (λ c κs. search rules)
    (walk-advance-requires-3 t)
    (walk-loop-less-5 t)
    (walk-loop-again-5 t)
    (λ c. search rules)
    (walk-sub-stuck-2 t)
    (λ c κs. search rules)
    (walk-returns-2 t)
    (λ c. search rules)
    (walk-mul-load-2 t)
    (walk-array-copy-out-load-2 t)
    (λ c κs. search rules)
    (walk-advance-requires-4 t)
    (walk-loop-less-6 t)
    (walk-loop-again-6 t)
    (λ c. search rules)
    (walk-mul-same t)
    (walk-array-copy-out-same t)
    (λ c κs. search rules)
    (walk-mul-blocks t)
    (walk-array-set-from-blocks t)
    (walk-pop-requires-2 t)
    (λ c κs. search rules)
    (walk-advance-requires-5 t)
    (walk-loop-less-7 t)
    (walk-loop-again-7 t)
    (λ c. search rules)
    (walk-branch-requires t)
    (walk-sub-both t)
    (walk-both-requires t)
    (walk-returns-3 t)
    (λ c. search rules)
    (walk-sub-finished t)
    (λ c κs. search rules)
    (walk-returns-4 t)
    (λ c. search rules)
    (walk-sub-stuck-3 t)
    (λ c κs. search rules)
    (walk-returns-5 t)
    (λ c κs. search rules)
    (walk-returns-6 t)
