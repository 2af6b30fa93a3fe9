-- `merge_sweep::reach` meets its contract. Assumes nothing.
use Prim.Native.Nat.{ℕ}
use mathlib.Core.Path.{◌≡◌, ◌∙◌}
use mathlib.Core.Bool.{true}
use mathlib.Core.List.{List}
use lib.ListN.{get_or}
use Rattle.machine_state.specs.HeldProgram.{sizes_of}
use Rattle.merge_rows.specs.HeldRows.{slot_in}
use Rattle.merge_rows.proofs.RowLaws.{slot-empty}
use Rattle.merge_sweep.specs.HeldPass.{Comes}
use Rattle.merge_sweep.proofs.PassLaws.{with_none, with_first, with-next, comes-here}
use borrow.Author.Rules.{rules}
use Rattle.merge_sweep.proofs.reach.Statement.{statement}
use Rattle.merge_sweep.proofs.reach.Tie as tie

-- the way goes to the next address
module _ (c : tie.Else-not-here) where
  abbrev start : tie.Start
  start = c.before.before

  abbrev ns : List ℕ
  ns = sizes_of start.args.code.now

  taken : start.args.here ≡ true
  taken = c.if-not-here.false

  here : Comes ns true start.args.w start.args.at
  here = comes-here ns start.args.here start.args.w start.args.at taken start.requires.1

returns : tie.Need-returns-then-not-here
returns c =
    let t = c in
    let a = t.args in
    let ns = sizes_of a.code.now in
    (c.found.ensures.0 ns ∙ with_none ns a.here a.w _ (t.if-not-here.true), c.found.ensures.1 ns)

returns-2 : tie.Need-returns-then-mark-eq0
returns-2 c =
    let e = c in
    let a = (start e.before.before).args in
    let m : get_or a.row.now 0 0 ≡ 0 = c.if-mark-eq0.true in
    (with_first (ns e.before.before) a.here a.w _ (taken e.before.before) (slot-empty (ns e.before.before) a.at a.row.now m), here e.before.before)

join-requires : tie.Need-join-requires
join-requires c κs =
    let e = c in
    ((start e.before.before.before).requires.0, (here e.before.before.before).1, (start e.before.before.before).requires.2)

returns-3 : tie.Need-returns
returns-3 c =
    let at_join = c in
    let e = at_join in
    let a = (start e.before.before.before.before.before.before.before).args in
    let j = at_join.join in (
      c.found-2.ensures.0 (ns e.before.before.before.before.before.before.before)
          ∙ with-next (ns e.before.before.before.before.before.before.before) a.here a.w a.at (λ i. slot_in (ns e.before.before.before.before.before.before.before) i a.row.now) (λ i. slot_in (ns e.before.before.before.before.before.before.before) i j.new.row) (taken e.before.before.before.before.before.before.before) (here e.before.before.before.before.before.before.before).0 j.ensures,
      c.found-2.ensures.1 (ns e.before.before.before.before.before.before.before),
    )

pub reach_spec : {M : Type 1} → statement M
reach_spec =
    tie.close
    (tie.spec
    (λ c κs. search rules)
    (λ c. search rules)
    returns
    (λ c. search rules)
    returns-2
    join-requires
    (λ c κs. search rules)
    (λ c. search rules)
    returns-3)
