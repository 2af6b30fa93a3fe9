-- `merge_sweep::visit` meets its contract. Assumes nothing.
use Prim.Native.Nat.{ℕ, ◌+◌, ◌*◌, ◌-◌, ◌<◌, ◌≤◌}
use mathlib.Core.Path.{◌≡◌, subst}
use mathlib.Core.List.{List}
use native.Mathlib.Omega.{arith}
use lib.ListN.{length}
use borrow.Rule.Slice.PartMut.{put_mid}
use Rattle.refusals.specs.declared.Refusal.TheVariants.{NoMeeting}
use Rattle.cells.specs.Cells.{unknown}
use Rattle.machine.specs.Machine.{State, Next, step}
use Rattle.cells.specs.Try.{Try}
use Rattle.machine_state.specs.HeldProgram.{first_address_of, program_of, sizes_of}
use Rattle.merge_theory.specs.Merge.{Table, slot}
use Rattle.merge_origins.specs.HeldOrigins.{Keeps}
use Rattle.merge_rows.specs.declared.Way.{Way}
use Rattle.merge_rows.specs.HeldRows.{part, rows_of, slot_at}
use Rattle.merge_sweep.specs.declared.Mark.{Mark}
use Rattle.merge_sweep.specs.declared.Mark.TheVariants.{Is}
use Rattle.merge_sweep.specs.HeldPass.{Held, Agrees, Ready, came_as, most, stopped}
use Rattle.merge_sweep.proofs.CarryLaws.{Under, raised, stays-ready, stays-agree, refused-figures, refused-verdict, moved-onto}
use Rattle.merge_sweep.proofs.VisitLaws.{figures-more, moved_as, rows_back, back-under, back-agree, here-slot, here-spent, visit-nothing, visit-unlike, visit-way, way-spent, sends-nothing, departs-nothing, departs-unlike, sends-way, departs-way}
use borrow.Author.Rules.{rules}
use Rattle.merge_sweep.proofs.visit.Statement.{statement}
use Rattle.merge_sweep.proofs.visit.Tie as tie

-- what has come to the address of row k
module _ (c : tie.After-rows-1) where
  abbrev came : tie.After-reach-came
  came = c.before

  abbrev start : tie.Start
  start = came.before.before.before.before.before.before.before

  abbrev k : ℕ
  k = start.args.j

  abbrev rs : List ℕ
  rs = start.args.rows.now

  abbrev r : List ℕ
  r = came.reach-came.new.row

  abbrev ns : List ℕ
  ns = sizes_of start.args.code.now

  abbrev first : ℕ
  first = first_address_of start.args.code.now

  abbrev n : ℕ
  n = rows_of start.args.code.now

  abbrev act : State → Try Next
  act = step (program_of start.args.code.now) unknown

  abbrev mark : Mark
  mark = came.reach-came.result.mark

  abbrev way : Way
  way = came.reach-came.result.way

  abbrev back : List ℕ
  back = put_mid (197 * k) (197 * k + 197 - 197 * k) rs r

  few : k < 1025
  few = omega (arith, start.requires.0.0.lines, start.requires.0.2)

  ready : Ready ns first n k rs start.args.p
  ready = start.requires.1

  module _ (l : length r ≡ length (part (197 * k) (197 * k + 197) rs)) where
    under : Under ns first n k k back
    under = back-under ns first n k rs r start.args.p few ready l

    sums : Under ns first n k (k + 1) back
    sums = raised ns first n k back under

    agrees : (tab : Table) → Agrees ns first n k tab rs start.args.p.here start.args.p.way → (b : ℕ) → k < b → b < n → slot (tab (first + b)) ≡ slot_at ns first back b
    agrees = back-agree ns first n k rs r start.args.p few ready l

    slots : (tab : Table) → Agrees ns first n k tab rs start.args.p.here start.args.p.way → slot (tab (first + k)) ≡ came_as ns mark way
    slots = here-slot ns first n k rs r start.args.p few ready l mark way came.reach-came.ensures.0 start.requires.0.2

    spent : mark ≡ Is → (way.cycles ≤ most k) × (way.words ≤ most k)
    spent told = way-spent ns mark way (most k) told (here-spent ns first n k rs r start.args.p few ready l mark way came.reach-came.ensures.0 start.requires.0.2)

  held : mark ≡ Is → Held ns Is way (first + k)
  held told = subst (λ (x : Mark). Held ns x way (first + k)) told came.reach-came.ensures.1

carry-requires : tie.Need-carry-requires
carry-requires c κs =
    let b = c in
    let l : length (r b.before.before.before.before.before.before) ≡ length (part (197 * k b.before.before.before.before.before.before) (197 * k b.before.before.before.before.before.before + 197) (rs b.before.before.before.before.before.before)) = search rules in
    let told = c.in-Is.is in
    let h = held b.before.before.before.before.before.before told in
    let m = spent b.before.before.before.before.before.before l told in
    ((start b.before.before.before.before.before.before).requires.0.0, ((rows_back (ns b.before.before.before.before.before.before) (first b.before.before.before.before.before.before) (n b.before.before.before.before.before.before) (k b.before.before.before.before.before.before) (rs b.before.before.before.before.before.before) (r b.before.before.before.before.before.before) (start b.before.before.before.before.before.before).args.p (few b.before.before.before.before.before.before) (ready b.before.before.before.before.before.before) l, (start b.before.before.before.before.before.before).requires.0.1, (start b.before.before.before.before.before.before).requires.0.2), ((h.1, h.0, m.0, m.1, (ready b.before.before.before.before.before.before).figures), under b.before.before.before.before.before.before l)))

returns : tie.Need-returns-in-Nothing
returns c =
    let b = c in
    let l : length (r b.before.before.before.before) ≡ length (part (197 * k b.before.before.before.before) (197 * k b.before.before.before.before + 197) (rs b.before.before.before.before)) = search rules in (
      stays-ready (ns b.before.before.before.before) (first b.before.before.before.before) (n b.before.before.before.before) (k b.before.before.before.before) (back b.before.before.before.before) (sums b.before.before.before.before l) (rows_back (ns b.before.before.before.before) (first b.before.before.before.before) (n b.before.before.before.before) (k b.before.before.before.before) (rs b.before.before.before.before) (r b.before.before.before.before) (start b.before.before.before.before).args.p (few b.before.before.before.before) (ready b.before.before.before.before) l) (start b.before.before.before.before).args.p.found (way b.before.before.before.before) (figures-more (k b.before.before.before.before) (start b.before.before.before.before).args.p.found (ready b.before.before.before.before).figures),
      (
        λ tab q g agree.
            moved-onto (sends-nothing (act b.before.before.before.before) (first b.before.before.before.before + k b.before.before.before.before) (ns b.before.before.before.before) (mark b.before.before.before.before) (way b.before.before.before.before) _ (slots b.before.before.before.before l tab agree) tab c.in-Nothing.is) q g
            (λ rest. visit-nothing (act b.before.before.before.before) rest (first b.before.before.before.before + k b.before.before.before.before) tab q (ns b.before.before.before.before) (mark b.before.before.before.before) (way b.before.before.before.before) _ (slots b.before.before.before.before l tab agree) c.in-Nothing.is)
            (stays-agree (ns b.before.before.before.before) (first b.before.before.before.before) (n b.before.before.before.before) (k b.before.before.before.before) (back b.before.before.before.before) (sums b.before.before.before.before l) tab (way b.before.before.before.before) (agrees b.before.before.before.before l tab agree)),
        λ tab o agree keeps. subst (Keeps (first b.before.before.before.before) (start b.before.before.before.before).args.kept.now) (departs-nothing (act b.before.before.before.before) (first b.before.before.before.before + k b.before.before.before.before) (ns b.before.before.before.before) (mark b.before.before.before.before) (way b.before.before.before.before) _ (slots b.before.before.before.before l tab agree) o c.in-Nothing.is) keeps,
      ),
    )

returns-2 : tie.Need-returns-in-Unlike
returns-2 c =
    let b = c in
    let l : length (r b.before.before.before.before.before) ≡ length (part (197 * k b.before.before.before.before.before) (197 * k b.before.before.before.before.before + 197) (rs b.before.before.before.before.before)) = search rules in (
      stays-ready (ns b.before.before.before.before.before) (first b.before.before.before.before.before) (n b.before.before.before.before.before) (k b.before.before.before.before.before) (back b.before.before.before.before.before) (sums b.before.before.before.before.before l) (rows_back (ns b.before.before.before.before.before) (first b.before.before.before.before.before) (n b.before.before.before.before.before) (k b.before.before.before.before.before) (rs b.before.before.before.before.before) (r b.before.before.before.before.before) (start b.before.before.before.before.before).args.p (few b.before.before.before.before.before) (ready b.before.before.before.before.before) l) c.refused.result (way b.before.before.before.before.before) (refused-figures (k b.before.before.before.before.before + 1) _ _ c.refused.ensures),
      (
        λ tab q g agree.
            stopped (NoMeeting (first b.before.before.before.before.before + k b.before.before.before.before.before)) (refused-verdict _ _ c.refused.ensures)
            (λ rest. visit-unlike (act b.before.before.before.before.before) rest (first b.before.before.before.before.before + k b.before.before.before.before.before) tab q (ns b.before.before.before.before.before) (mark b.before.before.before.before.before) (way b.before.before.before.before.before) _ (slots b.before.before.before.before.before l tab agree) c.in-Unlike.is),
        λ tab o agree keeps. subst (Keeps (first b.before.before.before.before.before) (start b.before.before.before.before.before).args.kept.now) (departs-unlike (act b.before.before.before.before.before) (first b.before.before.before.before.before + k b.before.before.before.before.before) (ns b.before.before.before.before.before) (mark b.before.before.before.before.before) (way b.before.before.before.before.before) _ (slots b.before.before.before.before.before l tab agree) o c.in-Unlike.is) keeps,
      ),
    )

returns-3 : tie.Need-returns-in-Is
returns-3 c =
    let m = c in
    let t = m in
    let b = t in
    let l : length (r b.before.before.before.before.before.before.before.before.before.before.before) ≡ length (part (197 * k b.before.before.before.before.before.before.before.before.before.before.before) (197 * k b.before.before.before.before.before.before.before.before.before.before.before + 197) (rs b.before.before.before.before.before.before.before.before.before.before.before)) = search rules in
    let told = t.in-Is.is in (
      m.carry.ensures.0,
      (
        λ tab q g agree.
            moved_as
            (λ rest. visit-way (act b.before.before.before.before.before.before.before.before.before.before.before) rest (first b.before.before.before.before.before.before.before.before.before.before.before + k b.before.before.before.before.before.before.before.before.before.before.before) tab q (ns b.before.before.before.before.before.before.before.before.before.before.before) (mark b.before.before.before.before.before.before.before.before.before.before.before) (way b.before.before.before.before.before.before.before.before.before.before.before) _ (slots b.before.before.before.before.before.before.before.before.before.before.before l tab agree) told (held b.before.before.before.before.before.before.before.before.before.before.before told).0)
            (sends-way (act b.before.before.before.before.before.before.before.before.before.before.before) (first b.before.before.before.before.before.before.before.before.before.before.before + k b.before.before.before.before.before.before.before.before.before.before.before) (ns b.before.before.before.before.before.before.before.before.before.before.before) (mark b.before.before.before.before.before.before.before.before.before.before.before) (way b.before.before.before.before.before.before.before.before.before.before.before) _ (slots b.before.before.before.before.before.before.before.before.before.before.before l tab agree) told (held b.before.before.before.before.before.before.before.before.before.before.before told).0 tab)
            (m.carry.ensures.1.0 tab q g (agrees b.before.before.before.before.before.before.before.before.before.before.before l tab agree)),
        λ tab o agree keeps. subst (Keeps (first b.before.before.before.before.before.before.before.before.before.before.before) _) (departs-way (act b.before.before.before.before.before.before.before.before.before.before.before) (first b.before.before.before.before.before.before.before.before.before.before.before + k b.before.before.before.before.before.before.before.before.before.before.before) (ns b.before.before.before.before.before.before.before.before.before.before.before) (mark b.before.before.before.before.before.before.before.before.before.before.before) (way b.before.before.before.before.before.before.before.before.before.before.before) _ (slots b.before.before.before.before.before.before.before.before.before.before.before l tab agree) told (held b.before.before.before.before.before.before.before.before.before.before.before told).0 o) (m.carry.ensures.1.1 o keeps),
      ),
    )

pub visit_spec : {M : Type 1} → statement M
visit_spec =
    tie.close
    (tie.spec
    (λ c. search rules)
    (λ c. search rules)
    (λ c. search rules)
    (λ c. search rules)
    (λ c. search rules)
    (λ c. search rules)
    (λ c. search rules)
    (λ c. search rules)
    (λ c. search rules)
    (λ c κs. search rules)
    (λ c. search rules)
    (λ c. search rules)
    (λ c κs. search rules)
    (λ c. search rules)
    carry-requires
    (λ c. search rules)
    returns
    (λ c. search rules)
    returns-2
    (λ c. search rules)
    (λ c. search rules)
    returns-3)
