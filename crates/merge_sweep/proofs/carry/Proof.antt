-- `merge_sweep::carry` meets its contract. Assumes nothing.
use Prim.Native.Nat.{ℕ, ◌+◌, ◌-◌, ◌<◌, ◌≤◌}
use mathlib.Core.Path.{◌≡◌, refl, sym, ap, subst, ◌∙◌}
use mathlib.Core.List.{List}
use native.Mathlib.Omega.{arith}
use lib.ListN.{length}
use Rattle.refusals.specs.declared.Refusal.TheVariants.{Stuck}
use Rattle.cells.specs.declared.Cell.{Cell}
use Rattle.cells.specs.Try.{Try, done}
use Rattle.cells.specs.Cells.{unknown}
use Rattle.cells.specs.HeldConfined.{Kept}
use Rattle.machine.specs.Machine.{State, Next, stops, goes, opens, jump, height, step}
use Rattle.machine.specs.Order.{Cellwise}
use Rattle.machine_state.specs.HeldProgram.{first_address_of, program_of, sizes_of}
use Rattle.machine_state.specs.HeldState.{whole}
use Rattle.bound_theory.specs.Tree.{refused}
use Rattle.machine_step.specs.declared.Price as code
use Rattle.machine_step.specs.declared.Next as leads-to
use Rattle.machine_step.specs.HeldStep.{of_price, Small}
use Rattle.merge_theory.specs.Merge.{arrive, reach, finish}
use Rattle.merge_way.specs.Way.{Origins, marked}
use Rattle.merge_origins.specs.HeldOrigins.{Keeps}
use Rattle.merge_rows.specs.declared.Way.{Way}
use Rattle.merge_rows.specs.HeldRows.{Rows, Formed, Numeric, arrival_of, rows_of}
use Rattle.merge_sweep.specs.HeldPass.{most, Figures, stopped, spent_of}
use Rattle.merge_sweep.proofs.CarryLaws.{Under, Paid, reached-as, ended-as, reached-figures, ended-figures, refused-figures, refused-verdict, paid-as, paid-formed, paid-numeric, goes-numeric, opens-numeric, jump-numeric, paid-cycles, paid-words, raised, stays-ready, stays-agree, goes-ready, goes-agree, sent-sums, sent-agree, leads-stuck, leads-stops, leads_goes, leads-opens, same-fields, way-height, jumped-as, carried-stuck, carried-stops, carried-goes, carried-opens, stops-sent, goes-sent, opens-sent, moved-onto, carried-kept}
use borrow.Author.Rules.{rules}
use Rattle.merge_sweep.proofs.carry.Statement.{statement}
use Rattle.merge_sweep.proofs.carry.Tie as tie

abbrev begun : tie.After-step-stepped → tie.Start
begun c = c.before.before.before.before.before.before

-- the step is made, its ways are marked, and the address is reached
module _ (c : tie.After-reached-g) where
  abbrev departed : tie.After-depart
  departed = c.before.before.before.before

  abbrev stepped : tie.After-step-stepped
  stepped = departed.before.before.before.before.before

  abbrev start : tie.Start
  start = begun stepped

  abbrev w : Way
  w = start.args.w

  abbrev j : ℕ
  j = start.args.j

  abbrev rs : List ℕ
  rs = start.args.rows.now

  abbrev ns : List ℕ
  ns = sizes_of start.args.code.now

  abbrev first : ℕ
  first = first_address_of start.args.code.now

  abbrev n : ℕ
  n = rows_of start.args.code.now

  abbrev s : State
  s = whole ns w.blocks w.state

  abbrev to : Cell → Try Next
  to u = step (program_of start.args.code.now) u s

  -- what was asked
  rows : Rows rs
  rows = start.requires.1.0.0

  few : j < n
  few = start.requires.1.0.2

  formed : Formed w
  formed = start.requires.1.1.0.0.0

  numeric : Numeric ns w
  numeric = start.requires.1.1.0.0.1

  at : w.state.at ≡ first + j
  at = start.requires.1.1.0.1

  cycles : w.cycles ≤ most j
  cycles = start.requires.1.1.0.2

  words : w.words ≤ most j
  words = start.requires.1.1.0.3

  sums : Under ns first n j (j + 1) rs
  sums = raised ns first n j rs start.requires.1.1.1

  cycles-few : w.cycles ≤ most 1025
  cycles-few = omega (arith, cycles, few, start.requires.0.lines)

  words-few : w.words ≤ most 1025
  words-few = omega (arith, words, few, start.requires.0.lines)

  -- what the step leaves
  told : stepped.unknown.result ≡ unknown
  told = stepped.unknown.ensures

  fields : length stepped.step-stepped.result.blocks ≡ 128
  fields = same-fields stepped.step-stepped.result.change w.blocks _ stepped.step-stepped.ensures.1.1.1 formed.fields

  small : (x : leads-to.Next) → stepped.step-stepped.result.next ≡ x → Small x
  small x e = subst Small e stepped.step-stepped.ensures.1.1.0.1

  figures : Figures (j + 1) c.reached-g.result
  figures = reached-figures j start.args.f c.reached-g.result _ (omega arith) c.reached-g.ensures start.requires.1.1.0.4

  high : 64 - w.state.free ≡ height s
  high = way-height ns w formed.state

  -- what is kept
  keeps : (o : Origins) → Keeps first start.args.kept.now o → Keeps first departed.depart.new.kept (marked (spent_of w) s (to unknown) o)
  keeps =
      carried-kept first j start.args.kept.now departed.depart.new.kept ns w stepped.step-stepped.result.state.at (64 - w.state.free) stepped.step-stepped.result.next stepped.step-stepped.result.blocks stepped.step-stepped.result.state to _
      departed.depart.ensures at high refl told stepped.step-stepped.ensures.0

  -- a way after the step
  module _ (v : Way) (p : code.Price) (paid : Paid w stepped.step-stepped.result.state stepped.step-stepped.result.blocks p v) where
    left-formed : Formed v
    left-formed = paid-formed w v _ _ p paid stepped.step-stepped.ensures.1.1.0.0 fields

    left-numeric : done (goes (of_price p) (whole ns stepped.step-stepped.result.blocks stepped.step-stepped.result.state)) ≡ to unknown → Numeric ns v
    left-numeric e = paid-numeric ns w v _ _ p paid (goes-numeric (program_of start.args.code.now) s _ _ numeric e)

-- by what the step leads to
stops-to : (c : tie.In-Stops) → done (stops (of_price c.in-Stops.p)) ≡ to c.before unknown
stops-to c =
    let r = c in
    leads-stops (stepped r.before).step-stepped.result.next c.in-Stops.p _ (to r.before) _ c.in-Stops.is (told r.before) (stepped r.before).step-stepped.ensures.0

module _ (c : tie.In-Goes) where
  abbrev to_one : tie.After-reached-g
  to_one = c.before

  abbrev price : code.Price
  price = c.in-Goes.p

  goes_to : done (goes (of_price price) (whole (ns to_one) (stepped to_one).step-stepped.result.blocks (stepped to_one).step-stepped.result.state)) ≡ to to_one unknown
  goes_to = leads_goes (stepped to_one).step-stepped.result.next price _ (to to_one) _ c.in-Goes.is (told to_one) (stepped to_one).step-stepped.ensures.0

module _ (c : tie.In-Opens) where
  abbrev to-two : tie.After-reached-g
  to-two = c.before

  abbrev left : code.Price
  left = c.in-Opens.p

  abbrev place : ℕ
  place = c.in-Opens.place

  abbrev extra : code.Price
  extra = c.in-Opens.q

  abbrev after : State
  after = whole (ns to-two) (stepped to-two).step-stepped.result.blocks (stepped to-two).step-stepped.result.state

  opens-to : done (opens (of_price left) after (of_price extra) (jump place after)) ≡ to to-two unknown
  opens-to = leads-opens (stepped to-two).step-stepped.result.next left extra place _ (to to-two) _ c.in-Opens.is (told to-two) (stepped to-two).step-stepped.ensures.0

  both-numeric : Cellwise Kept after after × Cellwise Kept (jump place after) (jump place after)
  both-numeric = opens-numeric (program_of (start to-two).args.code.now) (s to-two) _ _ _ _ (numeric to-two) opens-to

depart-requires : tie.Need-depart-requires
depart-requires c κs =
    let p = c in
    let b = begun p.before.before.before.before in
    (b.requires.1.0.1, omega (arith, b.requires.1.0.2, b.requires.0.lines), omega (arith, b.requires.1.1.0.2, b.requires.1.0.2, b.requires.0.lines), p.step-stepped.ensures.1.1.0.1, b.requires.0)

reached-requires : tie.Need-reached-g-requires
reached-requires c κs =
    let b = begun c.before.before.before.before.before.before.before.before in
    (omega (arith, b.requires.1.1.0.4.used, b.requires.1.0.2, b.requires.0.lines), omega arith)

paid-requires : tie.Need-paid-requires
paid-requires c κs = let r = c in (cycles-few r.before, words-few r.before, small r.before _ c.in-Stops.is)

paid-requires-2 : tie.Need-paid-v-requires
paid-requires-2 c κs = let r = c in (cycles-few r.before, words-few r.before, small r.before _ c.in-Goes.is)

onward-requires : tie.Need-onward-here-requires
onward-requires c κs =
    let v = c in
    let g = v in
    let r = to_one g.before.before in
    (rows r, few r, (left-formed r v.paid-v.result (price g.before.before) v.paid-v.ensures, left-numeric r v.paid-v.result (price g.before.before) v.paid-v.ensures (goes_to g.before.before)), (start r).requires.0)

jump-requires : tie.Need-jump-requires
jump-requires c κs = (stepped (to-two c)).step-stepped.ensures.1.1.0.0

paid-requires-3 : tie.Need-paid-taken-requires
paid-requires-3 c κs = let g = c in let r = to-two g.before in (cycles-few r, words-few r, (small r _ g.in-Opens.is).1)

-- the taken way
module _ (c : tie.After-paid-taken) where
  abbrev opened : tie.In-Opens
  opened = c.before.before

  taken-formed : Formed c.paid-taken.result
  taken-formed = paid-formed (w (to-two opened)) c.paid-taken.result _ _ (extra opened) c.paid-taken.ensures c.jump.ensures.1 (fields (to-two opened))

  taken-numeric : Numeric (ns (to-two opened)) c.paid-taken.result
  taken-numeric = paid-numeric (ns (to-two opened)) (w (to-two opened)) c.paid-taken.result _ _ (extra opened) c.paid-taken.ensures (jump-numeric (ns (to-two opened)) _ _ _ _ c.jump.ensures.0 (both-numeric opened).1)

send-requires : tie.Need-send-requires
send-requires c κs =
    let y = c in
    let r = to-two (opened y.before) in
    (rows r, (taken-formed y.before, taken-numeric y.before), (start r).requires.0)

paid-requires-4 : tie.Need-paid-v-requires-in-Opens
paid-requires-4 c κs = let g = opened c.before.before.before.before in let r = to-two g in (cycles-few r, words-few r, (small r _ g.in-Opens.is).0)

onward-requires-2 : tie.Need-onward-here-requires-in-Opens
onward-requires-2 c κs =
    let v = c in
    let t = v in
    let g = opened t.before.before.before.before.before.before in
    let r = to-two g in
    (v.before.before.before.rows-in-Opens-1.given ∙ rows r, few r, (left-formed r v.paid-v-in-Opens.result (left g) v.paid-v-in-Opens.ensures, paid-numeric (ns r) (w r) v.paid-v-in-Opens.result _ _ (left g) v.paid-v-in-Opens.ensures (both-numeric g).0), (start r).requires.0)

returns : tie.Need-returns-in-Stuck
returns c =
    let r = c in
    let lead = leads-stuck (stepped r.before.before).step-stepped.result.next _ (to r.before.before) _ c.in-Stuck.is (told r.before.before) (stepped r.before.before).step-stepped.ensures.0 in (
      stays-ready (ns r.before.before) (first r.before.before) (n r.before.before) (j r.before.before) (rs r.before.before) (sums r.before.before) (rows r.before.before) c.refused.result (w r.before.before) (refused-figures (j r.before.before + 1) _ _ c.refused.ensures),
      (
        λ tab q e agree. stopped (Stuck (w r.before.before).state.at) (refused-verdict _ _ c.refused.ensures) (λ rest. carried-stuck rest (first r.before.before + j r.before.before) tab q (s r.before.before) (spent_of (w r.before.before)) _ lead ∙ ap (λ i. refused (Stuck i)) (sym (at r.before.before))),
        keeps r.before.before,
      ),
    )

returns-2 : tie.Need-returns-in-Stops
returns-2 c =
    let v = c.paid in
    let known = c in
    let r = known in
    let p = known.in-Stops.p in
    let g = r.reached-g in
    let fits = small r.before.before.before _ known.in-Stops.is in
    let k = paid-cycles (j r.before.before.before) (w r.before.before.before) v.result _ _ p v.ensures (cycles r.before.before.before) fits in
    let l = paid-words (j r.before.before.before) (w r.before.before.before) v.result _ _ p v.ensures (words r.before.before.before) fits in (
      stays-ready (ns r.before.before.before) (first r.before.before.before) (n r.before.before.before) (j r.before.before.before) (rs r.before.before.before) (sums r.before.before.before) (rows r.before.before.before) c.ended.result (w r.before.before.before) (ended-figures (j r.before.before.before + 1) g.result c.ended.result _ _ c.ended.ensures k l (figures r.before.before.before)),
      (
        λ tab q e agree.
            moved-onto (stops-sent (spent_of (w r.before.before.before)) (of_price p) _ tab (stops-to known.before.before)) (finish (spent_of (w r.before.before.before)) (stops (of_price p)) (reach (s r.before.before.before) q))
            (ended-as g.result c.ended.result (reach (s r.before.before.before) q) (spent_of (w r.before.before.before)) (of_price p) _ _ c.ended.ensures v.ensures.2 v.ensures.3 (reached-as (start r.before.before.before).args.f g.result q (s r.before.before.before) _ g.ensures (high r.before.before.before) e))
            (λ rest. carried-stops rest (first r.before.before.before + j r.before.before.before) tab q (s r.before.before.before) (spent_of (w r.before.before.before)) (of_price p) _ (stops-to known.before.before))
            (stays-agree (ns r.before.before.before) (first r.before.before.before) (n r.before.before.before) (j r.before.before.before) (rs r.before.before.before) (sums r.before.before.before) tab (w r.before.before.before) agree),
        keeps r.before.before.before,
      ),
    )

returns-3 : tie.Need-returns-in-Goes
returns-3 c =
    let onto = c in
    let o = onto.onward-here in
    let v = onto.paid-v in
    let known = onto in
    let r = to_one known.before.before.before.before.before in
    let p = price known.before.before.before.before.before in
    let g = r.reached-g in
    let fits = small r _ known.in-Goes.is in
    let k = paid-cycles (j r) (w r) v.result _ _ p v.ensures (cycles r) fits in
    let l = paid-words (j r) (w r) v.result _ _ p v.ensures (words r) fits in (
      goes-ready (ns r) (first r) (n r) (j r) (rs r) (sums r) o.new.rows v.result o.result o.ensures.0 (c.before.rows-1.given ∙ rows r) g.result (figures r) o.ensures.1 k l,
      (
        λ tab q e agree.
            moved-onto (goes-sent (spent_of (w r)) (of_price p) _ _ _ tab (goes_to known.before.before.before.before.before) (paid-as (ns r) (w r) v.result _ _ p v.ensures)) (reach (s r) q) (reached-as (start r).args.f g.result q (s r) _ g.ensures (high r) e)
            (λ rest. carried-goes rest (first r + j r) tab q (s r) _ (spent_of (w r)) (of_price p) _ _ (goes_to known.before.before.before.before.before) (paid-as (ns r) (w r) v.result _ _ p v.ensures))
            (goes-agree (ns r) (first r) (n r) (j r) (rs r) (sums r) o.new.rows v.result o.result o.ensures.0 tab agree),
        keeps r,
      ),
    )

same-length-6 : tie.Need-shape_of-kept-in-Opens
same-length-6 c = (to-two (opened c.before.before.before.before.before.before.before.before.before)).before.before.before.kept-1.given

returns-4 : tie.Need-returns-in-Opens
returns-4 c =
    let onto = c in
    let o = onto.onward-here-in-Opens in
    let at-paid = onto in
    let v = at-paid.paid-v-in-Opens in
    let at-send = at-paid in
    let t = at-send.send in
    let at-taken = at-send in
    let y = at-taken.paid-taken in
    let known = opened at-taken.before.before.before.before.before.before.before.before.before in
    let r = to-two known in
    let g = r.reached-g in
    let fits = small r _ known.in-Opens.is in
    let k = paid-cycles (j r) (w r) v.result _ _ (left known) v.ensures (cycles r) fits.0 in
    let l = paid-words (j r) (w r) v.result _ _ (left known) v.ensures (words r) fits.0 in
    let k' = paid-cycles (j r) (w r) y.result _ _ (extra known) y.ensures (cycles r) fits.1 in
    let l' = paid-words (j r) (w r) y.result _ _ (extra known) y.ensures (words r) fits.1 in
    let left_as = paid-as (ns r) (w r) v.result _ _ (left known) v.ensures in
    let taken_as = jumped-as (ns r) (w r) y.result _ _ _ (extra known) (place known) at-taken.jump.ensures.0 y.ensures in
    let sums' = sent-sums (ns r) (first r) (n r) (j r) (rs r) (sums r) t.new.rows y.result t.ensures k' l' in (
      goes-ready (ns r) (first r) (n r) (j r) t.new.rows sums' o.new.rows v.result o.result o.ensures.0 (c.before.rows-in-Opens-2-1.given ∙ at-paid.before.before.before.before.before.before.rows-in-Opens-1.given ∙ rows r) g.result (figures r) o.ensures.1 k l,
      (
        λ tab q e agree.
            moved-onto (opens-sent (spent_of (w r)) (of_price (left known)) (of_price (extra known)) _ _ _ _ _ tab (opens-to known) left_as taken_as) (reach (s r) q) (reached-as (start r).args.f g.result q (s r) _ g.ensures (high r) e)
            (λ rest.
            carried-opens rest (first r + j r) tab q (s r) _ _ (spent_of (w r)) (of_price (left known)) (of_price (extra known)) _ _ _ (opens-to known) left_as taken_as)
            (goes-agree (ns r) (first r) (n r) (j r) t.new.rows sums' o.new.rows v.result o.result o.ensures.0 (arrive (arrival_of (ns r) y.result) tab)
            (sent-agree (ns r) (first r) (n r) (j r) (rs r) (sums r) t.new.rows y.result t.ensures tab agree)),
        keeps r,
      ),
    )

pub carry_spec : {M : Type 1} → statement M
carry_spec =
    tie.close
    (tie.spec
    (λ c κs. search rules)
    (λ c κs. search rules)
    (λ c. omega (arith, (begun c.before.before.before.before).requires.1.1.0.0.0.state.free))
    depart-requires
    (λ c. omega (arith, (begun c.before.before.before.before.before.before.before.before).requires.1.1.0.0.0.state.free))
    reached-requires
    (λ c. search rules)
    (λ c κs. search rules)
    (λ c. search rules)
    paid-requires
    (λ c κs. search rules)
    (λ c. search rules)
    paid-requires-2
    onward-requires
    (λ c. search rules)
    jump-requires
    paid-requires-3
    send-requires
    paid-requires-4
    onward-requires-2
    (λ c. search rules)
    returns
    (λ c. search rules)
    returns-2
    (λ c. search rules)
    (λ c. search rules)
    returns-3
    (λ c. search rules)
    same-length-6
    returns-4)
