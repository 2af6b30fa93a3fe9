-- `file_reader::routine_of` meets its contract. Assumes nothing.
use mathlib.Core.Path.{◌≡◌, refl, sym, ap, ◌∙◌}
use Prim.Native.Nat.{◌≤◌}
use native.Mathlib.Omega.{arith}
use lib.ListN.{length}
use Rattle.text.specs.Text.{Line, lines}
use mathlib.Core.List.{List}
use Rattle.file_format.specs.Layout.{lines_of_code}
use Rattle.file_format.specs.Rows.{Passes}
use Rattle.machine_state.specs.HeldState.{whole}
use Rattle.machine_state.proofs.Stack.{length-images}
use Rattle.file_reader.proofs.ReaderLaws.{kept-start, code-small, start-at, first-low, budget-limited, answers-small, answers-held, code_is, first-is, budget-held, tick-held, fields-ready, cells-ready, start-held, is-program}
use borrow.Author.Rules.{rules}
use Rattle.file_reader.proofs.routine_of.Statement.{statement}
use Rattle.file_reader.proofs.routine_of.Tie as tie

-- ---- places: where the layout's lines begin, the blocks' names, and the lines of code

abbrev placed : tie.After-blocks_named-named → tie.After-starts_of-places
placed c = c.before.before.before.before.before.before.before.before.before

abbrev begun : tie.After-blocks_named-named → tie.Start
begun c = (placed c).before.before

abbrev named : tie.After-first_address-first → tie.After-blocks_named-named
named c = c.before.before.before.before.before.before.before

module _ (c : tie.After-first_address-first) where
  abbrev ls : List Line
  ls = lines (begun (named c)).args.text.now

  passing : Passes ls
  passing = (begun (named c)).requires

  few : length (lines_of_code (lines c.body_in-body.result.now)) ≤ 1024
  few = code-small ls passing _ c.body_in-body.ensures

  low : c.first_address-first.result ≤ 60000
  low = first-low _ _ c.first_address-first.ensures

natural-at-requires : tie.Need-natural_at-budget-requires
natural-at-requires c κs = record { least = 1; greatest = 1000000; is = c.budgets.ensures; small = (omega arith, omega arith) }

natural-at-requires-2 : tie.Need-natural_at-tick-requires
natural-at-requires-2 c κs = record { least = 1; greatest = 4000000000; is = c.ticks.ensures; small = (omega arith, omega arith) }

fields-of-requires : tie.Need-fields_of-blocks-requires
fields-of-requires c κs = let b = c in fields-ready _ (begun b.before.before.before).requires _ _ _ b.line_in.ensures c.line_in-2.ensures refl _ b.blocks_named-named.ensures

put-lines-requires : tie.Need-put_lines-rest-requires
put-lines-requires c κs = let f = c in (refl, (placed (named f.before.before)).starts_of-places.ensures, few f.before.before)

put-head-requires : tie.Need-put_head-requires
put-head-requires c κs =
    let f = c in
    (c.put_lines-rest.ensures.0.0, low f.before.before.before.before, (named f.before.before.before.before).blocks_named-named.ensures.few)

line-in-requires-4 : tie.Need-line_in-requires-3
line-in-requires-4 c κs = (placed (named c.before.before.before.before.before.before)).starts_of-places.ensures

start-of-requires : tie.Need-start_of-start-requires
start-of-requires c κs =
    let f = c in
    let b = named f.before.before.before.before.before.before.before in
    cells-ready _ (begun b).requires _ _ _ b.line_in.ensures f.line_in-2.ensures c.line_in-3.ensures _ b.blocks_named-named.ensures

answers-of-requires : tie.Need-answers_of-answers-requires
answers-of-requires c κs =
    let at-lines = c in
    let f = at-lines in
    answers-small _ (passing f.before.before.before.before.before.before.before.before.before) _ f.body_in-body.ensures _ _ at-lines.put_lines-rest.ensures.1.1.1 c.after_lines.ensures.0

-- the array that comes back has its length
sixty-four : (c : tie.After-answers_of-answers) → length c.answers_of-answers.result.values ≡ 64
sixty-four c = search (c.answers_of-answers.type_inv, rules, length-images)

returns : tie.Need-returns
returns c =
    let state = c in
    let head = state in
    let at-lines = head in
    let f = at-lines in
    let at_body = f in
    let at_fields = at_body in
    let b = named f.before.before.before.before.before.before.before.before.before.before in
    let at_tick = b in
    let at-budget = at_tick in
    let limits = at-budget.line_in-limits.ensures in
    let vs = at-lines.put_lines-rest.new.code in
    let ws = head.put_head.new.code in
    let h = head.put_head.ensures.0 in
    let kept = head.put_head.ensures.1 in
    let held = at-lines.put_lines-rest.ensures in
    let p = passing f.before.before.before.before.before.before.before.before.before.before in
    let first = first-is _ p _ at_body.body_in-body.ensures _ f.first_address-first.ensures in
    let starts = start-held _ p _ _ _ b.line_in.ensures at_fields.line_in-2.ensures state.line_in-3.ensures _ b.blocks_named-named.ensures _ first _ state.start_of-start.ensures.0 _ at_fields.fields_of-blocks.ensures in
    let start = ap (λ ns. whole ns at_fields.fields_of-blocks.result state.start_of-start.result) h.1 ∙ starts in (
      record {
        budget = budget-held _ _ limits _ _ at-budget.budgets.ensures at-budget.natural_at-budget.ensures;
        tick = tick-held _ _ limits _ _ at_tick.ticks.ensures at_tick.natural_at-tick.ensures;
        code = code_is _ p _ at_body.body_in-body.ensures ws vs (h.0 ∙ f.first_address-first.ensures) kept.1 kept.2 held.1.0;
        start = start;
        answered = answers-held _ p _ at_body.body_in-body.ensures _ _ held.1.1.1 c.after_lines.ensures.0 _ c.answers_of-answers.ensures.0;
      },
      record {
        budget = budget-limited _ _ limits _ _ p at-budget.budgets.ensures at-budget.natural_at-budget.ensures;
        program = is-program _ p _ _ _ b.line_in.ensures at_fields.line_in-2.ensures state.line_in-3.ensures _ b.blocks_named-named.ensures ws vs _ _ kept.0 (low f.before.before.before.before.before.before.before.before.before.before) (omega (arith, held.0.1, few f.before.before.before.before.before.before.before.before.before.before)) h.0 kept.1 h.1 h.2 kept.2 held.1.1.0;
        first = omega (arith, h.0, low f.before.before.before.before.before.before.before.before.before.before);
        placed = start-at _ _ state.start_of-start.result state.start_of-start.ensures.0 ∙ sym h.0;
        formed = state.start_of-start.ensures.1;
        numeric = kept-start _ start;
        answered = c.answers_of-answers.ensures.1;
        places = sixty-four c;
      },
    )

pub routine_of_spec : {M : Type 1} → statement M
routine_of_spec =
    tie.close
    (tie.spec
    (λ c κs. search rules)
    (λ c κs. search rules)
    (λ c κs. search rules)
    natural-at-requires
    (λ c. search rules)
    (λ c κs. search rules)
    natural-at-requires-2
    (λ c. search rules)
    (λ c κs. search rules)
    (λ c κs. search rules)
    (λ c κs. search rules)
    fields-of-requires
    (λ c κs. search rules)
    (λ c κs. search rules)
    put-lines-requires
    put-head-requires
    line-in-requires-4
    start-of-requires
    (λ c κs. search rules)
    answers-of-requires
    returns)
