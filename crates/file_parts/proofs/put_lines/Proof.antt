-- `file_parts::put_lines` meets its contract. The loop's invariant: the first n lines of the program are the first n lines of the text, the
-- other lines are those of what is left and `line` the first of them, the code lines are the n that were passed and those that are left, and what is
-- kept of the kinds is right. The measure is the number of code lines left. Assumes nothing.
use Prim.Native.Nat.{ℕ, suc, ◌+◌, ◌*◌, ◌-◌, ◌%◌, ◌<◌, ◌≤◌}
use mathlib.Core.Path.{◌≡◌, refl, sym, ap, ap₂, subst, ◌∙◌}
use mathlib.Core.List.{List, map}
use native.Mathlib.Omega.{arith}
use native.Mathlib.Numerals.{add-one}
use lib.IntN.{ℤ}
use lib.ListN.{length, get_or, take, drop, length-set}
use mir.Syntax.{w32}
use mir.Val.{SFits}
use borrow.Author.Tests.{ltb-true, ltb-false}
use Rattle.text.specs.Text.{Line, no_line, lines}
use Rattle.numbers.proofs.NumberLaws.{signed_back}
use Rattle.numbers.specs.Numbers.{residue, signed}
use Rattle.instructions.specs.Kinds.{kind_names, kind_at}
use Rattle.instructions.proofs.ColumnLaws.{kind-small, one_place}
use Rattle.machine.specs.Machine.{Instruction}
use Rattle.machine_state.specs.HeldProgram.{line, line_of, lines_from}
use Rattle.file_format.specs.Layout.{lines_of_code, list}
use Rattle.file_format.specs.Rows.{op}
use Rattle.file_format.specs.Routine.{PriceList, instruction_of}
use Rattle.file_format.proofs.PassingLaws.{code-among}
use Rattle.file_parts.specs.HeldParts.{prices_on, KindsKept, code_left}
use Rattle.file_parts.proofs.FillLaws.{line-next, line-is}
use Rattle.file_parts.proofs.EntryLaws.{found, program-more, known_more}
use Rattle.file_parts.proofs.KindLaws.{slot-low, none_kept, price-small}
use Rattle.file_parts.proofs.PartLaws.{left_passed, count-put, lines-counted, known-counted, lines-priced}
use borrow.Author.Rules.{rules}
use Rattle.file_parts.proofs.put_lines.Statement.{statement}
use Rattle.file_parts.proofs.put_lines.Tie as tie

abbrev read : PriceList → List (List ℕ) → PriceList → Line → Instruction
read ks xs ps l = instruction_of ks xs ps l.text

abbrev invariant-loop-kinds : tie.invariant-loop-kinds
invariant-loop-kinds code₀ text places body keyed starts table codes lows highs kinds kind-cycles kind-words extras primitives cycles words kept₀ rest₀ line₀ n₀ code kept rest line' n =
    (length code ≡ 5131) × (lines rest ≡ drop n (lines body)) × (line' ≡ (get_or (lines rest) 0 no_line).text)
    × (length (lines_of_code (lines body)) ≡ n + length (code_left n (lines rest)))
    × (lines_from code n 11 ≡ take n (map (read (prices_on kinds kind-cycles kind-words) (list extras) (prices_on primitives cycles words)) (lines body)))
    × ((j : ℕ) → j < n → get_or code (11 + j * 5) 0 % 32 ≤ 22)
    × KindsKept (prices_on kinds kind-cycles kind-words) (list extras) kept

abbrev decreases-loop-kinds : tie.decreases-loop-kinds
decreases-loop-kinds code₀ text places body keyed starts table codes lows highs kinds kind-cycles kind-words extras primitives cycles words kept₀ rest₀ line₀ n₀ code kept rest line' n = length (lines_of_code (lines body)) - n

-- ---- places: the last line of prices, the tables and the start before it; and in a turn, where it begins, where its line is cut, where its
-- kind's price is found, where it ends

abbrev tables : tie.After-line_in-words invariant-loop-kinds decreases-loop-kinds → tie.After-range_highs-highs invariant-loop-kinds decreases-loop-kinds
tables c = c.before.before.before.before.before.before.before

abbrev begun : tie.After-range_highs-highs invariant-loop-kinds decreases-loop-kinds → tie.Start invariant-loop-kinds decreases-loop-kinds
begun c = c.before.before.before.before.before.before.before.before

abbrev turn : tie.After-cut_code-cut invariant-loop-kinds decreases-loop-kinds → tie.In-loop-kinds invariant-loop-kinds decreases-loop-kinds
turn c = c.before.before.before.before

abbrev cut : tie.After-find_price-slot invariant-loop-kinds decreases-loop-kinds → tie.After-cut_code-cut invariant-loop-kinds decreases-loop-kinds
cut c = c.before.before

abbrev priced : tie.After-entry_of-entry invariant-loop-kinds decreases-loop-kinds → tie.After-find_price-slot invariant-loop-kinds decreases-loop-kinds
priced c = c.before.before.before.before.before.before.before

-- ---- the loop

loop-holds : tie.Need-loop-kinds-init invariant-loop-kinds decreases-loop-kinds
unfolding lines_from code_left
loop-holds c = ((begun (tables c.before)).requires.0, refl, c.first_line-line.ensures, omega arith, refl, λ j h. absurd (omega arith), none_kept _ _)

is-code-requires : tie.Need-is_code-requires invariant-loop-kinds decreases-loop-kinds
is-code-requires c κs = c.loop-kinds.invariant.2

-- a turn: that a code line is left, the kind that its OP names, and its price
module _ (c : tie.In-loop-kinds invariant-loop-kinds decreases-loop-kinds) where
  abbrev at : tie.At-loop-kinds invariant-loop-kinds decreases-loop-kinds
  at = c.before.before

  abbrev start : tie.Start invariant-loop-kinds decreases-loop-kinds
  start = begun (tables at.before.before)

  some : 0 < length (code_left at.loop-kinds.n (lines at.loop-kinds.rest.now))
  some = ltb-true 0 (length (code_left at.loop-kinds.n (lines at.loop-kinds.rest.now))) (sym c.is_code.ensures ∙ c.loop-kinds-test.true)

  few : at.loop-kinds.n < 1024
  few = omega (arith, at.loop-kinds.invariant.3, some, start.requires.2)

  among : at.loop-kinds.n < length (lines start.args.body.now)
  among = omega (arith, at.loop-kinds.invariant.3, some, code-among (lines start.args.body.now))

slice-aggregate-cut-code : tie.Need-slice_bounds-cut_code-end invariant-loop-kinds decreases-loop-kinds
slice-aggregate-cut-code c = let t = (tables (at c.before.before.before).before.before).before.before.before in search (t.all_names-table.type_inv, t.all_names-table.ensures, rules)

cut-code-requires : tie.Need-cut_code-cut-requires invariant-loop-kinds decreases-loop-kinds
cut-code-requires c κs =
    let t = tables (at c.before.before.before).before.before in
    (t.keyed_kinds-keyed.ensures, t.name_starts-starts.ensures, t.all_names-table.ensures)

find-price-requires : tie.Need-find_price-slot-requires invariant-loop-kinds decreases-loop-kinds
find-price-requires c κs = (c.cut_code-cut.ensures, (at (turn c.before)).loop-kinds.invariant.6)

kind-low : (c : tie.After-index_of-k invariant-loop-kinds decreases-loop-kinds) → c.index_of-k.result < 61
kind-low c =
    let w = op (at (turn (cut c.before))).loop-kinds.line.now in
    omega (arith, found kind_names w w _ c.index_of-k.ensures (cut c.before).cut_code-cut.ensures.kind refl, kind-small w)

argument-in-requires : tie.Need-argument_in-takes-requires invariant-loop-kinds decreases-loop-kinds
argument-in-requires c κs =
    let k = c in
    let t = tables (at (turn (cut k.before.before.before.before))).before.before in
    ((t.argument_codes-codes.ensures, t.range_lows-lows.ensures, t.range_highs-highs.ensures), λ j e. rw (one_place refl e) at (kind-low k.before.before.before))

entry-of-requires : tie.Need-entry_of-entry-requires invariant-loop-kinds decreases-loop-kinds
entry-of-requires c κs =
    let k = c in
    let p = k in
    let low = slot-low _ _ (cut p.before.before.before.before.before.before).cut_code-cut.ensures.kind p.find_price-slot.ensures.0 in
    let small = price-small p.find_price-slot.ensures.1.0 in
    (((cut p.before.before.before.before.before.before).cut_code-cut.ensures, c.argument_in-takes.ensures _ refl ∙ ap (λ i. (kind_at i).argument) k.index_of-k.ensures), (omega arith, small.0, small.1))

put-entry-requires : tie.Need-put_entry-requires invariant-loop-kinds decreases-loop-kinds
put-entry-requires c κs = few (turn (cut (priced c.before)))

after-line-requires : tie.Need-after_line-next-requires invariant-loop-kinds decreases-loop-kinds
after-line-requires c κs = ap length (at (turn (cut (priced c.before.before)))).loop-kinds.invariant.2

add-n : tie.Need-overflow_add-n invariant-loop-kinds decreases-loop-kinds
add-n c = let f = few (turn (cut (priced c.before.before.before.before))) in search rules

loop-less : tie.Need-loop-kinds-smaller invariant-loop-kinds decreases-loop-kinds
loop-less c =
    let t = turn (cut (priced c.before.before.before.before)) in
    omega (arith, (at t).loop-kinds.invariant.3, some t)

loop-again : tie.Need-loop-kinds-preserved invariant-loop-kinds decreases-loop-kinds
loop-again c =
    let entry = c in
    let p = priced entry.before.before.before.before in
    let t = turn (cut p) in
    let l = (at t).loop-kinds in
    let a = (at t).before.before in
    let ls = lines (start t).args.body.now in
    let ks = prices_on a.line_in-kinds.result.now a.line_in-kind_cycles.result.now a.line_in-kind_words.result.now in
    let xs = list a.line_in-extras.result.now in
    let ps = prices_on a.line_in-primitives.result.now a.line_in-cycles.result.now a.line_in-words.result.now in
    let x = entry.entry_of-entry.result in
    let e = entry.entry_of-entry.ensures ks xs p.find_price-slot.ensures.1.0 in
    let fitting : SFits w32 x.operand = search (entry.entry_of-entry.type_inv, rules) in
    let o : signed 32 (residue 32 x.operand) ≡ x.operand = signed_back 32 (omega arith) x.operand fitting.sfits in
    let g =
    ap (λ (z : ℤ). line_of (line x.code z x.cycles x.words x.extra)) o
    ∙ e.0 ∙ ap (instruction_of ks xs ps) l.invariant.2 ∙ line-is (read ks xs ps) ls (lines l.rest.now) l.n l.invariant.1 in
    let put = c.put_entry.ensures in
    let next = c.after_line-next.ensures.0 in
    let left : length (code_left l.n (lines l.rest.now)) ≡ suc (length (code_left (l.n + 1) (lines c.after_line-next.result.now))) =
    left_passed l.n (lines l.rest.now) (some t) ∙ ap₂ (λ n ms. suc (length (code_left n ms))) (sym (add-one l.n)) (sym next) in (
      ap length put ∙ simp length-set l.invariant.0,
      line-next ls (lines l.rest.now) _ l.n l.invariant.1 next,
      c.first_line-line-in-loop-kinds.ensures,
      omega (arith, l.invariant.3, left),
      subst (λ ws. lines_from ws (l.n + 1) 11 ≡ take (l.n + 1) (map (read ks xs ps) ls)) (sym put) (program-more (read ks xs ps) ls l.code l.n _ _ _ _ _ l.invariant.0 (few t) (among t) g l.invariant.4),
      subst (λ ws. (j : ℕ) → j < l.n + 1 → get_or ws (11 + j * 5) 0 % 32 ≤ 22) (sym put) (known_more (read ks xs ps) ls l.code l.n _ _ _ _ _ l.invariant.0 (few t) e.1 l.invariant.5),
      p.find_price-slot.ensures.1.1,
    )

-- ---- the end: all code lines are passed

all : (c : tie.After-loop-kinds invariant-loop-kinds decreases-loop-kinds) → c.loop-kinds.n ≡ length (lines_of_code (lines (begun (tables c.before.before.before.before)).args.body.now))
all c =
    let l = c.loop-kinds in
    let none = ltb-false 0 (length (code_left l.n (lines l.rest.now))) (sym c.is_code.ensures ∙ c.loop-kinds-test.false) in
    omega (arith, l.invariant.3, none)

cast-code : tie.Need-overflow_cast-code invariant-loop-kinds decreases-loop-kinds
cast-code c = omega (arith, all c, (begun (tables c.before.before.before.before)).requires.2)

returns : tie.Need-returns invariant-loop-kinds decreases-loop-kinds
returns c =
    let l = c.loop-kinds in
    let a = c in
    let s = begun (tables a.before.before.before.before.before) in
    let ls = lines s.args.body.now in
    let ws = l.code in (
      (simp length-set l.invariant.0, count-put ws l.n l.invariant.0 ∙ all c.before),
      (
        lines-counted ws l.n l.invariant.0 _ ls (all c.before) l.invariant.4
            ∙ lines-priced (lines s.args.text.now) (lines_of_code ls) a.line_in-kinds.ensures a.line_in-kind_cycles.ensures a.line_in-kind_words.ensures a.line_in-extras.ensures a.line_in-primitives.ensures a.line_in-cycles.ensures a.line_in-words.ensures,
        (known-counted ws l.n l.invariant.0 l.invariant.5, l.invariant.1 ∙ ap (λ n. drop n ls) (all c.before)),
      ),
    )

pub put_lines_spec : {M : Type 1} → statement M
put_lines_spec =
    tie.close
    (tie.spec
    invariant-loop-kinds
    decreases-loop-kinds
    (λ c κs. search rules)
    (λ c κs. search rules)
    (λ c κs. search rules)
    (λ c κs. search rules)
    (λ c κs. search rules)
    (λ c κs. search rules)
    (λ c κs. search rules)
    (λ c κs. search rules)
    (λ c κs. search rules)
    (λ c κs. search rules)
    (λ c κs. search rules)
    (λ c κs. search rules)
    (λ c κs. search rules)
    (λ c κs. search rules)
    loop-holds
    is-code-requires
    slice-aggregate-cut-code
    cut-code-requires
    find-price-requires
    (λ c κs. search rules)
    argument-in-requires
    entry-of-requires
    put-entry-requires
    after-line-requires
    (λ c κs. search rules)
    add-n
    loop-less
    loop-again
    cast-code
    (λ c. search rules)
    returns)
