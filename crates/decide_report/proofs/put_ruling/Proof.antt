-- `decide_entry::put_ruling` meets its contract. Assumes nothing.
use mathlib.Core.Path.{ap}
use native.Mathlib.Omega.{arith}
use lib.ListN.{length}
use Rattle.decide_report.proofs.DecisionLaws.{words-over, words-fit-first, words-undecided, words-fit-merging, words-undecided-split, words-fit-split}
use borrow.Author.Rules.{rules}
use Rattle.decide_report.proofs.put_ruling.Statement.{statement}
use Rattle.decide_report.proofs.put_ruling.Tie as tie

put-requires : tie.Need-put-requires
put-requires c κs =
    let s = c in
    let e = words-over s.args.source s.args.tick s.args.cycles c.in-First.is c.if-tick-cycles.true in
    omega (arith, s.requires, ap length e)

put-requires-2 : tie.Need-put-requires-else-tick-cycles
put-requires-2 c κs =
    let s = c in
    let e = words-fit-first s.args.source s.args.tick s.args.cycles c.in-First.is c.if-tick-cycles.false in
    omega (arith, s.requires, ap length e)

put-requires-3 : tie.Need-put-requires-then-tick-cycles-2
put-requires-3 c κs =
    let s = c in
    let e = words-undecided s.args.source s.args.tick s.args.cycles c.in-Merging.is c.if-tick-cycles-2.true in
    omega (arith, s.requires, ap length e)

put-requires-4 : tie.Need-put-requires-else-tick-cycles-2
put-requires-4 c κs =
    let s = c in
    let e = words-fit-merging s.args.source s.args.tick s.args.cycles c.in-Merging.is c.if-tick-cycles-2.false in
    omega (arith, s.requires, ap length e)

put-requires-5 : tie.Need-put-requires-then-tick-cycles-3
put-requires-5 c κs =
    let s = c in
    let e = words-undecided-split s.args.source s.args.tick s.args.cycles c.in-Split.is c.if-tick-cycles-3.true in
    omega (arith, s.requires, ap length e)

put-requires-6 : tie.Need-put-requires-else-tick-cycles-3
put-requires-6 c κs =
    let s = c in
    let e = words-fit-split s.args.source s.args.tick s.args.cycles c.in-Split.is c.if-tick-cycles-3.false in
    omega (arith, s.requires, ap length e)

returns : tie.Need-returns-then-tick-cycles
returns c =
    let s = c in
    rw (words-over s.args.source s.args.tick s.args.cycles c.in-First.is c.if-tick-cycles.true) c.put.ensures

returns-2 : tie.Need-returns-else-tick-cycles
returns-2 c =
    let s = c in
    rw (words-fit-first s.args.source s.args.tick s.args.cycles c.in-First.is c.if-tick-cycles.false) c.put-else-tick-cycles.ensures

returns-3 : tie.Need-returns-then-tick-cycles-2
returns-3 c =
    let s = c in
    rw (words-undecided s.args.source s.args.tick s.args.cycles c.in-Merging.is c.if-tick-cycles-2.true) c.put-then-tick-cycles-2.ensures

returns-4 : tie.Need-returns-else-tick-cycles-2
returns-4 c =
    let s = c in
    rw (words-fit-merging s.args.source s.args.tick s.args.cycles c.in-Merging.is c.if-tick-cycles-2.false) c.put-else-tick-cycles-2.ensures

returns-5 : tie.Need-returns-then-tick-cycles-3
returns-5 c =
    let s = c in
    rw (words-undecided-split s.args.source s.args.tick s.args.cycles c.in-Split.is c.if-tick-cycles-3.true) c.put-then-tick-cycles-3.ensures

returns-6 : tie.Need-returns-else-tick-cycles-3
returns-6 c =
    let s = c in
    rw (words-fit-split s.args.source s.args.tick s.args.cycles c.in-Split.is c.if-tick-cycles-3.false) c.put-else-tick-cycles-3.ensures

pub put_ruling_spec : {M : Type 1} → statement M
put_ruling_spec =
    tie.close
    (tie.spec
    (λ c. search rules)
    put-requires
    put-requires-2
    (λ c. search rules)
    put-requires-3
    put-requires-4
    (λ c. search rules)
    put-requires-5
    put-requires-6
    (λ c. search rules)
    returns
    (λ c. search rules)
    returns-2
    (λ c. search rules)
    returns-3
    (λ c. search rules)
    returns-4
    (λ c. search rules)
    returns-5
    (λ c. search rules)
    returns-6)
