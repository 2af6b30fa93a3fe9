-- `generate_entry::put_kinds` meets its contract. Assumes nothing.
use mathlib.Core.Bool.{false}
use native.Mathlib.Omega.{arith}
use Rattle.text_decimals.proofs.MemoryLaws.{wrote_none, wrote-more}
use Rattle.generate_file.specs.declared.Column.TheVariants.{Cycles, Words, Extras}
use Rattle.generate_file.specs.Words.{row}
use Rattle.generate_file.specs.File.{later, kind_prices}
use borrow.Author.Rules.{rules}
use Rattle.generate_entry.proofs.put_kinds.Statement.{statement}
use Rattle.generate_entry.proofs.put_kinds.Tie as tie

returns : tie.Need-returns
unfolding kind_prices
returns c =
    let p3 = c in
    let p2 = p3 in
    let p1 = p2 in
    let s = p1 in
    let seed = s.args.seed in
    let w0 = wrote_none s.args.out.now s.args.at (omega (arith, s.requires.2)) in
    let w1 = wrote-more w0 (row Cycles 61 false (later seed 2)) (p1.put_values-l4.ensures.0, p1.put_values-l4.ensures.1.0) in
    let w2 = wrote-more w1 (row Words 61 false (later seed 63)) (p2.put_values-l5.ensures.0, p2.put_values-l5.ensures.1.0) in
    let w3 = wrote-more w2 (row Extras 61 false (later seed 124)) (p3.put_values.ensures.0, p3.put_values.ensures.1.0) in
    (w3.ends, (w3.holds, omega (arith, p3.put_values.ensures.1.1, p2.put_values-l5.ensures.1.1, p1.put_values-l4.ensures.1.1)))

pub put_kinds_spec : {M : Type 1} → statement M
put_kinds_spec =
    tie.close
    (tie.spec (λ c κs. search rules) (λ c κs. search rules) (λ c κs. search rules) (λ c. search rules) returns)
