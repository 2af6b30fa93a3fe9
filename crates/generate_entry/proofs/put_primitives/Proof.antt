-- `generate_entry::put_primitives` meets its contract. Assumes nothing.
use mathlib.Core.Bool.{false}
use native.Mathlib.Omega.{arith}
use Rattle.text_decimals.proofs.MemoryLaws.{wrote_none, wrote-more}
use Rattle.text.specs.Text.{bytes}
use Rattle.generate_file.specs.declared.Column.TheVariants.{Cycles, Words}
use Rattle.generate_file.specs.Words.{row}
use Rattle.generate_file.specs.File.{later, primitive_prices}
use borrow.Author.Rules.{rules}
use Rattle.generate_entry.proofs.put_primitives.Statement.{statement}
use Rattle.generate_entry.proofs.put_primitives.Tie as tie

returns : tie.Need-returns
unfolding primitive_prices
returns c =
    let p3 = c in
    let p2 = p3 in
    let p1 = p2 in
    let s = p1 in
    let seed = s.args.seed in
    let w0 = wrote_none s.args.out.now s.args.at (omega (arith, s.requires.2)) in
    let w1 = wrote-more w0 (bytes "READ WRITE CLOCK NOISE\n") p1.put-l7.ensures in
    let w2 = wrote-more w1 (row Cycles 4 false (later seed 185)) (p2.put_values-l8.ensures.0, p2.put_values-l8.ensures.1.0) in
    let w3 = wrote-more w2 (row Words 4 false (later seed 189)) (p3.put_values.ensures.0, p3.put_values.ensures.1.0) in
    (w3.ends, w3.holds)

pub put_primitives_spec : {M : Type 1} → statement M
put_primitives_spec =
    tie.close
    (tie.spec
    (λ c κs. search rules)
    (λ c κs. search rules)
    (λ c κs. search rules)
    (λ c. search rules)
    returns)
