-- `generate_entry::put_prices` meets its contract. Assumes nothing.
use native.Mathlib.Omega.{arith}
use Rattle.text_decimals.proofs.MemoryLaws.{wrote_none, wrote-more}
use Rattle.generate_file.specs.File.{limit_lines, kind_prices, primitive_prices, prices}
use borrow.Author.Rules.{rules}
use Rattle.generate_entry.proofs.put_prices.Statement.{statement}
use Rattle.generate_entry.proofs.put_prices.Tie as tie

returns : tie.Need-returns
unfolding prices
returns c =
    let p3 = c in
    let p2 = p3 in
    let p1 = p2 in
    let s = p1 in
    let seed = s.args.seed in
    let w0 = wrote_none s.args.out.now 0 (omega arith) in
    let w1 = wrote-more w0 (limit_lines seed) (p1.put_limits-a.ensures.0, p1.put_limits-a.ensures.1.0) in
    let w2 = wrote-more w1 (kind_prices seed) (p2.put_kinds-b.ensures.0, p2.put_kinds-b.ensures.1.0) in
    let w3 = wrote-more w2 (primitive_prices seed) p3.put_primitives.ensures in
    (w3.ends, w3.holds)

pub put_prices_spec : {M : Type 1} → statement M
put_prices_spec =
    tie.close
    (tie.spec (λ c κs. search rules) (λ c κs. search rules) (λ c κs. search rules) (λ c. search rules) returns)
