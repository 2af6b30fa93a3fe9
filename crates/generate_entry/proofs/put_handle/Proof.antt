-- `generate_entry::put_handle` meets its contract. Assumes nothing.
use Prim.Native.Nat.{◌%◌}
use native.Mathlib.Omega.{arith}
use Rattle.text.specs.Text.{bytes}
use Rattle.text_decimals.specs.Decimal.{decimal}
use Rattle.text_decimals.proofs.DecimalLaws.{decimal-length}
use Rattle.text_decimals.proofs.MemoryLaws.{wrote_none, wrote-more}
use Rattle.generate_file.specs.Words.{handle_word}
use borrow.Author.Rules.{rules}
use Rattle.generate_entry.proofs.put_handle.Statement.{statement}
use Rattle.generate_entry.proofs.put_handle.Tie as tie

put-decimal-requires : tie.Need-put_decimal-requires
put-decimal-requires c κs = let p = c in let s = p in omega (arith, s.requires, p.put-e.ensures.0, p.put-e.auto.out, decimal-length 1 (s.args.d % 2) (omega arith) (omega arith))

returns : tie.Need-returns
unfolding handle_word
returns c =
    let p2 = c in
    let p1 = p2 in
    let s = p1 in
    let w0 = wrote_none s.args.out.now s.args.at (omega (arith, s.requires)) in
    let w1 = wrote-more w0 (bytes "#") p1.put-e.ensures in
    let w2 = wrote-more w1 (decimal (s.args.d % 2)) p2.put_decimal.ensures in
    (w2.ends, w2.holds)

pub put_handle_spec : {M : Type 1} → statement M
put_handle_spec =
    tie.close
    (tie.spec
    (λ c κs. search rules)
    (λ c. search rules)
    put-decimal-requires
    (λ c. search rules)
    returns)
