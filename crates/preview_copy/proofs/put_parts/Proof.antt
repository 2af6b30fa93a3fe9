-- `preview_copy::put_parts` meets its contract: the parts of the copy one after the other. Assumes nothing.
use Prim.Native.Nat.{zero-le}
use Rattle.text.specs.Text.{bytes}
use Rattle.text_decimals.proofs.MemoryLaws.{wrote_none, wrote-more, wrote-start}
use borrow.Author.Rules.{rules}
use Rattle.preview_copy.proofs.put_parts.Statement.{statement}
use Rattle.preview_copy.proofs.put_parts.Tie as tie

returns : tie.Need-returns
returns c =
    let c6 = c in
    let c5 = c6 in
    let c4 = c5 in
    let c3 = c4 in
    let c2 = c3 in
    let c1 = c2 in
    let a = c1.args in
    let w0 = wrote_none a.out.now 0 zero-le in
    let w1 = wrote-more w0 a.before.now c1.put-a.ensures in
    let w2 = wrote-more w1 a.at.now c2.put-b.ensures in
    let w3 = wrote-more w2 (bytes " ") c3.put-c.ensures in
    let w4 = wrote-more w3 a.instruction.now c4.put-d.ensures in
    let w5 = wrote-more w4 (bytes "\n") c5.put-e.ensures in
    let w6 = wrote-more w5 a.after.now c6.put.ensures in
    wrote-start w6

pub put_parts_spec : {M : Type 1} → statement M
put_parts_spec =
    tie.close
    (tie.spec
    (λ c κs. search rules)
    (λ c κs. search rules)
    (λ c κs. search rules)
    (λ c κs. search rules)
    (λ c κs. search rules)
    (λ c κs. search rules)
    (λ c. search rules)
    returns)
