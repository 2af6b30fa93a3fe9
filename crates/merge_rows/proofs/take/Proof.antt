-- `merge_rows::take` meets its contract. Assumes nothing.
use Prim.Native.Nat.{◌≤◌}
use mathlib.Core.Path.{refl}
use Rattle.merge_rows.proofs.RowLaws.{unused-most, take-holds, take-formed, take-numeric}
use borrow.Author.Rules.{rules}
use Rattle.merge_rows.proofs.take.Statement.{statement}
use Rattle.merge_rows.proofs.take.Tie as tie

-- at most 64 places are unused
few : (u : tie.After-unused-free) → u.unused-free.result ≤ 64
few u = rw u.unused-free.ensures (unused-most _)

decode-stack-requires : tie.Need-decode_stack-stack-requires
decode-stack-requires c κs = search (rules, few c.before)

returns : tie.Need-returns
returns c =
    let d = c in
    let s = d in
    let u = s in
    let e = u in
    let start = e in
    let a = start.args in
    let free = u.unused-free.ensures in
    let stack = s.decode_stack-stack.ensures in
    let blocks = d.decode_fields-blocks.ensures in (
      λ ns. take-holds a.at a.row.now _ _ _ _ start.requires free stack.0 stack.1 blocks ns e.decode-accu.ensures,
      (
        (
          take-formed a.at a.row.now _ _ _ _ start.requires free stack.0 stack.1 blocks,
          λ ns. take-numeric a.at a.row.now _ _ _ _ start.requires free stack.0 stack.1 blocks ns e.decode-accu.ensures,
        ),
        refl,
      ),
    )

pub take_spec : {M : Type 1} → statement M
take_spec =
    tie.close
    (tie.spec
    (λ c. search rules)
    (λ c κs. search rules)
    (λ c. search rules)
    (λ c κs. search rules)
    (λ c. search (rules, few c))
    (λ c. search (rules, few c))
    (λ c. search (rules, few c))
    (λ c. search (rules, few c))
    (λ c. search (rules, few c))
    decode-stack-requires
    (λ c. search rules)
    (λ c. search rules)
    (λ c. search rules)
    (λ c κs. search rules)
    (λ c. search rules)
    (λ c. search rules)
    returns)
