-- The head is whole once the sizes of all eight blocks are filled in.
use Rattle.std.proofs.Common.{◌≡◌, length, arith, rules}
use Rattle.machine_state.proofs.Stack.{length-images}
use Rattle.file_parts.proofs.HeadLaws.{head-sizes}
use Rattle.file_parts.proofs.put_head.Goals as goal

pub returns-clause-head : goal.returns-clause-head
returns-clause-head c =
    let h = c.loop-k.invariant in
    let e : length c.args.sizes ≡ 8 = search (rules, length-images) in
    (h.first-is, head-sizes _ _ _ _ c.loop-k.k c.loop-k.code h (omega arith) e, h.blocks-are)
