-- `merge_sweep::found` meets its contract. Assumes nothing.
use mathlib.Core.Path.{◌≡◌}
use lib.ListN.{get_or}
use Rattle.merge_sweep.proofs.PassLaws.{came-nothing, came-way, came-unlike}
use borrow.Author.Rules.{rules}
use Rattle.merge_sweep.proofs.found.Statement.{statement}
use Rattle.merge_sweep.proofs.found.Tie as tie

returns : tie.Need-returns-then-mark-eq0
returns c =
    let a = c.args in
    let e : get_or a.row.now 0 0 ≡ 0 = c.if-mark-eq0.true in
    (λ ns. came-nothing ns a.at a.row.now a.w e, λ ns. tt)

returns-2 : tie.Need-returns-then-mark-eq1
returns-2 c =
    let a = c.args in
    let e : get_or a.row.now 0 0 ≡ 1 = c.if-mark-eq1.true in
    let t = c.take-held in
    (λ ns. came-way ns a.at a.row.now t.result e (t.ensures.0 ns), λ ns. (t.ensures.1.1, (t.ensures.1.0.0, t.ensures.1.0.1 ns)))

returns-3 : tie.Need-returns
returns-3 c =
    let a = c.args in
    let n : get_or a.row.now 0 0 ≡ 0 → ⊥ = search rules in
    let m : get_or a.row.now 0 0 ≡ 1 → ⊥ = search rules in
    (λ ns. came-unlike ns a.at a.row.now a.w n m, λ ns. tt)

pub found_spec : {M : Type 1} → statement M
found_spec = tie.close (tie.spec (λ c. search rules) returns (λ c κs. search rules) returns-2 returns-3)
