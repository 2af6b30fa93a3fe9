-- `merge_rows::join` meets its contract. Assumes nothing.
use mathlib.Core.Path.{◌≡◌, sym, ap, ◌∙◌}
use lib.ListN.{get_or}
use Rattle.merge_theory.specs.Merge.{Slot, join}
use Rattle.machine_state.specs.HeldProgram.{sizes_of}
use Rattle.merge_rows.specs.HeldRows.{arrival_of}
use Rattle.merge_rows.proofs.RowLaws.{slot-empty, slot_held, slot-unlike, first-joined, next-joined, other-joined}
use borrow.Author.Rules.{rules}
use Rattle.merge_rows.proofs.join.Statement.{statement}
use Rattle.merge_rows.proofs.join.Tie as tie

returns : tie.Need-returns-then-mark-eq0
returns c =
    let at-put = c in
    let start = at-put in
    let a = start.args in
    let p = at-put.put in
    let ns = sizes_of a.code.now in
    let at = a.w.state.at in
    let m : get_or a.row.now 0 0 ≡ 0 = search rules in
    slot_held ns at p.new.row p.ensures.0
    ∙ first-joined _ _ (arrival_of ns a.w) p.ensures.1
    ∙ ap (λ (s : Slot). join s (arrival_of ns a.w)) (sym (slot-empty ns at a.row.now m))

returns-2 : tie.Need-returns-then-mark-eq1
returns-2 c =
    let at_meet = c in
    let at-put2 = at_meet in
    let at-if2 = at-put2 in
    let start = at-if2 in
    let a = start.args in
    let p = at-put2.put-then-mark-eq1 in
    let ns = sizes_of a.code.now in
    let at = a.w.state.at in
    let m : get_or a.row.now 0 0 ≡ 1 = at-if2.if-mark-eq1.true in
    at_meet.meet.ensures at at
    ∙ next-joined _ _ _ _ (arrival_of ns a.w) p.ensures.1
    ∙ ap (λ (s : Slot). join s (arrival_of ns a.w)) (sym (slot_held ns at a.row.now m))

returns-3 : tie.Need-returns-else-mark-eq1
returns-3 c =
    let a = c.args in
    let n : get_or a.row.now 0 0 ≡ 0 → ⊥ = search rules in
    let m : get_or a.row.now 0 0 ≡ 1 → ⊥ = search rules in
    other-joined _ _ (slot-unlike (sizes_of a.code.now) a.w.state.at a.row.now n m)

pub join_spec : {M : Type 1} → statement M
join_spec =
    tie.close
    (tie.spec
    (λ c. search rules)
    (λ c κs. search rules)
    (λ c. search rules)
    returns
    (λ c. search rules)
    (λ c κs. search rules)
    (λ c. search rules)
    (λ c κs. search rules)
    (λ c. search rules)
    returns-2
    returns-3)
