-- `merge_rows::meet` meets its contract. Assumes nothing.
use mathlib.Core.Path.{◌≡◌, sym, ap, ◌∙◌}
use mathlib.Core.Bool.{Bool}
use native.Mathlib.Omega.{arith}
use lib.ListN.{length, length-set}
use Rattle.machine_state.specs.HeldProgram.{sizes_of}
use Rattle.merge_rows.specs.HeldRows.{of_states}
use Rattle.merge_rows.proofs.RowLaws.{row-unlike, row-met}
use borrow.Author.Rules.{rules}
use Rattle.merge_rows.proofs.meet.Statement.{statement}
use Rattle.merge_rows.proofs.meet.Tie as tie

returns : tie.Need-returns-then-not-merge_states
returns c =
    let at-merge-states = c in
    let start = at-merge-states in
    let m = at-merge-states.merge_states in
    let n : length m.new.row ≡ 197 = omega arith in
    λ x y.
    row-unlike _ x m.new.row _ _ n
    (ap (λ (b : Bool). of_states (sizes_of start.args.code.now) x b m.new.row) (sym (c.if-not-merge_states.true)) ∙ m.ensures.0 x y)

slice-write-row-3 : tie.Need-bounds-row-3-2
slice-write-row-3 c = simp length-set (omega arith)

returns-2 : tie.Need-returns
returns-2 c =
    let at-larger = c in
    let at-if1 = at-larger in
    let at-merge-states = at-if1 in
    let start = at-merge-states in
    let a = start.args in
    let m = at-merge-states.merge_states in
    let n : length m.new.row ≡ 197 = omega arith in
    λ x y.
    row-met _ x a.row.now m.new.row a.came.now _ _ _ n m.ensures.1 start.requires.3 at-larger.max-cycles.ensures c.max-words.ensures
    (ap (λ (b : Bool). of_states (sizes_of start.args.code.now) x b m.new.row) (sym (at-if1.if-not-merge_states.false)) ∙ m.ensures.0 x y)

pub meet_spec : {M : Type 1} → statement M
meet_spec =
    tie.close
    (tie.spec
    (λ c κs. search rules)
    (λ c. search rules)
    (λ c. search rules)
    returns
    (λ c. search rules)
    (λ c. search rules)
    (λ c κs. search rules)
    (λ c. search rules)
    (λ c. search rules)
    (λ c κs. search rules)
    (λ c. search rules)
    slice-write-row-3
    (λ c. search rules)
    returns-2)
