-- The goals of `merge_sweep::sweep_by`.
use mathlib.Core.Path.{◌∙◌}
use native.Mathlib.Omega.{arith}
use Rattle.machine_state.specs.HeldProgram.{first_address_of, lines_in, program_of, sizes_of}
use Rattle.machine_state.proofs.ProgramLaws.{code-count, code-first}
use Rattle.merge_sweep.proofs.SweepLaws.{begins, goes_on, ends, not-accepted, finishes, finishes-kept}
use Rattle.merge_sweep.proofs.sweep_by.Goals as goal

pub loop-j-init : goal.loop-j-init
loop-j-init c =
    let a = c.args in
    let q = c.requires in
    begins (program_of a.code.now) (sizes_of a.code.now) (first_address_of a.code.now) (lines_in a.code.now) a.rows.now a.start a.blocks (code-first a.code.now) (code-count a.code.now) q.code_bound.0 q.code_bound.1 q.rows.1 q.rows.0 q.program.1 q.program.2 q.program.3
    a.kept.now q.goals.0 q.goals.1

pub returns-in_default-clause-shows : goal.returns-in_default-clause-shows
returns-in_default-clause-shows c =
    let i = c.loop-j.invariant in
    let v = c.visit-p in
    ends i c.loop-j-test.true _ v.result _ c.in_default.is (v.ensures.moved i.tab i.report i.found i.agrees)

pub returns-in_default-clause-keeps : goal.returns-in_default-clause-keeps
returns-in_default-clause-keeps c =
    let i = c.loop-j.invariant in
    let v = c.visit-p in
    let shows = ends i c.loop-j-test.true _ v.result _ c.in_default.is (v.ensures.moved i.tab i.report i.found i.agrees) in
    λ q h. not-accepted v.result.found _ _ q c.in_default.is shows h

pub loop-j-preserved : goal.loop-j-preserved
loop-j-preserved c =
    let i = c.loop-j.invariant in
    let v = c.visit-p in
    goes_on i c.loop-j-test.true _ v.result _ v.ensures.ready_2 c.in-Ok.is (v.ensures.moved i.tab i.report i.found i.agrees)
    (v.auto.kept ∙ i.goals) (v.ensures.keeps i.tab i.kept i.agrees i.keeps)

pub returns-clause-shows : goal.returns-clause-shows
returns-clause-shows c = finishes c.loop-j.invariant (omega arith)

pub returns-clause-keeps : goal.returns-clause-keeps
returns-clause-keeps c = λ q h. finishes-kept c.loop-j.invariant (omega arith)
