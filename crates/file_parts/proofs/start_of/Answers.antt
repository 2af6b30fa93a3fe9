-- A turn puts one cell more in its place, and the stack is the cells after the first once all are.
use Rattle.std.proofs.Common.{◌≡◌, ℕ, ◌+◌, ◌-◌, pos, get_or, drop, length-set, length-drop, refl, ap, ◌∙◌, arith}
use Rattle.cells.specs.Cells.{exactly}
use Rattle.file_format.specs.Layout.{list}
use Rattle.file_format.specs.Routine.{cells_of}
use Rattle.file_parts.proofs.FillLaws.{fill-past, fill-all}
use Rattle.file_parts.proofs.WordLaws.{cells-length, start_is}
use Rattle.file_parts.proofs.start_of.Goals as goal
use Rattle.file_parts.proofs.start_of.Goals.{then-count-eq0, else-count-eq0}

pub loop-i-init : goal.loop-i-init
loop-i-init c =
    let e = cells-length (list c.args.values.now) in
    elim c.if-count-eq0.branch [
      | then-count-eq0 w ↦ record { long = refl; rest = omega arith; seam = omega arith; filled = refl }
      | else-count-eq0 w ↦ record { long = refl; rest = omega arith; seam = omega arith; filled = refl }
    ]

pub loop-i-preserved : goal.loop-i-preserved
loop-i-preserved c =
    let l = c.loop-i in
    let cs = cells_of (list c.args.values.now) in
    let e : l.i + 1 ≡ 1 + l.i = omega arith in
    record {
      long = rw length-set l.invariant.long;
      rest = l.invariant.rest;
      seam = l.invariant.seam;
      filled = fill-past l.stack cs (64 - c.if-count-eq0.n) 1 l.i _ (exactly (pos 0)) (omega arith) (omega arith) (c.cell_at-cell.ensures ∙ ap (λ (j : ℕ). get_or cs j (exactly (pos 0))) e) l.invariant.filled;
    }

pub returns-clause-start : goal.returns-clause-start
returns-clause-start c =
    let l = c.loop-i in
    let cs = cells_of (list c.args.values.now) in
    start_is c.args.first cs _ _ c.cell_at-accu.ensures (fill-all _ (drop 1 cs) l.i (rw length-drop (omega arith)) (rw length-drop (omega arith)) l.invariant.filled)
