-- `file_values::span_cell` meets its contract. Assumes nothing.
use mathlib.Core.Path.{◌≡◌, sym, ap₂, subst, ◌∙◌}
use lib.IntN.{ℤ}
use mir.Syntax.{w32, w64}
use mir.Val.{SFits}
use mir.ValLaws.{to_z-of_z}
use Rattle.numbers.specs.declared.Range.{Range}
use Rattle.numbers.specs.Numbers.{numbers}
use Rattle.numbers.proofs.SignedLaws.{read}
use Rattle.cells.specs.Cells.{between}
use Rattle.file_format.specs.Routine.{inside}
use Rattle.file_values.proofs.ValueLaws.{inside-numbers-fits}
use borrow.Author.Rules.{rules}
use Rattle.file_values.proofs.span_cell.Goals as goal

-- a number that is read, or 0
held : (z : ℤ) {r : Range} {x : ℤ} → SFits w64 z → SFits w64 x → x ≡ inside r (read w64 z) → r ≡ numbers → read w64 x ≡ inside numbers z
held z f g e p = to_z-of_z w64 _ g ∙ e ∙ ap₂ inside p (to_z-of_z w64 z f)

held_fits : (z : ℤ) {x : ℤ} → x ≡ inside numbers z → SFits w32 x
held_fits z e = subst (SFits w32) (sym e) (inside-numbers-fits z)

held-read : (z : ℤ) {x : ℤ} → x ≡ inside numbers z → read w32 x ≡ inside numbers z
held-read z e = to_z-of_z w32 _ (held_fits z e) ∙ e

pub overflow_cast-l : goal.overflow_cast-l
overflow_cast-l c =
    held_fits c.args.lo (held c.args.lo c.ranges.lo (search rules) c.inside-l.ensures c.number_range.ensures)

pub overflow_cast-h : goal.overflow_cast-h
overflow_cast-h c =
    held_fits c.args.hi (held c.args.hi c.ranges.hi (search rules) c.inside-h.ensures c.number_range-2.ensures)

pub returns : goal.returns
returns c =
    c.between.ensures
    ∙ ap₂ between
    (held-read c.args.lo (held c.args.lo c.ranges.lo (search rules) c.inside-l.ensures c.number_range.ensures))
    (held-read c.args.hi (held c.args.hi c.ranges.hi (search rules) c.inside-h.ensures c.number_range-2.ensures))
