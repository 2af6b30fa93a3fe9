-- `routine_figures::swept` meets its contract. Assumes nothing.
use native.Mathlib.Omega.{arith}
use mathlib.Core.Path.{◌≡◌}
use lib.ListN.{length}
use Rattle.machine_state.proofs.Stack.{length-images}
use Rattle.routine_figures.proofs.FigureLaws.{swept-shareable}
use borrow.Author.Rules.{rules}
use Rattle.routine_figures.proofs.swept.Statement.{statement}
use Rattle.routine_figures.proofs.swept.Tie as tie

places : (s : tie.Start) → length s.args.routine.blocks ≡ 128
places s = search (rules, length-images)

merge-requires : tie.Need-merge-requires
merge-requires c κs =
    let s = c in
    let at = s.requires.placed in
    ((s.requires.program, s.requires.formed, places s.before.before.before.before, s.requires.numeric), (omega arith, omega arith))

returns : tie.Need-returns
returns c = let s = c in (c.merge.ensures.0, swept-shareable _ c.merge.ensures.1)

pub swept_spec : {M : Type 1} → statement M
swept_spec = tie.close (tie.spec merge-requires returns)
