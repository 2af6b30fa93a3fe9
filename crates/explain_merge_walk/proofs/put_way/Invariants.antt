-- The loop of `explain_merge_walk::put_way`: what is written and the lines that are left are the whole (`Writing`), and the cursor stands at its
-- line.
use Rattle.text.specs.Text.{lines}
use Rattle.explain_lines.specs.Held.{Stands}
use Rattle.explain_merge_walk.specs.HeldLasts.{way_text}
use Rattle.explain_merge_walk.proofs.LineLaws.{Writing}
use Rattle.explain_merge_walk.proofs.put_way.Given as goal

abbrev pub invariant-loop-goal : goal.invariant-loop-goal
invariant-loop-goal l = record {
  writing : Writing (lines l.body) l.kept l.goals l.initial.out l.at (way_text (lines l.body) 0 0 l.kept l.goals) l.out l.e l.spent l.sum l.goal-index;
  cursor : Stands l.body l.cursor;
}
