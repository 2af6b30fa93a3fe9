-- The goal of `explain_lines::seek`.
use Rattle.explain_lines.proofs.CursorLaws.{stands-next}
use Rattle.explain_lines.proofs.seek.Goals as goal

pub loop-preserved : goal.loop-preserved
loop-preserved c = stands-next c.loop.invariant c.line_after-byte.ensures
