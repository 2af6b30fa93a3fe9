-- `text::line_ends` meets its contract. Assumes nothing.
use mathlib.Core.Path.{sym}
use Rattle.text.proofs.LineLaws.{line-length, line-ended}
use Rattle.text.proofs.line_ends.Statement.{statement}
use Rattle.text.proofs.line_ends.Tie as tie

returns : tie.Need-returns
returns c = sym (line-ended _ _ (line-length _ c.requires))

pub line_ends_spec : {M : Type 1} → statement M
line_ends_spec = tie.close (tie.spec returns)
