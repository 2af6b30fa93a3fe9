-- `text::first_line` meets its contract. Assumes nothing.
use mathlib.Core.Path.{sym}
use native.Mathlib.Omega.{arith}
use lib.Seq.{length-take-le}
use borrow.Author.Rules.{rules}
use Rattle.text.proofs.PieceLaws.{first-le}
use Rattle.text.proofs.LineLaws.{line-text}
use Rattle.text.proofs.first_line.Statement.{statement}
use Rattle.text.proofs.first_line.Tie as tie

slice-aggregate-result : tie.Need-slice_bounds-result-end
slice-aggregate-result c =
    let s = c.args.s.now in
    sym (length-take-le _ s (omega (arith, first-le 10 s, c.piece_length-e.ensures)))

returns : tie.Need-returns
returns c = sym (line-text _ _ c.piece_length-e.ensures)

pub first_line_spec : {M : Type 1} → statement M
first_line_spec = tie.close (tie.spec (λ c κs. search rules) slice-aggregate-result returns)
