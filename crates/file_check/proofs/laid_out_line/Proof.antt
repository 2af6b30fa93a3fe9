-- `file_check::laid_out_line` meets its contract. Assumes nothing.
use mathlib.Core.Path.{refl, ap}
use mathlib.Core.Bool.{not}
use Rattle.file_check.proofs.ContextLaws.{unended, unfilled, well-laid}
use borrow.Author.Rules.{rules}
use Rattle.file_check.proofs.laid_out_line.Statement.{statement}
use Rattle.file_check.proofs.laid_out_line.Tie as tie

returns : tie.Need-returns-then-not-ended
returns c = unended _ _ _ _ _ refl (ap not c.if-not-ended.true)

returns-2 : tie.Need-returns-then-not-all_words
returns-2 c = unfilled _ _ _ _ _ c.all_words.ensures (ap not c.if-not-ended.false) (ap not c.if-not-all_words.true)

returns-3 : tie.Need-returns
returns-3 c = well-laid _ _ _ _ _ c.all_words.ensures (ap not c.if-not-ended.false) (ap not c.if-not-all_words.false) c.laid_out.ensures

pub laid_out_line_spec : {M : Type 1} → statement M
laid_out_line_spec =
    tie.close (tie.spec returns (λ c κs. search rules) returns-2 (λ c κs. search rules) returns-3)
