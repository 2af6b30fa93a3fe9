-- `split_cuts::laid_out` meets its contract. Assumes nothing.
use mathlib.Core.Path.{sym, ◌∙◌}
use Rattle.split_cuts.proofs.CutsLaws.{names-laid, too_many, cut-laid}
use borrow.Author.Rules.{rules}
use Rattle.split_cuts.proofs.laid_out.Statement.{statement}
use Rattle.split_cuts.proofs.laid_out.Tie as tie

returns : tie.Need-returns-then-k-eq0
returns c = let start = c in c.same.ensures ∙ sym (names-laid start.args.k start.args.line.now c.if-k-eq0.true)

returns-2 : tie.Need-returns-then-k-gt-CUTS
returns-2 c = let start = c in sym (too_many start.args.k start.args.line.now c.if-k-gt-CUTS.true)

returns-3 : tie.Need-returns
returns-3 c = let start = c in c.cut_laid_out.ensures ∙ sym (cut-laid start.args.k start.args.line.now c.if-k-eq0.false c.if-k-gt-CUTS.false)

pub laid_out_spec : {M : Type 1} → statement M
laid_out_spec =
    tie.close
    (tie.spec
    (λ c κs. search rules)
    returns
    returns-2
    (λ c κs. search rules)
    returns-3)
