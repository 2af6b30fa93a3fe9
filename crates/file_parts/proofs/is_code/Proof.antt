-- `file_parts::is_code` meets its contract. Assumes nothing.
use mathlib.Core.Path.{ap, ◌∙◌}
use mathlib.Core.Bool.{not}
use native.Mathlib.Omega.{arith}
use lib.ListN.{length}
use Rattle.text.specs.Text.{bytes, equals, lines}
use Rattle.text.proofs.LineLaws.{lines_none, lines-some}
use Rattle.file_parts.proofs.PartLaws.{left-none, left-first, left-next}
use borrow.Author.Rules.{rules}
use Rattle.file_parts.proofs.is_code.Statement.{statement}
use Rattle.file_parts.proofs.is_code.Tie as tie

returns : tie.Need-returns-then-rest-eq0
returns c =
    let start = c in
    left-none start.args.n (lines start.args.rest.now) (ap length (lines_none start.args.rest.now (omega (arith, c.if-rest-eq0.true))))

returns-2 : tie.Need-returns-then-n-eq0
returns-2 c =
    let start = c in
    left-first start.args.n (lines start.args.rest.now) c.if-n-eq0.true (lines-some start.args.rest.now (omega (arith, c.if-rest-eq0.false)))

returns-3 : tie.Need-returns
returns-3 c =
    let start = c in
    ap not (c.same.ensures ∙ ap (λ w. equals w (bytes "ANSWER")) start.requires)
    ∙ left-next start.args.n (lines start.args.rest.now) (λ e. omega (arith, c.if-n-eq0.false)) (lines-some start.args.rest.now (omega (arith, c.if-rest-eq0.false)))

pub is_code_spec : {M : Type 1} → statement M
is_code_spec = tie.close (tie.spec
    returns
    returns-2
    (λ c κs. search rules)
    returns-3)
