-- `words_import::check_primitives` meets its contract. Assumes nothing.
use mathlib.Core.Path.{sym, ap, ◌∙◌}
use native.Mathlib.Omega.{arith}
use Rattle.words.specs.Import.{line_verdict}
use Rattle.words_import.proofs.ImportLaws.{primitives-empty, primitives-more, primitives-one}
use borrow.Author.Rules.{rules}
use Rattle.words_import.proofs.check_primitives.Statement.{statement}
use Rattle.words_import.proofs.check_primitives.Tie as tie

returns : tie.Need-returns-then-text-eq0
returns c = sym (primitives-empty _ c.if-text-eq0.true)

returns-2 : tie.Need-returns-then-rest-gt0
returns-2 c = sym (primitives-more c.args.text.now _ (omega (arith, c.if-text-eq0.false)) c.next_lines-rest.ensures.0 c.if-rest-gt0.true)

returns-3 : tie.Need-returns
returns-3 c =
    let n = c in
    c.check_names.ensures
    ∙ ap line_verdict c.first_line.ensures
    ∙ sym (primitives-one n.args.text.now n.next_lines-rest.result.now (omega (arith, n.if-text-eq0.false)) n.next_lines-rest.ensures.0 (omega (arith, c.if-rest-gt0.false)))

pub check_primitives_spec : {M : Type 1} → statement M
check_primitives_spec =
    tie.close
    (tie.spec
    returns
    (λ c κs. search rules)
    returns-2
    (λ c κs. search rules)
    (λ c κs. search rules)
    returns-3)
