-- `explain_lines::line_after` meets its contract. Assumes nothing.
use borrow.Author.Rules.{rules}
use Rattle.explain_lines.proofs.CursorLaws.{after_more, after_none}
use Rattle.explain_lines.proofs.line_after.Statement.{statement}
use Rattle.explain_lines.proofs.line_after.Tie as tie

returns : tie.Need-returns-then-e-rest
returns c =
    let s = c in
    (search rules, after_more s.args.body.now s.args.byte s.requires c.piece_length-e.result c.piece_length-e.ensures c.if-e-rest.true)

returns-2 : tie.Need-returns
returns-2 c =
    let s = c in
    (search rules, after_none s.args.body.now s.args.byte s.requires c.piece_length-e.result c.piece_length-e.ensures c.if-e-rest.false)

pub line_after_spec : {M : Type 1} → statement M
line_after_spec =
    tie.close
    (tie.spec
    (λ c. search rules)
    (λ c. search rules)
    (λ c. search rules)
    (λ c κs. search rules)
    (λ c. search rules)
    (λ c. search rules)
    returns
    returns-2)
