-- `file_lines::next_names` meets its contract. Assumes nothing.
use borrow.Author.Rules.{rules}
use Rattle.file_lines.proofs.ExtraLaws.{names_more, names-none}
use Rattle.file_lines.proofs.next_names.Statement.{statement}
use Rattle.file_lines.proofs.next_names.Tie as tie

returns : tie.Need-returns-then-e-names
returns c = names_more _ _ c.piece_length-e.ensures c.if-e-names.true

returns-2 : tie.Need-returns
returns-2 c = names-none _ _ c.piece_length-e.ensures c.if-e-names.false

pub next_names_spec : {M : Type 1} → statement M
next_names_spec =
    tie.close
    (tie.spec
    (λ c κs. search rules)
    (λ c. search rules)
    (λ c. search rules)
    (λ c. search rules)
    (λ c. search rules)
    returns
    (λ c. search rules)
    returns-2)
