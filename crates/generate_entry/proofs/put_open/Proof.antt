-- `generate_entry::put_open` meets its contract. Assumes nothing.
use Rattle.text_decimals.proofs.MemoryLaws.{put_as}
use Rattle.generate_entry.proofs.CellLaws.{open-word, closed-word}
use borrow.Author.Rules.{rules}
use Rattle.generate_entry.proofs.put_open.Statement.{statement}
use Rattle.generate_entry.proofs.put_open.Tie as tie

returns : tie.Need-returns-then-d-eq0
returns c = let p = c in let s = p in put_as _ _ (open-word s.args.d p.if-d-eq0.true) p.put.ensures

returns-2 : tie.Need-returns
returns-2 c = let p = c in let s = p in put_as _ _ (closed-word s.args.d p.if-d-eq0.false) p.put_number.ensures

pub put_open_spec : {M : Type 1} → statement M
put_open_spec =
    tie.close
    (tie.spec
    (λ c κs. search rules)
    (λ c. search rules)
    returns
    (λ c κs. search rules)
    (λ c. search rules)
    returns-2)
