-- `generate_entry::put_break` meets its contract. Assumes nothing.
use Rattle.text_decimals.proofs.MemoryLaws.{put_as}
use Rattle.generate_entry.proofs.CellLaws.{break-more, break-follows, break-ends}
use borrow.Author.Rules.{rules}
use Rattle.generate_entry.proofs.put_break.Statement.{statement}
use Rattle.generate_entry.proofs.put_break.Tie as tie

returns : tie.Need-returns-then-n-gt0
returns c = let p = c in let s = p in put_as _ _ (break-more s.args.n s.args.follows p.if-n-gt0.true) p.put.ensures

returns-2 : tie.Need-returns-then-follows
returns-2 c = let p = c in let i = p in let s = i in put_as _ _ (break-follows s.args.n s.args.follows i.if-n-gt0.false i.if-follows.true) p.put-then-follows.ensures

returns-3 : tie.Need-returns
returns-3 c = let p = c in let i = p in let s = i in put_as _ _ (break-ends s.args.n s.args.follows i.if-n-gt0.false i.if-follows.false) p.put-2.ensures

pub put_break_spec : {M : Type 1} → statement M
put_break_spec =
    tie.close
    (tie.spec
    (λ c κs. search rules)
    (λ c. search rules)
    returns
    (λ c κs. search rules)
    (λ c. search rules)
    returns-2
    (λ c κs. search rules)
    (λ c. search rules)
    returns-3)
