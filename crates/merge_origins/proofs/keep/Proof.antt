-- `merge_origins::keep` meets its contract. Assumes nothing.
use Rattle.merge_origins.proofs.KeptLaws.{first-kept, more-kept, less-kept, put-kept, stays-kept}
use borrow.Author.Rules.{rules}
use Rattle.merge_origins.proofs.keep.Statement.{statement}
use Rattle.merge_origins.proofs.keep.Tie as tie

returns : tie.Need-returns-then-was-eq0
returns c =
    let p = c in
    let t = p in
    let w = t.last_of-was in
    let s = t in
    put-kept s.args.kept.now p.put.new.kept s.args.g s.args.l w.result w.ensures (first-kept s.args.l w.result t.if-was-eq0.true) p.put.ensures

returns-2 : tie.Need-returns-then-was-l
returns-2 c =
    let p = c in
    let t = p in
    let e = t in
    let w = e.last_of-was in
    let s = e in
    put-kept s.args.kept.now p.put-then-was-l.new.kept s.args.g s.args.l w.result w.ensures (more-kept s.args.l w.result e.if-was-eq0.false t.if-was-l.true) p.put-then-was-l.ensures

returns-3 : tie.Need-returns-else-was-l
returns-3 c =
    let e = c in
    let w = e.last_of-was in
    let s = e in
    stays-kept s.args.kept.now s.args.g s.args.l w.result w.ensures (less-kept s.args.l w.result e.if-was-eq0.false c.if-was-l.false)

pub keep_spec : {M : Type 1} → statement M
keep_spec =
    tie.close
    (tie.spec
    (λ c κs. search rules)
    (λ c κs. search rules)
    (λ c. search rules)
    returns
    (λ c κs. search rules)
    (λ c. search rules)
    returns-2
    (λ c. search rules)
    returns-3)
