-- `generate_entry::put_values` meets its contract. Assumes nothing.
use mathlib.Core.Path.{sym, ap}
use Rattle.text_decimals.proofs.MemoryLaws.{put_as}
use Rattle.generate_file.specs.Words.{row}
use borrow.Author.Rules.{rules}
use Rattle.generate_entry.proofs.put_values.Statement.{statement}
use Rattle.generate_entry.proofs.put_values.Tie as tie

returns : tie.Need-returns
returns c =
    let p = c in
    let l = c in
    let s = c in
    let q = put_as _ _ (ap (λ x. row s.args.column s.args.words s.args.follows x) (sym l.later-s.ensures)) (p.put_row.ensures.0, p.put_row.ensures.1.0) in
    (q.0, (q.1, p.put_row.ensures.1.1))

pub put_values_spec : {M : Type 1} → statement M
put_values_spec = tie.close (tie.spec (λ c κs. search rules) (λ c κs. search rules) (λ c. search rules) returns)
