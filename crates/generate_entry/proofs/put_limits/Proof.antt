-- `generate_entry::put_limits` meets its contract. Assumes nothing.
use mathlib.Core.Bool.{false}
use native.Mathlib.Omega.{arith}
use Rattle.text_decimals.proofs.MemoryLaws.{wrote_none, wrote-more}
use Rattle.text.specs.Text.{bytes}
use Rattle.generate_file.specs.declared.Column.TheVariants.{Names, Limits}
use Rattle.generate_file.specs.Words.{row}
use Rattle.generate_file.specs.File.{later, limit_lines}
use borrow.Author.Rules.{rules}
use Rattle.generate_entry.proofs.put_limits.Statement.{statement}
use Rattle.generate_entry.proofs.put_limits.Tie as tie

returns : tie.Need-returns
unfolding limit_lines
returns c =
    let p3 = c in
    let p2 = p3 in
    let p1 = p2 in
    let s = p1 in
    let seed = s.args.seed in
    let w0 = wrote_none s.args.out.now 0 (omega arith) in
    let w1 = wrote-more w0 (bytes "BUDGET TICK\n") p1.put-l1.ensures in
    let w2 = wrote-more w1 (row Limits 2 false (later seed 0)) (p2.put_values-l2.ensures.0, p2.put_values-l2.ensures.1.0) in
    let w3 = wrote-more w2 (row Names 61 false 0) (p3.put_row.ensures.0, p3.put_row.ensures.1.0) in
    (w3.ends, (w3.holds, omega (arith, p3.put_row.ensures.1.1, p2.put_values-l2.ensures.1.1, p1.put-l1.ensures.0)))

pub put_limits_spec : {M : Type 1} → statement M
put_limits_spec =
    tie.close
    (tie.spec
    (λ c κs. search rules)
    (λ c κs. search rules)
    (λ c κs. search rules)
    (λ c. search rules)
    returns)
