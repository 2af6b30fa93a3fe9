-- `generate_entry::generate` meets its contract. Assumes nothing.
use lib.ListN.{length}
use Rattle.answers.proofs.AnswerLaws.{gives-report, gives-refusal}
use Rattle.generate_entry.proofs.FunctionLaws.{generate-short, generate-zero, generate-made}
use borrow.Author.Rules.{rules}
use Rattle.generate_entry.proofs.generate.Statement.{statement}
use Rattle.generate_entry.proofs.generate.Tie as tie

returns : tie.Need-returns-then-out-lt32768
returns c = let a = c.args in gives-refusal _ _ (generate-short a.seed (length a.out.now) c.if-out-lt32768.true) _

returns-2 : tie.Need-returns-then-seed-eq0
returns-2 c = let a = c.args in gives-refusal _ _ (generate-zero a.seed (length a.out.now) c.if-out-lt32768.false c.if-seed-eq0.true) _

returns-3 : tie.Need-returns
returns-3 c = let p = c in let a = c.args in gives-report _ _ (generate-made a.seed (length a.out.now) c.if-out-lt32768.false c.if-seed-eq0.false) _ p.put_file-n.ensures.0 _ _ p.put_file-n.ensures.1

pub generate_spec : {M : Type 1} → statement M
generate_spec = tie.close (tie.spec returns returns-2 (λ c κs. search rules) (λ c. search rules) returns-3)
