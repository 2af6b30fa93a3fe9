-- `merge_origins::put` meets its contract. Assumes nothing.
use native.Mathlib.Omega.{arith}
use lib.ListN.{length-set}
use Rattle.merge_origins.proofs.KeptLaws.{put-down}
use borrow.Author.Rules.{rules}
use Rattle.merge_origins.proofs.put.Statement.{statement}
use Rattle.merge_origins.proofs.put.Tie as tie

returns : tie.Need-returns
returns c = put-down c.args.kept.now c.args.g c.args.l c.requires.0 c.requires.1

pub put_spec : {M : Type 1} → statement M
put_spec =
    tie.close
    (tie.spec
    (λ c. search rules)
    (λ c. search rules)
    (λ c. search rules)
    (λ c. search rules)
    (λ c. search rules)
    (λ c. simp length-set (omega arith))
    (λ c. search rules)
    (λ c. search rules)
    (λ c. simp length-set (omega arith))
    (λ c. search rules)
    (λ c. search rules)
    (λ c. simp length-set (omega arith))
    (λ c. search rules)
    (λ c. search rules)
    (λ c. simp length-set (omega arith))
    (λ c. search rules)
    (λ c. search rules)
    (λ c. simp length-set (omega arith))
    (λ c. search rules)
    returns)
