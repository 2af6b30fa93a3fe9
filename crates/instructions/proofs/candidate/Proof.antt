-- `instructions::candidate` meets its contract: what is lent has at the key of each name its kind, and none above 60. Assumes nothing.
use Prim.Native.Nat.{◌<◌}
use mathlib.Core.Path.{sym, ap, subst, ◌∙◌}
use lib.ListN.{get_or}
use Rattle.instructions.specs.HeldColumns.{name_key}
use borrow.Author.Rules.{rules}
use Rattle.instructions.proofs.candidate.Statement.{statement}
use Rattle.instructions.proofs.candidate.Tie as tie

returns : tie.Need-returns
returns c =
    let key = c.name_key-key in
    let t = c.args.keyed.now in
    let p = c.requires.0 in
    (subst (λ n. n < 61) (sym c.from.ensures) (p.low key.result), λ k h e. c.from.ensures ∙ ap (λ i. get_or t i 0) (key.ensures ∙ ap name_key e) ∙ p.at_key k h)

pub candidate_spec : {M : Type 1} → statement M
candidate_spec = tie.close (tie.spec (λ c κs. search rules) (λ c. search rules) (λ c κs. search rules) returns)
