-- `instructions::name_key` meets its contract. Assumes nothing.
use Prim.Native.Nat.{◌+◌, ◌*◌, ◌%◌}
use mathlib.Core.Path.{ap, ap₂, ◌∙◌}
use lib.ListN.{length, get_or}
use borrow.Author.Rules.{rules}
use Rattle.instructions.proofs.name_key.Statement.{statement}
use Rattle.instructions.proofs.name_key.Tie as tie

returns : tie.Need-returns
returns c =
    let w = c.args.w.now in
    ap₂ (λ a b. (a + b + 5 * c.from-last.result + 9 * length w) % 256) c.from-first.ensures c.from-second.ensures
    ∙ ap (λ l. (get_or w 0 0 + get_or w 1 0 + 5 * l + 9 * length w) % 256) c.from-last.ensures

pub name_key_spec : {M : Type 1} → statement M
name_key_spec =
    tie.close
    (tie.spec
    (λ c. search rules)
    (λ c κs. search rules)
    (λ c. search rules)
    (λ c κs. search rules)
    (λ c. search rules)
    (λ c. search rules)
    (λ c κs. search rules)
    (λ c. search rules)
    (λ c. search rules)
    (λ c. search rules)
    (λ c. search rules)
    (λ c. search rules)
    returns)
