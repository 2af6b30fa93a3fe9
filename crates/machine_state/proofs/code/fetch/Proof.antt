-- `machine_state::code::fetch` meets its contract. Assumes nothing.
use Prim.Native.Nat.{◌-◌}
use lib.ListN.{get_or}
use mir.Syntax.{w32}
use mir.ValLaws.{to_z-of_z}
use borrow.Author.Rules.{rules}
use Rattle.machine_state.proofs.ProgramLaws.{fetch-below, fetch-past, fetch-in}
use Rattle.machine_state.proofs.code.fetch.Statement.{statement}
use Rattle.machine_state.proofs.code.fetch.Tie as tie

returns : tie.Need-returns-then-at-first
returns c = (fetch-below _ _ (search rules), tt)

returns-2 : tie.Need-returns-then-code-j
returns-2 c = (fetch-past _ _ (search rules) (search rules), tt)

returns-3 : tie.Need-returns
returns-3 c =
    let s = c in
    let ws = s.args.code.now in
    (rw (to_z-of_z w32 c.signed.result (search rules), c.signed.ensures) (fetch-in ws s.args.at (search rules) (search rules)), s.requires.codes (s.args.at - get_or ws 0 0) (search rules))

pub fetch_spec : {M : Type 1} → statement M
fetch_spec =
    tie.close
    (tie.spec
    (λ c. search rules)
    (λ c. search rules)
    returns
    (λ c. search rules)
    (λ c. search rules)
    returns-2
    (λ c. search rules)
    (λ c. search rules)
    (λ c. search rules)
    (λ c. search rules)
    (λ c. search rules)
    (λ c. search rules)
    (λ c. search rules)
    (λ c. search rules)
    (λ c κs. search rules)
    (λ c. search rules)
    (λ c. search rules)
    (λ c. search rules)
    (λ c. search rules)
    (λ c. search rules)
    (λ c. search rules)
    (λ c. search rules)
    (λ c. search rules)
    (λ c. search rules)
    returns-3)
