-- `file_check::check` meets its contract. Assumes nothing.
use mathlib.Core.Path.{◌≡◌}
use lib.ListN.{length}
use Rattle.machine_state.proofs.Stack.{length-images}
use Rattle.file_check.proofs.CheckLaws.{check-long}
use Rattle.file_check.proofs.FoundLaws.{context-found}
use borrow.Author.Rules.{rules}
use Rattle.file_check.proofs.check.Statement.{statement}
use Rattle.file_check.proofs.check.Tie as tie

returns : tie.Need-returns-then-text-gt32768
returns c = check-long _ _ c.if-text-gt32768.true

check-rows-requires : tie.Need-check_rows-requires
check-rows-requires c κs =
    let found = c in
    let placed = c in
    let short = placed.if-text-gt32768.false in
    let eight : length found.blocks_named-named.result.sizes ≡ 8 = search (found.blocks_named-named.type_inv, rules, length-images) in
    (short, (context-found _ _ _ _ _ short c.line_in-kinds.ensures c.line_in-primitives.ensures c.line_in-fields.ensures _ found.blocks_named-named.ensures eight c.body_in-body.ensures _ _ c.first_address-first.ensures c.count_code-count.ensures, placed.starts_of-places.ensures))

returns-2 : tie.Need-returns
returns-2 c = c.check_rows.ensures

pub check_spec : {M : Type 1} → statement M
check_spec =
    tie.close
    (tie.spec
    returns
    (λ c κs. search rules)
    (λ c κs. search rules)
    (λ c κs. search rules)
    (λ c κs. search rules)
    (λ c κs. search rules)
    (λ c κs. search rules)
    (λ c κs. search rules)
    (λ c κs. search rules)
    check-rows-requires
    returns-2)
