-- `merge_rows::send` meets its contract. Assumes nothing.
use Prim.Native.Nat.{ℕ, ◌+◌, ◌*◌, ◌-◌, ◌<◌, ◌≤◌}
use mathlib.Core.Path.{◌≡◌}
use native.Mathlib.Omega.{arith}
use lib.ListN.{length}
use Rattle.machine_state.specs.HeldProgram.{first_address_of, lines_in, sizes_of}
use Rattle.merge_rows.specs.HeldRows.{part, rows_of}
use Rattle.merge_rows.proofs.PartLaws.{not-joined, row-length, sent}
use borrow.Author.Rules.{rules}
use Rattle.merge_rows.proofs.send.Statement.{statement}
use Rattle.merge_rows.proofs.send.Tie as tie

returns : tie.Need-returns-then-at-first
returns c =
    let a = c.args in
    let t : a.w.state.at < first_address_of a.code.now = c.if-at-first.true in
    λ b h. not-joined _ _ _ _ (λ e. let q : first_address_of a.code.now + b ≡ a.w.state.at = e in omega arith)

returns-2 : tie.Need-returns-then-code-k
returns-2 c =
    let a = c.args in
    let t : lines_in a.code.now + 1 ≤ a.w.state.at - first_address_of a.code.now = c.if-code-k.true in
    λ b h. not-joined _ _ _ _ (λ e. let q : first_address_of a.code.now + b ≡ a.w.state.at = e in let l : b < rows_of a.code.now = h in omega arith)

-- the way's row is there
module _ (c : tie.Else-code-k) where
  abbrev begun : tie.Start
  begun = c.before.before.before.before.before.before.before

  abbrev k : ℕ
  k = begun.args.w.state.at - first_address_of begun.args.code.now

  few : k < 1025
  few = omega (arith, c.if-code-k.false, begun.requires.2.lines)

join-requires : tie.Need-join-requires
join-requires c κs =
    let e = c in
    (row-length (k e.before) (begun e.before).args.rows.now (few e.before) (begun e.before).requires.0, (begun e.before).requires.1, (begun e.before).requires.2)

returns-3 : tie.Need-returns
returns-3 c =
    let at_join = c in
    let e = at_join in
    let a = (begun e.before.before.before.before).args in
    let j = at_join.join in
    let at : a.w.state.at ≡ first_address_of a.code.now + k e.before.before.before.before = omega (arith, e.if-at-first.false) in
    let l : length j.new.row ≡ length (part (197 * k e.before.before.before.before) (197 * k e.before.before.before.before + 197) a.rows.now) = search rules in
    λ b _. sent (sizes_of a.code.now) (first_address_of a.code.now) (k e.before.before.before.before) a.rows.now j.new.row a.w (few e.before.before.before.before) (begun e.before.before.before.before).requires.0 l at j.ensures b

pub send_spec : {M : Type 1} → statement M
send_spec =
    tie.close
    (tie.spec
    (λ c. search rules)
    (λ c. search rules)
    returns
    (λ c. search rules)
    (λ c. search rules)
    (λ c. search rules)
    returns-2
    (λ c. let f = few c in search rules)
    (λ c. let f = few c in search rules)
    (λ c. let f = few c in search rules)
    (λ c. let f = few c in search rules)
    (λ c. let f = few c in search rules)
    (λ c. let f = few c in search rules)
    join-requires
    (λ c. search rules)
    returns-3)
