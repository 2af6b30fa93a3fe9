-- `merge_origins::mark` meets its contract. Assumes nothing.
use Prim.Native.Nat.{◌+◌, ◌-◌, ◌<◌, ◌≤◌}
use mathlib.Core.Path.{◌≡◌}
use native.Mathlib.Omega.{arith}
use Rattle.merge_origins.proofs.KeptLaws.{mark-row, mark-none}
use borrow.Author.Rules.{rules}
use Rattle.merge_origins.proofs.mark.Statement.{statement}
use Rattle.merge_origins.proofs.mark.Tie as tie

returns : tie.Need-returns-then-at-first
returns c =
    let a = c.args in
    let t : a.at < a.first = c.if-at-first.true in
    λ o p m k i. mark-none a.first a.kept.now a.l o p m k i a.at (λ b h e. let q : a.first + b ≡ a.at = e in omega arith)

returns-2 : tie.Need-returns-then-g-lt1025
returns-2 c =
    let j = c in
    let t = j in
    let a = t.args in
    let e : a.first ≤ a.at = t.if-at-first.false in
    λ o p m k i. mark-row a.first a.kept.now a.l o p m k i j.keep.new.kept (a.at - a.first) a.at t.if-g-lt1025.true (omega arith) j.keep.ensures

returns-3 : tie.Need-returns-else-g-lt1025
returns-3 c =
    let a = c.args in
    let f : a.first ≤ a.at = c.if-at-first.false in
    let g : 1025 ≤ a.at - a.first = c.if-g-lt1025.false in
    λ o p m k i. mark-none a.first a.kept.now a.l o p m k i a.at (λ b h e. let q : a.first + b ≡ a.at = e in omega arith)

pub mark_spec : {M : Type 1} → statement M
mark_spec = tie.close (tie.spec returns (λ c κs. search rules) (λ c. search rules) returns-2 returns-3)
