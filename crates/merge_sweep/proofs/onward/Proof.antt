-- `merge_sweep::onward` meets its contract. Assumes nothing.
use Prim.Native.Nat.{◌+◌}
use mathlib.Core.Path.{◌≡◌, ◌∙◌}
use native.Mathlib.Omega.{arith}
use Rattle.machine_state.specs.HeldProgram.{first_address_of, sizes_of}
use Rattle.merge_sweep.proofs.PassLaws.{falls, alone}
use borrow.Author.Rules.{rules}
use Rattle.merge_sweep.proofs.onward.Statement.{statement}
use Rattle.merge_sweep.proofs.onward.Tie as tie

returns : tie.Need-returns-then-at-code
returns c =
    let start = c in
    let a = start.args in
    let e : a.w.state.at ≡ first_address_of a.code.now + a.j + 1 = c.if-at-code.true in
    (λ b h k. falls (sizes_of a.code.now) a.w (first_address_of a.code.now) a.j b _ e, (omega arith, start.requires.2))

returns-2 : tie.Need-returns
returns-2 c =
    let s = c in
    let a = s.args in
    (λ b h k. alone (sizes_of a.code.now) a.w (a.j + 1) b _ ∙ s.send.ensures b k, tt)

pub onward_spec : {M : Type 1} → statement M
onward_spec =
    tie.close
    (tie.spec
    (λ c. search rules)
    (λ c. search rules)
    (λ c. search rules)
    (λ c. search rules)
    returns
    (λ c κs. search rules)
    (λ c. search rules)
    returns-2)
