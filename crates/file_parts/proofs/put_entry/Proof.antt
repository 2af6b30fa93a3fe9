-- `file_parts::put_entry` meets its contract. Assumes nothing.
use Prim.Native.Nat.{◌+◌, ◌*◌}
use mathlib.Core.Path.{ap, ◌∙◌}
use mir.Syntax.{w32}
use mir.Val.{SFits}
use mir.ValLaws.{to_z-of_z}
use Rattle.numbers.specs.Numbers.{residue}
use Rattle.file_parts.specs.HeldParts.{put_line}
use borrow.Author.Rules.{rules}
use Rattle.file_parts.proofs.put_entry.Statement.{statement}
use Rattle.file_parts.proofs.put_entry.Tie as tie

returns : tie.Need-returns
returns c =
    let a = c.args in
    let e = a.entry in
    let fitting : SFits w32 e.operand = search (c.before.before.struct_told-1.given, rules) in
    ap (λ o. put_line a.code.now (11 + a.n * 5) e.code o e.cycles e.words e.extra) (c.word_of-operand.ensures ∙ ap (residue 32) (to_z-of_z w32 e.operand fitting))

pub put_entry_spec : {M : Type 1} → statement M
put_entry_spec =
    tie.close
    (tie.spec
    (λ c. search rules)
    (λ c. search rules)
    (λ c κs. search rules)
    (λ c. search rules)
    (λ c. search rules)
    (λ c. search rules)
    (λ c. search rules)
    (λ c. search rules)
    (λ c. search rules)
    (λ c. search rules)
    (λ c. search rules)
    (λ c. search rules)
    (λ c. search rules)
    (λ c. search rules)
    (λ c. search rules)
    (λ c. search rules)
    (λ c. search rules)
    returns)
