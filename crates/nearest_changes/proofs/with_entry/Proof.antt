-- `nearest_changes::with_entry` meets its contract. Assumes nothing.
use Prim.Native.Nat.{◌+◌, ◌<◌}
use mathlib.Core.Path.{sym, ap, subst, ◌∙◌}
use native.Mathlib.Omega.{arith}
use Rattle.machine.specs.Machine.{load}
use Rattle.machine_state.specs.HeldProgram.{sizes_of}
use Rattle.machine_state.specs.HeldState.{view, whole}
use Rattle.nearest_changes.specs.Places.{replace_at}
use Rattle.nearest_changes.specs.Held.{Present}
use Rattle.nearest_changes.proofs.CellLaws.{entry-present, entry_set, entry-formed, replace-accu, replace-field}
use borrow.Author.Rules.{rules}
use Rattle.nearest_changes.proofs.with_entry.Statement.{statement}
use Rattle.nearest_changes.proofs.with_entry.Tie as tie

present : (c : tie.After-struct_known-1) → c.args.start.free + c.in-Entry.n < 64
present c =
    let s = c in
    entry-present (sizes_of s.args.code.now) s.args.blocks s.args.start s.requires.1 _ (subst (λ q. Present q (whole (sizes_of s.args.code.now) s.args.blocks s.args.start)) c.in-Entry.is s.requires.2)

enum_told : tie.Need-enum_told-1
enum_told c = search rules

add-entry : tie.Need-overflow_add-entry
add-entry c = omega (arith, present c)

mul-stack : tie.Need-offset_bounds-stack-entry
mul-stack c = omega (arith, present c.before.before)

array-set-from-stack : tie.Need-bounds-stack-entry
array-set-from-stack c = present c.before.before

returns : tie.Need-returns-in-Accu
returns c =
    let s = c in
    (c.load.ensures.0 ∙ replace-accu _ _ _ c.in-Accu.is, c.load.ensures.1)

returns-2 : tie.Need-returns-in-Entry
returns-2 c =
    let s = c in
    let n = c.in-Entry.n in
    (entry_set s.args.start n s.args.c ∙ ap (λ q. replace_at q s.args.c (view s.args.start)) (sym c.in-Entry.is), record { free = (entry-formed s.args.start s.requires.1 n s.args.c).free; places = (entry-formed s.args.start s.requires.1 n s.args.c).places })

returns-3 : tie.Need-returns-in-Field
returns-3 c =
    let s = c in
    (replace-field _ s.args.c s.args.start _ _ c.in-Field.is, s.requires.1)

pub with_entry_spec : {M : Type 1} → statement M
with_entry_spec =
    tie.close
    (tie.spec
    enum_told
    (λ c κs. search rules)
    (λ c. search rules)
    add-entry
    mul-stack
    array-set-from-stack
    (λ c. search rules)
    returns
    returns-2
    returns-3)
