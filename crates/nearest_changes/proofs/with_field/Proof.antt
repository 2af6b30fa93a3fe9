-- `nearest_changes::with_field` meets its contract. Assumes nothing.
use Prim.Native.Nat.{◌<◌}
use mathlib.Core.Path.{◌≡◌, refl, sym, ap, subst, ◌∙◌}
use native.Mathlib.Omega.{arith}
use lib.ListN.{length, length-set}
use Rattle.cells.specs.Try.{done}
use Rattle.cells.specs.Cells.{handle}
use Rattle.machine_state.specs.HeldProgram.{sizes_of}
use Rattle.machine_state.specs.HeldState.{Fits, slot, whole}
use Rattle.machine_state.proofs.ProgramLaws.{fits_all}
use Rattle.machine_state.proofs.Stack.{length-images}
use Rattle.nearest_changes.specs.Places.{replace_at}
use Rattle.nearest_changes.specs.Held.{Present}
use Rattle.nearest_changes.proofs.CellLaws.{field-present, field-set, slot-in, accu-blocks, entry-blocks}
use borrow.Author.Rules.{rules}
use Rattle.nearest_changes.proofs.with_field.Statement.{statement}
use Rattle.nearest_changes.proofs.with_field.Tie as tie

places : (s : tie.Start) → length s.args.blocks ≡ 128
places s = search (rules, length-images)

fits : (s : tie.Start) → Fits (sizes_of s.args.code.now) s.args.blocks
fits s = fits_all s.args.code.now s.requires.0 s.args.blocks (places s)

-- the slot that was found
found : (c : tie.In-Some)
    → let at_p = c in
    slot (sizes_of at_p.args.code.now) (handle at_p.in-Field.k) at_p.in-Field.n ≡ done c.in-Some.j
found c =
    let at-handle = c in
    let at_p = at-handle in
    let start = at_p in
    ap (λ h. slot (sizes_of start.args.code.now) h at_p.in-Field.n) (sym at-handle.handle.ensures) ∙ sym c.slot_of-field.ensures ∙ c.in-Some.is

within : (c : tie.In-Some) → c.in-Some.j < 128
within c =
    let c1 = c in
    let s = c1 in
    omega (arith, slot-in _ s.args.blocks s.args.start (fits s.before.before.before.before) _ _ _ (found c), places s.before.before.before.before)

enum_told : tie.Need-enum_told-1
enum_told c = search rules

returns : tie.Need-returns-in_default
returns c =
    let at_p = c in
    let s = at_p in
    let e = ap (λ h. slot (sizes_of s.args.code.now) h at_p.in-Field.n) (sym c.handle.ensures) ∙ sym c.slot_of-field.ensures ∙ c.in_default.is in
    field-present (sizes_of s.args.code.now) s.args.blocks s.args.start (fits s.before.before.before.before) _ _ (subst (λ q. Present q (whole (sizes_of s.args.code.now) s.args.blocks s.args.start)) at_p.in-Field.is s.requires.2) e

mul-blocks : tie.Need-offset_bounds-blocks-j
mul-blocks c = omega (arith, within c)

array-set-from-blocks : tie.Need-bounds-blocks-j
array-set-from-blocks c = within c

returns-2 : tie.Need-returns-in-Accu
returns-2 c =
    let s = c in
    (accu-blocks (sizes_of s.args.code.now) s.args.blocks s.args.start _ s.args.c c.in-Accu.is, refl)

returns-3 : tie.Need-returns-in-Entry
returns-3 c =
    let s = c in
    (entry-blocks (sizes_of s.args.code.now) s.args.blocks s.args.start _ s.args.c _ c.in-Entry.is, refl)

returns-4 : tie.Need-returns-in-Some
returns-4 c =
    let at_p = c in
    let s = at_p in
    let j = c.in-Some.j in
    let w = whole (sizes_of s.args.code.now) s.args.blocks s.args.start in
    (field-set (sizes_of s.args.code.now) s.args.blocks s.args.start (fits s.before.before.before.before) _ _ j s.args.c (found c) ∙ ap (λ q. (replace_at q s.args.c w).blocks) (sym at_p.in-Field.is), length-set s.args.blocks j s.args.c)

pub with_field_spec : {M : Type 1} → statement M
with_field_spec =
    tie.close
    (tie.spec
    enum_told
    (λ c. search rules)
    (λ c. search rules)
    (λ c κs. search rules)
    (λ c κs. search rules)
    (λ c. search rules)
    (λ c. search rules)
    returns
    mul-blocks
    array-set-from-blocks
    returns-2
    returns-3
    returns-4)
