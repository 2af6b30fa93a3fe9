-- `file_parts::find_price` meets its contract. Assumes nothing.
use Prim.Native.Nat.{◌≤◌}
use mathlib.Core.Path.{◌≡◌, refl, ap, ◌∙◌}
use native.Mathlib.Omega.{arith}
use Rattle.text.specs.Text.{find}
use Rattle.instructions.specs.Kinds.{kind_names}
use Rattle.instructions.proofs.ColumnLaws.{kind-small}
use Rattle.file_format.specs.Layout.{list}
use Rattle.file_format.specs.Rows.{op}
use Rattle.file_parts.specs.HeldParts.{prices_on}
use Rattle.file_parts.proofs.EntryLaws.{found}
use Rattle.file_parts.proofs.KindLaws.{places-low, slot-low, kept-price, price-put, kept_put, price-found}
use borrow.Author.Rules.{rules}
use Rattle.file_parts.proofs.find_price.Statement.{statement}
use Rattle.file_parts.proofs.find_price.Tie as tie

slot-of-requires : tie.Need-slot_of-slot-requires
slot-of-requires c κs = places-low _ _ c.requires.0.kind

low : (c : tie.After-slot_of-slot) → c.slot_of-slot.result ≤ 305
low c = slot-low _ _ c.requires.0.kind c.slot_of-slot.ensures

add-if1 : tie.Need-overflow_add-slot
add-if1 c = let h = low c in omega arith

mul-if1 : tie.Need-offset_bounds-kept-slot
mul-if1 c = let h = low c in search rules

element-copy-out-if1 : tie.Need-bounds-kept-slot
element-copy-out-if1 c = let h = low c.before in search rules

returns : tie.Need-returns-then-kept-slot-eq1
returns c =
    let start = c in
    let e = c.slot_of-slot.ensures in
    (e, (kept-price _ _ _ start.requires.1 _ _ start.requires.0.kind e c.if-kept-slot-eq1.true, start.requires.1))

-- after the search: the slot that was found
abbrev slotted : tie.After-index_of → tie.After-slot_of-slot
slotted c = c.before.before.before.before.before.before

code-of-requires : tie.Need-code_of-code-requires
code-of-requires c κs =
    let start = (slotted c).before.before.before.before.before.before in
    let w = op start.args.text.now in
    let k : c.index_of.result ≡ find w kind_names = found kind_names _ _ _ c.index_of.ensures start.requires.0.kind refl in
    omega (arith, k, kind-small w)

mul-kept : tie.Need-offset_bounds-kept-slot-2
mul-kept c = let h = low (slotted c.before) in search rules

element-write-kept : tie.Need-bounds-kept-slot-2
element-write-kept c = let h = low (slotted c.before) in search rules

add_kept : tie.Need-overflow_add-kept
add_kept c = let h = low (slotted c.before.before) in search rules

mul-kept-2 : tie.Need-offset_bounds-kept-slot-3
mul-kept-2 c = let h = low (slotted c.before.before) in search rules

element-write-kept-2 : tie.Need-bounds-kept-slot-3
element-write-kept-2 c = let h = low (slotted c.before.before) in search rules

add-kept-2 : tie.Need-overflow_add-kept-2
add-kept-2 c = let h = low (slotted c.before.before.before.before) in search rules

mul-kept-3 : tie.Need-offset_bounds-kept-slot-4
mul-kept-3 c = let h = low (slotted c.before.before.before.before) in search rules

element-write-kept-3 : tie.Need-bounds-kept-slot-4
element-write-kept-3 c = let h = low (slotted c.before.before.before.before) in search rules

add-kept-3 : tie.Need-overflow_add-kept-3
add-kept-3 c = let h = low (slotted c.before.before.before.before.before.before) in search rules

mul-kept-4 : tie.Need-offset_bounds-kept-slot-5
mul-kept-4 c = let h = low (slotted c.before.before.before.before.before.before) in search rules

element-write-kept-4 : tie.Need-bounds-kept-slot-5
element-write-kept-4 c = let h = low (slotted c.before.before.before.before.before.before) in search rules

add-kept-4 : tie.Need-overflow_add-kept-4
add-kept-4 c = let h = low (slotted c.before.before.before.before.before.before.before.before) in search rules

mul-kept-5 : tie.Need-offset_bounds-kept-slot-6
mul-kept-5 c = let h = low (slotted c.before.before.before.before.before.before.before.before) in search rules

element-write-kept-5 : tie.Need-bounds-kept-slot-6
element-write-kept-5 c = let h = low (slotted c.before.before.before.before.before.before.before.before) in search rules

returns-2 : tie.Need-returns
returns-2 c =
    let kinds-at = c in
    let at = slotted kinds-at.before.before.before.before.before.before.before.before in
    let start = at in
    let a = start.args in
    let q = start.requires.0.kind in
    let s = start.requires.1 in
    let e = at.slot_of-slot.ensures in
    let f = c.is_kept.ensures in
    let i = kinds-at.index_listed-i.ensures ∙ ap (λ w. find w (list a.kinds.now)) kinds-at.op_in.ensures in
    let p = price-found (prices_on a.kinds.now a.cycles.now a.words.now) (list a.extras.now) (op a.text.now) a.cut.kind q kinds-at.index_of.ensures c.code_of-code.ensures i c.cycle_counts.ensures c.natural_at.ensures c.word_counts.ensures c.natural_at-2.ensures c.extra_counts.ensures c.natural_at-3.ensures in
    (e, (price-put _ _ _ s _ _ q e _ _ _ _ _ f p, kept_put _ _ _ s _ _ q e _ _ _ _ _ f p))

pub find_price_spec : {M : Type 1} → statement M
find_price_spec =
    tie.close
    (tie.spec
    slot-of-requires
    add-if1
    mul-if1
    element-copy-out-if1
    returns
    (λ c κs. search rules)
    (λ c κs. search rules)
    (λ c κs. search rules)
    code-of-requires
    (λ c. search rules)
    mul-kept
    element-write-kept
    (λ c κs. search rules)
    add_kept
    mul-kept-2
    element-write-kept-2
    (λ c κs. search rules)
    (λ c κs. search rules)
    add-kept-2
    mul-kept-3
    element-write-kept-3
    (λ c κs. search rules)
    (λ c κs. search rules)
    add-kept-3
    mul-kept-4
    element-write-kept-4
    (λ c κs. search rules)
    (λ c κs. search rules)
    add-kept-4
    mul-kept-5
    element-write-kept-5
    returns-2)
