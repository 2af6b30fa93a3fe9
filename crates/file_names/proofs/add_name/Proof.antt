-- `file_names::add_name` meets its contract. Assumes nothing.
use mathlib.Core.Path.{◌≡◌, sym, ◌∙◌}
use mathlib.Core.Bool.{false}
use native.Mathlib.Omega.{arith}
use lib.ListN.{length, take}
use Rattle.file_names.proofs.BlockLaws.{block-below, place-below, own-total, continues, continues-none, continues-last, field-added, block-added, none-added}
use borrow.Author.Rules.{rules}
use Rattle.file_names.proofs.add_name.Statement.{statement}
use Rattle.file_names.proofs.add_name.Tie as tie
use Rattle.file_names.proofs.add_name.Lts.{then-count-gt0+else-is_field, else-count-gt0}

add-sizes : tie.Need-overflow_add-sizes
add-sizes c =
    let x = place-below _ _ _ (sym c.is_field.ensures ∙ c.if-is_field.true) in
    omega arith

add-t17 : tie.Need-overflow_add-result
add-t17 c =
    let s = c in
    let t = own-total s.args.blocks s.requires in
    omega arith

returns : tie.Need-returns-then-is_field
returns c =
    let s = c in
    let n : length s.args.blocks.sizes ≡ 8 = search rules in
    field-added s.args.blocks _ s.requires n c.if-count-gt0.true (sym c.is_field.ensures ∙ c.if-is_field.true)

-- w does not name the next field of the last block
apart : (c : tie.Joined-count-gt0) → continues 0 (take c.args.blocks.count c.args.blocks.sizes) c.args.name.now ≡ false
apart c =
    let n : length c.args.blocks.sizes ≡ 8 = search rules in
    elim c.if-count-gt0.branch [
      | then-count-gt0+else-is_field w ↦
          continues-last c.args.blocks.sizes c.args.name.now c.args.blocks.count w.if-count-gt0.true (omega (arith, c.requires.few)) ∙ sym w.is_field.ensures ∙ w.if-is_field.false
      | else-count-gt0 w ↦ continues-none c.args.blocks.sizes c.args.name.now c.args.blocks.count w.if-count-gt0.false
    ]

array-write-sizes-2 : tie.Need-bounds-sizes-count
array-write-sizes-2 c = block-below _ _ _ (sym c.is_field-2.ensures ∙ c.if-is_field-2.true)

add-t23 : tie.Need-overflow_add-result-then-is_field-2-2
add-t23 c =
    let s = c in
    let t = own-total s.args.blocks s.requires in
    omega arith

returns-2 : tie.Need-returns-then-is_field-2
returns-2 c =
    let s = c in
    let n : length s.args.blocks.sizes ≡ 8 = search rules in
    block-added s.args.blocks _ s.requires n (apart c.before.before.before) (sym c.is_field-2.ensures ∙ c.if-is_field-2.true)

returns-3 : tie.Need-returns
returns-3 c =
    let s = c in
    let n : length s.args.blocks.sizes ≡ 8 = search rules in
    none-added s.args.blocks _ s.requires n (apart c.before.before) (sym c.is_field-2.ensures ∙ c.if-is_field-2.false)

pub add_name_spec : {M : Type 1} → statement M
add_name_spec =
    tie.close
    (tie.spec
    (λ c. search rules)
    (λ c. search rules)
    (λ c. search rules)
    (λ c κs. search rules)
    add-sizes
    (λ c. search rules)
    add-t17
    returns
    (λ c κs. search rules)
    array-write-sizes-2
    (λ c. search rules)
    add-t23
    returns-2
    returns-3)
