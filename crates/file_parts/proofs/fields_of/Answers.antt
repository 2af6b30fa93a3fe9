-- A turn puts one block more in its place, and its cells are passed.
use Rattle.std.proofs.Common.{◌≡◌, ℕ, ◌<◌, length, get_or, take, drop, refl, ap, ◌∙◌, arith, rules}
use Rattle.machine_state.specs.HeldState.{blocks_of}
use Rattle.file_format.specs.Rows.{total}
use Rattle.file_format.specs.Layout.{list}
use Rattle.file_format.specs.Routine.{cells_of, blocks_in_line}
use Rattle.file_parts.proofs.BlockLaws.{passed-more, passed-within, passed-few, block-few, blocks_more}
use Rattle.file_parts.proofs.fields_of.Goals as goal

pub loop-k-init : goal.loop-k-init
unfolding total blocks_of blocks_in_line
loop-k-init c = record { passed = refl; filled = refl }

pub fill-filled-requires : goal.fill-filled-requires
fill-filled-requires c =
    let k = c.loop-k.k in
    let e : length c.args.sizes ≡ 8 = search rules in
    let r : k < length c.args.sizes = omega arith in
    let f = block-few c.args.sizes c.args.count c.requires.1 k c.loop-k-test.true r in
    let w = passed-within c.args.sizes c.args.count c.requires.1 k c.loop-k-test.true r in
    (omega arith, omega arith)

pub overflow_add-from : goal.overflow_add-from
overflow_add-from c =
    let k = c.loop-k.k in
    let e : length c.args.sizes ≡ 8 = search rules in
    let r : k < length c.args.sizes = omega arith in
    let f = block-few c.args.sizes c.args.count c.requires.1 k c.loop-k-test.true r in
    let t = passed-few c.args.sizes c.args.count c.requires.1 k c.loop-k-test.true r in
    omega arith

pub loop-k-preserved : goal.loop-k-preserved
loop-k-preserved c =
    let l = c.loop-k in
    let sizes = c.args.sizes in
    let e : length sizes ≡ 8 = search rules in
    let r : l.k < length sizes = omega arith in
    let t = c.loop-k-test.true in
    let cs = cells_of (list c.args.values.now) in
    let g = passed-more sizes c.args.count c.requires.1 l.k t r in
    let d = c.fill-filled.ensures.filled ∙ ap (λ (m : ℕ). take (get_or sizes l.k 0) (drop m cs)) l.invariant.passed in
    record { passed = omega arith; filled = blocks_more sizes c.args.count c.requires.1 l.k t r l.fields _ cs c.fill-filled.ensures.kept d l.invariant.filled }
