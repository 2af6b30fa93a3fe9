-- The goals of `merge_rows::merge_blocks`.
use Prim.Native.Nat.{◌+◌, ◌*◌, ◌-◌, ◌<◌}
use mathlib.Core.Path.{◌≡◌, sym, ap, ◌∙◌}
use mathlib.Core.Bool.{Bool}
use mathlib.Core.List.{[]}
use native.Mathlib.Omega.{arith}
use lib.ListN.{length, get_or, take, drop}
use borrow.Author.Rules.{rules}
use Rattle.machine_state.specs.HeldProgram.{sizes_of}
use Rattle.machine_state.specs.HeldState.{blocks_of}
use Rattle.merge_cells.specs.Merge.{merge_cells}
use Rattle.merge_cells.specs.HeldCodes.{decoded_cells}
use Rattle.merge_theory.specs.Merge.{merge_lists}
use Rattle.merge_rows.specs.HeldRows.{of_cells}
use Rattle.merge_rows.proofs.FieldLaws.{small_of, block-within, blocks-length, block-merged, block-unlike, part_length}
use Rattle.merge_rows.proofs.ZipLaws.{none_made, all_made}
use Rattle.merge_rows.proofs.merge_blocks.Goals as goal

pub loop-k-init : goal.loop-k-init
loop-k-init c = none_made (merge_lists merge_cells) [] _ _

pub overflow_mul-low : goal.overflow_mul-low
overflow_mul-low c = omega (arith, (small_of _ c.requires.2).blocks)

pub overflow_add-high : goal.overflow_add-high
overflow_add-high c = omega (arith, block-within (sizes_of c.args.code.now) c.loop-k.k c.size_of.result (small_of _ c.requires.2) (omega arith) c.size_of.ensures)

pub offset_bounds-held-low : goal.offset_bounds-held-low
offset_bounds-held-low c = omega (arith, (small_of _ c.requires.2).blocks)

pub slice_bounds-merge_cells-end : goal.slice_bounds-merge_cells-end
slice_bounds-merge_cells-end c = omega (arith, block-within (sizes_of c.args.code.now) c.loop-k.k c.size_of.result (small_of _ c.requires.2) (omega arith) c.size_of.ensures)

pub offset_bounds-came-low : goal.offset_bounds-came-low
offset_bounds-came-low c = omega (arith, (small_of _ c.requires.2).blocks)

pub slice_bounds-merge_cells-end-in-loop-k : goal.slice_bounds-merge_cells-end-in-loop-k
slice_bounds-merge_cells-end-in-loop-k c = omega (arith, block-within (sizes_of c.args.code.now) c.loop-k.k c.size_of.result (small_of _ c.requires.2) (omega arith) c.size_of.ensures)

pub returns-then-not-merge_cells : goal.returns-then-not-merge_cells
returns-then-not-merge_cells c =
    let l = c.loop-k in
    let p = c.merge_cells.new.held in
    let q = ap (λ (b : Bool). of_cells b p) (sym c.if-not-merge_cells.true) ∙ c.merge_cells.ensures in
    sym (block-unlike (sizes_of c.args.code.now) l.held c.args.came.now l.k _ (small_of _ c.requires.2) (omega arith) c.requires.1 (omega arith) (omega arith) _ q l.invariant)

pub loop-k-preserved : goal.loop-k-preserved
loop-k-preserved c =
    let l = c.loop-k in
    let ns = sizes_of c.args.code.now in
    let small = small_of _ c.requires.2 in
    let w = l.k * 16 + c.size_of.result - l.k * 16 in
    let p = c.merge_cells.new.held in
    let long : length l.held ≡ 128 = omega arith in
    let there : l.k < length ns = omega arith in
    let size : w ≡ get_or ns l.k 0 = omega (arith, c.size_of.ensures) in
    let n : length p ≡ length (take w (drop (l.k * 16) l.held)) = search rules in
    let whole = part_length ns l.held c.args.came.now l.k w small long c.requires.1 there size l.held long in
    let q = ap (λ (b : Bool). of_cells b p) (sym c.if-not-merge_cells.false) ∙ c.merge_cells.ensures in
    block-merged ns l.held c.args.came.now l.k w small long c.requires.1 there size _ p (n ∙ whole) q l.invariant

pub returns : goal.returns
returns c =
    let l = c.loop-k in
    let e : length (sizes_of c.args.code.now) ≡ l.k = omega arith in
    sym (all_made (merge_lists merge_cells) [] _ (blocks_of _ (decoded_cells l.held)) _ l.k (rw blocks-length e) (rw blocks-length e) l.invariant)
