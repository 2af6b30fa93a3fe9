-- The goals of `merge_rows::encode_blocks`.
use Prim.Native.Nat.{ℕ, ◌+◌, ◌*◌, ◌-◌, ◌<◌}
use mathlib.Core.Path.{◌≡◌, sym, ap, ◌∙◌}
use mathlib.Core.List.{map}
use native.Mathlib.Omega.{arith}
use lib.ListN.{length, get_or, take, drop}
use lib.Seq.{take_all}
use borrow.Author.Rules.{rules}
use Rattle.machine_state.specs.HeldProgram.{sizes_of}
use Rattle.machine_state.specs.HeldState.{blocks_of}
use Rattle.merge_cells.specs.HeldCodes.{decoded_cells}
use Rattle.cells.specs.HeldConfined.{confine}
use Rattle.merge_rows.proofs.FieldLaws.{small_of, block-within, blocks-length, block-encoded, part_length}
use Rattle.merge_rows.proofs.encode_blocks.Goals as goal

pub overflow_mul-low : goal.overflow_mul-low
overflow_mul-low c = omega (arith, (small_of _ c.requires.2).blocks)

pub overflow_add-high : goal.overflow_add-high
overflow_add-high c = omega (arith, block-within (sizes_of c.args.code.now) c.loop-k.k c.size_of.result (small_of _ c.requires.2) (omega arith) c.size_of.ensures)

pub offset_bounds-fields-low : goal.offset_bounds-fields-low
offset_bounds-fields-low c = omega (arith, (small_of _ c.requires.2).blocks)

pub slice_bounds-encode_cells-end-in-loop-k : goal.slice_bounds-encode_cells-end-in-loop-k
slice_bounds-encode_cells-end-in-loop-k c = omega (arith, block-within (sizes_of c.args.code.now) c.loop-k.k c.size_of.result (small_of _ c.requires.2) (omega arith) c.size_of.ensures)

pub encode_cells-requires : goal.encode_cells-requires
encode_cells-requires c =
    let l = c.loop-k in
    let long : length l.fields ≡ 128 = omega arith in
    let w = l.k * 16 + c.size_of.result - l.k * 16 in
    let n = part_length (sizes_of c.args.code.now) l.fields l.fields l.k w (small_of _ c.requires.2) long long (omega arith) (omega arith) l.fields long in
    omega (arith, n, c.requires.0, block-within (sizes_of c.args.code.now) c.loop-k.k c.size_of.result (small_of _ c.requires.2) (omega arith) c.size_of.ensures)

pub loop-k-preserved : goal.loop-k-preserved
loop-k-preserved c =
    let l = c.loop-k in
    let ns = sizes_of c.args.code.now in
    let small = small_of _ c.requires.2 in
    let w = l.k * 16 + c.size_of.result - l.k * 16 in
    let p = c.encode_cells.new.numbers in
    let long : length l.fields ≡ 128 = omega arith in
    let there : l.k < length ns = omega arith in
    let size : w ≡ get_or ns l.k 0 = omega (arith, c.size_of.ensures) in
    let n : length p ≡ length (take w (drop (l.k * 16) l.fields)) = search rules in
    let whole = part_length ns l.fields l.fields l.k w small long long there size l.fields long in
    let q = c.encode_cells.ensures ∙ ap (λ (i : ℕ). map confine (take i (drop (l.k * 16) c.args.blocks))) whole in
    block-encoded ns l.fields l.fields l.k w small long long there size c.args.blocks p (n ∙ whole) q l.invariant

pub returns : goal.returns
returns c =
    let l = c.loop-k in
    sym (take_all l.k (blocks_of _ (decoded_cells l.fields)) (rw blocks-length (omega arith))) ∙ l.invariant ∙ take_all l.k (blocks_of _ (map confine c.args.blocks)) (rw blocks-length (omega arith))
