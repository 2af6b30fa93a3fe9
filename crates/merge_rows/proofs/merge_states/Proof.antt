-- `merge_rows::merge_states` meets its contract. Assumes nothing.
use Prim.Native.Nat.{ℕ, ◌+◌, ◌-◌, ◌≤◌}
use mathlib.Core.Path.{◌≡◌, refl, sym, ap, ◌∙◌}
use mathlib.Core.Bool.{Bool}
use mathlib.Core.List.{List}
use native.Mathlib.Omega.{arith}
use lib.ListN.{length, get_or, set, length-set}
use borrow.Rule.Slice.PartMut.{put_mid}
use Rattle.cells.specs.Try.{done}
use Rattle.merge_cells.specs.HeldCodes.{decoded_cell}
use Rattle.merge_cells.specs.Merge.{merge_cells}
use Rattle.machine_state.specs.HeldProgram.{sizes_of}
use Rattle.merge_rows.specs.HeldRows.{part, unused_of, of_merged, of_cells}
use Rattle.merge_rows.proofs.PartLaws.{part_length}
use Rattle.merge_rows.proofs.RowLaws.{unused-most}
use Rattle.merge_rows.proofs.MeetLaws.{heights-unlike, accus-unlike, stacks-unlike, stacked-length, stacked-start, rows-merged, start-merged, merged-length}
use borrow.Author.Rules.{rules}
use Rattle.merge_rows.proofs.merge_states.Statement.{statement}
use Rattle.merge_rows.proofs.merge_states.Tie as tie

-- the heights
module _ (c : tie.After-unused-other) where
  abbrev one : tie.After-unused-free
  one = c.before.before

  abbrev start : tie.Start
  start = one.before.before.before.before

  abbrev row : List ℕ
  row = start.args.row.now

  abbrev came : List ℕ
  came = start.args.came.now

  abbrev ns : List ℕ
  ns = sizes_of start.args.code.now

  abbrev f : ℕ
  f = one.unused-free.result

  few : f ≤ 64
  few = rw one.unused-free.ensures (unused-most _)

returns : tie.Need-returns-then-free-other
returns c =
    let u = c in
    (λ x y. heights-unlike (ns u.before) x y (row u.before) (came u.before) (start u.before).requires.0 (start u.before).requires.1 (λ e. c.if-free-other.true ((one u.before).unused-free.ensures ∙ e ∙ sym u.unused-other.ensures)), refl)

returns-2 : tie.Need-returns-in_default
unfolding of_merged
returns-2 c =
    let m = c in
    let u = m in
    let e = ap of_merged (sym c.in_default.is) ∙ m.merge_numbers-merged.ensures in
    (λ x y. accus-unlike (ns u.before.before.before.before.before) x y (row u.before.before.before.before.before) (came u.before.before.before.before.before) e, refl)

-- the accumulators are merged, and the heights are one
module _ (c : tie.In-Some) where
  abbrev numbers : tie.After-merge_numbers-merged
  numbers = c.before

  abbrev u : tie.After-unused-other
  u = numbers.before.before.before.before

  abbrev x : ℕ
  x = c.in-Some.accu

  accu : done (decoded_cell x) ≡ merge_cells (decoded_cell (get_or (row u) 4 0)) (decoded_cell (get_or (came u) 4 0))
  unfolding of_merged
  accu = ap of_merged (sym c.in-Some.is) ∙ numbers.merge_numbers-merged.ensures

  height : f u ≡ unused_of (get_or (came u) 1 0)
  height = numbers.if-free-other.false ∙ u.unused-other.ensures

  long : length (set (row u) 4 x) ≡ 197
  long = rw length-set (start u).requires.0

-- the entries are merged, or not
module _ (m : tie.After-merge_cells) where
  abbrev k : tie.In-Some
  k = m.before.before.before

  abbrev p : List ℕ
  p = m.merge_cells.new.held

  module _ (q : length p ≡ length (part (5 + f (u k)) 69 (set (row (u k)) 4 (x k)))) where
    lent : length p ≡ 69 - (5 + f (u k))
    lent = q ∙ part_length (5 + f (u k)) 69 (set (row (u k)) 4 (x k)) (omega (arith, long k))

    stack-length : length (put_mid (5 + f (u k)) (69 - (5 + f (u k))) (set (row (u k)) 4 (x k)) p) ≡ 197
    stack-length = stacked-length (ns (u k)) 0 0 (row (u k)) (came (u k)) (f (u k)) (x k) (one (u k)).unused-free.ensures (height k) (start (u k)).requires.0 p lent

same_length : tie.Need-shape_of-row-then-not-merge_cells
same_length c =
    let m = c in
    stack-length m.before.before.before (search rules) ∙ sym (start (u (k m.before.before.before))).requires.0

returns-3 : tie.Need-returns-then-not-merge_cells
returns-3 c =
    let m = c in
    let v = u (k m.before.before.before) in
    let l = lent m.before.before.before (search rules) in
    let e = ap (λ (b : Bool). of_cells b (p m.before.before.before)) (sym (c.if-not-merge_cells.true)) ∙ m.merge_cells.ensures in (
      λ a b. stacks-unlike (ns v) a b (row v) (came v) (f v) (x (k m.before.before.before)) (one v).unused-free.ensures (height (k m.before.before.before)) (start v).requires.0 e,
      stacked-start (ns v) 0 0 (row v) (came v) (f v) (x (k m.before.before.before)) (one v).unused-free.ensures (height (k m.before.before.before)) (start v).requires.0 (p m.before.before.before) l,
    )

part-merge-blocks-end : tie.Need-slice_bounds-merge_blocks-end
part-merge-blocks-end c =
    let m = c in
    let l = stack-length m.before.before.before (search rules) in
    omega (arith, l)

-- the blocks are merged, or not
module _ (b : tie.After-merge_blocks) where
  abbrev stacked : tie.After-merge_cells
  stacked = b.before.before.before.before.before.before

  abbrev q : List ℕ
  q = b.merge_blocks.new.held

  abbrev stack-row : List ℕ
  stack-row = let v = u (k stacked) in put_mid (5 + f v) (69 - (5 + f v)) (set (row v) 4 (x (k stacked))) (p stacked)

  module _ (s : length (p stacked) ≡ length (part (5 + f (u (k stacked))) 69 (set (row (u (k stacked))) 4 (x (k stacked))))) where
    fields-length : length q ≡ length (part 69 197 stack-row) → length q ≡ 128
    fields-length t = t ∙ part_length 69 197 stack-row (omega (arith, stack-length stacked s))

same-length-2 : tie.Need-shape_of-row
same-length-2 c =
    let b = c in
    let m = stacked b.before.before in
    let v = u (k m) in
    let l = lent m (search rules) in
    merged-length (ns v) 0 0 (row v) (came v) (f v) (x (k m)) (one v).unused-free.ensures (height (k m)) (start v).requires.0 (p m) l (q b.before.before) (fields-length b.before.before (search rules) (search rules)) ∙ sym (start v).requires.0

returns-4 : tie.Need-returns
returns-4 c =
    let b = c in
    let m = stacked b.before.before in
    let v = u (k m) in
    let l = lent m (search rules) in
    let n = fields-length b.before.before (search rules) (search rules) in
    let s = ap (λ (t : Bool). of_cells t (p m)) (sym (b.if-not-merge_cells.false)) ∙ m.merge_cells.ensures in (
      λ a d. rows-merged (ns v) a d (row v) (came v) (f v) (x (k m)) (one v).unused-free.ensures (height (k m)) (start v).requires.0 (p m) l (q b.before.before) n b.merge_blocks.result (accu (k m)) s b.merge_blocks.ensures,
      start-merged (ns v) 0 0 (row v) (came v) (f v) (x (k m)) (one v).unused-free.ensures (height (k m)) (start v).requires.0 (p m) l (q b.before.before) n,
    )

pub merge_states_spec : {M : Type 1} → statement M
merge_states_spec =
    tie.close
    (tie.spec
    (λ c. search rules)
    (λ c κs. search rules)
    (λ c. search rules)
    (λ c κs. search rules)
    returns
    (λ c. search rules)
    (λ c. search rules)
    (λ c κs. search rules)
    (λ c. search rules)
    (λ c. search rules)
    returns-2
    (λ c. search rules)
    (λ c. omega (arith, few (u c)))
    (λ c. omega (arith, few (u c)))
    (λ c. omega (arith, few (u c)))
    (λ c. omega (arith, few (u c)))
    (λ c. omega (arith, long c))
    (λ c. let h = few (u c.before) in search rules)
    (λ c. let h = few (u c.before) in search rules)
    (λ c. let h = few (u c.before) in search rules)
    (λ c. search rules)
    (λ c κs. search rules)
    same_length
    returns-3
    (λ c. search rules)
    (λ c. search rules)
    part-merge-blocks-end
    (λ c. search rules)
    (λ c. search rules)
    (λ c. search rules)
    (λ c κs. search rules)
    same-length-2
    returns-4)
