-- `merge_rows::put` meets its contract.
use Prim.Native.Nat.{ℕ, ◌+◌, ◌-◌, ◌≤◌}
use mathlib.Core.Path.{◌≡◌, ap, ◌∙◌}
use mathlib.Core.List.{List, map}
use native.Mathlib.Omega.{arith}
use lib.ListN.{length, drop, set, length-set, length-drop}
use lib.Seq.{take_all}
use borrow.Rule.Slice.PartMut.{put_mid}
use Rattle.merge_cells.specs.HeldCodes.{decoded_cells}
use Rattle.cells.specs.HeldConfined.{confine}
use Rattle.machine_state.specs.HeldProgram.{sizes_of}
use Rattle.merge_rows.specs.HeldRows.{part}
use Rattle.merge_rows.proofs.PartLaws.{part_length, part_same}
use Rattle.merge_rows.proofs.RowLaws.{put-mark, put_holds}
use borrow.Author.Rules.{rules}
use Rattle.merge_rows.proofs.put.Goals.{After-encode-accu, After-encode_blocks, After-encode_cells, Start}
use Rattle.merge_rows.proofs.put.Goals as goal

-- the head that is written
module _ (c : After-encode-accu) where
  abbrev start : Start
  start = c.before.before.before.before.before.before

  abbrev free : ℕ
  free = start.args.w.state.free

  few : free ≤ 64
  few = start.requires.1.0.state.free

  abbrev head : List ℕ
  head = set (set (set (set (set start.args.row.now 0 1) 1 free) 2 start.args.w.cycles) 3 start.args.w.words) 4 c.encode-accu.result

  long : length head ≡ 197
  long = simp length-set start.requires.0

-- the entries are written
module _ (m : After-encode_cells) where
  abbrev e : After-encode-accu
  e = m.before.before.before.before

  abbrev p : List ℕ
  p = m.encode_cells.new.numbers

  module _ (q : length p ≡ length (part (5 + free e) 69 (head e))) where
    lent : length p ≡ 69 - (5 + free e)
    lent = q ∙ part_length (5 + free e) 69 (head e) (omega (arith, long e))

    entered : length (put_mid (5 + free e) (69 - (5 + free e)) (head e) p) ≡ 197
    entered = part_same (head e) p (5 + free e) 69 (omega (arith, few e)) (omega (arith, long e)) lent ∙ long e

    stack : decoded_cells p ≡ map confine (drop (free e) (start e).args.w.state.stack)
    stack =
        m.encode_cells.ensures
        ∙ ap (map confine)
        (take_all (length (part (5 + free e) 69 (head e))) (drop (free e) (start e).args.w.state.stack)
        (rw (length-drop, part_length (5 + free e) 69 (head e) (omega (arith, long e))) (omega (arith, (start e).requires.1.0.state.places))))

-- the fields are written
module _ (b : After-encode_blocks) where
  abbrev m : After-encode_cells
  m = b.before.before.before.before

  abbrev q : List ℕ
  q = b.encode_blocks.new.fields

  abbrev entries : List ℕ
  entries = put_mid (5 + free (e m)) (69 - (5 + free (e m))) (head (e m)) (p m)

  module _ (s : length (p m) ≡ length (part (5 + free (e m)) 69 (head (e m)))) (t : length q ≡ length (part 69 197 entries)) where
    fields : length q ≡ 128
    fields = t ∙ part_length 69 197 entries (omega (arith, entered m s))

    whole_length : length (put_mid 69 128 entries q) ≡ 197
    whole_length = part_same entries q 69 197 (omega arith) (omega (arith, entered m s)) fields ∙ entered m s

pub returns : goal.returns
returns c =
    let s = start (e (m (goal.at.returns c).After-encode_blocks)) in
    let i : length (p (m (goal.at.returns c).After-encode_blocks)) ≡ length (part (5 + free (e (m (goal.at.returns c).After-encode_blocks))) 69 (head (e (m (goal.at.returns c).After-encode_blocks)))) = search rules in
    let n = fields (goal.at.returns c).After-encode_blocks i (search rules) in (
      put-mark (sizes_of s.args.code.now) s.args.w s.args.row.now (p (m (goal.at.returns c).After-encode_blocks)) (q (goal.at.returns c).After-encode_blocks) (e (m (goal.at.returns c).After-encode_blocks)).encode-accu.result s.requires.0 s.requires.1.0 s.requires.1.1 (lent (m (goal.at.returns c).After-encode_blocks) i) n (e (m (goal.at.returns c).After-encode_blocks)).encode-accu.ensures (stack (m (goal.at.returns c).After-encode_blocks) i) c.encode_blocks.ensures,
      put_holds (sizes_of s.args.code.now) s.args.w s.args.row.now (p (m (goal.at.returns c).After-encode_blocks)) (q (goal.at.returns c).After-encode_blocks) (e (m (goal.at.returns c).After-encode_blocks)).encode-accu.result s.requires.0 s.requires.1.0 s.requires.1.1 (lent (m (goal.at.returns c).After-encode_blocks) i) n (e (m (goal.at.returns c).After-encode_blocks)).encode-accu.ensures (stack (m (goal.at.returns c).After-encode_blocks) i) c.encode_blocks.ensures,
    )
