-- Laws of the fields of blocks, in sixteen places for each, that are put down and merged block by block. Assumes nothing.
use Prim.Native.Nat.{ℕ, zero, suc, ◌+◌, ◌*◌, ◌-◌, ◌≤◌, ◌<◌}
use mathlib.Core.Path.{◌≡◌, refl, sym, ap, ap₂, ◌∙◌}
use mathlib.Core.List.{List, [], ◌∷◌, ◌++◌, map, append_assoc}
use native.Mathlib.Omega.{arith}
use native.Mathlib.Numerals.{add-one}
use lib.ListN.{length, get_or, take, drop, set, length-drop}
use lib.Seq.{length-take-le, take_at, drop_at, drop-drop, take-take, take-add, take-suc, take-suc-set}
use borrow.Rule.Slice.PartMut.{put_mid, take_put}
use Rattle.cells.specs.Try.{Try, stuck, done}
use Rattle.cells.specs.declared.Cell.{Cell}
use Rattle.machine_state.specs.HeldState.{blocks_of}
use Rattle.merge_cells.specs.Merge.{merge_cells}
use Rattle.merge_theory.specs.Merge.{merge_lists}
use Rattle.merge_cells.specs.HeldCodes.{decoded_cells}
use Rattle.cells.specs.HeldConfined.{confine}
use Rattle.machine_state.specs.HeldProgram.{sizes_of, IsProgram}
use Rattle.machine_state.proofs.ProgramLaws.{sizes-count}
use Rattle.merge_rows.proofs.ZipLaws.{Partly, one-made, none-merged}
use Rattle.merge_cells.proofs.CodeLaws.{cells-length, cells-append, cells-take, cells-drop}

pub blocks-length : (ns : List ℕ) (fs : List Cell) → length (blocks_of ns fs) ≡ length ns
unfolding blocks_of
blocks-length [] fs = refl
blocks-length (n ∷ ns) fs = ap suc (blocks-length ns (drop 16 fs))

blocks_at : (ns : List ℕ) (fs : List Cell) (k : ℕ) → k < length ns → get_or (blocks_of ns fs) k [] ≡ take (get_or ns k 0) (drop (k * 16) fs)
unfolding blocks_of
blocks_at [] fs k h = absurd (omega arith)
blocks_at (n ∷ ns) fs zero h = refl
blocks_at (n ∷ ns) fs (suc k) h =
    let e : 16 + k * 16 ≡ suc k * 16 = omega arith in
    blocks_at ns (drop 16 fs) k (omega arith) ∙ ap (take (get_or ns k 0)) (drop-drop (k * 16) 16 fs ∙ ap (λ (i : ℕ). drop i fs) e)

-- the cells of a list, each changed

drop-map : (f : Cell → Cell) (n : ℕ) (xs : List Cell) → drop n (map f xs) ≡ map f (drop n xs)
drop-map f zero xs = refl
drop-map f (suc n) [] = refl
drop-map f (suc n) (x ∷ xs) = drop-map f n xs

take-map : (f : Cell → Cell) (n : ℕ) (xs : List Cell) → take n (map f xs) ≡ map f (take n xs)
take-map f zero xs = refl
take-map f (suc n) [] = refl
take-map f (suc n) (x ∷ xs) = ap (λ (l : List Cell). f x ∷ l) (take-map f n xs)

pub blocks-map : (f : Cell → Cell) (ns : List ℕ) (fs : List Cell) → blocks_of ns (map f fs) ≡ map (map f) (blocks_of ns fs)
unfolding blocks_of
blocks-map f [] fs = refl
blocks-map f (n ∷ ns) fs =
    ap₂ (λ (l : List Cell) (ls : List (List Cell)). l ∷ ls) (take-map f n fs) (ap (blocks_of ns) (drop-map f 16 fs) ∙ blocks-map f ns (drop 16 fs))

-- a block in its places

past : (fs p : List Cell) (n : ℕ) → n ≤ 16 → length p ≡ n → drop 16 (p ++ drop n fs) ≡ drop 16 fs
past fs p n h e =
    let m : n + (16 - n) ≡ 16 = omega arith in
    let to : (l : List Cell) → drop (16 - n) (drop n l) ≡ drop 16 l = λ l. drop-drop (16 - n) n l ∙ ap (λ (i : ℕ). drop i l) m in
    sym (to (p ++ drop n fs)) ∙ ap (drop (16 - n)) (drop_at p (drop n fs) n e) ∙ to fs

later : (fs p : List Cell) (b m : ℕ) → 16 + b ≤ length fs → drop 16 (put_mid (16 + b) m fs p) ≡ put_mid b m (drop 16 fs) p
later fs p b m h =
    let q = p ++ drop m (drop (16 + b) fs) in
    ap (λ (l : List Cell). drop 16 (l ++ q)) (take-add 16 b fs)
    ∙ ap (drop 16) (append_assoc (take 16 fs) (take b (drop 16 fs)) q)
    ∙ drop_at (take 16 fs) (take b (drop 16 fs) ++ q) 16 (length-take-le 16 fs (omega arith))
    ∙ ap (λ (l : List Cell). take b (drop 16 fs) ++ (p ++ drop m l)) (sym (drop-drop b 16 fs))

blocks-put : (ns : List ℕ) (fs p : List Cell) (k : ℕ) → ((i : ℕ) → get_or ns i 0 ≤ 16) → k < length ns → k * 16 + 16 ≤ length fs → length p ≡ get_or ns k 0
    → blocks_of ns (put_mid (k * 16) (get_or ns k 0) fs p) ≡ set (blocks_of ns fs) k p
unfolding blocks_of
blocks-put [] fs p k few h r e = absurd (omega arith)
blocks-put (n ∷ ns) fs p zero few h r e =
    ap₂ (λ (b : List Cell) (l : List Cell). b ∷ blocks_of ns l) (take_at p (drop n fs) n e) (past fs p n (few 0) e)
blocks-put (n ∷ ns) fs p (suc k) few h r e =
    let a : suc k * 16 ≡ 16 + k * 16 = omega arith in
    let m = get_or ns k 0 in
    let n≤ : n ≤ 16 = few 0 in
    let l = put_mid (16 + k * 16) m fs p in
    let first : take n l ≡ take n fs = sym (take-take n (16 + k * 16) l (omega arith)) ∙ ap (take n) (take_put (16 + k * 16) m fs p (omega arith)) ∙ take-take n (16 + k * 16) fs (omega arith) in
    let room : k * 16 + 16 ≤ length (drop 16 fs) = rw length-drop (omega arith) in
    ap (λ (i : ℕ). blocks_of (n ∷ ns) (put_mid i m fs p)) a
    ∙ ap₂ (λ (b : List Cell) (f : List Cell). b ∷ blocks_of ns f) first (later fs p (k * 16) m (omega arith))
    ∙ ap (λ (bs : List (List Cell)). take n fs ∷ bs) (blocks-put ns (drop 16 fs) p k (λ i. few (suc i)) (omega arith) room e)

cells-put : (a m : ℕ) (xs p : List ℕ) → decoded_cells (put_mid a m xs p) ≡ put_mid a m (decoded_cells xs) (decoded_cells p)
cells-put a m xs p = simp (cells-append, cells-take, cells-drop)

-- at most eight blocks, of at most sixteen fields
pub record Small (ns : List ℕ) : Type 0 where
  pub blocks : length ns ≤ 8
  pub few : (k : ℕ) → get_or ns k 0 ≤ 16

pub small_of : (ws : List ℕ) → IsProgram ws → Small (sizes_of ws)
small_of ws p = record { blocks = omega (arith, sizes-count ws p, p.blocks); few = p.sizes }

-- the block at k ends within the fields
pub block-within : (ns : List ℕ) (k z : ℕ) → Small ns → k < length ns → z ≡ get_or ns k 0 → k * 16 + z ≤ 128
block-within ns k z small r e = omega (arith, small.few k, small.blocks)

-- the block at k, as the merge of its places is told of it
module _ (ns xs ys : List ℕ) (k z : ℕ) (small : Small ns) (h : length xs ≡ 128) (l : length ys ≡ 128) (r : k < length ns) (e : z ≡ get_or ns k 0) where
  abbrev part : List ℕ → List ℕ
  part l = take z (drop (k * 16) l)

  block-is : (l : List ℕ) → decoded_cells (part l) ≡ get_or (blocks_of ns (decoded_cells l)) k []
  block-is l = cells-take z (drop (k * 16) l) ∙ ap₂ take e (cells-drop (k * 16) l) ∙ sym (blocks_at ns (decoded_cells l) k r)

  within : (l : List ℕ) → k < length (blocks_of ns (decoded_cells l))
  within l = rw blocks-length r

  -- the block's places are written, p
  block-put : (p : List ℕ) → length p ≡ z → blocks_of ns (decoded_cells (put_mid (k * 16) z xs p)) ≡ set (blocks_of ns (decoded_cells xs)) k (decoded_cells p)
  block-put p n =
      let room : k * 16 + 16 ≤ length (decoded_cells xs) = rw cells-length (omega (arith, small.blocks)) in
      ap (blocks_of ns) (cells-put (k * 16) z xs p ∙ ap (λ (i : ℕ). put_mid (k * 16) i (decoded_cells xs) (decoded_cells p)) e)
      ∙ blocks-put ns (decoded_cells xs) (decoded_cells p) k small.few r room (cells-length p ∙ n ∙ e)

  pub block-encoded : (cs : List Cell) (p : List ℕ) → length p ≡ z → decoded_cells p ≡ map confine (take z (drop (k * 16) cs))
      → take k (blocks_of ns (decoded_cells xs)) ≡ take k (blocks_of ns (map confine cs))
      → take (k + 1) (blocks_of ns (decoded_cells (put_mid (k * 16) z xs p))) ≡ take (k + 1) (blocks_of ns (map confine cs))
  block-encoded cs p n q i =
      let block : decoded_cells p ≡ get_or (blocks_of ns (map confine cs)) k [] = q ∙ sym (blocks_at ns (map confine cs) k r ∙ ap₂ take (sym e) (drop-map confine (k * 16) cs) ∙ take-map confine z (drop (k * 16) cs)) in
      rw add-one
      (ap (take (suc k)) (block-put p n)
      ∙ take-suc-set (blocks_of ns (decoded_cells xs)) k (decoded_cells p) (within xs)
      ∙ ap₂ (λ (l : List (List Cell)) (b : List Cell). l ++ (b ∷ [])) i block
      ∙ sym (take-suc (blocks_of ns (map confine cs)) k [] (rw blocks-length r)))

  pub block-merged : (w : Try (List (List Cell))) (p : List ℕ) → length p ≡ z → done (decoded_cells p) ≡ merge_lists merge_cells (decoded_cells (part xs)) (decoded_cells (part ys))
      → Partly (merge_lists merge_cells) [] w k (blocks_of ns (decoded_cells xs)) (blocks_of ns (decoded_cells ys))
      → Partly (merge_lists merge_cells) [] w (k + 1) (blocks_of ns (decoded_cells (put_mid (k * 16) z xs p))) (blocks_of ns (decoded_cells ys))
  block-merged w p n q m =
      rw (block-put p n)
      (one-made (merge_lists merge_cells) [] w (blocks_of ns (decoded_cells xs)) (blocks_of ns (decoded_cells ys)) k (decoded_cells p) (within xs) (within ys) (q ∙ ap₂ (merge_lists merge_cells) (block-is xs) (block-is ys)) m)

  pub block-unlike : (w : Try (List (List Cell))) → stuck ≡ merge_lists merge_cells (decoded_cells (part xs)) (decoded_cells (part ys))
      → Partly (merge_lists merge_cells) [] w k (blocks_of ns (decoded_cells xs)) (blocks_of ns (decoded_cells ys)) → w ≡ stuck
  block-unlike w q m =
      none-merged (merge_lists merge_cells) [] w (blocks_of ns (decoded_cells xs)) (blocks_of ns (decoded_cells ys)) k (within xs) (within ys) (q ∙ ap₂ (merge_lists merge_cells) (block-is xs) (block-is ys)) m

  pub part_length : (l : List ℕ) → length l ≡ 128 → length (part l) ≡ z
  part_length l n =
      let s = small.few k in
      length-take-le z (drop (k * 16) l) (rw length-drop (omega (arith, s, small.blocks)))
