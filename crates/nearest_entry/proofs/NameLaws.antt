-- Laws of the cells' names: those of lines 10 and 12 are the names of the places of the start, and a place is known by its name.
-- Assumes nothing.
use Rattle.std.specs.Prelude.{Some}
use Prim.Native.Nat.{ℕ, zero, suc, ◌+◌, ◌-◌, ◌<◌, ◌≤◌}
use mathlib.Core.Path.{◌≡◌, refl, sym, ap, ap₂, ◌∙◌}
use mathlib.Core.Bool.{Bool, true, false, cond, not, ◌&&◌, false≢true}
use mathlib.Core.List.{List, [], ◌∷◌, ◌++◌, map, append_assoc}
use native.Mathlib.Omega.{arith}
use lib.Dec.{ltb}
use lib.IntN.{pos}
use lib.ListN.{length, get_or, take, drop, length-drop, length-map}
use lib.Seq.{length-take-le}
use Rattle.text.specs.Text.{bytes, is_empty, equals, Line}
use Rattle.text_decimals.specs.Decimal.{numeral, decimal}
use Rattle.text.proofs.TextLaws.{and_right, equals-path}
use Rattle.text_decimals.proofs.DecimalLaws.{decimal-read}
use Rattle.cells.specs.declared.Cell.{Cell}
use Rattle.machine.specs.Machine.{height}
use Rattle.file_format.specs.declared.Section.TheVariants.{Cells as cells, Fields as fields}
use Rattle.file_format.specs.declared.Column.TheVariants.{Cell as cell}
use Rattle.file_format.specs.declared.Role.TheVariants.{Names as names, Values as values}
use Rattle.file_format.specs.Layout.{listed}
use Rattle.file_format.specs.Rows.{stack_names, cell_names, equal_lists, is_field, sizes_from, block_sizes, total, names_laid_out, is_laid_out, well_named, named, Passes}
use Rattle.file_format.specs.Routine.{cells_of, blocks_in_line, start_of, routine_of}
use Rattle.file_format.proofs.RowLaws.{passes-laid-out, passes-named, lists-path}
use Rattle.file_format.proofs.RangeLaws.{cells-few, values-counted}
use Rattle.file_format.proofs.PassingLaws.{fields-total}
use Rattle.text.proofs.JoinLaws.{cut-same}
use Rattle.text_decimals.proofs.SpellingLaws.{decimal-free}
use Rattle.nearest_changes.specs.declared.Position.{Position}
use Rattle.nearest_changes.specs.declared.Position.TheVariants.{Accu, Entry, Field}
use Rattle.nearest_changes.specs.Places.{from, fields_from, positions}
use Rattle.nearest_entry.specs.Answers.{name_of}

-- ---- a place is known by its name

decimal-same : (m n : ℕ) → decimal m ≡ decimal n → m ≡ n
decimal-same m n e = let q : Some (pos m) ≡ Some (pos n) = sym (decimal-read m) ∙ ap numeral e ∙ decimal-read n in cc

-- the first byte of a name
first_byte : {w v : List ℕ} → w ≡ v → get_or w 0 0 ≡ get_or v 0 0
first_byte e = ap (λ (u : List ℕ). get_or u 0 0) e

-- the numbers of a field
field_cut : (k n : ℕ) → drop 1 (name_of (Field k n)) ≡ decimal k ++ 46 ∷ decimal n
unfolding name_of
field_cut k n = append_assoc (decimal k) (bytes ".") (decimal n)

pub name-known : (p q : Position) → name_of p ≡ name_of q → p ≡ q
unfolding name_of
name-known Accu Accu e = refl
name-known Accu (Entry n) e = let h : ◌≡◌ {A = ℕ} 65 83 = first_byte e in absurd (omega arith)
name-known Accu (Field k n) e = let h : ◌≡◌ {A = ℕ} 65 66 = first_byte e in absurd (omega arith)
name-known (Entry m) Accu e = let h : ◌≡◌ {A = ℕ} 83 65 = first_byte e in absurd (omega arith)
name-known (Entry m) (Entry n) e = ap Entry (decimal-same m n (ap (drop 1) e))
name-known (Entry m) (Field k n) e = let h : ◌≡◌ {A = ℕ} 83 66 = first_byte e in absurd (omega arith)
name-known (Field j m) Accu e = let h : ◌≡◌ {A = ℕ} 66 65 = first_byte e in absurd (omega arith)
name-known (Field j m) (Entry n) e = let h : ◌≡◌ {A = ℕ} 66 83 = first_byte e in absurd (omega arith)
name-known (Field j m) (Field k n) e =
    let c = cut-same 46 (decimal m) (decimal n) (decimal-free 46 (omega arith) j) (decimal-free 46 (omega arith) k) (sym (field_cut j m) ∙ ap (drop 1) e ∙ field_cut k n) in
    ap₂ Field (decimal-same j k c.0) (decimal-same m n c.1)

-- ---- line 10

stack-taken : (k m n : ℕ) → m ≤ n → take m (stack_names k n) ≡ map name_of (map Entry (from k m))
unfolding stack_names from name_of
stack-taken k zero n h = refl
stack-taken k (suc m) zero h = absurd (omega arith)
stack-taken k (suc m) (suc n) h = ap (λ ws. (bytes "S" ++ decimal k) ∷ ws) (stack-taken (suc k) m n (omega arith))

line-ten : (ws : List (List ℕ)) (n : ℕ) → length ws ≡ suc n → length ws ≤ 33 → equal_lists ws (take (length ws) cell_names) ≡ true → map name_of (Accu ∷ map Entry (from 0 n)) ≡ ws
unfolding cell_names name_of
line-ten ws n s l e =
    sym (lists-path ws (take (length ws) cell_names) e ∙ ap (λ k. take k cell_names) s ∙ ap (λ vs. bytes "ACCU" ∷ vs) (stack-taken 0 n 32 (omega arith)))

some : (ws : List (List ℕ)) → not (is_empty ws) ≡ true → 0 < length ws
some [] e = absurd (false≢true e)
some (w ∷ ws) e = omega arith

module _ {ls : List Line} (p : Passes ls) where
  pub cells-some : 0 < length (listed (names cells) ls)
  unfolding is_laid_out names_laid_out listed
  cells-some = some (listed (names cells) ls) (passes-laid-out p (names cells) refl)

  pub height-named : suc (height (routine_of ls).start) ≡ length (listed (names cells) ls)
  unfolding height routine_of start_of cells_of
  height-named =
      let h = cells-some in
      let c = values-counted p cells cell refl in
      let d = length-drop 1 (cells_of (listed (values cells cell) ls)) in
      let m : length (cells_of (listed (values cells cell) ls)) ≡ length (listed (values cells cell) ls) = simp length-map in
      omega arith

  pub cells-named : map name_of (Accu ∷ map Entry (from 0 (height (routine_of ls).start))) ≡ listed (names cells) ls
  unfolding named well_named listed
  cells-named = line-ten (listed (names cells) ls) (height (routine_of ls).start) (sym height-named) (cells-few ls p) (passes-named p (names cells) refl)

-- ---- line 12

-- the places of blocks of the given sizes, from block k on
unfoldable pub places_from : ℕ → List ℕ → List Position
places_from k [] = []
places_from k (n ∷ ns) = map (Field k) (from 0 n) ++ places_from (suc k) ns

-- where block k has n fields so far: d more, and the blocks after it
record Named (k n : ℕ) (ns : List ℕ) (ws : List (List ℕ)) : Type 0 where
  pub more : ℕ
  pub after : List ℕ
  pub sizes : ns ≡ (n + more) ∷ after
  pub names : map name_of (map (Field k) (from n more) ++ places_from (suc k) after) ≡ ws

field-named : (k n : ℕ) (w : List ℕ) → is_field k n w ≡ true → name_of (Field k n) ≡ w
unfolding is_field name_of
field-named k n w e = sym (equals-path w (bytes "B" ++ decimal k ++ bytes "." ++ decimal n) (and_right (ltb k 8 && ltb n 16) (equals w (bytes "B" ++ decimal k ++ bytes "." ++ decimal n)) e))

sizes-named : (ws : List (List ℕ)) (k n : ℕ) → total (sizes_from k n ws) ≡ n + length ws → Named k n (sizes_from k n ws) ws
unfolding sizes_from total from places_from
sizes-named [] k n t = record { more = 0; after = []; sizes = ap (λ m. m ∷ []) (omega arith); names = refl }
sizes-named (w ∷ ws) k n t = same (is_field k n w) refl t (sizes-named ws k (suc n)) (sizes-named ws (suc k) 1)
  where
    next : (b : Bool) → is_field (suc k) 0 w ≡ b → total (cond b (n ∷ sizes_from (suc k) 1 ws) (n ∷ [])) ≡ n + suc (length ws)
        → (total (sizes_from (suc k) 1 ws) ≡ 1 + length ws → Named (suc k) 1 (sizes_from (suc k) 1 ws) ws) → Named k n (cond b (n ∷ sizes_from (suc k) 1 ws) (n ∷ [])) (w ∷ ws)
    next true q t g =
        let r = g (omega arith) in
        let one : 1 + r.more ≡ suc r.more = omega arith in
        record {
          more = 0;
          after = suc r.more ∷ r.after;
          sizes = ap₂ (λ m ms. m ∷ ms) (omega arith) (r.sizes ∙ ap (λ m. m ∷ r.after) one);
          names = ap₂ (λ v vs. v ∷ vs) (field-named (suc k) 0 w q) r.names;
        }
    next false q t g = absurd (omega arith)

    same : (b : Bool) → is_field k n w ≡ b → total (cond b (sizes_from k (suc n) ws) (cond (is_field (suc k) 0 w) (n ∷ sizes_from (suc k) 1 ws) (n ∷ []))) ≡ n + suc (length ws)
        → (total (sizes_from k (suc n) ws) ≡ suc n + length ws → Named k (suc n) (sizes_from k (suc n) ws) ws)
        → (total (sizes_from (suc k) 1 ws) ≡ 1 + length ws → Named (suc k) 1 (sizes_from (suc k) 1 ws) ws)
        → Named k n (cond b (sizes_from k (suc n) ws) (cond (is_field (suc k) 0 w) (n ∷ sizes_from (suc k) 1 ws) (n ∷ []))) (w ∷ ws)
    same true q t f g =
        let r = f (omega arith) in
        record {
          more = suc r.more;
          after = r.after;
          sizes = r.sizes ∙ ap (λ m. m ∷ r.after) (omega arith);
          names = ap₂ (λ v vs. v ∷ vs) (field-named k n w q) r.names;
        }
    same false q t f g = next (is_field (suc k) 0 w) refl t g

blocks_named : (ws : List (List ℕ)) → total (block_sizes ws) ≡ length ws → map name_of (places_from 0 (block_sizes ws)) ≡ ws
unfolding block_sizes total places_from from
blocks_named [] t = refl
blocks_named (w ∷ ws) t = go (is_field 0 0 w) refl t
  where
    go : (b : Bool) → is_field 0 0 w ≡ b → total (cond b (sizes_from 0 1 ws) []) ≡ suc (length ws) → map name_of (places_from 0 (cond b (sizes_from 0 1 ws) [])) ≡ w ∷ ws
    go true q t =
        let r = sizes-named ws 0 1 (omega arith) in
        let one : 1 + r.more ≡ suc r.more = omega arith in
        ap (λ ns. map name_of (places_from 0 ns)) (r.sizes ∙ ap (λ m. m ∷ r.after) one) ∙ ap₂ (λ v vs. v ∷ vs) (field-named 0 0 w q) r.names
    go false q t = absurd (omega arith)

-- the blocks that a line fills
pub filled-places : (ns : List ℕ) (cs : List Cell) (k : ℕ) → total ns ≤ length cs → fields_from k (blocks_in_line ns cs) ≡ places_from k ns
unfolding fields_from blocks_in_line places_from total
filled-places [] cs k h = refl
filled-places (n ∷ ns) cs k h =
    ap₂ (λ m ps. map (Field k) (from 0 m) ++ ps) (length-take-le n cs (omega arith)) (filled-places ns (drop n cs) (suc k) (let d = length-drop n cs in omega arith))

module _ {ls : List Line} (p : Passes ls) where
  abbrev sizes : List ℕ
  sizes = block_sizes (listed (names fields) ls)

  pub fields-placed : fields_from 0 (routine_of ls).start.blocks ≡ places_from 0 sizes
  unfolding routine_of start_of cells_of
  fields-placed =
      let t = fields-total p in
      let m : length (cells_of (listed (values fields cell) ls)) ≡ length (listed (values fields cell) ls) = simp length-map in
      filled-places sizes (cells_of (listed (values fields cell) ls)) 0 (omega arith)

  pub fields-named : map name_of (fields_from 0 (routine_of ls).start.blocks) ≡ listed (names fields) ls
  fields-named = ap (map name_of) fields-placed ∙ blocks_named (listed (names fields) ls) (fields-total p ∙ values-counted p fields cell refl)

  pub places-named : map name_of (positions (routine_of ls).start) ≡ listed (names cells) ls ++ listed (names fields) ls
  unfolding positions
  places-named = map-append (Accu ∷ map Entry (from 0 (height (routine_of ls).start))) (fields_from 0 (routine_of ls).start.blocks) ∙ ap₂ ◌++◌ (cells-named p) fields-named
    where
      map-append : (xs ys : List Position) → map name_of (xs ++ ys) ≡ map name_of xs ++ map name_of ys
      map-append [] ys = refl
      map-append (x ∷ xs) ys = ap (λ vs. name_of x ∷ vs) (map-append xs ys)
