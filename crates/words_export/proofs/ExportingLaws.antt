-- Laws of the two passes over the code lines: the next line, the indices of the opcodes, and the words of one line more; both come to what
-- the export is. Assumes nothing.
use Prim.Native.Nat.{ℕ, zero, suc, ◌+◌, ◌*◌, ◌<◌, ◌≤◌}
use mathlib.Core.Path.{◌≡◌, refl, sym, ap, ap₂, ◌∙◌}
use mathlib.Core.Bool.{Bool, true, false, cond}
use mathlib.Core.List.{List, [], ◌∷◌, ◌++◌, append_assoc, append-nil}
use native.Mathlib.Omega.{arith}
use native.Mathlib.Numerals.{add-one}
use lib.IntN.{ℤ}
use lib.ListN.{length, get_or, take, drop, set, length-map, length-set, drop_of_length-le, get_or-map}
use lib.Seq.{drop-cons, take-suc-set, get_or-take, length-take-le}
use Rattle.text.specs.Text.{Line, no_line, find}
use Rattle.text_decimals.specs.Memory.{over}
use Rattle.text.proofs.LineLaws.{line-drop}
use Rattle.text_decimals.proofs.MemoryLaws.{Wrote, wrote-more, wrote-start}
use Rattle.instructions.specs.Kinds.{kind_names, kind_at}
use Rattle.numbers.specs.Numbers.{residue}
use Rattle.file_format.specs.Rows.{op, arg}
use Rattle.words.specs.Words.{word_bits, bytes_of, all_bytes}
use Rattle.words.specs.Decoding.{item_of, has_argument, size_of}
use Rattle.words.specs.Export.{Op, op_of, positions, items_from, item_words, words_in, export_ops}
use Rattle.words.proofs.WordLaws.{bytes-length}
use Rattle.words.proofs.HeadLaws.{size_small, size-one, size-two}
use Rattle.words_export.specs.HeldLines.{ops_in, bytes_from, argument_at, line_bytes}

-- ---- the code lines

-- the kind of a code line by its text
abbrev kind_in : List ℕ → ℕ
kind_in text = find (op text) kind_names

module _ (ps : List (List ℕ)) (first : ℕ) (ls rest : List Line) (count n : ℕ) (e : rest ≡ drop n ls) (h : n < count) (k : count ≤ length ls) where
  -- what is made of a line
  abbrev f : Line → Op
  f l = op_of ps first l.text

  -- the first line that is left is the next of the code lines
  pub next-op : drop n (ops_in ps first (take count ls)) ≡ op_of ps first (get_or rest 0 no_line).text ∷ drop (suc n) (ops_in ps first (take count ls))
  next-op =
      let l : n < length (ops_in ps first (take count ls)) = rw length-map (omega (arith, length-take-le count ls k)) in
      drop-cons (ops_in ps first (take count ls)) n (f no_line) l
      ∙ ap (λ x. x ∷ drop (suc n) (ops_in ps first (take count ls)))
      (get_or-map f (take count ls) n no_line ∙ ap f (get_or-take count ls n no_line h ∙ sym (line-drop ls rest n e)))

-- past the last of them nothing is left
pub no-op : (ps : List (List ℕ)) (first : ℕ) (ls : List Line) (count n : ℕ) → count ≤ length ls → count ≤ n → drop n (ops_in ps first (take count ls)) ≡ []
no-op ps first ls count n k h = drop_of_length-le (ops_in ps first (take count ls)) {i = n} (rw length-map (omega (arith, length-take-le count ls k)))

-- ---- the indices of the opcodes

-- the pass that finds them: the first n of `held` are the indices of the opcodes of the first n of xs, and the next is i
pub record Indexing (xs : List Op) (held : List ℕ) (i n : ℕ) : Type 0 where
  pub near : i ≤ 2 * n
  pub room : length held ≡ 1024
  pub whole : take n held ++ positions i (drop n xs) ≡ positions 0 xs

pub indexing-next : (ps : List (List ℕ)) (first : ℕ) (text : List ℕ) {xs : List Op} {held : List ℕ} {i n : ℕ} → Indexing xs held i n → n < 1024
    → drop n xs ≡ op_of ps first text ∷ drop (suc n) xs → {size : ℕ} → size ≡ size_of (kind_in text) → Indexing xs (set held n i) (i + size) (n + 1)
unfolding positions op_of
indexing-next ps first text {xs} {held} {i} {n} w h e {size} g =
    let s = size_small (kind_in text) in
    let l = w.near in
    let r = w.room in
    let later = positions (i + size_of (kind_in text)) (drop (suc n) xs) in record {
      near = omega arith;
      room = length-set held n i ∙ r;
      whole = rw (add-one n, g)
          (ap (λ t. t ++ later) (take-suc-set held n i (omega arith))
          ∙ append_assoc (take n held) (i ∷ []) later
          ∙ ap (λ ys. take n held ++ positions i ys) (sym e)
          ∙ w.whole);
    }

pub indexing-ends : {xs : List Op} {held : List ℕ} {i n : ℕ} → Indexing xs held i n → drop n xs ≡ [] → take n held ≡ positions 0 xs
unfolding positions
indexing-ends {xs} {held} {i} {n} w e = sym (append-nil (take n held)) ∙ ap (λ ys. take n held ++ positions i ys) (sym e) ∙ w.whole

pub positions-length : (i : ℕ) (xs : List Op) → length (positions i xs) ≡ length xs
unfolding positions
positions-length i [] = refl
positions-length i (x ∷ xs) = ap suc (positions-length (i + size_of x.kind) xs)

-- no index is further than two words a line
pub positions-small : (i : ℕ) (xs : List Op) (m : ℕ) → i + 2 * length xs ≤ m → 0 < m → (j : ℕ) → get_or (positions i xs) j 0 < m
unfolding positions
positions-small i [] m h g j = g
positions-small i (x ∷ xs) m h g zero = omega arith
positions-small i (x ∷ xs) m h g (suc j) =
    let s = size_small x.kind in
    positions-small (i + size_of x.kind) xs m (omega arith) g j

-- ---- the bytes of one line

bytes-append : (ms ns : List ℕ) → all_bytes (ms ++ ns) ≡ all_bytes ms ++ all_bytes ns
unfolding all_bytes
bytes-append [] ns = refl
bytes-append (m ∷ ms) ns = ap (λ bs. bytes_of m ++ bs) (bytes-append ms ns) ∙ sym (append_assoc (bytes_of m) (all_bytes ms) (all_bytes ns))

-- as many words as the kind takes
words_size : (i k : ℕ) (z : ℤ) → length (item_words (item_of i k z)) ≡ size_of k
unfolding item_words size_of
words_size i k z = go (has_argument (kind_at k).argument)
  where
    go : (b : Bool) → length ((kind_at k).opcode ∷ cond b (residue word_bits z ∷ []) []) ≡ cond b 2 1
    go true = refl
    go false = refl

module _ (ps : List (List ℕ)) (is : List ℕ) (first i : ℕ) (text : List ℕ) where
  line-length : length (line_bytes ps is first i text) ≡ 4 * size_of (kind_in text)
  unfolding line_bytes
  line-length =
      let z = argument_at ps is first i (arg text) (kind_at (kind_in text)).argument in
      bytes-length (item_words (item_of i (kind_in text) z)) ∙ ap (λ n. 4 * n) (words_size i (kind_in text) z)

  -- its bytes stand before those of the lines after it
  pub line_first : (xs : List Op) → bytes_from is i (op_of ps first text ∷ xs) ≡ line_bytes ps is first i text ++ bytes_from is (i + size_of (kind_in text)) xs
  unfolding bytes_from items_from words_in line_bytes op_of argument_at
  line_first xs = bytes-append (item_words (item_of i (kind_in text) (argument_at ps is first i (arg text) (kind_at (kind_in text)).argument))) (words_in (items_from is (i + size_of (kind_in text)) xs))

  module _ {k n : ℕ} (e : k ≡ kind_in text) (o : n ≡ (kind_at k).opcode) where
    -- the opcode n alone, where kind k has no argument word
    pub line_plain : has_argument (kind_at k).argument ≡ false → (line_bytes ps is first i text ≡ bytes_of n) × (size_of (kind_in text) ≡ 1)
    unfolding line_bytes item_words all_bytes
    line_plain h =
        let h' : has_argument (kind_at (kind_in text)).argument ≡ false = rw e at h in
        (rw h' (append-nil (bytes_of (kind_at (kind_in text)).opcode) ∙ ap bytes_of (sym (o ∙ ap (λ j. (kind_at j).opcode) e))), size-one (kind_in text) h')

    -- and the argument word z that the argument w makes
    pub line-with : has_argument (kind_at k).argument ≡ true → {w : List ℕ} {z : ℤ} → w ≡ arg text → z ≡ argument_at ps is first i w (kind_at k).argument
        → (line_bytes ps is first i text ≡ bytes_of n ++ bytes_of (residue word_bits z)) × (size_of (kind_in text) ≡ 2)
    unfolding line_bytes item_words all_bytes
    line-with h {w} {z} u d =
        let h' : has_argument (kind_at (kind_in text)).argument ≡ true = rw e at h in
        let d' = d ∙ ap₂ (λ v j. argument_at ps is first i v (kind_at j).argument) u e in (
          rw h'
              (ap (λ bs. bytes_of (kind_at (kind_in text)).opcode ++ bs) (append-nil _)
              ∙ ap₂ (λ j y. bytes_of j ++ bytes_of (residue word_bits y)) (sym (o ∙ ap (λ j. (kind_at j).opcode) e)) (sym d')),
          size-two (kind_in text) h',
        )

-- ---- the words of the lines

-- the pass that writes them: out holds the words of the first n of xs over `former`, up to index i, where the opcodes of all stand at the indices is
pub record Exporting (is : List ℕ) (xs : List Op) (former out : List ℕ) (i n : ℕ) : Type 0 where
  pub near : i ≤ 2 * n
  pub made : List ℕ
  pub wrote : Wrote former 0 made (4 * i) out
  pub long : length out ≡ length former
  pub whole : made ++ bytes_from is i (drop n xs) ≡ bytes_from is 0 xs

pub exporting-next : (ps : List (List ℕ)) (first : ℕ) (text : List ℕ) {is : List ℕ} {xs : List Op} {former out : List ℕ} {i n : ℕ} → Exporting is xs former out i n
    → drop n xs ≡ op_of ps first text ∷ drop (suc n) xs → {i' : ℕ} {out' : List ℕ} → (i' ≡ i + size_of (kind_in text)) × (out' ≡ over out (4 * i) (line_bytes ps is first i text))
    → length out' ≡ length out → Exporting is xs former out' i' (n + 1)
exporting-next ps first text {is} {xs} {former} {out} {i} {n} w e {i'} {out'} p l =
    let s = size_small (kind_in text) in
    let m = line-length ps is first i text in
    let c = w.near in
    let q = p.0 in
    let later = bytes_from is (i + size_of (kind_in text)) (drop (suc n) xs) in record {
      near = omega arith;
      made = w.made ++ line_bytes ps is first i text;
      wrote = wrote-more w.wrote (line_bytes ps is first i text) (omega arith, p.1);
      long = l ∙ w.long;
      whole = rw (add-one n, q)
          (append_assoc w.made (line_bytes ps is first i text) later
          ∙ ap (λ bs. w.made ++ bs) (sym (line_first ps is first i text (drop (suc n) xs)))
          ∙ ap (λ ys. w.made ++ bytes_from is i ys) (sym e)
          ∙ w.whole);
    }

pub exporting-ends : {is : List ℕ} {xs : List Op} {former out : List ℕ} {i n : ℕ} → Exporting is xs former out i n → drop n xs ≡ []
    → (4 * i ≡ length (bytes_from is 0 xs)) × (out ≡ bytes_from is 0 xs ++ drop (length (bytes_from is 0 xs)) former)
unfolding bytes_from items_from words_in all_bytes
exporting-ends {is} {xs} {former} {out} {i} {n} w e =
    let m : w.made ≡ bytes_from is 0 xs = sym (append-nil w.made) ∙ ap (λ ys. w.made ++ bytes_from is i ys) (sym e) ∙ w.whole in
    let q = wrote-start w.wrote in
    (q.0 ∙ ap length m, q.1 ∙ ap (λ t. t ++ drop (length t) former) m)

-- ---- the export

-- the bytes by the indices of the opcodes are those of the export
pub export_is : (is : List ℕ) (xs : List Op) → is ≡ positions 0 xs → bytes_from is 0 xs ≡ export_ops xs
unfolding bytes_from export_ops
export_is is xs e = ap (λ js. bytes_from js 0 xs) e
