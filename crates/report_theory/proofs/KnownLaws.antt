-- A text that the bound reads, and whose cells are all single numbers or handles, is not refused by 11: the run reads it. Assumes nothing.
use Rattle.std.specs.Prelude.{None}
use Prim.Native.Nat.{ℕ, zero, suc, ◌+◌, ◌≤◌}
use mathlib.Core.Path.{◌≡◌, refl, sym, ap}
use mathlib.Core.Bool.{Bool, true, false, cond, ◌&&◌}
use mathlib.Core.List.{List, [], ◌∷◌, ◌++◌}
use native.Mathlib.Omega.{arith}
use lib.IntN.{ℤ, nat_abs, ◌-ℤ◌}
use lib.Signed.{le_z}
use lib.ListN.{length, take, drop, length-drop, length-map}
use borrow.Author.Tests.{eqb-true, le-ltb}
use Rattle.text.specs.Text.{Line, lines, all}
use Rattle.text.proofs.TextLaws.{Every, none, more, all-every, and_left, and_right}
use Rattle.numbers.specs.Numbers.{within, numbers, same}
use Rattle.numbers.proofs.IntegerLaws.{equal_by, same-yes, distance_is}
use Rattle.cells.specs.declared.Value.TheVariants.{Range, Handle}
use Rattle.cells.specs.declared.Cell.{Cell}
use Rattle.cells.specs.Cells.{range, between}
use Rattle.cells.specs.Order.{Allowed, among, same_handle, Pointwise, end, cons}
use Rattle.machine.specs.Order.{Cellwise}
use Rattle.narrowing_theory.specs.Promises.{Plain}
use Rattle.file_format.specs.declared.Section.TheVariants.{Cells as cells, Fields as fields, Answers as answers}
use Rattle.file_format.specs.declared.Column.TheVariants.{Cell as cell}
use Rattle.file_format.specs.declared.Role.{Role}
use Rattle.file_format.specs.declared.Role.TheVariants.{Names as names, Values as values, Code as code}
use Rattle.file_format.specs.declared.CellWord.{CellWord}
use Rattle.file_format.specs.declared.CellWord.TheVariants.{Wrong, Unknown, Known, Block, Span}
use Rattle.file_format.specs.declared.Row.TheVariants.{Layout as Layout-row, Known as known-row}
use Rattle.file_format.specs.Layout.{layout, is_answer, body, answer_roles, code_roles, body_roles, roles, text_at, list, listed, holds_cells}
use Rattle.file_format.specs.Rows.{cell_word, cell_in_range, span_in_range, is_single, block_sizes, total, values_laid_out, column_in_range, well_named, is_laid_out, in_range, named, on_cells, all_known, test, earliest, refused_line, Passes}
use Rattle.file_format.specs.Routine.{Routine, inside, cell_of, cells_of, blocks_in_line, start_of, routine_of, routine, or_else, checked, text_limit, limited, read_bound, read_run}
use Rattle.file_format.proofs.RowLaws.{read-passes, Covered, rest, passed, row-covered, passes-laid-out, passes-range, passes-named}

-- ---- a word

-- a range that is plain has one number
plain-one : {a b : Cell} → Allowed a b → (l : ℤ) (m : ℕ) → a ≡ range l m → m ≡ 0
plain-one (among {n} i) l m e = let f : Range n 0 ≡ Range l m = ap (λ (c : Cell). c.value) e in let g : 0 ≡ m = cc in sym g
plain-one (same_handle {k}) l m e = let f : Handle k ≡ Range l m = ap (λ (c : Cell). c.value) e in let z : ◌≡◌ {A = ℕ} 0 1 = cc in absurd (omega arith)

module _ (lo hi : ℤ) (r : span_in_range lo hi ≡ true) where
  bounds-in : (inside numbers lo ≡ lo) × (inside numbers hi ≡ hi) × (le_z lo hi ≡ true)
  unfolding inside
  bounds-in =
      let a = and_left (within numbers lo && within numbers hi) (le_z lo hi) r in
      (rw (and_left (within numbers lo) (within numbers hi) a) refl, rw (and_right (within numbers lo) (within numbers hi) a) refl, and_right (within numbers lo && within numbers hi) (le_z lo hi) r)

  span-single : Allowed (between (inside numbers lo) (inside numbers hi)) (between (inside numbers lo) (inside numbers hi)) → same lo hi ≡ true
  unfolding between
  span-single p =
      let (e, f, g) = bounds-in in
      let h : nat_abs (hi -ℤ lo) ≡ 0 = plain-one (rw (e, f, g) at p) lo (nat_abs (hi -ℤ lo)) refl in
      same-yes lo hi (equal_by lo hi (omega (arith, distance_is lo hi g)))

spelt-plain : (x : CellWord) → cell_in_range x ≡ true → Allowed (cell_of x) (cell_of x) → is_single x ≡ true
unfolding cell_of cell_in_range is_single
spelt-plain Wrong r p = refl
spelt-plain Unknown r p = absurd (omega (arith, plain-one p _ _ refl))
spelt-plain (Known z) r p = refl
spelt-plain (Block k) r p = refl
spelt-plain (Span lo hi) r p = rw r (span-single lo hi r p)

-- ---- a line

words-plain : {ws : List (List ℕ)} → Every (λ w. cell_in_range (cell_word w) ≡ true) ws → Pointwise Allowed (cells_of ws) (cells_of ws) → all (λ w. is_single (cell_word w)) ws ≡ true
unfolding cells_of all
words-plain none p = refl
words-plain (more {x} r rs) (cons p ps) = rw (spelt-plain (cell_word x) r p) (words-plain rs ps)

-- ---- a start

module _ {R : Cell → Cell → Type 0} where
  cells-of-start : (a : ℕ) (cs : List Cell) (bs : List (List Cell)) → Cellwise R (start_of a cs bs) (start_of a cs bs) → Pointwise R cs cs
  unfolding start_of
  cells-of-start a [] bs k = end
  cells-of-start a (c ∷ cs) bs k = cons k.accu k.stack

  parts-joined : (n : ℕ) (cs : List Cell) → Pointwise R (take n cs) (take n cs) → Pointwise R (drop n cs) (drop n cs) → Pointwise R cs cs
  parts-joined zero cs p q = q
  parts-joined (suc n) [] p q = end
  parts-joined (suc n) (c ∷ cs) (cons p ps) q = cons p (parts-joined n cs ps q)

  fields-of-blocks : (ns : List ℕ) (cs : List Cell) → length cs ≤ total ns → Pointwise (Pointwise R) (blocks_in_line ns cs) (blocks_in_line ns cs) → Pointwise R cs cs
  unfolding blocks_in_line total
  fields-of-blocks [] [] h k = end
  fields-of-blocks [] (c ∷ cs) h k = absurd (omega arith)
  fields-of-blocks (n ∷ ns) cs h (cons k ks) = parts-joined n cs k (fields-of-blocks ns (drop n cs) (simp length-drop (omega arith)) ks)

-- ---- the lines of a text

module _ {ls : List Line} (p : Passes ls) (plain : Plain (routine_of ls).start) where
  cells-known : all_known (values cells cell) (text_at (values cells cell) layout ls) ≡ true
  unfolding routine_of all_known on_cells listed in_range column_in_range
  cells-known = words-plain (all-every (λ w. cell_in_range (cell_word w)) _ (passes-range p (values cells cell) refl)) (cells-of-start _ _ _ plain)

  -- every field is one of a block's
  fields-in-blocks : length (cells_of (listed (values fields cell) ls)) ≤ total (block_sizes (listed (names fields) ls))
  unfolding cells_of is_laid_out values_laid_out named well_named listed
  fields-in-blocks =
      let e : length (listed (values fields cell) ls) ≡ length (listed (names fields) ls) = eqb-true _ _ (and_left _ _ (passes-laid-out p (values fields cell) refl)) in
      let f : total (block_sizes (listed (names fields) ls)) ≡ length (listed (names fields) ls) = eqb-true _ _ (passes-named p (names fields) refl) in
      simp length-map (omega arith)

  fields-known : all_known (values fields cell) (text_at (values fields cell) layout ls) ≡ true
  unfolding routine_of start_of all_known on_cells listed in_range column_in_range
  fields-known =
      words-plain (all-every (λ w. cell_in_range (cell_word w)) _ (passes-range p (values fields cell) refl)) (fields-of-blocks _ _ fields-in-blocks plain.blocks)

-- a line that lists no cells is not looked at
module _ {t : Role → Line → Bool} (file : List Line) where
  free-covered : {rs : List Role} {ls : List Line} → Every (λ r. holds_cells r ≡ false) rs → Covered t rs ls → Covered (test known-row file) rs ls
  unfolding test all_known on_cells
  free-covered none rest = rest
  free-covered (more h hs) (passed {l} q c) = passed {l = l} (ap (λ (b : Bool). cond b (all (λ w. is_single (cell_word w)) (list l.text)) true) h) (free-covered hs c)

  known-covered : {bs : List Role} {ls : List Line} → Every (λ r. holds_cells r ≡ false) bs → Covered t (layout ++ bs) ls →
      all_known (values cells cell) (text_at (values cells cell) layout ls) ≡ true → all_known (values fields cell) (text_at (values fields cell) layout ls) ≡ true →
      Covered (test known-row file) (layout ++ bs) ls
  unfolding test all_known on_cells text_at
  known-covered h (passed _ (passed _ (passed _ (passed _ (passed _ (passed _ (passed _ (passed _ (passed _ (passed _ (passed _ (passed _ (passed _ (passed _ c)))))))))))))) k f =
      passed refl (passed refl (passed refl (passed refl (passed refl (passed refl (passed refl (passed refl (passed refl (passed refl
      (passed k (passed refl (passed f (passed refl (free-covered h c))))))))))))))

answers-free : (k : ℕ) (ls : List Line) → Every (λ r. holds_cells r ≡ false) (answer_roles k ls)
unfolding answer_roles
answers-free zero [] = more refl none
answers-free (suc k) [] = none
answers-free k (l ∷ ls) = more refl (answers-free (suc k) ls)

code_free : (k : ℕ) (ls : List Line) → Every (λ r. holds_cells r ≡ false) (code_roles k ls)
unfolding code_roles
code_free k [] = none
code_free k (l ∷ ls) = go (is_answer l) (code_free (suc k) ls)
  where
    go : (b : Bool) → Every (λ r. holds_cells r ≡ false) (code_roles (suc k) ls) → Every (λ r. holds_cells r ≡ false) (cond b (names answers ∷ answer_roles 0 ls) (code k ∷ code_roles (suc k) ls))
    go true h = more refl (answers-free 0 ls)
    go false h = more refl h

body-free : (ls : List Line) → Every (λ r. holds_cells r ≡ false) (body_roles ls)
unfolding body_roles
body-free [] = more refl none
body-free (l ∷ ls) = more refl (code_free 1 ls)

covered-nowhere : {t : Role → Line → Bool} (n : ℕ) {rs : List Role} {ls : List Line} → Covered t rs ls → earliest t n rs ls ≡ None
unfolding earliest
covered-nowhere n rest = refl
covered-nowhere n (passed q c) = rw q (covered-nowhere (suc n) c)

plain_known : (ls : List Line) → Passes ls → Plain (routine_of ls).start → refused_line known-row ls ≡ None
unfolding refused_line roles
plain_known ls p plain = covered-nowhere 1 (known-covered ls (body-free (body ls)) (row-covered Layout-row ls p.layout) (cells-known p plain) (fields-known p plain))

-- ---- a text

pub plain-read : (text : List ℕ) (x : Routine) → read_bound text ≡ routine x → Plain x.start → read_run text ≡ routine x
unfolding read_run limited checked or_else
plain-read text x e plain =
    let (p, is, short) = read-passes text x e in
    let known = plain_known (lines text) p (rw is at plain) in
    rw (is, le-ltb text_limit (length text) short, p.layout, p.range, p.names, p.prices, p.targets, p.forward, known) refl
