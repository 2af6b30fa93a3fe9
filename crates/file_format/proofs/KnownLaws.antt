-- A text that rows 3 and 11 do not refuse starts from a plain state: every cell is a single number or a handle. Assumes nothing.
use Rattle.std.specs.Prelude.{None}
use Prim.Native.Nat.{ℕ}
use mathlib.Core.Path.{◌≡◌, refl, ap}
use mathlib.Core.Bool.{true, false≢true}
use mathlib.Core.List.{List}
use lib.IntN.{pos}
use Rattle.text.specs.Text.{Line}
use Rattle.text.proofs.TextLaws.{Every, none, more, all-every}
use Rattle.numbers.specs.Numbers.{numbers}
use Rattle.numbers.proofs.IntegerLaws.{same_true}
use Rattle.cells.specs.Order.{Allowed, same_handle, Pointwise, end, cons}
use Rattle.cells.proofs.CellLaws.{allowed-lawful}
use Rattle.cells.proofs.AllowLaws.{between-single}
use Rattle.machine.specs.Order.{Cellwise}
use Rattle.file_format.specs.declared.Section.{Section}
use Rattle.file_format.specs.declared.Section.TheVariants.{Cells as cells, Fields as fields}
use Rattle.file_format.specs.declared.Column.TheVariants.{Cell as cell}
use Rattle.file_format.specs.declared.Role.TheVariants.{Values as values}
use Rattle.file_format.specs.declared.CellWord.{CellWord}
use Rattle.file_format.specs.declared.CellWord.TheVariants.{Wrong as wrong, Unknown as unknown, Known as known, Block as block, Span as span}
use Rattle.file_format.specs.declared.Row.TheVariants.{Known as known-row}
use Rattle.file_format.specs.Layout.{layout, holds_cells, listed}
use Rattle.file_format.specs.Rows.{cell_word, cell_in_range, is_single, column_in_range, in_range, on_cells, all_known, test, refused_line, Passes}
use Rattle.file_format.specs.Routine.{inside, cell_of, cells_of, routine_of}
use Rattle.file_format.proofs.RowLaws.{First, held-row, passes-range}
use Rattle.file_format.proofs.StartLaws.{start-self}

-- ---- a word

-- what a word says that rows 3 and 11 let pass
spelt-single : (x : CellWord) → cell_in_range x ≡ true → is_single x ≡ true → Allowed (cell_of x) (cell_of x)
unfolding cell_of cell_in_range is_single
spelt-single wrong p q = allowed-lawful.numbers (pos 0)
spelt-single unknown p q = absurd (false≢true q)
spelt-single (known z) p q = allowed-lawful.numbers _
spelt-single (block k) p q = same_handle
spelt-single (span lo hi) p q = between-single _ _ (ap (inside numbers) (same_true lo hi (rw p at q)))

words-single : {ws : List (List ℕ)} → Every (λ w. cell_in_range (cell_word w) ≡ true) ws → Every (λ w. is_single (cell_word w) ≡ true) ws → Pointwise Allowed (cells_of ws) (cells_of ws)
unfolding cells_of
words-single none none = end
words-single (more {x} p ps) (more q qs) = cons (spelt-single (cell_word x) p q) (words-single ps qs)

-- ---- a text

module _ {ls : List Line} (p : Passes ls) (known : refused_line known-row ls ≡ None) where
  listed-single : (s : Section) → holds_cells (values s cell) ≡ true → First (values s cell) layout → Pointwise Allowed (cells_of (listed (values s cell) ls)) (cells_of (listed (values s cell) ls))
  unfolding listed in_range column_in_range test all_known on_cells
  listed-single s h f =
      let r = passes-range p (values s cell) f in
      let k = held-row known-row ls known (values s cell) f (λ text. all_known (values s cell) text ≡ true) (λ l e. e) in
      words-single (all-every (λ w. cell_in_range (cell_word w)) _ r) (all-every (λ w. is_single (cell_word w)) _ (rw h at k))

  pub known_start : Cellwise Allowed (routine_of ls).start (routine_of ls).start
  known_start = start-self ls (allowed-lawful.numbers (pos 0)) (listed-single cells refl) (listed-single fields refl)
