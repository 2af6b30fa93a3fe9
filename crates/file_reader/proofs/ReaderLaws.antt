-- The parts that the reader puts together are those of the routine. Assumes nothing.
use Prim.Native.Nat.{ℕ, zero, suc, ◌+◌, ◌*◌, ◌%◌, ◌≤◌, ◌<◌, min}
use mathlib.Core.Path.{◌≡◌, sym, ap, ap₂, subst, ◌∙◌}
use mathlib.Core.List.{List, [], ◌∷◌, map}
use native.Mathlib.Omega.{arith}
use native.Mathlib.Numerals.{add-one}
use lib.IntN.{ℤ}
use lib.ListN.{length, get_or, take, drop, length-take}
use lib.Seq.{drop-drop}
use Rattle.text.specs.Text.{Line}
use Rattle.numbers.specs.declared.Range.{Range}
use Rattle.numbers.specs.Numbers.{numbers}
use Rattle.cells.specs.declared.Cell.{Cell}
use Rattle.cells.specs.HeldConfined.{Kept}
use Rattle.machine.specs.Machine.{State}
use Rattle.machine.specs.Order.{Cellwise}
use Rattle.file_format.proofs.StartLaws.{start-kept}
use Rattle.machine_state.specs.HeldProgram.{first_address_of, lines_in, blocks_in, sizes_of, lines_from, program_of, IsProgram}
use Rattle.machine_state.proofs.ProgramLaws.{lines-agree}
use Rattle.machine_state.specs.HeldState.{view, whole}
use Rattle.machine_state.specs.declared.State as code
use Rattle.machine_state.specs.HeldState as view_of
use Rattle.file_format.specs.declared.Section.TheVariants.{Limits as limits, Kinds as kinds, Primitives as primitives, Cells as cells, Fields as fields}
use Rattle.file_format.specs.declared.Column.TheVariants.{Limit as limit, Extra as extra, Cell as cell}
use Rattle.file_format.specs.declared.Role.TheVariants.{Names as names, Values as values}
use Rattle.file_format.specs.Layout.{layout, body, lines_of_code, list, text_at, listed}
use Rattle.file_format.specs.Rows.{Passes, value, block_sizes, total, first_at, budgets, ticks}
use Rattle.file_format.specs.Routine.{inside, natural_at, price_list, instruction_of, first_address, cells_of, start_of, routine_of}
use Rattle.file_format.specs.Routine as readings
use Rattle.file_format.proofs.RangeLaws.{budget-small}
use Rattle.file_format.proofs.PassingLaws.{first_small, answers-few, cells-small, fields-total}
use Rattle.file_format.proofs.PassingLaws as passing
use Rattle.file_names.specs.declared.Blocks.{Blocks}
use Rattle.file_names.specs.HeldNames.{BlocksOf}
use Rattle.file_format.proofs.CodeLineLaws.{answer-drop}
use Rattle.file_parts.proofs.PartLaws.{answers-in, start-whole}

-- ---- the first address

pub first-low : (ms : List Line) (n : ℕ) → n ≡ first_address ms → n ≤ 60000
first-low ms n e = rw e (first_small (first_at ms))

-- ---- the lines after the layout

module _ (ls : List Line) (p : Passes ls) (ms : List Line) (after : ms ≡ body ls) where
  pub code-small : length (lines_of_code ms) ≤ 1024
  code-small = rw after (passing.code-few ls p.layout)

  -- rest is left after the code, and next after the line ANSWER
  module _ (rest next : List Line) (left : rest ≡ drop (length (lines_of_code ms)) ms) (then : next ≡ drop 1 rest) where
    answer-lines : next ≡ drop (suc (length (lines_of_code (body ls)))) (body ls)
    answer-lines =
        then ∙ ap (drop 1) left ∙ drop-drop 1 (length (lines_of_code ms)) ms ∙ ap (λ k. drop k ms) (add-one (length (lines_of_code ms)))
        ∙ ap (λ (xs : List Line). drop (suc (length (lines_of_code xs))) xs) after

    pub answers-small : length next ≤ 64
    answers-small = rw (answer-lines ∙ sym (answer-drop (body ls))) (answers-few ls p.layout)

    pub answers-held : (vs : List ℤ) → vs ≡ map (λ l. inside numbers (value l.text)) next → vs ≡ (routine_of ls).answers
    answers-held vs e = e ∙ ap (map (λ (l : Line). inside numbers (value l.text))) answer-lines ∙ sym (answers-in ls)

  -- the program ws has its head, and its lines are those of vs, the code lines
  pub code_is : (ws vs : List ℕ) → first_address_of ws ≡ first_address ms → lines_in ws ≡ lines_in vs → ((i : ℕ) → 11 ≤ i → get_or ws i 0 ≡ get_or vs i 0)
      → lines_from vs (lines_in vs) 11 ≡ map (λ l. instruction_of (price_list kinds ls) (listed (values kinds extra) ls) (price_list primitives ls) l.text) (lines_of_code ms)
      → program_of ws ≡ (routine_of ls).code
  unfolding program_of readings.code_in routine_of
  code_is ws vs f l k e =
      ap₂ (λ n ins. record { first = n; instructions = ins }) (f ∙ ap first_address after)
      (ap (λ n. lines_from ws n 11) l ∙ lines-agree ws vs (lines_in vs) 11 (λ i h _. k i h) ∙ e
      ∙ ap (λ xs. map (λ (l : Line). instruction_of (price_list kinds ls) (listed (values kinds extra) ls) (price_list primitives ls) l.text) (lines_of_code xs)) after)

  pub first-is : (first : ℕ) → first ≡ first_address ms → first ≡ (readings.code_in ls).first
  unfolding readings.code_in
  first-is first f = f ∙ ap first_address after

-- ---- the limits

module _ (ls : List Line) (line : List ℕ) (e : line ≡ text_at (values limits limit) layout ls) (r : Range) (n : ℕ) where
  pub budget-held : r ≡ budgets → n ≡ natural_at r (list line) 0 → n ≡ (routine_of ls).budget
  unfolding routine_of listed
  budget-held q h = h ∙ ap₂ (λ x t. natural_at x (list t) 0) q e

  pub budget-limited : Passes ls → r ≡ budgets → n ≡ natural_at r (list line) 0 → n ≤ 1000000
  budget-limited p q h = rw (budget-held q h) (budget-small p)

  pub tick-held : r ≡ ticks → n ≡ natural_at r (list line) 1 → n ≡ (routine_of ls).tick
  unfolding routine_of listed
  tick-held q h = h ∙ ap₂ (λ x t. natural_at x (list t) 1) q e

-- ---- the start

get_d_take : (n : ℕ) (xs : List ℕ) (m : ℕ) → ((k : ℕ) → get_or xs k 0 ≤ m) → (k : ℕ) → get_or (take n xs) k 0 ≤ m
get_d_take zero xs m h k = omega arith
get_d_take (suc n) [] m h k = omega arith
get_d_take (suc n) (x ∷ xs) m h zero = h 0
get_d_take (suc n) (x ∷ xs) m h (suc k) = get_d_take n xs m (λ j. h (suc j)) k

module _ (ls : List Line) (p : Passes ls) (ns-line fs-line cs-line : List ℕ) (names_at : ns-line ≡ text_at (names fields) layout ls) (fields_at : fs-line ≡ text_at (values fields cell) layout ls)
    (cells_at : cs-line ≡ text_at (values cells cell) layout ls) (bs : Blocks) (held : BlocksOf (block_sizes (list ns-line)) bs) where
  sizes-are : take bs.count bs.sizes ≡ block_sizes (listed (names fields) ls)
  unfolding listed
  sizes-are = held.sizes ∙ ap (λ t. block_sizes (list t)) names_at

  small-blocks : (k : ℕ) → get_or (take bs.count bs.sizes) k 0 ≤ 16
  small-blocks = get_d_take bs.count bs.sizes 16 held.small

  pub fields-ready : (bs.count ≤ 8) × ((k : ℕ) → get_or (take bs.count bs.sizes) k 0 ≤ 16) × (total (take bs.count bs.sizes) ≡ length (list fs-line))
  unfolding listed
  fields-ready = (held.few, small-blocks, ap total sizes-are ∙ fields-total p ∙ ap (λ t. length (list t)) (sym fields_at))

  pub cells-ready : length (list cs-line) ≤ 33
  unfolding listed
  cells-ready = rw cells_at (cells-small p)

  pub start-held : (first : ℕ) → first ≡ (readings.code_in ls).first → (s : code.State) → view s ≡ start_of first (cells_of (list cs-line)) []
      → (fs : List Cell) → view_of.blocks_of (take bs.count bs.sizes) fs ≡ readings.blocks_in_line (take bs.count bs.sizes) (cells_of (list fs-line))
      → whole (take bs.count bs.sizes) fs s ≡ (routine_of ls).start
  unfolding routine_of listed
  start-held first f s v fs h =
      start-whole first s (take bs.count bs.sizes) (cells_of (list cs-line)) fs (cells_of (list fs-line)) v h
      ∙ (λ i. start_of (f i) (cells_of (list (cells_at i))) (readings.blocks_in_line (sizes-are i) (cells_of (list (fields_at i)))))

  -- the whole is a program
  pub is-program : (ws vs : List ℕ) (first count : ℕ) → length ws ≡ 5131 → first ≤ 60000 → count ≤ 1024 → first_address_of ws ≡ first → lines_in ws ≡ count → sizes_of ws ≡ take bs.count bs.sizes → blocks_in ws ≡ bs.count
      → ((i : ℕ) → 11 ≤ i → get_or ws i 0 ≡ get_or vs i 0) → ((j : ℕ) → j < count → get_or vs (11 + j * 5) 0 % 32 ≤ 22) → IsProgram ws
  is-program ws vs first count long low few f l s b kept known = record {
    words = long;
    addresses = omega arith;
    lines = omega arith;
    blocks = omega (arith, held.few);
    sizes = rw s small-blocks;
    codes = λ j h. rw (kept (11 + j * 5) (omega arith)) (known j (omega arith));
  }

pub start-at : (first : ℕ) (cs : List Cell) (s : code.State) → view s ≡ start_of first cs [] → s.at ≡ first
unfolding start_of
start-at first cs s e = ap (λ v. v.at) e

-- all that is taken of an array is there
pub taken : {A : Type 0} (n : ℕ) (xs : List A) → n ≤ length xs → length (take n xs) ≡ n
taken n xs h = let e : length (take n xs) ≡ min n (length xs) = length-take n xs in omega arith

-- the numbers of a start that is read
pub kept-start : {s : State} (ls : List Line) → s ≡ (routine_of ls).start → Cellwise Kept s s
kept-start ls e = subst (λ (t : State). Cellwise Kept t t) (sym e) (start-kept ls)
