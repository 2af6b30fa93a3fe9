-- The parts of a routine by the lines that hold them. Assumes nothing.
use Prim.Native.Nat.{ℕ, zero, suc, ◌+◌, ◌*◌, ◌%◌, ◌<◌, ◌≤◌}
use mathlib.Core.Path.{◌≡◌, refl, sym, ap, ◌∙◌}
use mathlib.Core.Bool.{Bool, true, false, not, cond}
use mathlib.Core.List.{List, [], ◌∷◌, map}
use native.Mathlib.Omega.{arith}
use lib.Dec.{ltb}
use lib.ListN.{length, get_or, take, drop, set}
use lib.Seq.{get_or-set_same, get_or-set_other}
use borrow.Author.Tests.{lt-ltb}
use Rattle.text.specs.Text.{Line, no_line, bytes, equals}
use Rattle.numbers.specs.Numbers.{numbers}
use Rattle.cells.specs.declared.Cell.{Cell}
use Rattle.machine.specs.Machine.{Instruction, reblock}
use Rattle.machine_state.specs.HeldProgram.{lines_in, lines_from}
use Rattle.machine_state.proofs.ProgramLaws.{lines-agree}
use Rattle.machine_state.specs.HeldState.{view, blocks_of, whole}
use Rattle.machine_state.specs.declared.State as code
use Rattle.file_format.specs.declared.Section.TheVariants.{Kinds as kinds, Primitives as primitives}
use Rattle.file_format.specs.declared.Column.TheVariants.{Cycles as cycles, Words as words-column, Extra as extra}
use Rattle.file_format.specs.declared.Role.TheVariants.{Names as names, Values as values}
use Rattle.file_format.specs.Layout.{layout, body, is_answer, up_to_answer, lines_of_code, list, text_at, listed}
use Rattle.file_format.specs.Rows.{value}
use Rattle.file_format.specs.Routine.{inside, price_list, instruction_of, start_of, routine_of, blocks_in_line}
use Rattle.file_parts.specs.HeldParts.{prices_on, code_left}
use Rattle.file_parts.proofs.FillLaws.{take-map}
use Rattle.file_format.proofs.CodeLineLaws.{code-take, answer-drop}

-- ---- the code lines, one after the other

-- whether there is one among those that are left: none where no line is, the first of all, and any up to ANSWER
pub left-none : (n : ℕ) (ls : List Line) → length ls ≡ 0 → false ≡ ltb 0 (length (code_left n ls))
unfolding code_left lines_of_code up_to_answer
left-none zero [] h = refl
left-none (suc n) [] h = refl
left-none n (l ∷ ls) h = absurd (omega arith)

pub left-first : (n : ℕ) (ls : List Line) → n ≡ 0 → 0 < length ls → true ≡ ltb 0 (length (code_left n ls))
unfolding code_left lines_of_code
left-first zero [] e h = absurd (omega arith)
left-first zero (l ∷ ls) e h = sym (lt-ltb 0 (suc (length (up_to_answer ls))) (omega arith))
left-first (suc n) ls e h = absurd (omega arith)

pub left-next : (n : ℕ) (ls : List Line) → (n ≡ 0 → ⊥) → 0 < length ls → not (equals (get_or ls 0 no_line).text (bytes "ANSWER")) ≡ ltb 0 (length (code_left n ls))
unfolding code_left up_to_answer is_answer
left-next zero ls e h = absurd (e refl)
left-next (suc n) [] e h = absurd (omega arith)
left-next (suc n) (l ∷ ls) e h = go (equals l.text (bytes "ANSWER"))
  where
    go : (b : Bool) → not b ≡ ltb 0 (length (cond b [] (l ∷ up_to_answer ls)))
    go true = refl
    go false = sym (lt-ltb 0 (suc (length (up_to_answer ls))) (omega arith))

-- one is passed
pub left_passed : (n : ℕ) (ls : List Line) → 0 < length (code_left n ls) → length (code_left n ls) ≡ suc (length (code_left (suc n) (drop 1 ls)))
unfolding code_left lines_of_code up_to_answer
left_passed zero [] h = absurd (omega arith)
left_passed (suc n) [] h = absurd (omega arith)
left_passed zero (l ∷ ls) h = refl
left_passed (suc n) (l ∷ ls) h = go (is_answer l) h
  where
    go : (b : Bool) → 0 < length (cond b [] (l ∷ up_to_answer ls)) → length (cond b [] (l ∷ up_to_answer ls)) ≡ suc (length (up_to_answer ls))
    go true k = absurd (omega arith)
    go false k = refl

-- a program of n lines when their number is filled in
module _ (ws : List ℕ) (n : ℕ) (long : length ws ≡ 5131) where
  pub count-put : lines_in (set ws 1 n) ≡ n
  count-put = get_or-set_same ws 1 n 0 (omega arith)

  line_kept : (i : ℕ) → 11 ≤ i → get_or (set ws 1 n) i 0 ≡ get_or ws i 0
  line_kept i h = get_or-set_other ws 1 i n 0 (λ e. omega arith)

  -- its lines are the code lines of ls
  pub lines-counted : (f : Line → Instruction) (ls : List Line) → n ≡ length (lines_of_code ls) → lines_from ws n 11 ≡ take n (map f ls) → lines_from (set ws 1 n) (lines_in (set ws 1 n)) 11 ≡ map f (lines_of_code ls)
  lines-counted f ls e q =
      ap (λ m. lines_from (set ws 1 n) m 11) count-put ∙ lines-agree (set ws 1 n) ws n 11 (λ i h _. line_kept i h)
      ∙ q ∙ take-map f n ls ∙ ap (λ m. map f (take m ls)) e ∙ ap (map f) (sym (code-take ls))

  pub known-counted : ((j : ℕ) → j < n → get_or ws (11 + j * 5) 0 % 32 ≤ 22) → (j : ℕ) → j < lines_in (set ws 1 n) → get_or (set ws 1 n) (11 + j * 5) 0 % 32 ≤ 22
  known-counted k j h = rw (line_kept (11 + j * 5) (omega arith)) (k j (omega (arith, count-put)))

-- ---- the parts by their lines

-- the prices that code is read by are those of the seven lines
module _ (ls ms : List Line) {ks kc kw kx ps pc pw : List ℕ} where
  pub lines-priced : ks ≡ text_at (names kinds) layout ls → kc ≡ text_at (values kinds cycles) layout ls → kw ≡ text_at (values kinds words-column) layout ls → kx ≡ text_at (values kinds extra) layout ls
      → ps ≡ text_at (names primitives) layout ls → pc ≡ text_at (values primitives cycles) layout ls → pw ≡ text_at (values primitives words-column) layout ls
      → map (λ l. instruction_of (prices_on ks kc kw) (list kx) (prices_on ps pc pw) l.text) ms ≡ map (λ l. instruction_of (price_list kinds ls) (listed (values kinds extra) ls) (price_list primitives ls) l.text) ms
  unfolding price_list listed
  lines-priced a b c g d e f = λ i. map (λ (l : Line). instruction_of (prices_on (a i) (b i) (c i)) (list (g i)) (prices_on (d i) (e i) (f i)) l.text) ms

-- the answers are those of the lines after ANSWER
pub answers-in : (ls : List Line) → (routine_of ls).answers ≡ map (λ l. inside numbers (value l.text)) (drop (suc (length (lines_of_code (body ls)))) (body ls))
unfolding routine_of
answers-in ls = ap (map (λ (l : Line). inside numbers (value l.text))) (answer-drop (body ls))

-- the start, with its blocks
pub start-whole : (first : ℕ) (s : code.State) (ns : List ℕ) (cs fs gs : List Cell) → view s ≡ start_of first cs [] → blocks_of ns fs ≡ blocks_in_line ns gs → whole ns fs s ≡ start_of first cs (blocks_in_line ns gs)
unfolding whole reblock start_of
start-whole first s ns cs fs gs v b = λ i. reblock (b i) (v i)
