-- The lines of a walk: one for each of its moves, `AT OP ARG CYCLES WORDS DEPTH WAY`.
use Rattle.std.specs.Prelude.{◌+◌, ◌-◌, ◌∷◌, ◌++◌}
use Rattle.refusals.specs.Library.{ℕ, get_or, List, []}
use Rattle.bound_theory.specs.Terms.{Decision, Move, height}
use Rattle.text.specs.Text.{Line, no_line}
use Rattle.text_decimals.specs.Decimal.{decimal}
use Rattle.report.specs.Report.{space, feed, path_text}

-- what a line says of a move: its address, the sums so far, this step included, the height before the step, and the decision "at an
-- unknown branch"
pub record Shown : Type 0 where
  pub at : ℕ
  pub cycles : ℕ
  pub words : ℕ
  pub depth : ℕ
  pub way : List Decision

-- the entries of the moves, after the sums of cycles and words that were spent before them
unfoldable pub entries_from : ℕ → ℕ → List Move → List Shown
entries_from cycles words [] = []
entries_from cycles words (m ∷ ms) =
    record { at = m.state.at; cycles = cycles + m.price.cycles; words = words + m.price.words; depth = height m.state; way = m.decision }
    ∷ entries_from (cycles + m.price.cycles) (words + m.price.words) ms

-- nothing is spent before the first
unfoldable pub shown_lines : List Move → List Shown
shown_lines ms = entries_from 0 0 ms

-- the code line of an address, as the file has it, where the lines after the layout begin with that of `first`
unfoldable pub code_text : List Line → ℕ → ℕ → List ℕ
code_text ls first at = (get_or ls (at - first) no_line).text

-- a line: the code line, then the four values; WAY is `N` or `T` at an unknown branch and `-` elsewhere
unfoldable pub entry_text : List ℕ → ℕ → ℕ → ℕ → List Decision → List ℕ
entry_text line cycles words depth way =
    line ++ space ++ decimal cycles ++ space ++ decimal words ++ space ++ decimal depth ++ space ++ path_text way ++ feed

-- the lines of the entries
unfoldable pub listing : List Line → ℕ → List Shown → List ℕ
listing ls first [] = []
listing ls first (e ∷ es) = entry_text (code_text ls first e.at) e.cycles e.words e.depth e.way ++ listing ls first es
