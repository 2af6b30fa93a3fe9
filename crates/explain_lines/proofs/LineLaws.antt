-- Laws of a line: the code line by its number, and how long the line is, by its parts. Assumes nothing.
use Prim.Native.Nat.{ℕ, ◌+◌, ◌-◌}
use mathlib.Core.Path.{◌≡◌, ap}
use mathlib.Core.List.{List}
use native.Mathlib.Omega.{arith}
use lib.ListN.{length, get_or, length-append}
use Rattle.text.specs.Text.{Line, no_line}
use Rattle.text_decimals.specs.Decimal.{decimal}
use Rattle.bound_theory.specs.Tree.{Decision}
use Rattle.report.specs.Report.{path_text}
use Rattle.explain_lines.specs.Listing.{code_text, entry_text}

pub line-there : (ls : List Line) (first at : ℕ) {k : ℕ} → k ≡ at - first → (get_or ls k no_line).text ≡ code_text ls first at
unfolding code_text
line-there ls first at e = ap (λ n. (get_or ls n no_line).text) e

pub entry_length : (line : List ℕ) (cycles words depth : ℕ) (way : List Decision)
    → length (entry_text line cycles words depth way) ≡ length line + 1 + length (decimal cycles) + 1 + length (decimal words) + 1 + length (decimal depth) + 1 + length (path_text way) + 1
unfolding entry_text
entry_length line cycles words depth way = simp length-append (omega arith)
