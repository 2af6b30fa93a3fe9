-- What the internal functions are handed.
use Rattle.std.specs.Prelude.{◌≤◌, ◌≡◌}
use Rattle.refusals.specs.Library.{ℕ, length, drop, List}
use Rattle.text.specs.Text.{lines}
use Rattle.explain_lines.specs.declared.Cursor.{Cursor}

-- the cursor stands where its line begins: the lines from there on are those of the text without the ones before
pub record Stands (text : List ℕ) (c : Cursor) : Type 0 where
  pub inside : c.byte ≤ length text
  pub begins : lines (drop c.byte text) ≡ drop c.line (lines text)
