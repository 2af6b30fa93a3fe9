-- What the code holds of a text's layout.
use Rattle.std.specs.Prelude.{◌≤◌, ◌≡◌}
use Rattle.refusals.specs.Library.{ℕ, length, get_or, drop, List}
use Rattle.text.specs.Text.{lines}
use Rattle.file_format.specs.Layout.{layout}

-- where line i of a text begins, for each line of the layout and for the first after it; the end of the text where there is none
pub record Starts (text : List ℕ) (starts : List ℕ) : Type 0 where
  pub inside : (i : ℕ) → i ≤ length layout → get_or starts i 0 ≤ length text
  pub from_there : (i : ℕ) → i ≤ length layout → lines (drop (get_or starts i 0) text) ≡ drop i (lines text)
