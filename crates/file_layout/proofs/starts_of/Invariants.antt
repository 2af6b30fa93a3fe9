-- The invariant: the places up to line i are put down.
use Rattle.std.proofs.Common.{ℕ, ◌≡◌, ◌≤◌, length, get_or, drop}
use Rattle.text.specs.Text.{lines}
use Rattle.file_layout.proofs.starts_of.Given as goal

abbrev pub invariant-loop-i : goal.invariant-loop-i
invariant-loop-i l = record {
  places : length l.starts ≡ 15;
  put_down : (j : ℕ) → j ≤ l.i → (get_or l.starts j 0 ≤ length l.text) × (lines (drop (get_or l.starts j 0) l.text) ≡ drop j (lines l.text));
}
