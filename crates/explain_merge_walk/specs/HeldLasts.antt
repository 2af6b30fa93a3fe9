-- The moves of a way by what is kept for their goals, and the lines that are made of it.
use Rattle.std.specs.Prelude.{◌+◌, ◌<◌, ◌∷◌, ◌++◌, ◌≡◌}
use Rattle.refusals.specs.Library.{ℕ, length, get_or, List, []}
use Rattle.text.specs.Text.{Line, no_line}
use Rattle.bound_theory.specs.Traces.{Move}
use Rattle.merge_origins.specs.HeldOrigins.{last_at, IsLast}
use Rattle.report.specs.HeldPath.{decode}
use Rattle.explain_lines.specs.Listing.{entry_text}

-- what is kept for a goal is a move from the address of a row
abbrev pub Traced : List ℕ → Type 0
Traced ks = (g : ℕ) → g < 1026 → ((last_at ks g).way ≡ 0 → ⊥) → (last_at ks g).row < 1025

-- what is kept for the goals, one after the other, are the moves of a list; the first row is that of the address `first`
pub data Lists (first : ℕ) (ks : List ℕ) : List ℕ → List Move → Type 0 where
  none : Lists first ks [] []
  more : {g x : ℕ} {m : Move} {gs : List ℕ} {ms : List Move} → g < 1026 → IsLast first (last_at ks g) x m → Lists first ks gs ms → Lists first ks (g ∷ gs) (m ∷ ms)

-- goals, with prices that can be added up
pub record UsableAt (ks : List ℕ) (g : ℕ) : Type 0 where
  pub few : g < 1026
  pub cycles : (last_at ks g).cycles < 8589934592
  pub words : (last_at ks g).words < 4294967296

abbrev pub Usable : List ℕ → List ℕ → Type 0
Usable ks gs = (i : ℕ) → i < length gs → UsableAt ks (get_or gs i 0)

-- the lines of the moves that are kept for the goals, after the sums of cycles and words that were spent before them
unfoldable pub way_text : List Line → ℕ → ℕ → List ℕ → List ℕ → List ℕ
way_text ls cycles words ks [] = []
way_text ls cycles words ks (g ∷ gs) =
    entry_text (get_or ls (last_at ks g).row no_line).text (cycles + (last_at ks g).cycles) (words + (last_at ks g).words) (last_at ks g).depth (decode (last_at ks g).way)
    ++ way_text ls (cycles + (last_at ks g).cycles) (words + (last_at ks g).words) ks gs
