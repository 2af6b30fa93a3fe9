-- Laws of the entries of a walk: the last sum, the ways, the addresses. Assumes nothing.
use Prim.Native.Nat.{ℕ, zero, suc, ◌+◌}
use mathlib.Core.Path.{◌≡◌, refl, ap}
use mathlib.Core.List.{List, [], ◌∷◌, ◌++◌}
use native.Mathlib.Omega.{arith}
use Rattle.cells.specs.Try.{done}
use Rattle.machine.specs.Lists.{nth}
use Rattle.machine.proofs.FetchLaws.{stuck-not}
use Rattle.bound_theory.specs.Traces.{Move, cost, word_sum, decisions}
use Rattle.explain_lines.specs.Listing.{Shown, entries_from, shown_lines}
use Rattle.explain_entry.specs.Promises.{last_cycles, last_words, ways}

last-from : (cycles words : ℕ) (m : Move) (ms : List Move) → last_cycles (entries_from cycles words (m ∷ ms)) ≡ cycles + cost (m ∷ ms)
unfolding last_cycles entries_from cost
last-from cycles words m [] = omega arith
last-from cycles words m (n ∷ ms) = omega (arith, last-from (cycles + m.price.cycles) (words + m.price.words) n ms)

pub last-cost : (ms : List Move) → last_cycles (shown_lines ms) ≡ cost ms
unfolding last_cycles shown_lines entries_from cost
last-cost [] = refl
last-cost (m ∷ ms) = omega (arith, last-from 0 0 m ms)

last-words-from : (cycles words : ℕ) (m : Move) (ms : List Move) → last_words (entries_from cycles words (m ∷ ms)) ≡ words + word_sum (m ∷ ms)
unfolding last_words entries_from word_sum
last-words-from cycles words m [] = omega arith
last-words-from cycles words m (n ∷ ms) = omega (arith, last-words-from (cycles + m.price.cycles) (words + m.price.words) n ms)

pub last-words : (ms : List Move) → last_words (shown_lines ms) ≡ word_sum ms
unfolding last_words shown_lines entries_from word_sum
last-words [] = refl
last-words (m ∷ ms) = omega (arith, last-words-from 0 0 m ms)

ways-from : (cycles words : ℕ) (ms : List Move) → ways (entries_from cycles words ms) ≡ decisions ms
unfolding ways entries_from decisions
ways-from cycles words [] = refl
ways-from cycles words (m ∷ ms) = ap (λ ds. m.decision ++ ds) (ways-from (cycles + m.price.cycles) (words + m.price.words) ms)

pub ways-decisions : (ms : List Move) → ways (shown_lines ms) ≡ decisions ms
unfolding shown_lines
ways-decisions ms = ways-from 0 0 ms

-- the move of an entry
pub record EntryOf (ms : List Move) (k : ℕ) (e : Shown) : Type 0 where
  pub move : Move
  pub there : nth k ms ≡ done move
  pub at : e.at ≡ move.state.at

entry-from : (cycles words : ℕ) (ms : List Move) (k : ℕ) (e : Shown) → nth k (entries_from cycles words ms) ≡ done e → EntryOf ms k e
unfolding nth entries_from
entry-from cycles words [] k e h = stuck-not e h
entry-from cycles words (m ∷ ms) zero e h = record { move = m; there = refl; at = cc }
entry-from cycles words (m ∷ ms) (suc k) e h =
    let r = entry-from (cycles + m.price.cycles) (words + m.price.words) ms k e h in
    record { move = r.move; there = r.there; at = r.at }

pub entry_of : (ms : List Move) (k : ℕ) (e : Shown) → nth k (shown_lines ms) ≡ done e → EntryOf ms k e
unfolding shown_lines
entry_of ms k e h = entry-from 0 0 ms k e h
