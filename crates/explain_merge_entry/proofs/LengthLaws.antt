-- How long the lines of a way through the merged states are: no code line is written twice, and the values of a line have few digits.
-- Assumes nothing.
use Prim.Native.Nat.{ℕ, zero, suc, ◌+◌, ◌-◌, ◌*◌, ◌≤◌}
use mathlib.Core.Path.{◌≡◌, refl, subst}
use mathlib.Core.List.{List, [], ◌∷◌}
use native.Mathlib.Omega.{arith}
use lib.ListN.{length, drop}
use Rattle.text.specs.Text.{Line}
use Rattle.cells.specs.Try.{Try, done}
use Rattle.cells.specs.Cells.{unknown}
use Rattle.machine.specs.Machine.{State, Price, Instruction, Code, fetch, Next, stops, goes, opens, height, jump, step}
use Rattle.machine.specs.Forward.{Forward}
use Rattle.machine.proofs.LeadLaws.{goes-there, opens-there}
use Rattle.machine.proofs.ForwardLaws.{step-above}
use Rattle.machine.proofs.HeightLaws.{Low}
use Rattle.machine.proofs.PriceLaws.{AtMost, Both, Priced, is_stuck, stops_at, goes_at, opens_at, step-price}
use Rattle.bound_theory.specs.Tree.{N, T}
use Rattle.bound_theory.specs.Traces.{Move, goes_on, not_taken, taken}
use Rattle.merge_theory.specs.Merge.{held, slot, Table}
use Rattle.merge_theory.specs.Ways.{MergedPath, stop, go_on}
use Rattle.report.specs.Report.{path_text}
use Rattle.explain_lines.specs.Listing.{entries_from, listing}
use Rattle.explain_lines.proofs.LengthLaws.{total, Room, one_more, later}

-- ---- the prices of what a step leads to

module _ (P : Price → Type 0) where
  stops-price : {q : Price} {m : Try Next} → Priced P m → m ≡ done (stops q) → P q
  stops-price is_stuck e = let z : ◌≡◌ {A = ℕ} 0 1 = cc in absurd (omega arith)
  stops-price {q} (stops_at {p} h) e = let k : p ≡ q = cc in subst P k h
  stops-price (goes_at h) e = let z : ◌≡◌ {A = ℕ} 0 1 = cc in absurd (omega arith)
  stops-price (opens_at x f h k) e = let z : ◌≡◌ {A = ℕ} 0 1 = cc in absurd (omega arith)

  goes-price : {q : Price} {t : State} {m : Try Next} → Priced P m → m ≡ done (goes q t) → P q
  goes-price is_stuck e = let z : ◌≡◌ {A = ℕ} 0 1 = cc in absurd (omega arith)
  goes-price (stops_at h) e = let z : ◌≡◌ {A = ℕ} 0 1 = cc in absurd (omega arith)
  goes-price {q} (goes_at {p} h) e = let k : p ≡ q = cc in subst P k h
  goes-price (opens_at x f h k) e = let z : ◌≡◌ {A = ℕ} 0 1 = cc in absurd (omega arith)

  opens-price : {q r : Price} {t u : State} {m : Try Next} → Priced P m → m ≡ done (opens q t r u) → P q × P r
  opens-price is_stuck e = let z : ◌≡◌ {A = ℕ} 0 1 = cc in absurd (omega arith)
  opens-price (stops_at h) e = let z : ◌≡◌ {A = ℕ} 0 1 = cc in absurd (omega arith)
  opens-price (goes_at h) e = let z : ◌≡◌ {A = ℕ} 0 1 = cc in absurd (omega arith)
  opens-price {q} {r} (opens_at {p} {q = p'} x f h k) e = let i : p ≡ q = cc in let j : p' ≡ r = cc in (subst P i h, subst P j k)

-- ---- a way through the merged states, none of which is higher than 64

module _ (c : Code) (forward : Forward c) (cheap : (a : ℕ) (i : Instruction) → fetch c a ≡ done i → Both (AtMost 196605 510) i.price i.extra) (ls : List Line)
    (came : Table) (low : (a : ℕ) (s : State) (p : Price) → slot (came a) ≡ held s p → height s ≤ 64) where
  lower : (a : ℕ) (s : State) {p : Price} → slot (came a) ≡ held s p → Low (jump a s)
  unfolding height jump
  lower a s e = record { low = low a s _ e }

  less : (n cycles words : ℕ) (p : Price) → AtMost 196605 510 p → Room c forward cheap ls (suc n) cycles words → Room c forward cheap ls n (cycles + p.cycles) (words + p.words)
  less n cycles words p h room = (omega (arith, h.cycles, room.0), omega (arith, h.words, room.1))

  pub way-fits : {a : ℕ} {ms : List Move} → MergedPath (step c unknown) came a ms → (n cycles words : ℕ) → length ms ≤ n → Room c forward cheap ls n cycles words
      → length (listing ls c.first (entries_from cycles words ms)) ≤ 23 * n + total (drop (a - c.first) ls)
  unfolding entries_from listing path_text jump
  way-fits (stop {a} {s} {q = q} e f) zero cycles words l room = absurd (omega arith)
  way-fits (stop {a} {s} {q = q} e f) (suc n) cycles words l room =
      one_more c forward cheap ls n cycles words (jump a s) q [] [] (lower a s e) (stops-price (AtMost 196605 510) (step-price (AtMost 196605 510) c cheap unknown (jump a s)) f) room refl (omega arith)
  way-fits (go_on {a} {s} e (goes_on {t = t} {p} f) r) zero cycles words l room = absurd (omega arith)
  way-fits (go_on {a} {s} e (goes_on {t = t} {p} f) r) (suc n) cycles words l room =
      let h = goes-price (AtMost 196605 510) (step-price (AtMost 196605 510) c cheap unknown (jump a s)) f in
      let k = later c forward cheap ls (jump a s) t _ f (goes-there (step-above c forward unknown (jump a s) _ f)).address in
      one_more c forward cheap ls n cycles words (jump a s) p [] _ (lower a s e) h room refl (omega (arith, way-fits r n _ _ (omega arith) (less n cycles words p h room)))
  way-fits (go_on {a} {s} e (not_taken {t = t} {p = p} f) r) zero cycles words l room = absurd (omega arith)
  way-fits (go_on {a} {s} e (not_taken {t = t} {p = p} f) r) (suc n) cycles words l room =
      let h = (opens-price (AtMost 196605 510) (step-price (AtMost 196605 510) c cheap unknown (jump a s)) f).0 in
      let k = later c forward cheap ls (jump a s) t _ f (opens-there (step-above c forward unknown (jump a s) _ f)).0.address in
      one_more c forward cheap ls n cycles words (jump a s) p (N ∷ []) _ (lower a s e) h room refl (omega (arith, way-fits r n _ _ (omega arith) (less n cycles words p h room)))
  way-fits (go_on {a} {s} e (taken {u = u} {q = q} f) r) zero cycles words l room = absurd (omega arith)
  way-fits (go_on {a} {s} e (taken {u = u} {q = q} f) r) (suc n) cycles words l room =
      let h = (opens-price (AtMost 196605 510) (step-price (AtMost 196605 510) c cheap unknown (jump a s)) f).1 in
      let k = later c forward cheap ls (jump a s) u _ f (opens-there (step-above c forward unknown (jump a s) _ f)).1.address in
      one_more c forward cheap ls n cycles words (jump a s) q (T ∷ []) _ (lower a s e) h room refl (omega (arith, way-fits r n _ _ (omega arith) (less n cycles words q h room)))
