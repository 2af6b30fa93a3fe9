-- How long the lines of a walk are: no code line is written twice, and the values of a line have few digits. Assumes nothing.
use Prim.Native.Nat.{ℕ, zero, suc, ◌+◌, ◌-◌, ◌*◌, ◌^◌, ◌≤◌, ◌<◌}
use mathlib.Core.Path.{◌≡◌, refl, ap, ◌∙◌}
use mathlib.Core.Bool.{Bool, true, false, cond}
use mathlib.Core.List.{List, [], ◌∷◌, ◌++◌}
use native.Mathlib.Omega.{arith}
use lib.Dec.{eqb}
use lib.ListN.{length, get_or, drop, length-append}
use lib.Seq.{drop-drop}
use Rattle.text.specs.Text.{onto, parted_by, Line, no_line, lines_of, lines}
use Rattle.text_decimals.proofs.DecimalLaws.{decimal-length}
use Rattle.cells.specs.Try.{Try, done}
use Rattle.cells.specs.Cells.{unknown}
use Rattle.machine.specs.Machine.{State, Price, Instruction, Code, fetch, Next, height, step}
use Rattle.machine.specs.Forward.{Forward}
use Rattle.machine.proofs.LeadLaws.{goes-there, opens-there}
use Rattle.machine.proofs.HeightLaws.{Low, step-low}
use Rattle.machine.proofs.ForwardLaws.{step-above, step-inside}
use Rattle.machine.proofs.PriceLaws.{AtMost, Both, Priced, is_stuck, stops_at, goes_at, opens_at, step-price}
use Rattle.bound_theory.specs.Tree.{Decision, N, T}
use Rattle.report.specs.Report.{path_text}
use Rattle.explain_walk.specs.Walk.{onward, follow}
use Rattle.explain_lines.specs.Listing.{entries_from, code_text, entry_text, listing}
use Rattle.explain_lines.proofs.LineLaws.{entry_length}

-- ---- the bytes of several lines, without their line feeds

unfoldable pub total : List Line → ℕ
total [] = 0
total (l ∷ ls) = length l.text + total ls

total-line : (ls : List Line) (n : ℕ) → length (get_or ls n no_line).text + total (drop (suc n) ls) ≡ total (drop n ls)
unfolding total
total-line [] zero = refl
total-line [] (suc n) = refl
total-line (l ∷ ls) zero = refl
total-line (l ∷ ls) (suc n) = total-line ls n

pub total-drop : (k : ℕ) (ls : List Line) → total (drop k ls) ≤ total ls
unfolding total
total-drop zero ls = omega arith
total-drop (suc k) [] = omega arith
total-drop (suc k) (l ∷ ls) = omega (arith, total-drop k ls)

total-later : (ls : List Line) (m n : ℕ) → m ≤ n → total (drop n ls) ≤ total (drop m ls)
total-later ls m n h =
    let q : m + (n - m) ≡ n = omega arith in
    let e : drop (n - m) (drop m ls) ≡ drop n ls = drop-drop (n - m) m ls ∙ ap (λ k. drop k ls) q in
    let k = total-drop (n - m) (drop m ls) in
    rw e at k

pieces : List (List ℕ) → ℕ
pieces [] = 0
pieces (p ∷ ps) = length p + pieces ps

lines-pieces : (ps : List (List ℕ)) → total (lines_of ps) ≡ pieces ps
unfolding total lines_of pieces
lines-pieces [] = refl
lines-pieces ([] ∷ []) = refl
lines-pieces ((x ∷ xs) ∷ []) = refl
lines-pieces (p ∷ q ∷ ps) = ap (λ n. length p + n) (lines-pieces (q ∷ ps))

onto-pieces : (x : ℕ) (ps : List (List ℕ)) → pieces (onto x ps) ≡ suc (pieces ps)
unfolding pieces
onto-pieces x [] = refl
onto-pieces x (p ∷ ps) = omega arith

split-pieces : (c : ℕ) (s : List ℕ) → pieces (parted_by c s) ≤ length s
unfolding parted_by pieces
split-pieces c [] = omega arith
split-pieces c (x ∷ xs) = go (eqb x c) (split-pieces c xs)
  where
    go : (b : Bool) → pieces (parted_by c xs) ≤ length xs → pieces (cond b ([] ∷ parted_by c xs) (onto x (parted_by c xs))) ≤ suc (length xs)
    go true h = omega arith
    go false h = omega (arith, onto-pieces x (parted_by c xs))

pub total-lines : (text : List ℕ) → total (lines text) ≤ length text
unfolding lines
total-lines text = omega (arith, lines-pieces (parted_by 10 text), split-pieces 10 text)

-- ---- a line

entry-short : (line : List ℕ) (cycles words depth : ℕ) (way : List Decision) → cycles < 10 ^ 9 → words < 10 ^ 6 → depth < 10 ^ 2 → length (path_text way) ≡ 1
    → length (entry_text line cycles words depth way) ≤ length line + 23
entry-short line cycles words depth way c w d p =
    let c' = decimal-length 9 cycles c (omega arith) in
    let w' = decimal-length 6 words w (omega arith) in
    let d' = decimal-length 2 depth d (omega arith) in
    omega (arith, entry_length line cycles words depth way)

-- ---- a walk through code without jumps backwards, at a price of at most 196,605 cycles and 510 words a step

module _ (c : Code) (forward : Forward c) (cheap : (a : ℕ) (i : Instruction) → fetch c a ≡ done i → Both (AtMost 196605 510) i.price i.extra) (ls : List Line) where
  abbrev pub Room : ℕ → ℕ → ℕ → Type 0
  Room n cycles words = (cycles + 196605 * n < 10 ^ 9) × (words + 510 * n < 10 ^ 6)

  -- a line, and then no line before the next
  pub one_more : (n cycles words : ℕ) (s : State) (p : Price) (way : List Decision) (others : List ℕ) → Low s → AtMost 196605 510 p → Room (suc n) cycles words → length (path_text way) ≡ 1
      → length others ≤ 23 * n + total (drop (suc (s.at - c.first)) ls)
      → length (entry_text (code_text ls c.first s.at) (cycles + p.cycles) (words + p.words) (height s) way ++ others) ≤ 23 * suc n + total (drop (s.at - c.first) ls)
  unfolding code_text
  one_more n cycles words s p way others low h (a, b) l o =
      let line = (get_or ls (s.at - c.first) no_line).text in
      let e = entry-short line (cycles + p.cycles) (words + p.words) (height s) way (omega (arith, h.cycles)) (omega (arith, h.words)) (omega (arith, low.low)) l in
      let t = total-line ls (s.at - c.first) in
      let k = length-append (entry_text line (cycles + p.cycles) (words + p.words) (height s) way) others in
      omega arith

  pub later : (s t : State) (n : Next) → step c unknown s ≡ done n → s.at < t.at → total (drop (t.at - c.first) ls) ≤ total (drop (suc (s.at - c.first)) ls)
  later s t n e h = let i = step-inside c unknown s n e in total-later ls (suc (s.at - c.first)) (t.at - c.first) (omega (arith, i.0))

  abbrev Fits : ℕ → Type 0
  Fits n = (ds : List Decision) (s : State) (cycles words : ℕ) → Low s → Room n cycles words
      → length (listing ls c.first (entries_from cycles words (follow (step c unknown) n ds s))) ≤ 23 * n + total (drop (s.at - c.first) ls)

  pub walk-fits : (n : ℕ) → Fits n
  unfolding follow onward entries_from listing path_text
  walk-fits zero ds s cycles words low room = omega arith
  walk-fits (suc n) ds s cycles words low room = go ds (step-price (AtMost 196605 510) c cheap unknown s) refl (walk-fits n)
    where
      less : (p : Price) → AtMost 196605 510 p → Room n (cycles + p.cycles) (words + p.words)
      less p h = (omega (arith, h.cycles, room.0), omega (arith, h.words, room.1))

      go : (ds : List Decision) {m : Try Next} → Priced (AtMost 196605 510) m → step c unknown s ≡ m → Fits n
          → length (listing ls c.first (entries_from cycles words (onward (follow (step c unknown) n) ds s m))) ≤ 23 * suc n + total (drop (s.at - c.first) ls)
      go ds is_stuck e ih = omega arith
      go ds (stops_at {p} h) e ih = one_more n cycles words s p [] [] low h room refl (omega arith)
      go ds (goes_at {p} {t} h) e ih =
          let l = later s t _ e (goes-there (step-above c forward unknown s _ e)).address in
          one_more n cycles words s p [] _ low h room refl (omega (arith, ih ds t _ _ (goes-there (step-low c unknown s _ e low)) (less p h)))
      go [] (opens_at x f h k) e ih = omega arith
      go (N ∷ ds) (opens_at {p} {t} x f h k) e ih =
          let l = later s t _ e (opens-there (step-above c forward unknown s _ e)).0.address in
          one_more n cycles words s p (N ∷ []) _ low h room refl (omega (arith, ih ds t _ _ (opens-there (step-low c unknown s _ e low)).0 (less p h)))
      go (T ∷ ds) (opens_at {q} {u} x f h k) e ih =
          let l = later s u _ e (opens-there (step-above c forward unknown s _ e)).1.address in
          one_more n cycles words s q (T ∷ []) _ low k room refl (omega (arith, ih ds u _ _ (opens-there (step-low c unknown s _ e low)).1 (less q k)))
