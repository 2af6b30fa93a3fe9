-- A program of words: which line stands at an address, and the sizes of its blocks. Assumes nothing.
use mathlib.Core.Path.{◌≡◌, refl, sym, ap, ap₂, ◌∙◌}
use mathlib.Core.Bool.{Bool, true, false}
use mathlib.Core.List.{List, [], ◌∷◌, ◌++◌}
use Prim.Native.Nat.{ℕ, zero, suc, ◌+◌, ◌-◌, ◌*◌, ◌≤◌, ◌<◌}
use native.Mathlib.Omega.{arith}
use lib.Dec.{ltb}
use lib.ListN.{length, get_or, take, drop, length-take, length-drop}
use lib.Seq.{get_or-take, get_or-drop}
use borrow.Author.Tests.{lt-ltb, le-ltb, ltb-true, ltb-false}
use Rattle.cells.specs.Try.{stuck, done}
use Rattle.cells.specs.declared.Cell.{Cell}
use Rattle.machine.specs.Lists.{nth}
use Rattle.machine.specs.Machine.{Instruction, fetch}
use Rattle.machine_state.specs.HeldProgram.{first_address_of, lines_in, blocks_in, sizes_of, line_of, line_at, lines_from, program_of, IsProgram}
use Rattle.machine_state.specs.HeldState.{Fits}

-- ---- lines

lines-count : (ws : List ℕ) (n k : ℕ) → length (lines_from ws n k) ≡ n
unfolding lines_from
lines-count ws zero k = refl
lines-count ws (suc n) k = ap suc (lines-count ws n (k + 5))

pub code-count : (ws : List ℕ) → length (program_of ws).instructions ≡ lines_in ws
unfolding program_of
code-count ws = lines-count ws (lines_in ws) 11

pub code-first : (ws : List ℕ) → (program_of ws).first ≡ first_address_of ws
unfolding program_of
code-first ws = refl

-- one line more
pub lines_snoc : (ws : List ℕ) (n k : ℕ) → lines_from ws (suc n) k ≡ lines_from ws n k ++ (line_of (line_at ws (k + n * 5)) ∷ [])
unfolding lines_from
lines_snoc ws zero k = let e : k + 0 * 5 ≡ k = omega arith in ap (λ i. line_of (line_at ws i) ∷ []) (sym e)
lines_snoc ws (suc n) k =
    let e : k + 5 + n * 5 ≡ k + suc n * 5 = omega arith in
    ap (λ ls. line_of (line_at ws k) ∷ ls) (lines_snoc ws n (k + 5) ∙ ap (λ i. lines_from ws n (k + 5) ++ (line_of (line_at ws i) ∷ [])) e)

-- words that agree have the same lines
pub lines-agree : (ws vs : List ℕ) (n k : ℕ) → ((i : ℕ) → k ≤ i → i < k + n * 5 → get_or ws i 0 ≡ get_or vs i 0) → lines_from ws n k ≡ lines_from vs n k
unfolding lines_from
lines-agree ws vs zero k h = refl
lines-agree ws vs (suc n) k h =
    ap₂ (λ (l : Instruction) (ls : List Instruction). l ∷ ls)
    (rw (h k (omega arith) (omega arith), h (k + 1) (omega arith) (omega arith), h (k + 2) (omega arith) (omega arith), h (k + 3) (omega arith) (omega arith), h (k + 4) (omega arith) (omega arith)) refl)
    (lines-agree ws vs n (k + 5) (λ i a b. h i (omega arith) (omega arith)))

module _ (ws : List ℕ) where
  lines-in : (j n k : ℕ) → j < n → nth j (lines_from ws n k) ≡ done (line_of (line_at ws (k + j * 5)))
  unfolding nth lines_from
  lines-in j zero k h = absurd (omega arith)
  lines-in zero (suc n) k h = let e : k + 0 * 5 ≡ k = omega arith in ap (λ i. done (line_of (line_at ws i))) (sym e)
  lines-in (suc j) (suc n) k h =
      let e : k + 5 + j * 5 ≡ k + suc j * 5 = omega arith in
      lines-in j n (k + 5) (omega arith) ∙ ap (λ i. done (line_of (line_at ws i))) e

  lines-out : (j n k : ℕ) → n ≤ j → nth j (lines_from ws n k) ≡ stuck
  unfolding nth lines_from
  lines-out j zero k h = refl
  lines-out zero (suc n) k h = absurd (omega arith)
  lines-out (suc j) (suc n) k h = lines-out j n (k + 5) (omega arith)

  module _ (a : ℕ) where
    pub fetch-below : a < first_address_of ws → stuck ≡ fetch (program_of ws) a
    unfolding fetch program_of
    fetch-below h = rw (lt-ltb a (first_address_of ws) h) refl

    pub fetch-past : first_address_of ws ≤ a → lines_in ws ≤ a - first_address_of ws → stuck ≡ fetch (program_of ws) a
    unfolding fetch program_of
    fetch-past h l = rw (le-ltb a (first_address_of ws) h) (sym (lines-out (a - first_address_of ws) (lines_in ws) 11 l))

    pub fetch-in : first_address_of ws ≤ a → a - first_address_of ws < lines_in ws → done (line_of (line_at ws (11 + (a - first_address_of ws) * 5))) ≡ fetch (program_of ws) a
    unfolding fetch program_of
    fetch-in h l = rw (le-ltb a (first_address_of ws) h) (sym (lines-in (a - first_address_of ws) (lines_in ws) 11 l))

    -- a line that is fetched stands within the code
    pub fetch-within : (i : Instruction) → fetch (program_of ws) a ≡ done i → a < first_address_of ws + lines_in ws
    fetch-within i e = go (ltb a (first_address_of ws)) refl (ltb (a - first_address_of ws) (lines_in ws)) refl
      where
        go : (b : Bool) → ltb a (first_address_of ws) ≡ b → (d : Bool) → ltb (a - first_address_of ws) (lines_in ws) ≡ d → a < first_address_of ws + lines_in ws
        go true h d g = let k = ltb-true a (first_address_of ws) h in let z : ◌≡◌ {A = ℕ} 0 1 = cc (fetch-below k) in absurd (omega arith)
        go false h true g = let k = ltb-false a (first_address_of ws) h in let l = ltb-true (a - first_address_of ws) (lines_in ws) g in omega arith
        go false h false g =
            let k = ltb-false a (first_address_of ws) h in
            let z : ◌≡◌ {A = ℕ} 0 1 = cc (fetch-past k (ltb-false (a - first_address_of ws) (lines_in ws) g)) in
            absurd (omega arith)

  -- ---- blocks

  module _ (f : IsProgram ws) where
    pub sizes-count : length (sizes_of ws) ≡ blocks_in ws
    unfolding sizes_of
    sizes-count = simp (length-take, length-drop) (omega (arith, f.blocks, f.words))

    pub size-at : (k : ℕ) → k < blocks_in ws → get_or (sizes_of ws) k 0 ≡ get_or ws (k + 3) 0
    unfolding sizes_of
    size-at k h =
        let e : 3 + k ≡ k + 3 = omega arith in
        get_or-take (blocks_in ws) (take 8 (drop 3 ws)) k 0 h ∙ get_or-take 8 (drop 3 ws) k 0 (omega (arith, f.blocks)) ∙ get_or-drop 3 ws k 0 ∙ ap (λ i. get_or ws i 0) e

    -- eight blocks of at most sixteen fields have room in 128 places
    pub fits_all : (fs : List Cell) → length fs ≡ 128 → Fits (sizes_of ws) fs
    fits_all fs l = record { few = f.sizes; room = omega (arith, sizes-count, f.blocks) }
