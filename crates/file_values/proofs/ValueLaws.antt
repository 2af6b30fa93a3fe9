-- What the code holds of a number or of a cell word passes the tests that the number or the cell word passes. Assumes nothing.
use Rattle.std.specs.Prelude.{None, Option, Some}
use Prim.Native.Nat.{ℕ, zero, suc, ◌+◌, ◌-◌, ◌<◌, ◌≤◌}
use mathlib.Core.Path.{◌≡◌, refl, sym, ap, ap₂, subst, ◌∙◌}
use mathlib.Core.Bool.{Bool, true, false, cond, ◌&&◌, false≢true}
use mathlib.Core.List.{List, [], ◌∷◌}
use native.Mathlib.Omega.{arith}
use lib.Dec.{T, eqb, lit<}
use lib.IntN.{ℤ, pos, negsuc, nat_abs}
use lib.ListN.{length, get_or, take, drop, length-drop}
use lib.Seq.{take_all}
use lib.Signed.{mag, non_neg, le_z}
use mir.Syntax.{w32}
use mir.Val.{SFits}
use borrow.Author.Tests.{leb-true, eq-eqb, ne_eqb}
use types.Run.{OneOf, miss}
use denote.Enum.Declared.{tag_of}
use Rattle.file_format.specs.contracts.CellWord.{the_type}
use Rattle.text.specs.Text.{equals, bytes, parted_by, line_words, Line, no_line}
use Rattle.text_decimals.specs.Decimal.{numeral}
use Rattle.text_decimals.specs.HeldMagnitude.{most, clamp, clamped}
use Rattle.text.proofs.PieceLaws.{first-le}
use Rattle.text_decimals.proofs.ClampLaws.{clamp-le, le-clamp, clamp-small, clamp-nat_abs-lt}
use Rattle.numbers.specs.declared.Range.{Range}
use Rattle.numbers.specs.Numbers.{bits, half, IsNumber, same, within, numbers}
use Rattle.numbers.proofs.SignedLaws.{number_fits}
use Rattle.cells.specs.Cells.{exactly, between, handle}
use Rattle.file_format.specs.declared.CellWord.{CellWord}
use Rattle.file_format.specs.declared.CellWord.TheVariants.{Wrong, Unknown, Known, Block, Span}
use Rattle.file_format.specs.Rows.{is_numeral, value, value_of, known_of, block_of, span_of, stop, spanned, hashed, cell_word, is_cell, handles, span_in_range, cell_in_range, is_single, cell_present, first_at}
use Rattle.file_format.specs.Routine.{inside, cell_of}
use Rattle.file_format.proofs.RangeLaws.{within_low, within-high, Natural, natural-inside, inside-keeps}
use Rattle.file_values.specs.HeldValues.{Near, NaturalRange, clamped_cell}

-- ---- numbers

pub numeral-clamped : (n : Option ℤ) → is_numeral (clamped n) ≡ is_numeral n
unfolding clamped is_numeral
numeral-clamped None = refl
numeral-clamped (Some z) = refl

value-clamped : (n : Option ℤ) → value_of (clamped n) ≡ clamp (value_of n)
unfolding clamped value_of clamp
value-clamped None = refl
value-clamped (Some z) = refl

pub within-clamp : (r : Range) (z : ℤ) → Near r → within r (clamp z) ≡ within r z
within-clamp r z h = ap₂ (λ a b. cond a b false) (le-clamp r.low z h.low) (clamp-le z r.high h.high)

-- a number between two others is as near to 0 as one of them
between-mag : (low high z : ℤ) (k : ℕ) → mag low < k → mag high < k → le_z low z ≡ true → le_z z high ≡ true → mag z < k
between-mag low (pos b) (pos n) k l h e f = let q = leb-true n b f in omega arith
between-mag low (negsuc b) (pos n) k l h e f = absurd (false≢true f)
between-mag (pos a) high (negsuc n) k l h e f = absurd (false≢true e)
between-mag (negsuc a) high (negsuc n) k l h e f = let q = leb-true n a e in omega arith

within-mag : (r : Range) (z : ℤ) (k : ℕ) → mag r.low < k → mag r.high < k → within r z ≡ true → mag z < k
within-mag r z k l h e = between-mag r.low r.high z k l h (within_low r z e) (within-high r z e)

pub inside-clamp : (r : Range) (z : ℤ) → Near r → inside r (clamp z) ≡ inside r z
unfolding inside
inside-clamp r z h = ap (λ b. cond b (clamp z) (pos 0)) (within-clamp r z h) ∙ go (within r z) refl
  where
    go : (b : Bool) → within r z ≡ b → cond b (clamp z) (pos 0) ≡ cond b z (pos 0)
    go true e = clamp-small z (let m = within-mag r z most h.low h.high e in omega arith)
    go false e = refl

pub natural-sign : {high : ℕ} {z : ℤ} → Natural high z → T (non_neg z)
natural-sign {z = z} n = subst (λ y. T (non_neg y)) n.is tt

-- a number of a range of numbers fits 32 bits
pub inside-fits : (r : Range) (z : ℤ) → IsNumber r.low → IsNumber r.high → SFits w32 (inside r z)
inside-fits r z l h = inside-keeps (SFits w32) r z (record { sfits = lit< tt }) (λ y e. number_fits y (record { fits = within-mag r y (half bits) l.fits h.fits e }))

pub inside-numbers-fits : (z : ℤ) → SFits w32 (inside numbers z)
inside-numbers-fits z = inside-fits numbers z (record { fits = lit< tt }) (record { fits = lit< tt })

-- ---- cells

pub known-clamped : (n : Option ℤ) → known_of (clamped n) ≡ clamped_cell (known_of n)
unfolding clamped known_of clamped_cell
known-clamped None = refl
known-clamped (Some z) = refl

pub block-clamped : (n : Option ℤ) → block_of (clamped n) ≡ clamped_cell (block_of n)
unfolding clamped block_of clamped_cell
block-clamped None = refl
block-clamped (Some z) = refl

pub span-clamped : (m n : Option ℤ) → span_of (clamped m) (clamped n) ≡ clamped_cell (span_of m n)
unfolding clamped span_of clamped_cell
span-clamped None n = refl
span-clamped (Some z) None = refl
span-clamped (Some z) (Some y) = refl

pub cell-clamped : (c : CellWord) → is_cell (clamped_cell c) ≡ is_cell c
unfolding is_cell clamped_cell
cell-clamped Wrong = refl
cell-clamped Unknown = refl
cell-clamped (Known z) = refl
cell-clamped (Block k) = refl
cell-clamped (Span lo hi) = refl

pub near-numbers : Near numbers
near-numbers = record { low = lit< tt; high = lit< tt }

near-handles : Near handles
near-handles = record { low = lit< tt; high = lit< tt }

-- a number in range is held as it is
pub number-clamped : (z : ℤ) → within numbers z ≡ true → clamp z ≡ z
number-clamped z e = clamp-small z (let m = within-mag numbers z most near-numbers.low near-numbers.high e in omega arith)

pub span-in-range-clamped : (lo hi : ℤ) → span_in_range (clamp lo) (clamp hi) ≡ span_in_range lo hi
span-in-range-clamped lo hi = ap₂ (λ (a b : Bool). a && b && le_z (clamp lo) (clamp hi)) (within-clamp numbers lo near-numbers) (within-clamp numbers hi near-numbers) ∙ go (within numbers lo) refl (within numbers hi) refl
  where
    go : (a : Bool) → within numbers lo ≡ a → (b : Bool) → within numbers hi ≡ b → (a && b && le_z (clamp lo) (clamp hi)) ≡ (a && b && le_z lo hi)
    go true p true q = ap₂ le_z (number-clamped lo p) (number-clamped hi q)
    go true p false q = refl
    go false p b q = refl

in-range-both : (lo hi : ℤ) → span_in_range lo hi ≡ true → (within numbers lo ≡ true) × (within numbers hi ≡ true)
in-range-both lo hi e = go (within numbers lo) refl (within numbers hi) refl e
  where
    go : (a : Bool) → within numbers lo ≡ a → (b : Bool) → within numbers hi ≡ b → (a && b && le_z lo hi) ≡ true → (within numbers lo ≡ true) × (within numbers hi ≡ true)
    go true p true q h = (p, q)
    go true p false q h = absurd (false≢true h)
    go false p b q h = absurd (false≢true h)

pub single-clamped : (c : CellWord) → is_single (clamped_cell c) ≡ is_single c
unfolding is_single clamped_cell
single-clamped Wrong = refl
single-clamped Unknown = refl
single-clamped (Known z) = refl
single-clamped (Block k) = refl
single-clamped (Span lo hi) = ap (λ (t : Bool). cond t (same (clamp lo) (clamp hi)) true) (span-in-range-clamped lo hi) ∙ go (span_in_range lo hi) refl
  where
    go : (t : Bool) → span_in_range lo hi ≡ t → cond t (same (clamp lo) (clamp hi)) true ≡ cond t (same lo hi) true
    go true e = let b = in-range-both lo hi e in ap₂ same (number-clamped lo b.0) (number-clamped hi b.1)
    go false e = refl

pub in-range-clamped : (c : CellWord) → cell_in_range (clamped_cell c) ≡ cell_in_range c
unfolding cell_in_range clamped_cell
in-range-clamped Wrong = refl
in-range-clamped Unknown = refl
in-range-clamped (Known z) = within-clamp numbers z near-numbers
in-range-clamped (Block k) = within-clamp handles k near-handles
in-range-clamped (Span lo hi) = span-in-range-clamped lo hi

pub present-clamped : (n : ℕ) → n ≤ most → (c : CellWord) → cell_present n (clamped_cell c) ≡ cell_present n c
unfolding cell_present clamped_cell
present-clamped n h Wrong = refl
present-clamped n h Unknown = refl
present-clamped n h (Known z) = refl
present-clamped n h (Block k) = clamp-nat_abs-lt k n h
present-clamped n h (Span lo hi) = refl

pub cell-of-clamped : (c : CellWord) → cell_of (clamped_cell c) ≡ cell_of c
unfolding cell_of clamped_cell
cell-of-clamped Wrong = refl
cell-of-clamped Unknown = refl
cell-of-clamped (Known z) = ap exactly (inside-clamp numbers z near-numbers)
cell-of-clamped (Block k) = ap (λ x. handle (nat_abs x)) (inside-clamp handles k near-handles)
cell-of-clamped (Span lo hi) = ap₂ between (inside-clamp numbers lo near-numbers) (inside-clamp numbers hi near-numbers)

-- ---- the cell word of a word, by its first byte

module _ (w : List ℕ) where
  pub word-unknown : equals w (bytes "?") ≡ true → cell_word w ≡ Unknown
  unfolding cell_word
  word-unknown e = ap (λ b. cond b Unknown (hashed w)) e

  word-other : equals w (bytes "?") ≡ false → cell_word w ≡ hashed w
  unfolding cell_word
  word-other e = ap (λ b. cond b Unknown (hashed w)) e

hashed-none : (w : List ℕ) → length w ≡ 0 → hashed w ≡ Wrong
unfolding hashed
hashed-none [] h = refl
hashed-none (d ∷ ds) h = absurd (omega arith)

hashed-block : (w : List ℕ) → (length w ≡ 0 → ⊥) → get_or w 0 0 ≡ 35 → hashed w ≡ block_of (numeral (drop 1 w))
unfolding hashed
hashed-block [] h e = absurd (h refl)
hashed-block (d ∷ ds) h e = ap (λ b. cond b (block_of (numeral ds)) (spanned (d ∷ ds))) (eq-eqb d 35 e)

hashed-spanned : (w : List ℕ) → (length w ≡ 0 → ⊥) → (get_or w 0 0 ≡ 35 → ⊥) → hashed w ≡ spanned w
unfolding hashed
hashed-spanned [] h e = absurd (h refl)
hashed-spanned (d ∷ ds) h e = ap (λ b. cond b (block_of (numeral ds)) (spanned (d ∷ ds))) (ne_eqb d 35 e)

module _ (w : List ℕ) (q : equals w (bytes "?") ≡ false) where
  pub word_none : length w ≡ 0 → cell_word w ≡ Wrong
  word_none h = word-other w q ∙ hashed-none w h

  -- the rest of the word as the code takes it: `&w[1..]`
  pub word-block : (length w ≡ 0 → ⊥) → get_or w 0 0 ≡ 35 → cell_word w ≡ block_of (numeral (take (length w - 1) (drop 1 w)))
  word-block h e =
      word-other w q ∙ hashed-block w h e ∙ ap (λ l. block_of (numeral l)) (sym (take_all (length w - 1) (drop 1 w) (rw length-drop (omega arith))))

  pub word-spanned : (length w ≡ 0 → ⊥) → (get_or w 0 0 ≡ 35 → ⊥) → cell_word w ≡ spanned w
  word-spanned h e = word-other w q ∙ hashed-spanned w h e

-- a number, or two around `..`
beyond : (w : List ℕ) (i : ℕ) → length w ≤ i → get_or w i 0 ≡ 0
beyond [] i h = refl
beyond (x ∷ w) zero h = absurd (omega arith)
beyond (x ∷ w) (suc i) h = beyond w i (omega arith)

module _ (w : List ℕ) (n : ℕ) (first : n ≡ stop w) where
  abbrev two : List ℕ → Bool → Bool → CellWord
  two w a b = cond (a && b) (span_of (numeral (take (stop w) w)) (numeral (drop (stop w + 2) w))) (known_of (numeral w))

  known_by : (a b : Bool) → eqb (get_or w (stop w) 0) 46 ≡ a → eqb (get_or w (stop w + 1) 0) 46 ≡ b → (a && b) ≡ false → spanned w ≡ known_of (numeral w)
  unfolding spanned
  known_by a b p q e = ap₂ (two w) p q ∙ ap (λ (t : Bool). cond t (span_of (numeral (take (stop w) w)) (numeral (drop (stop w + 2) w))) (known_of (numeral w))) e

  and_no : (a : Bool) → (a && false) ≡ false
  and_no true = refl
  and_no false = refl

  -- the word ends, or another byte stands at one of the two places
  pub known-end : length w ≤ n + 1 → spanned w ≡ known_of (numeral w)
  known-end h =
      let e : get_or w (stop w + 1) 0 ≡ 0 = beyond w (stop w + 1) (omega arith) in
      known_by (eqb (get_or w (stop w) 0) 46) false refl (ap (λ (k : ℕ). eqb k 46) e) (and_no (eqb (get_or w (stop w) 0) 46))

  pub known-first : (get_or w n 0 ≡ 46 → ⊥) → spanned w ≡ known_of (numeral w)
  known-first f = known_by false (eqb (get_or w (stop w + 1) 0) 46) (ne_eqb (get_or w (stop w) 0) 46 (λ e. f (ap (λ (k : ℕ). get_or w k 0) first ∙ e))) refl refl

  pub known-second : (get_or w (n + 1) 0 ≡ 46 → ⊥) → spanned w ≡ known_of (numeral w)
  known-second f =
      known_by (eqb (get_or w (stop w) 0) 46) false refl (ne_eqb (get_or w (stop w + 1) 0) 46 (λ e. f (ap (λ (k : ℕ). get_or w (k + 1) 0) first ∙ e))) (and_no (eqb (get_or w (stop w) 0) 46))

  pub both-stops : get_or w n 0 ≡ 46 → get_or w (n + 1) 0 ≡ 46 → spanned w ≡ span_of (numeral (take n w)) (numeral (take (length w - (n + 2)) (drop (n + 2) w)))
  unfolding spanned
  both-stops p q =
      ap₂ (two w) (eq-eqb (get_or w (stop w) 0) 46 (sym (ap (λ (k : ℕ). get_or w k 0) first) ∙ p)) (eq-eqb (get_or w (stop w + 1) 0) 46 (sym (ap (λ (k : ℕ). get_or w (k + 1) 0) first) ∙ q))
      ∙ ap (λ (k : ℕ). span_of (numeral (take k w)) (numeral (drop (k + 2) w))) (sym first)
      ∙ ap (λ (l : List ℕ). span_of (numeral (take n w)) (numeral l)) (sym (take_all (length w - (n + 2)) (drop (n + 2) w) (rw length-drop (omega arith))))

-- the first full stop is in the word, or just past it
pub stop-within : (w : List ℕ) → stop w ≤ length w
stop-within w = first-le 46 w

-- ---- what a match on a held value says of the value

-- an arm of all other words knows by the variants' numbers which they are

pub not-wrong : (c : CellWord) → OneOf (1 ∷ 2 ∷ 3 ∷ 4 ∷ []) (tag_of the_type c) → true ≡ is_cell c
unfolding is_cell
not-wrong Wrong o = absurd (miss (1 ∷ 2 ∷ 3 ∷ 4 ∷ []) 0 tt o)
not-wrong Unknown o = refl
not-wrong (Known z) o = refl
not-wrong (Block k) o = refl
not-wrong (Span lo hi) o = refl

pub not-block : (n : ℕ) (c : CellWord) → OneOf (0 ∷ 1 ∷ 2 ∷ 4 ∷ []) (tag_of the_type c) → true ≡ cell_present n c
unfolding cell_present
not-block n Wrong o = refl
not-block n Unknown o = refl
not-block n (Known z) o = refl
not-block n (Block k) o = absurd (miss (0 ∷ 1 ∷ 2 ∷ 4 ∷ []) 3 tt o)
not-block n (Span lo hi) o = refl

pub no_number : (c : CellWord) → OneOf (0 ∷ 1 ∷ []) (tag_of the_type c) → true ≡ cell_in_range c
unfolding cell_in_range
no_number Wrong o = refl
no_number Unknown o = refl
no_number (Known z) o = absurd (miss (0 ∷ 1 ∷ []) 2 tt o)
no_number (Block k) o = absurd (miss (0 ∷ 1 ∷ []) 3 tt o)
no_number (Span lo hi) o = absurd (miss (0 ∷ 1 ∷ []) 4 tt o)

pub not_wide : (c : CellWord) → OneOf (0 ∷ 2 ∷ 3 ∷ []) (tag_of the_type c) → true ≡ is_single c
unfolding is_single
not_wide Wrong o = refl
not_wide Unknown o = absurd (miss (0 ∷ 2 ∷ 3 ∷ []) 1 tt o)
not_wide (Known z) o = refl
not_wide (Block k) o = refl
not_wide (Span lo hi) o = absurd (miss (0 ∷ 2 ∷ 3 ∷ []) 4 tt o)

-- f says the same of b as of what is held of it, which is r, and the match found d
pub tested : {B X : Type 0} (f : B → X) (held : B → B) (keeps : (b : B) → f (held b) ≡ f b) (b : B) {r d : B} {x : X} → r ≡ held b → r ≡ d → x ≡ f d → x ≡ f b
tested f held keeps b p q e = e ∙ ap f (sym q ∙ p) ∙ keeps b

pub held-value : (n : Option ℤ) {r d : Option ℤ} {x : ℤ} → r ≡ clamped n → r ≡ d → x ≡ value_of d → x ≡ clamp (value_of n)
held-value n p q e = e ∙ ap value_of (sym q ∙ p) ∙ value-clamped n

-- ---- natural numbers

module _ (r : Range) (n : NaturalRange r) where
  pub natural-held : (z : ℤ) → Natural n.greatest (inside r z)
  natural-held z = rw n.is (natural-inside n.least n.greatest z)

-- the first address stands at the start of the first code line
pub first-spelt : (ls : List Line) → value (get_or (line_words (get_or ls 0 no_line).text) 0 []) ≡ first_at ls
unfolding first_at line_words parted_by value value_of numeral
first-spelt [] = refl
first-spelt (l ∷ ls) = refl
