-- What the ranges of a passing text say of its routine: prices, limits and the height of the start are small, and an argument is a number
-- of the machine. Assumes nothing.
use Prim.Native.Nat.{ℕ, ◌+◌, ◌-◌, ◌<◌, ◌≤◌, min, zero-le}
use mathlib.Core.Path.{◌≡◌, refl, ap, ◌∙◌}
use mathlib.Core.Bool.{Bool, true, false, cond, ◌&&◌, false≢true}
use mathlib.Core.List.{List, [], ◌∷◌, map}
use native.Mathlib.Omega.{arith}
use lib.Dec.{eqb, ltb}
use lib.IntN.{ℤ, pos, negsuc, nat_abs}
use lib.Signed.{mag, le_z}
use lib.ListN.{length, get_or, take, length-map, length-take, length-drop}
use borrow.Author.Tests.{leb-true, le-leb, ltb-true, eqb-true}
use Rattle.text.specs.Text.{Line, find, all}
use Rattle.text.proofs.TextLaws.{Every, more, all-every, every-get_d, and_left, and_right, cond-left, cond-right}
use Rattle.numbers.specs.declared.Range.{Range}
use Rattle.numbers.specs.Numbers.{bits, half, IsNumber, naturals, within, numbers}
use Rattle.instructions.specs.Kinds.{Kind, kind_at}
use Rattle.instructions.specs.Kinds as table
use Rattle.instructions.specs.declared.Argument.{Argument}
use Rattle.instructions.specs.declared.Argument.TheVariants.{Absent, Target, Primitive, Within}
use Rattle.machine.specs.Machine.{Price, Instruction, instruction, Prices, price_of, with_extra}
use Rattle.machine.proofs.PriceLaws.{AtMost, Both}
use Rattle.file_format.specs.declared.Section.{Section}
use Rattle.file_format.specs.declared.Section.TheVariants.{Limits as limits, Cells as cells}
use Rattle.file_format.specs.declared.Column.{Column}
use Rattle.file_format.specs.declared.Column.TheVariants.{Limit as limit, Cell as cell}
use Rattle.file_format.specs.declared.Role.TheVariants.{Names as names, Values as values}
use Rattle.file_format.specs.Layout.{layout, body, lines_of_code, listed}
use Rattle.file_format.specs.Rows.{budgets, ticks, values_laid_out, cell_word, value, op, cell_names, stack_names, column_in_range, column_laid_out, in_range, is_laid_out, named, well_named, Passes}
use Rattle.file_format.specs.Routine.{inside, natural_in, PriceList, price_at, prices, instruction_of, code_in, cell_of, cells_of, start_of, routine_of}
use Rattle.file_format.proofs.RowLaws.{First, passes-range, passes-laid-out, passes-named, lists-path}

-- ---- numbers of a range

pub within_low : (r : Range) (z : ℤ) → within r z ≡ true → le_z r.low z ≡ true
within_low r z e = cond-left (le_z r.low z) (le_z z r.high) e

pub within-high : (r : Range) (z : ℤ) → within r z ≡ true → le_z z r.high ≡ true
within-high r z e = cond-right (le_z r.low z) (le_z z r.high) e

-- a natural number, `high` at most
pub record Natural (high : ℕ) (z : ℤ) : Type 0 where
  pub is : pos (nat_abs z) ≡ z
  pub below : nat_abs z ≤ high

-- a number within a range from a natural number on
pub natural-within : (low high : ℕ) (z : ℤ) → within (naturals low high) z ≡ true → Natural high z
natural-within low high (pos n) e = record { is = refl; below = leb-true n high (within-high (naturals low high) (pos n) e) }
natural-within low high (negsuc n) e = absurd (false≢true (within_low (naturals low high) (negsuc n) e))

natural-above : (low high : ℕ) (z : ℤ) → within (naturals low high) z ≡ true → low ≤ nat_abs z
natural-above low high (pos n) e = leb-true low n (within_low (naturals low high) (pos n) e)
natural-above low high (negsuc n) e = absurd (false≢true (within_low (naturals low high) (negsuc n) e))

-- a number within its range counts as it is
pub inside_is : (r : Range) (z : ℤ) → within r z ≡ true → inside r z ≡ z
unfolding inside
inside_is r z e = rw e refl

-- a number of a range, or 0: it keeps what holds of both
pub inside-keeps : (P : ℤ → Type 0) (r : Range) (z : ℤ) → P (pos 0) → ((y : ℤ) → within r y ≡ true → P y) → P (inside r z)
unfolding inside
inside-keeps P r z o f = go (within r z) refl
  where
    go : (b : Bool) → within r z ≡ b → P (cond b z (pos 0))
    go true e = f z e
    go false e = o

pub natural-inside : (low high : ℕ) (z : ℤ) → Natural high (inside (naturals low high) z)
natural-inside low high z = inside-keeps (Natural high) (naturals low high) z (record { is = refl; below = zero-le }) (natural-within low high)

-- ---- limits

-- a limit of a passing text is the number that its word spells
limit-ends : (low high : ℕ) (w : List ℕ) → within (naturals low high) (value w) ≡ true → low ≤ natural_in (naturals low high) w
limit-ends low high w e = rw (inside_is (naturals low high) (value w) e) (natural-above low high (value w) e)

module _ {ls : List Line} (p : Passes ls) where
  limits-within : column_in_range limit (listed (names limits) ls) (listed (values limits limit) ls) ≡ true
  unfolding listed in_range
  limits-within = passes-range p (values limits limit) refl

  pub budget-small : (routine_of ls).budget ≤ 1000000
  unfolding routine_of
  budget-small = (natural-inside 1 1000000 (value (get_or (listed (values limits limit) ls) 0 []))).below

  pub tick-positive : 1 ≤ (routine_of ls).tick
  unfolding routine_of column_in_range
  tick-positive =
      let ws = listed (values limits limit) ls in
      limit-ends 1 4000000000 (get_or ws 1 []) (and_right (within budgets (value (get_or ws 0 []))) (within ticks (value (get_or ws 1 []))) limits-within)

  pub tick-small : (routine_of ls).tick ≤ 4000000000
  unfolding routine_of
  tick-small = (natural-inside 1 4000000000 (value (get_or (listed (values limits limit) ls) 1 []))).below

-- ---- prices

-- a kind's price and a primitive's, each at most c cycles and w words
price-of-small : (c w : ℕ) (ps : Prices) → ((k : ℕ) → AtMost c w (ps.kinds k)) → ((i : ℕ) → AtMost c w (ps.primitives i))
    → (a : Argument) (k : ℕ) (v : ℤ) → AtMost (c + c) (w + w) (price_of ps a k v)
unfolding price_of
price-of-small c w ps f g Absent k v = let h = f k in omega arith
price-of-small c w ps f g Target k v = let h = f k in omega arith
price-of-small c w ps f g Primitive k v = let h = f k in let i = g (nat_abs v) in omega arith
price-of-small c w ps f g (Within r) k v = let h = f k in omega arith

price-small : (p : PriceList) (i : ℕ) → AtMost 65535 255 (price_at p i)
price-small p i = record {
  cycles = (natural-inside 0 65535 (value (get_or p.cycles i []))).below;
  words = (natural-inside 0 255 (value (get_or p.words i []))).below;
}

-- an instruction's price, without its extra and with it
abbrev pub Small : Instruction → Type 0
Small i = Both (AtMost 196605 510) i.price i.extra

with-extra-small : (x : ℕ) (p : Price) → AtMost 131070 510 p → x ≤ 65535 → Both (AtMost 196605 510) p x
unfolding with_extra
with-extra-small x p h l =
    (record { cycles = omega (arith, h.cycles); words = h.words }, record { cycles = omega (arith, h.cycles); words = h.words })

instruction-small : (ks : PriceList) (xs : List (List ℕ)) (ps : PriceList) (text : List ℕ) → Small (instruction_of ks xs ps text)
unfolding instruction_of instruction
instruction-small ks xs ps text =
    with-extra-small _ _ (price-of-small 65535 255 (prices ks ps) (price-small ks) (price-small ps) _ _ _)
    (natural-inside 0 65535 (value (get_or xs (find (op text) ks.names) []))).below

pub every-mapped : {A B : Type 0} {P : B → Type 0} (f : A → B) → ((x : A) → P (f x)) → (xs : List A) → Every P (map f xs)
every-mapped f h [] = Every.none
every-mapped f h (x ∷ xs) = more (h x) (every-mapped f h xs)

-- whatever the text says, no price is larger
pub prices-small : (ls : List Line) → Every Small (routine_of ls).code.instructions
unfolding routine_of code_in
prices-small ls = every-mapped (λ l. instruction_of _ _ _ l.text) (λ l. instruction-small _ _ _ l.text) (lines_of_code (body ls))

-- ---- the start

-- "ACCU, then S0 on to S31 at most"
pub cells-few : (ls : List Line) → Passes ls → length (listed (names cells) ls) ≤ 33
unfolding listed named well_named cell_names stack_names
cells-few ls p =
    let ws = listed (names cells) ls in
    let e : length ws ≡ min (length ws) 33 = ap length (lists-path ws (take (length ws) cell_names) (passes-named p (names cells) refl)) ∙ length-take (length ws) cell_names in
    omega arith

-- as many values as names
pub values-counted : {ls : List Line} → Passes ls → (s : Section) (c : Column) → First (values s c) layout → length (listed (values s c) ls) ≡ length (listed (names s) ls)
unfolding listed is_laid_out values_laid_out
values-counted {ls} p s c f =
    let ws = listed (values s c) ls in
    let n = length (listed (names s) ls) in
    eqb-true (length ws) n (and_left (eqb (length ws) n) (column_laid_out c ws) (passes-laid-out p (values s c) f))

cells-counted : {ls : List Line} → Passes ls → length (cells_of (listed (values cells cell) ls)) ≡ length (listed (names cells) ls)
unfolding cells_of
cells-counted {ls} p = length-map (listed (values cells cell) ls) (λ w. cell_of (cell_word w)) ∙ values-counted p cells cell refl

pub start-low : {ls : List Line} → Passes ls → length (routine_of ls).start.stack ≤ 32
unfolding routine_of start_of
start-low {ls} p =
    let l = cells-few ls p in
    let e = cells-counted p in
    simp length-drop (omega arith)

-- ---- numbers of the machine

pub number-within : (z : ℤ) → IsNumber z → within numbers z ≡ true
number-within (pos n) h = let k = h.fits in le-leb n (half bits - 1) (omega arith)
number-within (negsuc n) h = let k = h.fits in rw (le-leb n (half bits - 1) (omega arith)) refl

between : (low high z : ℤ) → mag low < half bits → mag high < half bits → le_z low z ≡ true → le_z z high ≡ true → mag z < half bits
between low (pos b) (pos n) l h e f = let q = leb-true n b f in omega arith
between low (negsuc b) (pos n) l h e f = absurd (false≢true f)
between (pos a) high (negsuc n) l h e f = absurd (false≢true e)
between (negsuc a) high (negsuc n) l h e f = let q = leb-true n a e in omega arith

-- the ends of a kind's range are numbers: computed for the whole table
abbrev pub bounded : Argument → Bool
bounded Absent = true
bounded Target = true
bounded Primitive = true
bounded (Within r) = ltb (mag r.low) (half bits) && ltb (mag r.high) (half bits)

pub kind-bounded : (k : ℕ) → bounded (kind_at k).argument ≡ true
unfolding table.kinds kind_at all
kind-bounded k = every-get_d (all-every (λ (r : Kind). bounded r.argument) table.kinds refl) refl k

-- so that an argument within its range is one
pub argument-number : (r : Range) (z : ℤ) → bounded (Within r) ≡ true → within r z ≡ true → IsNumber z
argument-number r z b e =
    record {
      fits =
          between r.low r.high z
          (ltb-true (mag r.low) (half bits) (and_left (ltb (mag r.low) (half bits)) (ltb (mag r.high) (half bits)) b))
          (ltb-true (mag r.high) (half bits) (and_right (ltb (mag r.low) (half bits)) (ltb (mag r.high) (half bits)) b))
          (within_low r z e)
          (within-high r z e);
    }
