-- Laws of what is printed: SHARE is the nearest whole number, the even one at a half, and a report or a run's report with figures that are
-- not too large fits 128 bytes. Assumes nothing.
use mathlib.Core.Path.{◌≡◌, refl}
use mathlib.Core.Bool.{Bool, true, false}
use mathlib.Core.List.{List, [], ◌∷◌}
use Prim.Native.Nat.{ℕ, zero, suc, ◌+◌, ◌*◌, ◌/◌, ◌%◌, ◌^◌, ◌<◌, ◌≤◌}
use native.Mathlib.Nat.{add-zero, mul-add, le_antisymm, mul-le-mul_left, eq_of_mul-eq-mul_left, lt_of_mul-lt-mul_left, div-add-mod', mod-lt}
use native.Mathlib.Omega.{arith}
use lib.Dec.{ltb}
use lib.ListN.{length, length-append, length-map}
use borrow.Author.Tests.{lt-ltb, le-ltb, ltb-true, ltb-false}
use Rattle.text_decimals.specs.Decimal.{decimal}
use Rattle.text_decimals.proofs.DecimalLaws.{decimal-length}
use Rattle.bound_theory.specs.Tree.{Report, Decision}
use Rattle.bound_theory.proofs.FigureLaws.{Bounded}
use Rattle.report.specs.Report.{share, Rounded, letter, path_text, figures, bound_text, run_text}

-- SHARE by what is left over: less than a half, more than a half, a half
pub share-below : (tick cycles : ℕ) → 2 * (cycles * 1000 % tick) < tick → share tick cycles ≡ cycles * 1000 / tick
unfolding share
share-below tick cycles h = rw (lt-ltb (2 * (cycles * 1000 % tick)) tick h) (add-zero (cycles * 1000 / tick))

pub share-above : (tick cycles : ℕ) → tick < 2 * (cycles * 1000 % tick) → share tick cycles ≡ cycles * 1000 / tick + 1
unfolding share
share-above tick cycles h = rw (le-ltb (2 * (cycles * 1000 % tick)) tick (omega arith), lt-ltb tick (2 * (cycles * 1000 % tick)) h) refl

pub share-half : (tick cycles : ℕ) → 2 * (cycles * 1000 % tick) ≡ tick → share tick cycles ≡ cycles * 1000 / tick + cycles * 1000 / tick % 2
unfolding share
share-half tick cycles e = rw (le-ltb (2 * (cycles * 1000 % tick)) tick (omega arith), le-ltb tick (2 * (cycles * 1000 % tick)) (omega arith)) refl

-- of a whole part w with r left over: w is the nearest where r is at most a half, and w + 1 where it is at least a half
near-low : (tick cycles w r : ℕ) → 1 ≤ tick → w * tick + r ≡ cycles * 1000 → 2 * r ≤ tick → (2 * r ≡ tick → w % 2 ≡ 0) → Rounded tick cycles w
near-low tick cycles w r h d l even = record {
  not_above = omega arith;
  not_below = omega arith;
  even_above = λ e. absurd (omega arith);
  even_below = λ e. even (omega arith);
}

near-high : (tick cycles w r : ℕ) → r < tick → w * tick + r ≡ cycles * 1000 → tick ≤ 2 * r → (2 * r ≡ tick → (w + 1) % 2 ≡ 0) → Rounded tick cycles (w + 1)
near-high tick cycles w r h d l even =
    let m = mul-add (2 * tick) w 1 in
    record {
      not_above = omega arith;
      not_below = omega arith;
      even_above = λ e. even (omega arith);
      even_below = λ e. absurd (omega arith);
    }

pub share-nearest : (tick cycles : ℕ) → 1 ≤ tick → Rounded tick cycles (share tick cycles)
share-nearest tick cycles h = go (ltb (2 * r) tick) refl (ltb tick (2 * r)) refl
  where
    w : ℕ
    w = cycles * 1000 / tick

    r : ℕ
    r = cycles * 1000 % tick

    d : w * tick + r ≡ cycles * 1000
    d = div-add-mod' (cycles * 1000) tick

    low : 2 * r ≤ tick → (2 * r ≡ tick → w % 2 ≡ 0) → Rounded tick cycles w
    low = near-low tick cycles w r h d

    high : tick ≤ 2 * r → (2 * r ≡ tick → (w + 1) % 2 ≡ 0) → Rounded tick cycles (w + 1)
    high = near-high tick cycles w r (mod-lt (cycles * 1000) h) d

    half : 2 * r ≡ tick → (n : ℕ) → w % 2 ≡ n → n < 2 → Rounded tick cycles (w + n)
    half e zero f _ = rw (add-zero w) (low (omega arith) (λ _. f))
    half e (suc zero) f _ = high (omega arith) (λ _. omega arith)
    half e (suc (suc n)) f k = absurd (omega arith)

    go : (a : Bool) → ltb (2 * r) tick ≡ a → (b : Bool) → ltb tick (2 * r) ≡ b → Rounded tick cycles (share tick cycles)
    go true e b f = let l = ltb-true (2 * r) tick e in rw (share-below tick cycles l) (low (omega arith) (λ q. absurd (omega arith)))
    go false e true f = let l = ltb-true tick (2 * r) f in rw (share-above tick cycles l) (high (omega arith) (λ q. absurd (omega arith)))
    go false e false f =
        let l : 2 * r ≡ tick = le_antisymm (ltb-false tick (2 * r) f) (ltb-false (2 * r) tick e) in
        rw (share-half tick cycles l) (half l (w % 2) refl (omega arith))

-- of two numbers that are the nearest neither is below the other: they would be neighbours with the half between them, and both even
apart : (tick cycles n m : ℕ) → 1 ≤ tick → Rounded tick cycles n → Rounded tick cycles m → n < m → ⊥
apart tick cycles n m h a b l =
    let k = mul-le-mul_left tick l in
    let e : tick * m ≡ tick * suc n = le_antisymm (omega (arith, a.not_below, b.not_above)) k in
    let f = eq_of_mul-eq-mul_left tick h m (suc n) e in
    let u = a.even_below (omega (arith, a.not_below, b.not_above)) in
    let v = b.even_above (omega (arith, a.not_below, b.not_above)) in
    omega arith

-- no other number is that near
pub share-unique : (tick cycles n : ℕ) → 1 ≤ tick → Rounded tick cycles n → n ≡ share tick cycles
share-unique tick cycles n h k =
    let s = share-nearest tick cycles h in
    omega (arith, apart tick cycles n (share tick cycles) h k s, apart tick cycles (share tick cycles) n h s k)

-- what a report needs to fit: its figures, its path, and a TICK t that is not 0
pub record Small (t : ℕ) (q : Report) : Type 0 where
  pub cycles : q.cycles < 10 ^ 12
  pub words : q.words < 10 ^ 9
  pub depth : q.depth < 10 ^ 2
  pub steps : q.steps < 10 ^ 7
  pub path : length q.path ≤ 32
  pub tick : 1 ≤ t

pub bound-small : (tick : ℕ) (q : Report) → 1 ≤ tick → Bounded 196605 510 1000000 q → Small tick q
bound-small tick q t b = record {
  cycles = omega (arith, b.cycles, b.steps);
  words = omega (arith, b.words, b.steps);
  depth = omega (arith, b.depth);
  steps = omega (arith, b.steps);
  path = b.path;
  tick = t;
}

figures-fit : (q : Report) → q.cycles < 10 ^ 12 → q.words < 10 ^ 9 → q.depth < 10 ^ 2 → q.steps < 10 ^ 7 → length (figures q) ≤ 33
unfolding figures
figures-fit q c w d s =
    let c' = decimal-length 12 q.cycles c (omega arith) in
    let w' = decimal-length 9 q.words w (omega arith) in
    let d' = decimal-length 2 q.depth d (omega arith) in
    let s' = decimal-length 7 q.steps s (omega arith) in
    simp length-append (omega arith)

share-fits : (tick cycles : ℕ) → 1 ≤ tick → cycles < 10 ^ 12 → length (decimal (share tick cycles)) ≤ 16
share-fits tick cycles h c =
    let s = (share-nearest tick cycles h).not_above in
    decimal-length 16 (share tick cycles) (lt_of_mul-lt-mul_left tick (omega arith)) (omega arith)

path-fits : (ds : List Decision) → length ds ≤ 32 → length (path_text ds) ≤ 32
unfolding path_text
path-fits [] h = omega arith
path-fits (d ∷ ds) h = rw (length-map ds letter) h

pub bound-fits : (tick : ℕ) (q : Report) → Small tick q → length (bound_text tick q) ≤ 128
unfolding bound_text
bound-fits tick q s =
    let f = figures-fit q s.cycles s.words s.depth s.steps in
    let n = share-fits tick q.cycles s.tick s.cycles in
    let p = path-fits q.path s.path in
    simp length-append (omega arith)

pub run_fits : (q : Report) → q.cycles < 10 ^ 12 → q.words < 10 ^ 9 → q.depth < 10 ^ 2 → q.steps < 10 ^ 7 → length (run_text q) ≤ 128
unfolding run_text
run_fits q c w d s = let f = figures-fit q c w d s in simp length-append (omega arith)
