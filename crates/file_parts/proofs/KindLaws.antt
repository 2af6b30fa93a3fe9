-- What is kept of the kinds that were met. Assumes nothing.
use Rattle.std.specs.Prelude.{None, Option, Some}
use Prim.Native.Nat.{ℕ, ◌+◌, ◌*◌, ◌<◌, ◌≤◌}
use mathlib.Core.Path.{◌≡◌, refl, sym, ap, ap₂, subst, ◌∙◌}
use mathlib.Core.Bool.{Bool, true, false, cond}
use mathlib.Core.List.{List, []}
use mathlib.Core.Logic.{⊎_elim}
use native.Mathlib.Omega.{arith}
use native.Mathlib.Nat.{eq-or-lt_of_le}
use lib.Dec.{eqb, ltb}
use lib.ListN.{length, get_or, length-set, replicate, get_or-replicate}
use borrow.Author.Tests.{eqb-true, eqb-false, ltb-true, ltb-false}
use Rattle.text.specs.Text.{place_among, index_of, find}
use Rattle.numbers.specs.declared.Range.{Range}
use Rattle.instructions.specs.Kinds.{kind_names, kind_at}
use Rattle.instructions.proofs.ColumnLaws.{kind-below}
use Rattle.file_format.specs.Rows.{cycle_counts, word_counts, extra_counts}
use Rattle.file_format.specs.Routine.{PriceList, natural_at}
use Rattle.file_lines.proofs.KindLaws.{word-found}
use Rattle.file_parts.specs.HeldParts.{Coded, slot_of, KindPrice, PriceAt, KindsKept, put_line}
use Rattle.file_parts.proofs.EntryLaws.{found, natural-small, put-kept, word-0, word-1, word-2, word-3, word-4}

-- ---- slots

-- the number of a slot
abbrev slot_number : Option ℕ → ℕ
slot_number (Some k) = k
slot_number None = 61

slot_is : (p : Option ℕ) → slot_of p ≡ slot_number p * 5
slot_is (Some k) = refl
slot_is None = refl

pub places-low : (op : List ℕ) (p : Option ℕ) → p ≡ place_among op kind_names → (k : ℕ) → p ≡ Some k → k < 61
places-low op p q k e = kind-below op (sym q ∙ e)

slot-few : (p : Option ℕ) → ((k : ℕ) → p ≡ Some k → k < 61) → slot_number p ≤ 61
slot-few (Some k) h = let l = h k refl in omega arith
slot-few None h = omega arith

pub slot-low : (op : List ℕ) (p : Option ℕ) → p ≡ place_among op kind_names → {s : ℕ} → s ≡ slot_of p → s ≤ 305
slot-low op p q e = let a = slot-few p (places-low op p q) in let b = slot_is p in omega arith

slot-named : (op : List ℕ) (p : Option ℕ) → p ≡ place_among op kind_names → (j : ℕ) → j < 61 → j ≡ slot_number p → get_or kind_names j [] ≡ op
slot-named op (Some k) q j h e = ap (λ i. get_or kind_names i []) e ∙ word-found op (sym q)
slot-named op None q j h e = absurd (omega arith)

-- another slot lies elsewhere
apart : (j m i d : ℕ) → (j ≡ m → ⊥) → d < 5 → i ≡ j * 5 + d → m * 5 ≤ i → m * 5 + 5 ≤ i
apart j m i d f h e l = go (ltb j m) refl
  where
    go : (b : Bool) → ltb j m ≡ b → m * 5 + 5 ≤ i
    go true q = let k = ltb-true j m q in absurd (omega arith)
    go false q = ⊎_elim (λ (z : m ≡ j). absurd (f (sym z))) (λ (z : m < j). omega arith) (eq-or-lt_of_le (ltb-false j m q))

-- ---- what is kept

module _ (ks : PriceList) (xs : List (List ℕ)) where
  pub none_kept : KindsKept ks xs (replicate 310 0)
  none_kept = record { size = refl; other = refl; found = λ k h e. let z : ◌≡◌ {A = ℕ} (get_or (replicate 310 0) (k * 5 + 1) 0) 0 = get_or-replicate 310 (k * 5 + 1) 0 0 (omega arith) in absurd (omega arith) }

  module _ (ws : List ℕ) (s : KindsKept ks xs ws) (op : List ℕ) (p : Option ℕ) (q : p ≡ place_among op kind_names) {k : ℕ} (at : k ≡ slot_of p) where
    -- what was kept is there
    pub kept-price : get_or ws (k + 1) 0 ≡ 1 → PriceAt ks xs op ws k
    kept-price e = go p q at
      where
        go : (o : Option ℕ) → o ≡ place_among op kind_names → k ≡ slot_of o → PriceAt ks xs op ws k
        go (Some j) r z =
            subst (λ i. PriceAt ks xs op ws i) (sym z)
            (subst (λ o. PriceAt ks xs o ws (j * 5)) (word-found op (sym r)) (s.found j (kind-below op (sym r)) (ap (λ i. get_or ws (i + 1) 0) (sym z) ∙ e)))
        go None r z = let y : get_or ws 306 0 ≡ 1 = ap (λ i. get_or ws (i + 1) 0) (sym z) ∙ e in absurd (omega (arith, s.other))

    -- and what is found is kept
    module _ (b f c w x : ℕ) (flag : f ≡ cond (ltb k 305) 1 0) (price : KindPrice ks xs op b c w x) where
      abbrev m : ℕ
      m = slot_number p

      placed : k ≡ m * 5
      placed = at ∙ slot_is p

      few : m ≤ 61
      few = slot-few p (places-low op p q)

      fits : k + 5 ≤ length ws
      fits = let a = placed in let g = few in omega (arith, s.size)

      pub price-put : PriceAt ks xs op (put_line ws k b f c w x) k
      price-put = record {
        coded = subst (Coded (kind_at (find op kind_names))) (sym (word-0 ws k b f c w x fits)) price.coded;
        cycles = word-2 ws k b f c w x fits ∙ price.cycles;
        words = word-3 ws k b f c w x fits ∙ price.words;
        extra = word-4 ws k b f c w x fits ∙ price.extra;
      }

      -- what stands in another slot stays
      stays : (j d : ℕ) → (j ≡ m → ⊥) → d < 5 → get_or (put_line ws k b f c w x) (j * 5 + d) 0 ≡ get_or ws (j * 5 + d) 0
      stays j d n h = put-kept ws k b f c w x (j * 5 + d) (λ l. let a = placed in let g : m * 5 + 5 ≤ j * 5 + d = apart j m (j * 5 + d) d n h refl (omega arith) in omega arith)

      other-kept : get_or (put_line ws k b f c w x) 306 0 ≡ 0
      other-kept = go (eqb 61 m) refl
        where
          none : (n : ℕ) → n ≡ 305 → cond {A = ℕ} (ltb n 305) 1 0 ≡ 0
          none n e = ap (λ i. cond {A = ℕ} (ltb i 305) 1 0) e

          go : (t : Bool) → eqb 61 m ≡ t → get_or (put_line ws k b f c w x) 306 0 ≡ 0
          go true e = let z = eqb-true 61 m e in let a = placed in let n : 306 ≡ k + 1 = omega arith in ap (λ i. get_or (put_line ws k b f c w x) i 0) n ∙ word-1 ws k b f c w x fits ∙ flag ∙ none k (omega arith)
          go false e = stays 61 1 (eqb-false 61 m e) (omega arith) ∙ s.other

      found-kept : (j : ℕ) → j < 61 → get_or (put_line ws k b f c w x) (j * 5 + 1) 0 ≡ 1 → PriceAt ks xs (get_or kind_names j []) (put_line ws k b f c w x) (j * 5)
      found-kept j h e = go (eqb j m) refl
        where
          go : (t : Bool) → eqb j m ≡ t → PriceAt ks xs (get_or kind_names j []) (put_line ws k b f c w x) (j * 5)
          go true r =
              let z = eqb-true j m r in
              let y : k ≡ j * 5 = (let a = placed in omega arith) in
              subst (λ i. PriceAt ks xs (get_or kind_names j []) (put_line ws k b f c w x) i) y (subst (λ o. PriceAt ks xs o (put_line ws k b f c w x) k) (sym (slot-named op p q j h z)) price-put)
          go false r =
              let n = eqb-false j m r in
              let old = s.found j h (sym (stays j 1 n (omega arith)) ∙ e) in
              let zero_is : j * 5 + 0 ≡ j * 5 = omega arith in
              record {
                coded = subst (Coded (kind_at (find (get_or kind_names j []) kind_names))) (sym (subst (λ i. get_or (put_line ws k b f c w x) i 0 ≡ get_or ws i 0) zero_is (stays j 0 n (omega arith)))) old.coded;
                cycles = stays j 2 n (omega arith) ∙ old.cycles;
                words = stays j 3 n (omega arith) ∙ old.words;
                extra = stays j 4 n (omega arith) ∙ old.extra;
              }

      pub kept_put : KindsKept ks xs (put_line ws k b f c w x)
      kept_put = record { size = simp length-set s.size; other = other-kept; found = found-kept }

-- what the search finds of a kind
pub price-found : (ks : PriceList) (xs : List (List ℕ)) (op : List ℕ) (p : Option ℕ) → p ≡ place_among op kind_names → {k i b c w x : ℕ} {r t u : Range} → k ≡ index_of p → Coded (kind_at k) b → i ≡ find op ks.names
    → r ≡ cycle_counts → c ≡ natural_at r ks.cycles i → t ≡ word_counts → w ≡ natural_at t ks.words i → u ≡ extra_counts → x ≡ natural_at u xs i → KindPrice ks xs op b c w x
price-found ks xs op p q {b = b} k-is b-is i-is r-is c-is t-is w-is u-is x-is = record {
  coded = subst (λ k. Coded (kind_at k) b) (found kind_names op op p k-is q refl) b-is;
  cycles = c-is ∙ ap₂ (λ g n. natural_at g ks.cycles n) r-is i-is;
  words = w-is ∙ ap₂ (λ g n. natural_at g ks.words n) t-is i-is;
  extra = x-is ∙ ap₂ (λ g n. natural_at g xs n) u-is i-is;
}

-- a price is small
pub price-small : {ks : PriceList} {xs : List (List ℕ)} {op : List ℕ} {b c w x : ℕ} → KindPrice ks xs op b c w x → (c ≤ 65535) × (w ≤ 65535)
price-small {ks} {xs} {op} p = (
  natural-small cycle_counts (record { greatest = 65535; is = refl; small = omega arith }) ks.cycles _ p.cycles,
  (let h = natural-small word_counts (record { greatest = 255; is = refl; small = omega arith }) ks.words _ p.words in omega arith),
)
