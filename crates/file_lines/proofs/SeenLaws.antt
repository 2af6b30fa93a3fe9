-- Laws of the kinds that a line names, one after the other, with those that were seen marked by their places: the line is well named where
-- each of its words names a kind that is not marked yet. Assumes nothing.
use Rattle.std.specs.Prelude.{Option, Some, None}
use Prim.Native.Nat.{ℕ, suc, ◌+◌, ◌<◌, ◌≤◌}
use mathlib.Core.Path.{◌≡◌, refl, sym, ap, ap₂, ◌∙◌}
use mathlib.Core.Bool.{Bool, true, false, cond, not, ◌&&◌}
use mathlib.Core.List.{List, [], ◌∷◌}
use native.Mathlib.Omega.{arith}
use lib.Dec.{eqb}
use native.Mathlib.Numerals.{add-one}
use lib.ListN.{length, get_or, set, drop, length-set, drop_of_length-le, replicate, get_or-replicate}
use lib.Seq.{drop-cons, get_or-set_same, get_or-set_other}
use Rattle.text.specs.Text.{equals, place_among, among, all, distinct}
use Rattle.text.proofs.TextLaws.{equals-path, equals-self}
use Rattle.instructions.specs.Kinds.{kind_names}
use Rattle.instructions.proofs.ColumnLaws.{kind-below}
use Rattle.file_format.specs.declared.Section.TheVariants.{Kinds}
use Rattle.file_format.specs.Rows.{well_named}
use Rattle.file_lines.specs.HeldLines.{is_new, marked}
use Rattle.file_lines.proofs.KindLaws.{name-known, name-unknown}
use Rattle.file_lines.proofs.KindLaws.{word-found}

-- whether each word names a kind that is neither marked nor named by a word before it
unfoldable pub all_new : List ℕ → List (List ℕ) → Bool
all_new seen [] = true
all_new seen (w ∷ ws) = is_new seen (place_among w kind_names) && all_new (marked seen (place_among w kind_names)) ws

-- ---- one word

-- whether w names a kind that is not marked
abbrev unmarked : List ℕ → List ℕ → Bool
unmarked seen w = is_new seen (place_among w kind_names)

-- the same of a word v after w, whose kind is marked now
marked-word : (seen : List ℕ) (w v : List ℕ) {k : ℕ} → length seen ≡ 61 → place_among w kind_names ≡ Some k → unmarked (set seen k 1) v ≡ (not (equals w v) && unmarked seen v)
unfolding is_new
marked-word seen w v {k} s q = go (place_among v kind_names) refl (equals w v) refl
  where
    go : (p : Option ℕ) → place_among v kind_names ≡ p → (b : Bool) → equals w v ≡ b → is_new (set seen k 1) p ≡ (not b && is_new seen p)
    go None e true f = refl
    go None e false f = refl
    go (Some j) e true f =
        let z : Some j ≡ Some k = sym e ∙ ap (λ x. place_among x kind_names) (sym (equals-path w v f)) ∙ q in
        let i : j ≡ k = cc in
        ap (λ n. eqb n 0) (ap (λ m. get_or (set seen k 1) m 0) i ∙ get_or-set_same seen k 1 0 (omega (arith, kind-below w q)))
    go (Some j) e false f = ap (λ n. eqb n 0) (get_or-set_other seen k j 1 0 other)
      where
        other : j ≡ k → ⊥
        other i =
            let u : w ≡ v = sym (word-found w q) ∙ ap (λ m. get_or kind_names m []) (sym i) ∙ word-found v e in
            let z : ◌≡◌ {A = Bool} false true = sym f ∙ ap (equals w) (sym u) ∙ equals-self w in
            let n : ◌≡◌ {A = ℕ} 0 1 = cc in omega arith

-- ---- all words

all_both : (f g : List ℕ → Bool) (ws : List (List ℕ)) → all (λ v. f v && g v) ws ≡ (all f ws && all g ws)
unfolding all
all_both f g [] = refl
all_both f g (v ∷ vs) = go (f v) (g v) (all f vs) (all_both f g vs)
  where
    go : (a b c : Bool) → all (λ x. f x && g x) vs ≡ (c && all g vs) → ((a && b) && all (λ x. f x && g x) vs) ≡ ((a && c) && (b && all g vs))
    go true true c e = e
    go true false true e = refl
    go true false false e = refl
    go false b c e = refl

all_same : {f g : List ℕ → Bool} → ((v : List ℕ) → f v ≡ g v) → (ws : List (List ℕ)) → all f ws ≡ all g ws
unfolding all
all_same e [] = refl
all_same e (v ∷ vs) = ap₂ ◌&&◌ (e v) (all_same e vs)

-- none of the words is w
all-other : (w : List ℕ) (ws : List (List ℕ)) → all (λ v. not (equals w v)) ws ≡ not (among w ws)
unfolding all among
all-other w [] = refl
all-other w (v ∷ vs) = go (equals w v) (all-other w vs)
  where
    go : (b : Bool) → all (λ x. not (equals w x)) vs ≡ not (among w vs) → (not b && all (λ x. not (equals w x)) vs) ≡ not (cond b true (among w vs))
    go true e = refl
    go false e = e

turned : (a b c : Bool) → (a && (b && c)) ≡ ((b && a) && c)
turned true true c = refl
turned true false c = refl
turned false true c = refl
turned false false c = refl

-- the words are new where none stands twice and none is marked
new-words : (seen : List ℕ) (ws : List (List ℕ)) → length seen ≡ 61 → all_new seen ws ≡ (distinct ws && all (unmarked seen) ws)
unfolding all_new distinct all is_new marked
new-words seen [] s = refl
new-words seen (w ∷ ws) s = go (place_among w kind_names) refl (new-words (marked seen (place_among w kind_names)) ws)
  where
    stopped : (b : Bool) → (b && false) ≡ false
    stopped true = refl
    stopped false = refl

    go : (p : Option ℕ) → place_among w kind_names ≡ p → (length (marked seen p) ≡ 61 → all_new (marked seen p) ws ≡ (distinct ws && all (unmarked (marked seen p)) ws))
        → (is_new seen p && all_new (marked seen p) ws) ≡ ((not (among w ws) && distinct ws) && (is_new seen p && all (unmarked seen) ws))
    go None e ih = sym (stopped (not (among w ws) && distinct ws))
    go (Some k) e ih = on (eqb (get_or seen k 0) 0)
      where
        more : all_new (set seen k 1) ws ≡ (distinct ws && (not (among w ws) && all (unmarked seen) ws))
        more =
            ih (simp length-set s)
            ∙ ap (λ b. distinct ws && b) (all_same (λ v. marked-word seen w v s e) ws ∙ all_both (λ v. not (equals w v)) (unmarked seen) ws ∙ ap (λ b. b && all (unmarked seen) ws) (all-other w ws))

        on : (b : Bool) → (b && all_new (set seen k 1) ws) ≡ ((not (among w ws) && distinct ws) && (b && all (unmarked seen) ws))
        on true = more ∙ turned (distinct ws) (not (among w ws)) (all (unmarked seen) ws)
        on false = sym (stopped (not (among w ws) && distinct ws))

-- at first no kind is marked

unmarked-first : (w : List ℕ) → unmarked (replicate 61 0) w ≡ among w kind_names
unfolding is_new
unmarked-first w = go (place_among w kind_names) refl
  where
    go : (p : Option ℕ) → place_among w kind_names ≡ p → is_new (replicate 61 0) p ≡ among w kind_names
    go (Some k) e = ap (λ n. eqb n 0) (get_or-replicate 61 k 0 0 (kind-below w e)) ∙ sym (name-known w e)
    go None e = sym (name-unknown w e)

swapped : (a b : Bool) → (a && b) ≡ (b && a)
swapped true true = refl
swapped true false = refl
swapped false true = refl
swapped false false = refl

pub kinds-new : (ws : List (List ℕ)) → well_named Kinds ws ≡ all_new (replicate 61 0) ws
unfolding well_named
kinds-new ws =
    sym (new-words (replicate 61 0) ws refl
    ∙ ap (λ b. distinct ws && b) (all_same unmarked-first ws)
    ∙ swapped (distinct ws) (all (λ w. among w kind_names) ws))

-- ---- a turn of the scan of the words ws, of which k are passed: the next, w, ends it, or is passed; there is none

module _ (seen : List ℕ) (ws : List (List ℕ)) (k : ℕ) (w : List ℕ) (h : k < length ws) (is : w ≡ get_or ws k w) {p : Option ℕ} (found : p ≡ place_among w kind_names) where
  turn : all_new seen (drop k ws) ≡ (is_new seen p && all_new (marked seen p) (drop (suc k) ws))
  unfolding all_new
  turn =
      let place : place_among (get_or ws k w) kind_names ≡ p = ap (λ w. place_among w kind_names) (sym is) ∙ sym found in
      rw (drop-cons ws k w h, place) refl

  pub new-stop : is_new seen p ≡ false → all_new seen (drop k ws) ≡ false
  new-stop n = turn ∙ ap (λ b. b && all_new (marked seen p) (drop (suc k) ws)) n

  pub new-next : (after : List ℕ) (j : ℕ) → after ≡ marked seen p → j ≡ k + 1 → is_new seen p ≡ true → all_new seen (drop k ws) ≡ all_new after (drop j ws)
  new-next after j m next n = rw (m, next, add-one k) (turn ∙ ap (λ b. b && all_new (marked seen p) (drop (suc k) ws)) n)

pub new-end : (seen : List ℕ) (ws : List (List ℕ)) (k : ℕ) → length ws ≤ k → all_new seen (drop k ws) ≡ true
unfolding all_new
new-end seen ws k h = rw (drop_of_length-le ws h) refl
