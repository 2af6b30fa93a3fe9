-- Extras under their names: the range of a name, names that are used up, and a loop over both lines. Assumes nothing.
use Prim.Native.Nat.{ℕ, ◌+◌, ◌<◌, ◌≤◌}
use mathlib.Core.Path.{◌≡◌, refl, sym, ap, ap₂, ◌∙◌}
use mathlib.Core.Bool.{Bool, true, false, ◌&&◌}
use mathlib.Core.List.{List, [], ◌∷◌}
use native.Mathlib.Numerals.{add-one}
use lib.ListN.{length, get_or, drop, drop_of_length-le}
use lib.Seq.{drop-cons}
use Rattle.text.specs.Text.{bytes, equals, parted_by, line_words, among}
use Rattle.text.proofs.TextLaws.{equals-path}
use Rattle.text.proofs.ScanLaws.{first_length, past}
use Rattle.text.proofs.PieceLaws.{words_more, words_last}
use Rattle.numbers.specs.Numbers.{within}
use Rattle.file_format.specs.Layout.{list}
use Rattle.file_format.specs.Rows.{value, extra_counts, no_extra, extra_range, extras_in_range}
use Rattle.file_format.proofs.LayoutLaws.{list-none, list-words}

-- ---- the range of a name

module _ (n : List ℕ) where
  pub range-first : equals n (bytes "BRANCHIF") ≡ true → extra_range n ≡ extra_counts
  unfolding extra_range among
  range-first e = rw e refl

  pub range-second : equals n (bytes "BRANCHIF") ≡ false → equals n (bytes "BRANCHIFNOT") ≡ true → extra_range n ≡ extra_counts
  unfolding extra_range among
  range-second e f = rw (e, f) refl

  pub range_other : equals n (bytes "BRANCHIF") ≡ false → equals n (bytes "BRANCHIFNOT") ≡ false → extra_range n ≡ no_extra
  unfolding extra_range among
  range_other e f = rw (e, f) refl

-- ---- names that are used up

-- a last name of no kind is as good as none
no_name : (n : List ℕ) → extra_range n ≡ extra_range [] → (ws : List (List ℕ)) → extras_in_range (n ∷ []) ws ≡ extras_in_range [] ws
unfolding extras_in_range
no_name n e [] = refl
no_name n e (w ∷ ws) = ap (λ r. within r (value w) && extras_in_range [] ws) e

module _ (l : List ℕ) (n : ℕ) (q : n ≡ first_length 32 l) where
  pub names_more : n < length l → (ws : List (List ℕ)) → extras_in_range (line_words (past n l)) ws ≡ extras_in_range (drop 1 (line_words l)) ws
  names_more h ws = ap (λ ns. extras_in_range (drop 1 ns) ws) (sym (words_more l n q h))

  pub names-none : length l ≤ n → (ws : List (List ℕ)) → extras_in_range (line_words []) ws ≡ extras_in_range (drop 1 (line_words l)) ws
  unfolding line_words parted_by
  names-none h ws = no_name [] refl ws ∙ ap (λ ns. extras_in_range (drop 1 ns) ws) (sym (words_last l n q h))

-- `-` as a name is of no kind
pub names-listed : (names : List ℕ) (ws : List (List ℕ)) → extras_in_range (line_words names) ws ≡ extras_in_range (list names) ws
names-listed names ws = go (equals names (bytes "-")) refl
  where
    dash : extras_in_range (line_words (bytes "-")) ws ≡ extras_in_range [] ws
    dash = unfold line_words parted_by extra_range among equals in no_name (bytes "-") refl ws

    go : (b : Bool) → equals names (bytes "-") ≡ b → extras_in_range (line_words names) ws ≡ extras_in_range (list names) ws
    go true e = ap (λ n. extras_in_range (line_words n) ws) (equals-path names (bytes "-") e) ∙ dash ∙ ap (λ ns. extras_in_range ns ws) (sym (list-none names e))
    go false e = ap (λ ns. extras_in_range ns ws) (sym (list-words names e))

-- ---- the extras ws under the names above, of which k were read: the next, w, is out of the range of the next name n, it is in range, or
-- there is none

module _ (above : List ℕ) (ws : List (List ℕ)) (k : ℕ) (n w : List ℕ) (h : k < length ws) (is : w ≡ get_or ws k w) (named : n ≡ get_or (line_words above) 0 []) where
  same_test : {b : Bool} → within (extra_range n) (value w) ≡ b → within (extra_range (get_or (line_words above) 0 [])) (value (get_or ws k w)) ≡ b
  same_test e = ap₂ (λ n w. within (extra_range n) (value w)) (sym named) (sym is) ∙ e

  pub extras-stop : within (extra_range n) (value w) ≡ false → extras_in_range (line_words above) (drop k ws) ≡ false
  unfolding extras_in_range
  extras-stop e = rw (drop-cons ws k w h, same_test e) refl

  pub extras-next : (j : ℕ) → j ≡ k + 1 → within (extra_range n) (value w) ≡ true → extras_in_range (line_words above) (drop k ws) ≡ extras_in_range (drop 1 (line_words above)) (drop j ws)
  unfolding extras_in_range
  extras-next j next e = rw (next, add-one k, drop-cons ws k w h, same_test e) refl

pub extras-end : (ns ws : List (List ℕ)) (k : ℕ) → length ws ≤ k → extras_in_range ns (drop k ws) ≡ true
unfolding extras_in_range
extras-end ns ws k h = rw (drop_of_length-le ws h) (none ns)
  where
    none : (ns : List (List ℕ)) → extras_in_range ns [] ≡ true
    none [] = refl
    none (n ∷ ns) = refl
