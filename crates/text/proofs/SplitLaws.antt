-- Laws of a line that `split_words` cuts into its words, one by one, and of a search that looks at them so. Assumes nothing.
use Prim.Native.Nat.{ℕ, suc, ◌+◌, ◌<◌, ◌≤◌}
use mathlib.Core.Path.{◌≡◌, refl, sym, ap, ◌∙◌}
use mathlib.Core.Bool.{true, false}
use mathlib.Core.List.{List, []}
use native.Mathlib.Omega.{arith}
use native.Mathlib.Numerals.{add-one}
use lib.ListN.{length, get_or, drop, drop_of_length-le}
use lib.Seq.{drop-cons}
use denote.Ref.{Bor}
use Rattle.std.specs.Prelude.{Option, None, Some}
use Rattle.std.specs.Iterator.{Yields, YieldsFirstRef}
use Rattle.std.specs.List.{slice_get}
use Rattle.std.specs.Option.{option_map, unwrap_or}
use Rattle.std.proofs.lemmas.Iterator.{YieldsList}
use Rattle.std.proofs.lemmas.Iterator.Consumers.{YieldsList-from_first, YieldsList-turn, YieldsList-end}
use Rattle.std.proofs.lemmas.Option.{unwrap_or-slice_get}
use Rattle.text.specs.Text.{equals, line_words, place_from, looked}
use Rattle.text.specs.HeldWords.{words_left}
use Rattle.text.specs.declared.Words.{Words}
use Rattle.text.specs.declared.Lookup.{Lookup}

-- `split_words(line)` gives the words of line; the first fact is the call's clause
pub words-yielded : {s : Words} (line : List ℕ) → words_left s.rest ≡ line_words line → YieldsList (YieldsFirstRef (λ w. words_left w.rest)) (λ x. x.now) s (line_words line)
words-yielded line e = YieldsList-from_first (λ x. x.now) (λ w. words_left w.rest) (line_words line) e

-- a `for` over them, which has yielded the k words xs: the next is x; there is none. The fact on p is the clause of `split_words`
pub word-turn : {p s : Words} {r : Option (Bor (List ℕ))} (line : List ℕ) {k : ℕ} (xs : List (Bor (List ℕ))) (t u : _) → k ≡ length xs → Yields (YieldsFirstRef (λ w. words_left w.rest)) s xs t
    → YieldsFirstRef (λ w. words_left w.rest) t r u → s ≡ p → words_left p.rest ≡ line_words line
    → (x : Bor (List ℕ)) → r ≡ Some x → (k < length (line_words line)) × (x.now ≡ get_or (line_words line) k x.now)
word-turn {p} {s} {r} line xs t u n so_far step same left x is =
    rw n (YieldsList-turn (words-yielded line (ap (λ w. words_left w.rest) same ∙ left)) xs t so_far r u x is step)

pub words-end : {p s : Words} {r : Option (Bor (List ℕ))} (line : List ℕ) {k : ℕ} (xs : List (Bor (List ℕ))) (t u : _) → k ≡ length xs → Yields (YieldsFirstRef (λ w. words_left w.rest)) s xs t
    → YieldsFirstRef (λ w. words_left w.rest) t r u → s ≡ p → words_left p.rest ≡ line_words line → r ≡ None → k ≡ length (line_words line)
words-end {p} {s} {r} line xs t u n so_far step same left is =
    n ∙ (YieldsList-end (words-yielded line (ap (λ w. words_left w.rest) same ∙ left)) xs t so_far r u is step).1

-- what `nth(k)` gives, or no bytes
pub word-or-none : (r : Option (Bor (List ℕ))) (d : Bor (List ℕ)) (ws : List (List ℕ)) (k : ℕ) → option_map (λ x. x.now) r ≡ slice_get ws k → d.now ≡ [] → (unwrap_or r d).now ≡ get_or ws k []
word-or-none None d ws k e n = n ∙ ap (λ o. unwrap_or o []) e ∙ unwrap_or-slice_get ws k []
word-or-none (Some x) d ws k e n = ap (λ o. unwrap_or o []) e ∙ unwrap_or-slice_get ws k []

-- what looking w up comes to where k words before the given ones have been looked at
abbrev pub lookup_from : ℕ → List ℕ → List (List ℕ) → Lookup
lookup_from k w ws = record { place = place_from k w ws; looked = k + looked w ws }

-- among ws, of which k have been looked at: the next, x, is w, it is another, or there is none

module _ (w : List ℕ) (ws : List (List ℕ)) (k : ℕ) where
  pub find-here : (x : List ℕ) → k < length ws → x ≡ get_or ws k x → equals w x ≡ true → lookup_from k w (drop k ws) ≡ record { place = Some k; looked = k + 1 }
  find-here x h is e =
      let same : equals w (get_or ws k x) ≡ true = ap (equals w) (sym is) ∙ e in
      rw (drop-cons ws k x h, same) refl

  pub find-next : (x : List ℕ) → k < length ws → x ≡ get_or ws k x → equals w x ≡ false → lookup_from k w (drop k ws) ≡ lookup_from (k + 1) w (drop (k + 1) ws)
  find-next x h is e =
      let other : equals w (get_or ws k x) ≡ false = ap (equals w) (sym is) ∙ e in
      let rest = drop (suc k) ws in
      let s : k + suc (looked w rest) ≡ suc k + looked w rest = omega arith in
      rw (drop-cons ws k x h, other, add-one k) (ap (λ m. record { place = place_from (suc k) w rest; looked = m }) s)

  pub find-none : length ws ≤ k → lookup_from k w (drop k ws) ≡ record { place = None; looked = k }
  find-none h =
      let s : k + 0 ≡ k = omega arith in
      rw (drop_of_length-le ws h) (ap (λ m. record { place = None; looked = m }) s)
