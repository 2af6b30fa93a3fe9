-- Laws of a text that is written into lent memory: byte by byte, and one text after another. Assumes nothing.
use Prim.Native.Nat.{ℕ, suc, ◌+◌, ◌/◌, ◌%◌, ◌<◌, ◌≤◌}
use mathlib.Core.Path.{◌≡◌, refl, sym, ap, ◌∙◌}
use mathlib.Core.List.{List, [], ◌∷◌, ◌++◌, append_assoc}
use native.Mathlib.Omega.{arith}
use lib.ListN.{length, get_or, take, drop, set, length-append}
use lib.Seq.{drop-cons, set_at, append_snoc, length-take-le, take-append_seam, drop-append-add, drop-drop, paste-zero}
use Rattle.text_decimals.specs.Decimal.{decimal}
use Rattle.text_decimals.specs.Memory.{over}
use Rattle.text_decimals.proofs.DecimalLaws.{decimal-more, decimal-length-more}

-- nothing is written
pub over_none : (d : List ℕ) (at : ℕ) → over d at [] ≡ d
over_none d at = sym (paste-zero d at [])

-- one byte more
over-more : (d : List ℕ) (at : ℕ) (t : List ℕ) (x : ℕ) → at + length t < length d → set (over d at t) (at + length t) x ≡ over d at (t ++ (x ∷ []))
over-more d at t x h =
    let k : at ≤ length d = omega arith in
    let n : length (take at d ++ t) ≡ at + length t = length-append (take at d) t ∙ ap (λ (m : ℕ). m + length t) (length-take-le at d k) in
    let e : suc (at + length t) ≡ at + length (t ++ (x ∷ [])) = rw length-append (omega arith) in
    let rest = drop (suc (at + length t)) d in
    ap (λ (r : List ℕ). set ((take at d ++ t) ++ r) (at + length t) x) (drop-cons d (at + length t) 0 h)
    ∙ set_at (take at d ++ t) (get_or d (at + length t) 0) rest x (at + length t) n
    ∙ sym (append_snoc (take at d ++ t) x rest)
    ∙ ap (λ (r : List ℕ). r ++ rest) (append_assoc (take at d) t (x ∷ []))
    ∙ ap (λ (m : ℕ). (take at d ++ (t ++ (x ∷ []))) ++ drop m d) e

-- two texts, one after the other
over-seam : (p r b : List ℕ) → over (p ++ r) (length p) b ≡ p ++ b ++ drop (length b) r
over-seam p r b = rw (take-append_seam, drop-append-add) refl

over-over : (d a b o o' : List ℕ) (at e : ℕ) → at ≤ length d → e ≡ at + length a → o ≡ over d at a → o' ≡ over o e b → o' ≡ over d at (a ++ b)
over-over d a b o o' at e k p q r =
    let n : e ≡ length (take at d ++ a) = p ∙ sym (length-append (take at d) a ∙ ap (λ (m : ℕ). m + length a) (length-take-le at d k)) in
    let m : at + length a + length b ≡ at + length (a ++ b) = rw length-append (omega arith) in
    r
    ∙ ap (λ (x : List ℕ). over x e b) q
    ∙ ap (λ (x : ℕ). over (over d at a) x b) n
    ∙ over-seam (take at d ++ a) (drop (at + length a) d) b
    ∙ ap (λ (x : List ℕ). take at d ++ a ++ b ++ x) (drop-drop (length b) (at + length a) d)
    ∙ ap (λ (x : ℕ). take at d ++ a ++ b ++ drop x d) m
    ∙ ap (λ (x : List ℕ). x ++ drop (at + length (a ++ b)) d) (append_assoc (take at d) a b)

-- the last digit, after the others
pub over-decimal : (d o : List ℕ) (at e n : ℕ) → 10 ≤ n → at + length (decimal n) ≤ length d → e ≡ at + length (decimal (n / 10)) → o ≡ over d at (decimal (n / 10))
    → (e + 1 ≡ at + length (decimal n)) × (set o e (48 + n % 10) ≡ over d at (decimal n))
over-decimal d o at e n h k p q =
    let m = decimal-more n h in
    let l = decimal-length-more n h in (
      omega arith,
      ap (λ (x : List ℕ). set x e (48 + n % 10)) q
          ∙ ap (λ (x : ℕ). set (over d at (decimal (n / 10))) x (48 + n % 10)) p
          ∙ over-more d at (decimal (n / 10)) (48 + n % 10) (omega arith)
          ∙ ap (over d at) (sym m),
    )

-- o is the memory d with the text r over it from `at` on, and e is where r ends
pub record Wrote (d : List ℕ) (at : ℕ) (r : List ℕ) (e : ℕ) (o : List ℕ) : Type 0 where
  pub starts : at ≤ length d
  pub ends : e ≡ at + length r
  pub holds : o ≡ over d at r

-- nothing is written yet
pub wrote_none : (d : List ℕ) (at : ℕ) → at ≤ length d → Wrote d at [] at d
wrote_none d at h = record { starts = h; ends = omega arith; holds = sym (over_none d at) }

-- one text more, as `put` and `put_decimal` ensure it
pub wrote-more : {d r o : List ℕ} {at e : ℕ} → Wrote d at r e o → (t : List ℕ) {e' : ℕ} {o' : List ℕ} → (e' ≡ e + length t) × (o' ≡ over o e t) → Wrote d at (r ++ t) e' o'
wrote-more {d} {r} {o} {at} {e} w t {e'} {o'} p = record {
  starts = w.starts;
  ends = rw length-append (omega (arith, w.ends));
  holds = over-over d r t o o' at e w.starts w.ends w.holds p.1;
}

-- what is written from the start on stands before what the memory held there
pub wrote-start : {d r o : List ℕ} {e : ℕ} → Wrote d 0 r e o → (e ≡ length r) × (o ≡ r ++ drop (length r) d)
wrote-start {d} {r} w = let z : 0 + length r ≡ length r = omega arith in (w.ends ∙ z, w.holds ∙ ap (λ (n : ℕ). r ++ drop n d) z)

-- ---- a text that is put, by another name

pub room_as : {t u : List ℕ} {n : ℕ} (at : ℕ) → t ≡ u → at + length t ≤ n → at + length u ≤ n
room_as at e h = rw e at h

pub put_as : {t u o : List ℕ} {e : ℕ} (d : List ℕ) (at : ℕ) → t ≡ u → (e ≡ at + length u) × (o ≡ over d at u) → (e ≡ at + length t) × (o ≡ over d at t)
put_as d at q p = (p.0 ∙ ap (λ x. at + length x) (sym q), p.1 ∙ ap (over d at) (sym q))
