-- Laws of the places of a function that writes the parts of a text one after the other into lent memory. A proof names each place once, as
-- `Place` with the number of the parts that are written there; `room` is what the next call requires, and `finished` what the function ensures.
-- Assumes nothing.
use Prim.Native.Nat.{ℕ, zero, suc, ◌+◌, ◌≤◌}
use mathlib.Core.Path.{◌≡◌, refl, sym, ap, ◌∙◌}
use mathlib.Core.List.{List, [], ◌∷◌, ◌++◌, append-nil}
use native.Mathlib.Omega.{arith}
use lib.ListN.{length, get_or, take, drop, length-append, length-drop}
use lib.Seq.{length-take-le}
use Rattle.text_decimals.specs.Memory.{over}
use Rattle.text_decimals.proofs.MemoryLaws.{Wrote, wrote_none, wrote-more, wrote-start}

-- the text t with the parts ts after it
abbrev pub joined : List ℕ → List (List ℕ) → List ℕ
joined t [] = t
joined t (p ∷ ps) = joined (t ++ p) ps

joined-long : (t : List ℕ) (ps : List (List ℕ)) → length t ≤ length (joined t ps)
joined-long t [] = omega arith
joined-long t (p ∷ ps) = omega (arith, joined-long (t ++ p) ps, length-append t p)

-- one part more
joined-next : (t : List ℕ) (ps : List (List ℕ)) (n : ℕ) → joined t (take (suc n) ps) ≡ joined t (take n ps) ++ get_or ps n []
joined-next t [] zero = sym (append-nil t)
joined-next t [] (suc n) = sym (append-nil t)
joined-next t (p ∷ ps) zero = refl
joined-next t (p ∷ ps) (suc n) = joined-next (t ++ p) ps n

-- the first n parts and the next are within the whole
joined-within : (t : List ℕ) (ps : List (List ℕ)) (n : ℕ) → length (joined t (take n ps)) + length (get_or ps n []) ≤ length (joined t ps)
joined-within t [] zero = omega arith
joined-within t [] (suc n) = omega arith
joined-within t (p ∷ ps) zero = omega (arith, joined-long (t ++ p) ps, length-append t p)
joined-within t (p ∷ ps) (suc n) = joined-within (t ++ p) ps n

-- a text within the memory leaves it as long as it was
over-length : (d t : List ℕ) (at : ℕ) → at + length t ≤ length d → length (over d at t) ≡ length d
over-length d t at h =
    omega (arith, length-append (take at d ++ t) (drop (at + length t) d), length-append (take at d) t, length-take-le at d (omega arith), length-drop (at + length t) d)

-- a place that control reaches from s, where the memory is d s and the parts are to be written from `at` s on, with room for all of them: the
-- first n parts are written there, e is where they end, and o is the memory
pub record Place {S : Type 0} (d : S → List ℕ) (at : S → ℕ) (parts : S → List (List ℕ)) (n e : ℕ) (o : List ℕ) : Type 0 where
  pub start : S
  pub wrote : Wrote (d start) (at start) (joined [] (take n (parts start))) e o
  pub fits : at start + length (joined [] (parts start)) ≤ length (d start)

module _ {S : Type 0} {d : S → List ℕ} {at : S → ℕ} {parts : S → List (List ℕ)} where
  -- nothing is written yet
  abbrev pub begins : (s : S) → at s + length (joined [] (parts s)) ≤ length (d s) → Place d at parts 0 (at s) (d s)
  begins s h = record { start = s; wrote = wrote_none (d s) (at s) (omega arith); fits = h }

  -- the memory is as long as it was
  pub kept : {n e : ℕ} {o : List ℕ} (w : Place d at parts n e o) → length o ≡ length (d w.start)
  kept {n} w =
      let s = w.start in
      ap length w.wrote.holds ∙ over-length (d s) (joined [] (take n (parts s))) (at s) (omega (arith, w.fits, joined-within [] (parts s) n))

  -- the next part has room: as it is, or as t, which is the same text
  pub room_as : {n e : ℕ} {o : List ℕ} (w : Place d at parts n e o) {t : List ℕ} → t ≡ get_or (parts w.start) n [] → e + length t ≤ length o
  room_as {n} w q = omega (arith, w.fits, w.wrote.ends, kept w, joined-within [] (parts w.start) n, ap length q)

  pub room : {n e : ℕ} {o : List ℕ} (w : Place d at parts n e o) → e + length (get_or (parts w.start) n []) ≤ length o
  room w = room_as w refl

  -- the next part is written: as it is, or as t, which is the same text
  pub wrote-next : {n e : ℕ} {o : List ℕ} (w : Place d at parts n e o) {t : List ℕ} → t ≡ get_or (parts w.start) n [] → {e' : ℕ} {o' : List ℕ} → (e' ≡ e + length t) × (o' ≡ over o e t)
      → Wrote (d w.start) (at w.start) (joined [] (take (suc n) (parts w.start))) e' o'
  wrote-next {n} w {t} q p = rw (joined-next [] (parts w.start) n, ← q) (wrote-more w.wrote t p)

  abbrev pub next-as : {n e : ℕ} {o : List ℕ} (w : Place d at parts n e o) {t : List ℕ} → t ≡ get_or (parts w.start) n [] → {e' : ℕ} {o' : List ℕ} → (e' ≡ e + length t) × (o' ≡ over o e t)
      → Place d at parts (suc n) e' o'
  next-as w q p = record { start = w.start; wrote = wrote-next w q p; fits = w.fits }

  abbrev pub next : {n e : ℕ} {o : List ℕ} (w : Place d at parts n e o) {e' : ℕ} {o' : List ℕ}
      → (e' ≡ e + length (get_or (parts w.start) n [])) × (o' ≡ over o e (get_or (parts w.start) n [])) → Place d at parts (suc n) e' o'
  next w p = next-as w refl p

  -- what is written, once all parts are
  pub finished : {n e : ℕ} {o : List ℕ} (w : Place d at parts n e o)
      → (e ≡ at w.start + length (joined [] (take n (parts w.start)))) × (o ≡ over (d w.start) (at w.start) (joined [] (take n (parts w.start))))
  finished w = (w.wrote.ends, w.wrote.holds)

-- from the start of the memory on
module _ {S : Type 0} {d : S → List ℕ} {parts : S → List (List ℕ)} where
  abbrev pub begins-first : (s : S) → length (joined [] (parts s)) ≤ length (d s) → Place d (λ _. 0) parts 0 0 (d s)
  begins-first s h = begins s (omega arith)

  pub finished-first : {n e : ℕ} {o : List ℕ} (w : Place d (λ _. 0) parts n e o)
      → (e ≡ length (joined [] (take n (parts w.start)))) × (o ≡ joined [] (take n (parts w.start)) ++ drop (length (joined [] (take n (parts w.start)))) (d w.start))
  finished-first w = wrote-start w.wrote
