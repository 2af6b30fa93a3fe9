-- Laws of the words at fault: the passes of an import find the earliest. Assumes nothing.
use Rattle.std.specs.Prelude.{None, Option, Some}
use mathlib.Core.Path.{◌≡◌, refl, sym, ap, subst, ◌∙◌}
use mathlib.Core.Logic.{◌⊎◌, inl, inr}
use mathlib.Core.Bool.{Bool, true, false, cond}
use mathlib.Core.List.{List, [], ◌∷◌, map}
use Prim.Native.Nat.{ℕ, zero, suc, ◌+◌, ◌<◌, ◌≤◌}
use native.Mathlib.Omega.{arith}
use native.Mathlib.Nat.{le_antisymm}
use lib.Dec.{eqb, ltb}
use lib.IntN.{ℤ, pos, negsuc}
use borrow.Author.Tests.{ltb-true, ltb-false, eqb-true, eqb-false}
use Rattle.cells.specs.Try.{done}
use Rattle.machine.specs.Lists.{nth}
use Rattle.machine.proofs.FetchLaws.{stuck-not}
use Rattle.instructions.specs.declared.Argument.{Argument}
use Rattle.instructions.specs.declared.Argument.TheVariants.{Absent, Target, Primitive, Within}
use Rattle.instructions.specs.Kinds.{kind_at}
use Rattle.instructions.specs.Opcodes.{place_from, kind_coded}
use Rattle.words.specs.Words.{Word, whole, cut}
use Rattle.words.specs.Decoding.{Item, item_of, has_argument, Decoded, item, unreadable, Due, opcode, argument, coded, decoded_words, decoded, items, is_place, call_listed, fault_from, word_fault, landing, number_at, is_found, lands, offset_fault, or_offsets, code_fault, size_of}
use Rattle.words.proofs.HeadLaws.{size-two, size-one}
use Rattle.words_entry.specs.Faults.{AtFault, WrongOffset, Earliest, Decides}

-- ---- the earliest of what a pass may find

-- what a pass says: at p, which is the earliest and not before lo; or that there is none
abbrev Finds : ℕ → (ℕ → Type 0) → Option ℕ → Type 0
Finds lo P None = (j : ℕ) → P j → ⊥
Finds lo P (Some p) = Earliest P p × (lo ≤ p)

-- of another description of the same
finds-same : (lo : ℕ) {P Q : ℕ → Type 0} → ((i : ℕ) → P i → Q i) → ((i : ℕ) → Q i → P i) → (p : Option ℕ) → Finds lo P p → Finds lo Q p
finds-same lo to from None h = λ j q. h j (from j q)
finds-same lo to from (Some p) h = (record { there = to p h.0.there; before = λ j q. h.0.before j (from j q) }, h.1)

-- an earlier start
finds-lower : (P : ℕ → Type 0) (lo hi : ℕ) → lo ≤ hi → (p : Option ℕ) → Finds hi P p → Finds lo P p
finds-lower P lo hi l None h = h
finds-lower P lo hi l (Some p) h = (h.0, omega (arith, h.1))

-- what is found is what is the earliest
found-is : {lo : ℕ} {P : ℕ → Type 0} {p i : ℕ} → Finds lo P (Some p) → Earliest P i → p ≡ i
found-is {lo} {P} {p} {i} h e = le_antisymm (h.0.before i e.there) (e.before p h.0.there)

-- ---- the entries of words stand in rising order

data Rising : ℕ → List Decoded → Type 0 where
  none : {lo : ℕ} → Rising lo []
  unread : {lo i : ℕ} → lo ≤ i → Rising lo (unreadable i ∷ [])
  next : {lo : ℕ} {x : Item} {es : List Decoded} → lo ≤ x.index → Rising (x.index + size_of x.kind) es → Rising lo (item x ∷ es)

-- where the next word begins an instruction, and where it is the argument of kind k
abbrev DueAt : ℕ → ℕ → Due → Type 0
DueAt lo i opcode = lo ≤ i
DueAt lo i (argument j k) = (lo ≤ j) × (i ≡ suc j) × (size_of k ≡ 2)

entries-rise : (lo : ℕ) (d : Due) (i : ℕ) (ws : List Word) → DueAt lo i d → Rising lo (decoded_words d i ws)
unfolding decoded_words coded
entries-rise lo opcode i [] h = none
entries-rise lo opcode i (cut ∷ ws) h = unread h
entries-rise lo opcode i (whole w ∷ ws) h = go (kind_coded w) (λ k s. entries-rise lo (argument i k) (suc i) ws (h, refl, s)) (entries-rise (suc i) opcode (suc i) ws (omega arith))
  where
    kind : (k : ℕ) (b : Bool) → has_argument (kind_at k).argument ≡ b → (size_of k ≡ 2 → Rising lo (decoded_words (argument i k) (suc i) ws)) → Rising (suc i) (decoded_words opcode (suc i) ws) →
        Rising lo (cond b (decoded_words (argument i k) (suc i) ws) (item (item_of i k (pos 0)) ∷ decoded_words opcode (suc i) ws))
    kind k true e f g = f (size-two k e)
    kind k false e f g =
        let s : suc i ≡ i + size_of k = omega (arith, size-one k e) in
        next {x = item_of i k (pos 0)} h (subst (λ m. Rising m (decoded_words opcode (suc i) ws)) s g)

    go : (p : Option ℕ) → ((k : ℕ) → size_of k ≡ 2 → Rising lo (decoded_words (argument i k) (suc i) ws)) → Rising (suc i) (decoded_words opcode (suc i) ws) → Rising lo (coded i (λ d. decoded_words d (suc i) ws) p)
    go None f g = unread h
    go (Some k) f g = kind k (has_argument (kind_at k).argument) refl (f k) g
entries-rise lo (argument j k) i [] h = unread h.0
entries-rise lo (argument j k) i (cut ∷ ws) h = unread h.0
entries-rise lo (argument j k) i (whole w ∷ ws) h =
    let s : suc i ≡ j + size_of k = omega (arith, h.1, h.2) in
    next h.0 (subst (λ m. Rising m (decoded_words opcode (suc i) ws)) s (entries-rise (suc i) opcode (suc i) ws (omega arith)))

decoded-rise : (ws : List Word) → Rising 0 (decoded ws)
unfolding decoded
decoded-rise ws = entries-rise 0 opcode 0 ws (omega arith)

-- ---- a word at fault, offsets aside

-- a call outside the line
pub record Outside (n : ℕ) (x : Item) : Type 0 where
  pub calls : (kind_at x.kind).argument ≡ Primitive
  pub outside : (k : ℕ) → k < n → x.argument ≡ pos k → ⊥

not_listed : (n : ℕ) (z : ℤ) (a : Argument) → call_listed n z a ≡ false → (a ≡ Primitive) × ((k : ℕ) → k < n → z ≡ pos k → ⊥)
unfolding call_listed is_place
not_listed n z Absent e = let x : ◌≡◌ {A = ℕ} 0 1 = cc in absurd (omega arith)
not_listed n z Target e = let x : ◌≡◌ {A = ℕ} 0 1 = cc in absurd (omega arith)
not_listed n z (Within r) e = let x : ◌≡◌ {A = ℕ} 0 1 = cc in absurd (omega arith)
not_listed n (pos m) Primitive e = (refl, λ k h q. let y : m ≡ k = cc in omega (arith, ltb-false m n e))
not_listed n (negsuc m) Primitive e = (refl, λ k h q. let y : ◌≡◌ {A = ℕ} 0 1 = cc in omega arith)

listed-not : (n : ℕ) (z : ℤ) (a : Argument) → call_listed n z a ≡ true → a ≡ Primitive → ((k : ℕ) → k < n → z ≡ pos k → ⊥) → ⊥
unfolding call_listed is_place
listed-not n z Absent e p f = let x : ◌≡◌ {A = ℕ} 0 1 = cc in omega arith
listed-not n z Target e p f = let x : ◌≡◌ {A = ℕ} 0 1 = cc in omega arith
listed-not n z (Within r) e p f = let x : ◌≡◌ {A = ℕ} 0 1 = cc in omega arith
listed-not n (pos m) Primitive e p f = f m (ltb-true m n e) refl
listed-not n (negsuc m) Primitive e p f = let x : ◌≡◌ {A = ℕ} 0 1 = cc in omega arith

-- the fault of an entry before which c stand
abbrev Fault : ℕ → ℕ → Decoded → ℕ → Type 0
Fault n c (unreadable j) i = i ≡ j
Fault n c (item x) i = (Outside n x × (i ≡ suc x.index)) ⊎ ((1024 ≤ c) × (i ≡ x.index))

-- one among several, before the first of which c stand
record FaultIn (n c : ℕ) (es : List Decoded) (i : ℕ) : Type 0 where
  place : ℕ
  entry : Decoded
  there : nth place es ≡ done entry
  fault : Fault n (c + place) entry i

fault-here : {n c i : ℕ} {e : Decoded} {es : List Decoded} → Fault n c e i → FaultIn n c (e ∷ es) i
unfolding nth
fault-here {n} {c} {i} {e} f = let z : c ≡ c + 0 = omega arith in record { place = 0; entry = e; there = refl; fault = subst (λ m. Fault n m e i) z f }

fault-after : {n c i : ℕ} {e : Decoded} {es : List Decoded} → FaultIn n (suc c) es i → FaultIn n c (e ∷ es) i
unfolding nth
fault-after {n} {c} {i} f =
    let z : suc c + f.place ≡ c + suc f.place = omega arith in
    record { place = suc f.place; entry = f.entry; there = f.there; fault = subst (λ m. Fault n m f.entry i) z f.fault }

fault-none : {n c i : ℕ} {A : Type 0} → FaultIn n c [] i → A
unfolding nth
fault-none f = stuck-not f.entry f.there

-- it is that of the first, or one after it
fault-or : {n c i : ℕ} {e : Decoded} {es : List Decoded} → FaultIn n c (e ∷ es) i → Fault n c e i ⊎ FaultIn n (suc c) es i
unfolding nth
fault-or {n} {c} {i} {e} {es} f = go f.place f.there f.fault
  where
    go : (k : ℕ) → nth k (e ∷ es) ≡ done f.entry → Fault n (c + k) f.entry i → Fault n c e i ⊎ FaultIn n (suc c) es i
    go zero t g = let h : f.entry ≡ e = cc in let z : c + 0 ≡ c = omega arith in inl (subst (λ m. Fault n m e i) z (subst (λ y. Fault n (c + 0) y i) h g))
    go (suc k) t g = let z : c + suc k ≡ suc c + k = omega arith in inr (record { place = k; entry = f.entry; there = t; fault = subst (λ m. Fault n m f.entry i) z g })

-- none is before the first entry
fault-from-low : {n lo i : ℕ} (c : ℕ) {es : List Decoded} → Rising lo es → FaultIn n c es i → lo ≤ i
fault-from-low c none f = fault-none f
fault-from-low {n} {lo} {i} c (unread {i = j} l) f = go (fault-or f)
  where
    go : (i ≡ j) ⊎ FaultIn n (suc c) [] i → lo ≤ i
    go (inl e) = omega arith
    go (inr g) = fault-none g
fault-from-low {n} {lo} {i} c (next {x = x} {es = es} l r) f = go (fault-or f) (fault-from-low {n = n} {i = i} (suc c) r)
  where
    go : ((Outside n x × (i ≡ suc x.index)) ⊎ ((1024 ≤ c) × (i ≡ x.index))) ⊎ FaultIn n (suc c) es i → (FaultIn n (suc c) es i → x.index + size_of x.kind ≤ i) → lo ≤ i
    go (inl (inl g)) ih = omega (arith, g.1)
    go (inl (inr g)) ih = omega (arith, g.1)
    go (inr g) ih = omega (arith, ih g)

-- the pass finds the earliest
fault-found : (n c lo : ℕ) (es : List Decoded) → Rising lo es → Finds lo (FaultIn n c es) (fault_from n c es)
unfolding fault_from
fault-found n c lo [] none = λ j f. fault-none f
fault-found n c lo (unreadable i ∷ []) (unread l) = (record { there = fault-here refl; before = λ j f. go j (fault-or f) }, l)
  where
    go : (j : ℕ) → (j ≡ i) ⊎ FaultIn n (suc c) [] j → i ≤ j
    go j (inl e) = omega arith
    go j (inr g) = fault-none g
fault-found n c lo (unreadable i ∷ (e ∷ es)) r = elim r [ ]
fault-found n c lo (item x ∷ es) (next l r) = first (fault-found n (suc c) (x.index + size_of x.kind) es r) (ltb c 1024) refl
  where
    after : (j : ℕ) → FaultIn n (suc c) es j → x.index + size_of x.kind ≤ j
    after j = fault-from-low (suc c) r

    sound : call_listed n x.argument (kind_at x.kind).argument ≡ true → c < 1024 → (j : ℕ) → FaultIn n c (item x ∷ es) j → FaultIn n (suc c) es j
    sound e h j f = go (fault-or f)
      where
        go : ((Outside n x × (j ≡ suc x.index)) ⊎ ((1024 ≤ c) × (j ≡ x.index))) ⊎ FaultIn n (suc c) es j → FaultIn n (suc c) es j
        go (inl (inl g)) = absurd (listed-not n x.argument (kind_at x.kind).argument e g.0.calls g.0.outside)
        go (inl (inr g)) = absurd (omega (arith, g.0))
        go (inr g) = g

    second : Finds (x.index + size_of x.kind) (FaultIn n (suc c) es) (fault_from n (suc c) es) → c < 1024 → (b : Bool) → call_listed n x.argument (kind_at x.kind).argument ≡ b →
        Finds lo (FaultIn n c (item x ∷ es)) (cond b (fault_from n (suc c) es) (Some (suc x.index)))
    second ih h true e =
        finds-lower (FaultIn n c (item x ∷ es)) lo (x.index + size_of x.kind) (omega arith) (fault_from n (suc c) es)
        (finds-same (x.index + size_of x.kind) (λ i f. fault-after f) (sound e h) (fault_from n (suc c) es) ih)
    second ih h false e =
        let o = not_listed n x.argument (kind_at x.kind).argument e in
        let s = size-two x.kind (ap has_argument o.0) in
        (record { there = fault-here (inl (record { calls = o.0; outside = o.1 }, refl)); before = λ j f. go s j (fault-or f) }, omega arith)
      where
        go : size_of x.kind ≡ 2 → (j : ℕ) → ((Outside n x × (j ≡ suc x.index)) ⊎ ((1024 ≤ c) × (j ≡ x.index))) ⊎ FaultIn n (suc c) es j → suc x.index ≤ j
        go s j (inl (inl g)) = omega (arith, g.1)
        go s j (inl (inr g)) = absurd (omega (arith, g.0))
        go s j (inr g) = omega (arith, after j g)

    first : Finds (x.index + size_of x.kind) (FaultIn n (suc c) es) (fault_from n (suc c) es) → (b : Bool) → ltb c 1024 ≡ b → Finds lo (FaultIn n c (item x ∷ es)) (cond b (cond (call_listed n x.argument (kind_at x.kind).argument) (fault_from n (suc c) es) (Some (suc x.index))) (Some x.index))
    first ih true e = second ih (ltb-true c 1024 e) (call_listed n x.argument (kind_at x.kind).argument) refl
    first ih false e = (record { there = fault-here (inr (ltb-false c 1024 e, refl)); before = λ j f. go j (fault-or f) }, l)
      where
        go : (j : ℕ) → ((Outside n x × (j ≡ suc x.index)) ⊎ ((1024 ≤ c) × (j ≡ x.index))) ⊎ FaultIn n (suc c) es j → x.index ≤ j
        go j (inl (inl g)) = omega (arith, g.1)
        go j (inl (inr g)) = omega (arith, g.1)
        go j (inr g) = omega (arith, after j g)

-- ---- a wrong offset

-- an instruction among those of the entries
item-among : (k : ℕ) (es : List Decoded) {x : Item} → nth k es ≡ done (item x) → (m : ℕ) × (nth m (items es) ≡ done x)
unfolding nth items
item-among k [] {x} e = stuck-not (item x) e
item-among zero (item y ∷ es) {x} e = (0, (cc))
item-among zero (unreadable i ∷ es) {x} e = let z : ◌≡◌ {A = ℕ} 0 1 = cc in absurd (omega arith)
item-among (suc k) (item y ∷ es) e = let r = item-among k es e in (suc r.0, r.1)
item-among (suc k) (unreadable i ∷ es) e = item-among k es e

among-item : (m : ℕ) (es : List Decoded) {x : Item} → nth m (items es) ≡ done x → (k : ℕ) × (nth k es ≡ done (item x))
unfolding nth items
among-item m [] {x} e = stuck-not x e
among-item zero (item y ∷ es) e = (0, (cc))
among-item (suc m) (item y ∷ es) e = let r = among-item m es e in (suc r.0, r.1)
among-item m (unreadable i ∷ es) e = let r = among-item m es e in (suc r.0, r.1)

-- where an index stands among those of the instructions
module _ (n : ℕ) where
  place-some : (c : ℕ) (xs : List Item) (k : ℕ) → place_from c n (map (λ x. x.index) xs) ≡ Some k → (m : ℕ) × (y : Item) × (nth m xs ≡ done y) × (y.index ≡ n)
  unfolding place_from nth
  place-some c [] k e = let z : ◌≡◌ {A = ℕ} 0 1 = cc in absurd (omega arith)
  place-some c (x ∷ xs) k e = go (eqb n x.index) refl e (place-some (suc c) xs k)
    where
      go : (b : Bool) → eqb n x.index ≡ b → cond b (Some c) (place_from (suc c) n (map (λ x. x.index) xs)) ≡ Some k →
          (place_from (suc c) n (map (λ x. x.index) xs) ≡ Some k → (m : ℕ) × (y : Item) × (nth m xs ≡ done y) × (y.index ≡ n)) → (m : ℕ) × (y : Item) × (nth m (x ∷ xs) ≡ done y) × (y.index ≡ n)
      go true q f ih = (0, x, refl, sym (eqb-true n x.index q))
      go false q f ih = let r = ih f in (suc r.0, r.1, r.2, r.3)

  place_none : (c : ℕ) (xs : List Item) → place_from c n (map (λ x. x.index) xs) ≡ None → (m : ℕ) (y : Item) → nth m xs ≡ done y → y.index ≡ n → ⊥
  unfolding place_from nth
  place_none c [] e m y t q = stuck-not y t
  place_none c (x ∷ xs) e m y t q = go (eqb n x.index) refl e (place_none (suc c) xs) m t
    where
      go : (b : Bool) → eqb n x.index ≡ b → cond b (Some c) (place_from (suc c) n (map (λ x. x.index) xs)) ≡ None →
          (place_from (suc c) n (map (λ x. x.index) xs) ≡ None → (m : ℕ) (y : Item) → nth m xs ≡ done y → y.index ≡ n → ⊥) → (m : ℕ) → nth m (x ∷ xs) ≡ done y → ⊥
      go true p f ih m t = let z : ◌≡◌ {A = ℕ} 0 1 = cc in omega arith
      go false p f ih zero t = let h : x ≡ y = cc in eqb-false n x.index p (sym q ∙ ap (λ (v : Item). v.index) (sym h))
      go false p f ih (suc m) t = ih f m y t q

-- an offset that leads to no instruction of xs
pub record Astray (xs : List Item) (x : Item) : Type 0 where
  pub branches : (kind_at x.kind).argument ≡ Target
  pub nowhere : (k : ℕ) (y : Item) → nth k xs ≡ done y → pos y.index ≡ landing x → ⊥

astray-at : (xs : List Item) (z : ℤ) → is_found (number_at xs z) ≡ false → (k : ℕ) (y : Item) → nth k xs ≡ done y → pos y.index ≡ z → ⊥
unfolding number_at
astray-at xs (pos n) e k y t q = go (place_from 0 n (map (λ x. x.index) xs)) refl e
  where
    go : (p : Option ℕ) → place_from 0 n (map (λ x. x.index) xs) ≡ p → is_found p ≡ false → ⊥
    go None f g = place_none n 0 xs f k y t (cc)
    go (Some i) f g = let z : ◌≡◌ {A = ℕ} 0 1 = cc in omega arith
astray-at xs (negsuc n) e k y t q = let z : ◌≡◌ {A = ℕ} 0 1 = cc in omega arith

at-astray : (xs : List Item) (z : ℤ) → is_found (number_at xs z) ≡ true → ((k : ℕ) (y : Item) → nth k xs ≡ done y → pos y.index ≡ z → ⊥) → ⊥
unfolding number_at
at-astray xs (pos n) e f = go (place_from 0 n (map (λ x. x.index) xs)) refl e
  where
    go : (p : Option ℕ) → place_from 0 n (map (λ x. x.index) xs) ≡ p → is_found p ≡ true → ⊥
    go None g h = let z : ◌≡◌ {A = ℕ} 0 1 = cc in omega arith
    go (Some i) g h = let r = place-some n 0 xs i g in f r.0 r.1 r.2 (ap pos r.3)
at-astray xs (negsuc n) e f = let z : ◌≡◌ {A = ℕ} 0 1 = cc in omega arith

lands-not : (xs : List Item) (x : Item) (a : Argument) → lands xs x a ≡ false → (a ≡ Target) × ((k : ℕ) (y : Item) → nth k xs ≡ done y → pos y.index ≡ landing x → ⊥)
unfolding lands
lands-not xs x Absent e = let z : ◌≡◌ {A = ℕ} 0 1 = cc in absurd (omega arith)
lands-not xs x Primitive e = let z : ◌≡◌ {A = ℕ} 0 1 = cc in absurd (omega arith)
lands-not xs x (Within r) e = let z : ◌≡◌ {A = ℕ} 0 1 = cc in absurd (omega arith)
lands-not xs x Target e = (refl, astray-at xs (landing x) e)

not-lands : (xs : List Item) (x : Item) (a : Argument) → lands xs x a ≡ true → a ≡ Target → ((k : ℕ) (y : Item) → nth k xs ≡ done y → pos y.index ≡ landing x → ⊥) → ⊥
unfolding lands
not-lands xs x Absent e q f = let z : ◌≡◌ {A = ℕ} 0 1 = cc in omega arith
not-lands xs x Primitive e q f = let z : ◌≡◌ {A = ℕ} 0 1 = cc in omega arith
not-lands xs x (Within r) e q f = let z : ◌≡◌ {A = ℕ} 0 1 = cc in omega arith
not-lands xs x Target e q f = at-astray xs (landing x) e f

-- one among several, where xs are all instructions
record AstrayIn (xs ys : List Item) (i : ℕ) : Type 0 where
  place : ℕ
  branch : Item
  there : nth place ys ≡ done branch
  astray : Astray xs branch
  argued : i ≡ suc branch.index

astray-here : {xs ys : List Item} {x : Item} → Astray xs x → AstrayIn xs (x ∷ ys) (suc x.index)
unfolding nth
astray-here {x = x} a = record { place = 0; branch = x; there = refl; astray = a; argued = refl }

astray-after : {xs ys : List Item} {x : Item} {i : ℕ} → AstrayIn xs ys i → AstrayIn xs (x ∷ ys) i
unfolding nth
astray-after a = record { place = suc a.place; branch = a.branch; there = a.there; astray = a.astray; argued = a.argued }

astray-none : {xs : List Item} {i : ℕ} {A : Type 0} → AstrayIn xs [] i → A
unfolding nth
astray-none a = stuck-not a.branch a.there

astray-or : {xs ys : List Item} {x : Item} {i : ℕ} → AstrayIn xs (x ∷ ys) i → (Astray xs x × (i ≡ suc x.index)) ⊎ AstrayIn xs ys i
unfolding nth
astray-or {xs} {ys} {x} {i} a = go a.place a.there
  where
    go : (k : ℕ) → nth k (x ∷ ys) ≡ done a.branch → (Astray xs x × (i ≡ suc x.index)) ⊎ AstrayIn xs ys i
    go zero t = let h : a.branch ≡ x = cc in inl (subst (Astray xs) h a.astray, a.argued ∙ ap (λ (y : Item). suc y.index) h)
    go (suc k) t = inr (record { place = k; branch = a.branch; there = t; astray = a.astray; argued = a.argued })

-- none is before the first entry
astray-low : {xs : List Item} {lo i : ℕ} {es : List Decoded} → Rising lo es → AstrayIn xs (items es) i → lo ≤ i
unfolding items
astray-low none a = astray-none a
astray-low (unread l) a = astray-none a
astray-low {xs} {lo} {i} (next {x = x} {es = es} l r) a = go (astray-or a) (astray-low {xs = xs} {i = i} r)
  where
    go : (Astray xs x × (i ≡ suc x.index)) ⊎ AstrayIn xs (items es) i → (AstrayIn xs (items es) i → x.index + size_of x.kind ≤ i) → lo ≤ i
    go (inl g) ih = omega (arith, g.1)
    go (inr g) ih = omega (arith, ih g)

-- the pass finds the earliest
offset-found : (xs : List Item) (lo : ℕ) (es : List Decoded) → Rising lo es → Finds lo (AstrayIn xs (items es)) (offset_fault xs (items es))
unfolding items offset_fault
offset-found xs lo [] none = λ j a. astray-none a
offset-found xs lo (unreadable i ∷ []) (unread l) = λ j a. astray-none a
offset-found xs lo (unreadable i ∷ (e ∷ es)) r = elim r [ ]
offset-found xs lo (item x ∷ es) (next l r) = go (offset-found xs (x.index + size_of x.kind) es r) (lands xs x (kind_at x.kind).argument) refl
  where
    after : (j : ℕ) → AstrayIn xs (items es) j → x.index + size_of x.kind ≤ j
    after j = astray-low r

    sound : lands xs x (kind_at x.kind).argument ≡ true → (j : ℕ) → AstrayIn xs (x ∷ items es) j → AstrayIn xs (items es) j
    sound e j a = pass (astray-or a)
      where
        pass : (Astray xs x × (j ≡ suc x.index)) ⊎ AstrayIn xs (items es) j → AstrayIn xs (items es) j
        pass (inl g) = absurd (not-lands xs x (kind_at x.kind).argument e g.0.branches g.0.nowhere)
        pass (inr g) = g

    go : Finds (x.index + size_of x.kind) (AstrayIn xs (items es)) (offset_fault xs (items es)) → (b : Bool) → lands xs x (kind_at x.kind).argument ≡ b →
        Finds lo (AstrayIn xs (x ∷ items es)) (cond b (offset_fault xs (items es)) (Some (suc x.index)))
    go ih true e =
        finds-lower (AstrayIn xs (x ∷ items es)) lo (x.index + size_of x.kind) (omega arith) (offset_fault xs (items es))
        (finds-same (x.index + size_of x.kind) (λ i a. astray-after a) (sound e) (offset_fault xs (items es)) ih)
    go ih false e =
        let o = lands-not xs x (kind_at x.kind).argument e in
        let s = size-two x.kind (ap has_argument o.0) in
        (record { there = astray-here (record { branches = o.0; nowhere = o.1 }); before = λ j a. pass s j (astray-or a) }, omega arith)
      where
        pass : size_of x.kind ≡ 2 → (j : ℕ) → (Astray xs x × (j ≡ suc x.index)) ⊎ AstrayIn xs (items es) j → suc x.index ≤ j
        pass s j (inl g) = omega (arith, g.1)
        pass s j (inr g) = omega (arith, after j g)

-- ---- both passes

-- the definitions of `specs/Faults`, in these terms
module _ (n : ℕ) (w : Word) (ws : List Word) where
  to-fault : (i : ℕ) → FaultIn n 0 (decoded (w ∷ ws)) i → AtFault n (w ∷ ws) i
  to-fault i f = go f.entry f.there f.fault
    where
      go : (e : Decoded) → nth f.place (decoded (w ∷ ws)) ≡ done e → Fault n (0 + f.place) e i → AtFault n (w ∷ ws) i
      go (unreadable j) t g = inr (inl (record { place = f.place; there = t ∙ ap (λ m. done (unreadable m)) (sym g) }))
      go (item x) t (inl g) = inr (inr (inl (record { place = f.place; call = x; there = t; calls = g.0.calls; outside = g.0.outside; argued = g.1 })))
      go (item x) t (inr g) = inr (inr (inr (record { place = f.place; instruction = x; there = t; many = omega (arith, g.0); coded = g.1 })))

  from-fault : (i : ℕ) → AtFault n (w ∷ ws) i → FaultIn n 0 (decoded (w ∷ ws)) i
  from-fault i (inl g) = let e = g.0 in let z : ◌≡◌ {A = ℕ} 0 1 = cc in absurd (omega arith)
  from-fault i (inr (inl g)) = record { place = g.place; entry = unreadable i; there = g.there; fault = refl }
  from-fault i (inr (inr (inl g))) = record { place = g.place; entry = item g.call; there = g.there; fault = inl (record { calls = g.calls; outside = g.outside }, g.argued) }
  from-fault i (inr (inr (inr g))) = record { place = g.place; entry = item g.instruction; there = g.there; fault = inr (omega (arith, g.many), g.coded) }

words-found : (n : ℕ) (ws : List Word) → Finds 0 (AtFault n ws) (word_fault n ws)
unfolding word_fault
words-found n [] = (record { there = inl (refl, refl); before = λ j a. omega arith }, omega arith)
words-found n (w ∷ ws) = finds-same 0 (to-fault n w ws) (from-fault n w ws) (fault_from n 0 (decoded (w ∷ ws))) (fault-found n 0 0 (decoded (w ∷ ws)) (decoded-rise (w ∷ ws)))

module _ (ws : List Word) where
  to-offset : (i : ℕ) → AstrayIn (items (decoded ws)) (items (decoded ws)) i → WrongOffset ws i
  to-offset i a =
      let k = among-item a.place (decoded ws) a.there in
      record {
        place = k.0;
        branch = a.branch;
        there = k.1;
        branches = a.astray.branches;
        nowhere = λ m y t q. let r = item-among m (decoded ws) t in a.astray.nowhere r.0 y r.1 q;
        argued = a.argued;
      }

  from-offset : (i : ℕ) → WrongOffset ws i → AstrayIn (items (decoded ws)) (items (decoded ws)) i
  from-offset i g =
      let k = item-among g.place (decoded ws) g.there in
      record {
        place = k.0;
        branch = g.branch;
        there = k.1;
        astray = record { branches = g.branches; nowhere = λ m y t q. let r = among-item m (decoded ws) t in g.nowhere r.0 y r.1 q };
        argued = g.argued;
      }

  offsets-found : Finds 0 (WrongOffset ws) (offset_fault (items (decoded ws)) (items (decoded ws)))
  offsets-found = finds-same 0 to-offset from-offset (offset_fault (items (decoded ws)) (items (decoded ws))) (offset-found (items (decoded ws)) 0 (decoded ws) (decoded-rise ws))

-- the word that an import refuses is the one that decides, and there is none where nothing is at fault
module _ (n : ℕ) (ws : List Word) where
  abbrev offsets : Option ℕ
  offsets = offset_fault (items (decoded ws)) (items (decoded ws))

  pub fault-decides : (i : ℕ) → code_fault n ws ≡ Some i → Decides n ws i
  unfolding code_fault or_offsets
  fault-decides i = go (word_fault n ws) (words-found n ws)
    where
      later : (q : Option ℕ) → Finds 0 (WrongOffset ws) q → q ≡ Some i → Earliest (WrongOffset ws) i
      later None f e = let z : ◌≡◌ {A = ℕ} 0 1 = cc in absurd (omega arith)
      later (Some j) f e = let h : j ≡ i = cc in subst (Earliest (WrongOffset ws)) h f.0

      go : (p : Option ℕ) → Finds 0 (AtFault n ws) p → or_offsets p (items (decoded ws)) ≡ Some i → Decides n ws i
      go (Some j) f e = let h : j ≡ i = cc in inl (subst (Earliest (AtFault n ws)) h f.0)
      go None f e = inr (f, later offsets (offsets-found ws) e)

  pub decides-fault : (i : ℕ) → Decides n ws i → code_fault n ws ≡ Some i
  unfolding code_fault or_offsets
  decides-fault i = go (word_fault n ws) (words-found n ws)
    where
      later : (q : Option ℕ) → Finds 0 (WrongOffset ws) q → Earliest (WrongOffset ws) i → q ≡ Some i
      later None f e = absurd (f i e.there)
      later (Some j) f e = ap Some (found-is f e)

      go : (p : Option ℕ) → Finds 0 (AtFault n ws) p → Decides n ws i → or_offsets p (items (decoded ws)) ≡ Some i
      go (Some j) f (inl e) = ap Some (found-is f e)
      go (Some j) f (inr e) = absurd (e.0 j f.0.there)
      go None f (inl e) = absurd (f i e.there)
      go None f (inr e) = later offsets (offsets-found ws) e.1

  pub fault-nowhere : code_fault n ws ≡ None → ((j : ℕ) → AtFault n ws j → ⊥) × ((j : ℕ) → WrongOffset ws j → ⊥)
  unfolding code_fault or_offsets
  fault-nowhere = go (word_fault n ws) (words-found n ws)
    where
      later : (q : Option ℕ) → Finds 0 (WrongOffset ws) q → q ≡ None → (j : ℕ) → WrongOffset ws j → ⊥
      later None f e = f
      later (Some j) f e = let z : ◌≡◌ {A = ℕ} 0 1 = cc in absurd (omega arith)

      go : (p : Option ℕ) → Finds 0 (AtFault n ws) p → or_offsets p (items (decoded ws)) ≡ None → ((j : ℕ) → AtFault n ws j → ⊥) × ((j : ℕ) → WrongOffset ws j → ⊥)
      go (Some j) f e = let z : ◌≡◌ {A = ℕ} 0 1 = cc in absurd (omega arith)
      go None f e = (f, later offsets (offsets-found ws) e)

  pub nowhere-fault : ((j : ℕ) → AtFault n ws j → ⊥) → ((j : ℕ) → WrongOffset ws j → ⊥) → code_fault n ws ≡ None
  unfolding code_fault or_offsets
  nowhere-fault a o = go (word_fault n ws) (words-found n ws)
    where
      later : (q : Option ℕ) → Finds 0 (WrongOffset ws) q → q ≡ None
      later None f = refl
      later (Some j) f = absurd (o j f.0.there)

      go : (p : Option ℕ) → Finds 0 (AtFault n ws) p → or_offsets p (items (decoded ws)) ≡ None
      go (Some j) f = absurd (a j f.0.there)
      go None f = later offsets (offsets-found ws)
