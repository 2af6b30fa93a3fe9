-- What is promised of the nearest change. Assumes nothing.
use Prim.Native.Nat.{ℕ, suc, ◌+◌, ◌-◌, ◌<◌, ◌≤◌}
use mathlib.Core.Path.{◌≡◌, refl, sym, ap, ap₂, subst, ◌∙◌}
use mathlib.Core.Bool.{Bool, true, false, cond}
use mathlib.Core.List.{List, [], ◌∷◌, ◌++◌, map, flat_map}
use mathlib.Core.Logic.{◌⊎◌, inl, inr}
use Rattle.std.specs.Prelude.{Some as some, None as none}
use native.Mathlib.Omega.{arith}
use lib.Dec.{leb, ltb}
use lib.IntN.{ℤ, pos, negsuc, ◌+ℤ◌, ◌-ℤ◌}
use lib.ListN.{length, get_or}
use borrow.Author.Tests.{ltb-true, ltb-false, leb-true, le-leb}
use Rattle.numbers.specs.Numbers.{within, numbers, half, bits, IsNumber}
use Rattle.cells.specs.Try.{Try, stuck, done}
use Rattle.cells.specs.declared.Cell.{Cell}
use Rattle.machine.specs.Machine.{State, height}
use Rattle.nearest_changes.specs.declared.Position.{Position}
use Rattle.nearest_changes.specs.declared.Position.TheVariants.{Accu, Entry, Field}
use Rattle.nearest_changes.specs.declared.Change.{Change}
use Rattle.nearest_changes.specs.Places.{Earlier, accu_entry, accu_field, entries, entry_field, blocks, fields, from, fields_from, positions}
use Rattle.nearest_changes.specs.Changes.{number_at, change, change_to, changes_of, changes_at, changes_by, changes, applied, first, nearest}
use Rattle.nearest_changes.specs.Promises.{Direction, downwards, upwards, move_by, ChangeBy, Before, smaller, earlier, down_first}
use Rattle.nearest_changes.proofs.FirstLaws.{flat_map-append, flat_map-map, not-both, append-some, append-none, none-append, Least, from_some, from-none, none_from}
use Rattle.nearest_changes.proofs.PlaceLaws.{entry_absent, field-absent}

-- ---- numbers of 31 bits

pub within-number : (z : ℤ) → within numbers z ≡ true → IsNumber z
within-number (pos n) e = record { fits = let l = leb-true n (half bits - 1) e in omega arith }
within-number (negsuc n) e = go (leb n (half bits - 1)) refl e
  where
    go : (b : Bool) → leb n (half bits - 1) ≡ b → cond b true false ≡ true → IsNumber (negsuc n)
    go true l e = record { fits = let k = leb-true n (half bits - 1) l in omega arith }
    go false l e = let z : ◌≡◌ {A = ℕ} 0 1 = cc in absurd (omega arith)

pub number-within : (z : ℤ) → IsNumber z → within numbers z ≡ true
number-within (pos n) h = le-leb n (half bits - 1) (let l = h.fits in omega arith)
number-within (negsuc n) h = rw (le-leb n (half bits - 1) (let l = h.fits in omega arith)) refl

-- ---- one cell

module _ (t : Change → Bool) where
  -- a change to one value
  to_some : (p : Position) (v : ℤ) (x : Change) → first t (change_to p v) ≡ some x → (x ≡ change p v) × (within numbers v ≡ true) × (t x ≡ true)
  unfolding change_to first
  to_some p v x = go (within numbers v) refl
    where
      passes : within numbers v ≡ true → (b : Bool) → t (change p v) ≡ b → cond b (some (change p v)) none ≡ some x → (x ≡ change p v) × (within numbers v ≡ true) × (t x ≡ true)
      passes w true h e = let f : change p v ≡ x = cc in (sym f, w, rw (← f) h)
      passes w false h e = not-both x e

      go : (b : Bool) → within numbers v ≡ b → first t (cond b (change p v ∷ []) []) ≡ some x → (x ≡ change p v) × (within numbers v ≡ true) × (t x ≡ true)
      go true w e = passes w (t (change p v)) refl e
      go false w e = not-both x e

  to_none : (p : Position) (v : ℤ) → first t (change_to p v) ≡ none → within numbers v ≡ true → t (change p v) ≡ false
  unfolding change_to first
  to_none p v e w = go (t (change p v)) refl (rw w at e)
    where
      go : (b : Bool) → t (change p v) ≡ b → cond b (some (change p v)) none ≡ none → t (change p v) ≡ false
      go true h e = not-both (change p v) (sym e)
      go false h e = h

  none-to : (p : Position) (v : ℤ) → (within numbers v ≡ true → t (change p v) ≡ false) → first t (change_to p v) ≡ none
  unfolding change_to first
  none-to p v h = go (within numbers v) refl
    where
      go : (b : Bool) → within numbers v ≡ b → first t (cond b (change p v ∷ []) []) ≡ none
      go true w = rw (h w) refl
      go false w = refl

  module _ (s : State) (n : ℕ) where
    -- the change that is found at a place, and the one before it
    record FoundAt (p : Position) (x : Change) : Type 0 where
      pub direction : Direction
      pub old : ℤ
      pub placed : x.place ≡ p
      pub holds : number_at p s ≡ done old
      pub moved : x.value ≡ move_by direction n old
      pub fits : IsNumber x.value
      pub passes : t x ≡ true
      pub below : direction ≡ upwards → within numbers (old -ℤ pos n) ≡ true → t (change p (old -ℤ pos n)) ≡ false

    at_some : (p : Position) (x : Change) → first t (changes_at s n p) ≡ some x → FoundAt p x
    unfolding changes_at changes_of first move_by
    at_some p x e = go (number_at p s) refl e
      where
        pick : (v : ℤ) → number_at p s ≡ done v →
            (first t (change_to p (v -ℤ pos n)) ≡ some x) ⊎ ((first t (change_to p (v -ℤ pos n)) ≡ none) × (first t (change_to p (v +ℤ pos n)) ≡ some x)) → FoundAt p x
        pick v q (inl h) =
            let r = to_some p (v -ℤ pos n) x h in
            let f : x.value ≡ v -ℤ pos n = ap (λ (y : Change). y.value) r.0 in
            record {
              direction = downwards;
              old = v;
              placed = ap (λ (y : Change). y.place) r.0;
              holds = q;
              moved = f;
              fits = rw f (within-number (v -ℤ pos n) r.1);
              passes = r.2;
              below = λ d. let z : ◌≡◌ {A = ℕ} 0 1 = cc in absurd (omega arith);
            }
        pick v q (inr (k, h)) =
            let r = to_some p (v +ℤ pos n) x h in
            let f : x.value ≡ v +ℤ pos n = ap (λ (y : Change). y.value) r.0 in
            record {
              direction = upwards;
              old = v;
              placed = ap (λ (y : Change). y.place) r.0;
              holds = q;
              moved = f;
              fits = rw f (within-number (v +ℤ pos n) r.1);
              passes = r.2;
              below = λ d. to_none p (v -ℤ pos n) k;
            }

        go : (m : Try ℤ) → number_at p s ≡ m → first t (changes_of n p m) ≡ some x → FoundAt p x
        go stuck q e = not-both x e
        go (done v) q e = pick v q (append-some t (change_to p (v -ℤ pos n)) (change_to p (v +ℤ pos n)) x e)

    -- a change by n of the cell that it is of
    at_none : (d : Direction) (x : Change) → ChangeBy s n d x → first t (changes_at s n x.place) ≡ none → t x ≡ false
    unfolding changes_at changes_of move_by
    at_none d x c e = go d c.moved (append-none t (change_to x.place (c.old -ℤ pos n)) (change_to x.place (c.old +ℤ pos n)) (rw c.holds at e))
      where
        go : (d : Direction) → x.value ≡ move_by d n c.old →
            (first t (change_to x.place (c.old -ℤ pos n)) ≡ none) × (first t (change_to x.place (c.old +ℤ pos n)) ≡ none) → t x ≡ false
        go downwards q h = ap (λ v. t (change x.place v)) q ∙ to_none x.place (c.old -ℤ pos n) h.0 (number-within (c.old -ℤ pos n) (rw q at c.fits))
        go upwards q h = ap (λ v. t (change x.place v)) q ∙ to_none x.place (c.old +ℤ pos n) h.1 (number-within (c.old +ℤ pos n) (rw q at c.fits))

    none-at : 1 ≤ n → n ≤ 64 → ((d : Direction) (x : Change) → ChangeBy s n d x → t x ≡ false) → (p : Position) → first t (changes_at s n p) ≡ none
    unfolding changes_at changes_of first move_by
    none-at a b h p = go (number_at p s) refl
      where
        go : (m : Try ℤ) → number_at p s ≡ m → first t (changes_of n p m) ≡ none
        go stuck q = refl
        go (done v) q =
            none-append t (change_to p (v -ℤ pos n)) (change_to p (v +ℤ pos n))
            (none-to p (v -ℤ pos n) (λ w. h downwards (change p (v -ℤ pos n)) (record { least = a; most = b; old = v; holds = q; moved = refl; fits = within-number (v -ℤ pos n) w })))
            (none-to p (v +ℤ pos n) (λ w. h upwards (change p (v +ℤ pos n)) (record { least = a; most = b; old = v; holds = q; moved = refl; fits = within-number (v +ℤ pos n) w })))

-- ---- all cells

module _ (t : Change → Bool) (g : Position → List Change) where
  -- the first is found at a place, and at none before it
  record FirstAt (x : Change) : Type 0 where
    pub place : Position
    pub here : first t (g place) ≡ some x
    pub before : (q : Position) → Earlier q place → first t (g q) ≡ none

  -- of the fields from block k on
  record FirstField (k : ℕ) (x : Change) : Type 0 where
    pub block : ℕ
    pub field : ℕ
    pub from-k : k ≤ block
    pub here : first t (g (Field block field)) ≡ some x
    pub same_block : (i : ℕ) → i < field → first t (g (Field block i)) ≡ none
    pub blocks-before : (j i : ℕ) → k ≤ j → j < block → first t (g (Field j i)) ≡ none

  -- nothing is found past the end of a block
  abbrev Ends : ℕ → List (List Cell) → Type 0
  Ends k bs = (j i : ℕ) → length (get_or bs j []) ≤ i → first t (g (Field (k + j) i)) ≡ none

  ends-rest : (k : ℕ) (b : List Cell) (bs : List (List Cell)) → Ends k (b ∷ bs) → Ends (suc k) bs
  ends-rest k b bs h j i l = let e : k + suc j ≡ suc k + j = omega arith in rw e at (h (suc j) i l)

  ends-first : (k : ℕ) (b : List Cell) (bs : List (List Cell)) → Ends k (b ∷ bs) → (i : ℕ) → length b ≤ i → first t (g (Field k i)) ≡ none
  ends-first k b bs h i l = let e : k + 0 ≡ k = omega arith in rw e at (h 0 i l)

  -- a block in which nothing is found, or only from a field on
  block_none : (k : ℕ) (b : List Cell) → ((i : ℕ) → length b ≤ i → first t (g (Field k i)) ≡ none) →
      first t (flat_map g (map (Field k) (from 0 (length b)))) ≡ none → (i : ℕ) → first t (g (Field k i)) ≡ none
  block_none k b h e i = go (ltb i (length b)) refl
    where
      go : (c : Bool) → ltb i (length b) ≡ c → first t (g (Field k i)) ≡ none
      go true l = from-none t (λ j. g (Field k j)) 0 (length b) (rw (flat_map-map g (Field k) (from 0 (length b))) at e) i (omega arith) (let m = ltb-true i (length b) l in omega arith)
      go false l = h i (ltb-false i (length b) l)

  fields-none : (k : ℕ) (bs : List (List Cell)) → Ends k bs → first t (flat_map g (fields_from k bs)) ≡ none → (j i : ℕ) → k ≤ j → first t (g (Field j i)) ≡ none
  unfolding fields_from flat_map
  fields-none k [] h e j i l = let f : k + (j - k) ≡ j = omega arith in rw f at (h (j - k) i (omega arith))
  fields-none k (b ∷ bs) h e j i l =
      let a = append-none t (flat_map g (map (Field k) (from 0 (length b)))) (flat_map g (fields_from (suc k) bs)) (rw (flat_map-append g (map (Field k) (from 0 (length b))) (fields_from (suc k) bs)) at e) in
      go (block_none k b (ends-first k b bs h) a.0 i) (fields-none (suc k) bs (ends-rest k b bs h) a.1 j i) (ltb k j) refl
    where
      go : first t (g (Field k i)) ≡ none → (suc k ≤ j → first t (g (Field j i)) ≡ none) → (c : Bool) → ltb k j ≡ c → first t (g (Field j i)) ≡ none
      go here rest true m = rest (ltb-true k j m)
      go here rest false m = let f : j ≡ k = omega (arith, ltb-false k j m) in rw f here

  none-fields : (k : ℕ) (bs : List (List Cell)) → ((p : Position) → first t (g p) ≡ none) → first t (flat_map g (fields_from k bs)) ≡ none
  unfolding fields_from flat_map first
  none-fields k [] h = refl
  none-fields k (b ∷ bs) h =
      rw (flat_map-append g (map (Field k) (from 0 (length b))) (fields_from (suc k) bs))
      (none-append t (flat_map g (map (Field k) (from 0 (length b)))) (flat_map g (fields_from (suc k) bs))
      (rw (flat_map-map g (Field k) (from 0 (length b))) (none_from t (λ i. g (Field k i)) 0 (length b) (λ i a c. h (Field k i))))
      (none-fields (suc k) bs h))

  -- a block more in front
  block-front : (k : ℕ) (x : Change) → ((i : ℕ) → first t (g (Field k i)) ≡ none) → FirstField (suc k) x → FirstField k x
  block-front k x h r = record {
    block = r.block;
    field = r.field;
    from-k = let l = r.from-k in omega arith;
    here = r.here;
    same_block = r.same_block;
    blocks-before = λ j i a b. go j i b (ltb k j) refl a;
  }
    where
      go : (j i : ℕ) → j < r.block → (c : Bool) → ltb k j ≡ c → k ≤ j → first t (g (Field j i)) ≡ none
      go j i b true m a = r.blocks-before j i (ltb-true k j m) b
      go j i b false m a = let f : j ≡ k = omega (arith, ltb-false k j m) in rw f (h i)

  fields-some : (k : ℕ) (bs : List (List Cell)) → Ends k bs → (x : Change) → first t (flat_map g (fields_from k bs)) ≡ some x → FirstField k x
  unfolding fields_from flat_map first
  fields-some k [] h x e = not-both x e
  fields-some k (b ∷ bs) h x e =
      go (fields-some (suc k) bs (ends-rest k b bs h) x)
      (append-some t (flat_map g (map (Field k) (from 0 (length b)))) (flat_map g (fields_from (suc k) bs)) x (rw (flat_map-append g (map (Field k) (from 0 (length b))) (fields_from (suc k) bs)) at e))
    where
      here : first t (flat_map g (map (Field k) (from 0 (length b)))) ≡ some x → FirstField k x
      here q =
          let r = from_some t (λ i. g (Field k i)) 0 (length b) x (rw (flat_map-map g (Field k) (from 0 (length b))) at q) in
          record { block = k; field = r.at; from-k = omega arith; here = r.here; same_block = λ i l. r.before i (omega arith) l; blocks-before = λ j i a c. absurd (omega arith) }

      go : (first t (flat_map g (fields_from (suc k) bs)) ≡ some x → FirstField (suc k) x) →
          (first t (flat_map g (map (Field k) (from 0 (length b)))) ≡ some x) ⊎ ((first t (flat_map g (map (Field k) (from 0 (length b)))) ≡ none) × (first t (flat_map g (fields_from (suc k) bs)) ≡ some x)) →
          FirstField k x
      go rest (inl q) = here q
      go rest (inr (q, r)) = block-front k x (block_none k b (ends-first k b bs h) q) (rest r)

-- ACCU comes first
none-earlier : {X : Type 0} {q p : Position} → Earlier q p → p ≡ Accu → X
none-earlier accu_entry e = let z : ◌≡◌ {A = ℕ} 0 1 = cc in absurd (omega arith)
none-earlier accu_field e = let z : ◌≡◌ {A = ℕ} 0 1 = cc in absurd (omega arith)
none-earlier (entries l) e = let z : ◌≡◌ {A = ℕ} 0 1 = cc in absurd (omega arith)
none-earlier entry_field e = let z : ◌≡◌ {A = ℕ} 0 1 = cc in absurd (omega arith)
none-earlier (blocks l) e = let z : ◌≡◌ {A = ℕ} 0 1 = cc in absurd (omega arith)
none-earlier (fields l) e = let z : ◌≡◌ {A = ℕ} 0 1 = cc in absurd (omega arith)

module _ (t : Change → Bool) (s : State) (n : ℕ) where
  entries-end : (i : ℕ) → height s ≤ i → first t (changes_at s n (Entry i)) ≡ none
  unfolding first
  entries-end i l = rw (entry_absent s n i l) refl

  fields-end : Ends t (changes_at s n) 0 s.blocks
  unfolding first
  fields-end j i l = let e : 0 + j ≡ j = omega arith in rw (e, field-absent s n j i l) refl

  -- the changes of the entries and of the fields, one after the other
  by-split : changes_by s n ≡ changes_at s n Accu ++ (flat_map (λ i. changes_at s n (Entry i)) (from 0 (height s)) ++ flat_map (changes_at s n) (fields_from 0 s.blocks))
  unfolding changes_by positions flat_map
  by-split =
      ap (λ l. changes_at s n Accu ++ l)
      (flat_map-append (changes_at s n) (map Entry (from 0 (height s))) (fields_from 0 s.blocks)
      ∙ ap (λ l. l ++ flat_map (changes_at s n) (fields_from 0 s.blocks)) (flat_map-map (changes_at s n) Entry (from 0 (height s))))

  entry-none : first t (flat_map (λ i. changes_at s n (Entry i)) (from 0 (height s))) ≡ none → (i : ℕ) → first t (changes_at s n (Entry i)) ≡ none
  entry-none e i = go (ltb i (height s)) refl
    where
      go : (c : Bool) → ltb i (height s) ≡ c → first t (changes_at s n (Entry i)) ≡ none
      go true l = from-none t (λ i. changes_at s n (Entry i)) 0 (height s) e i (omega arith) (let m = ltb-true i (height s) l in omega arith)
      go false l = entries-end i (ltb-false i (height s) l)

  by-none : first t (changes_by s n) ≡ none → (p : Position) → first t (changes_at s n p) ≡ none
  by-none e = go (append-none t (changes_at s n Accu) (flat_map (λ i. changes_at s n (Entry i)) (from 0 (height s)) ++ flat_map (changes_at s n) (fields_from 0 s.blocks)) (rw by-split at e))
    where
      go : (first t (changes_at s n Accu) ≡ none)
          × (first t (flat_map (λ i. changes_at s n (Entry i)) (from 0 (height s)) ++ flat_map (changes_at s n) (fields_from 0 s.blocks)) ≡ none)
          → (p : Position) → first t (changes_at s n p) ≡ none
      go h Accu = h.0
      go h (Entry i) = entry-none (append-none t (flat_map (λ i. changes_at s n (Entry i)) (from 0 (height s))) (flat_map (changes_at s n) (fields_from 0 s.blocks)) h.1).0 i
      go h (Field k i) = fields-none t (changes_at s n) 0 s.blocks fields-end (append-none t (flat_map (λ i. changes_at s n (Entry i)) (from 0 (height s))) (flat_map (changes_at s n) (fields_from 0 s.blocks)) h.1).1 k i (omega arith)

  none-by : ((p : Position) → first t (changes_at s n p) ≡ none) → first t (changes_by s n) ≡ none
  none-by h =
      rw by-split
      (none-append t (changes_at s n Accu) _ (h Accu)
      (none-append t (flat_map (λ i. changes_at s n (Entry i)) (from 0 (height s))) _
      (none_from t (λ i. changes_at s n (Entry i)) 0 (height s) (λ i a b. h (Entry i)))
      (none-fields t (changes_at s n) 0 s.blocks h)))

  by-some : (x : Change) → first t (changes_by s n) ≡ some x → FirstAt t (changes_at s n) x
  by-some x e = accu (append-some t (changes_at s n Accu) _ x (rw by-split at e))
    where
      es : List Change
      es = flat_map (λ i. changes_at s n (Entry i)) (from 0 (height s))

      fs : List Change
      fs = flat_map (changes_at s n) (fields_from 0 s.blocks)

      in-fields : first t (changes_at s n Accu) ≡ none → first t es ≡ none → FirstField t (changes_at s n) 0 x → FirstAt t (changes_at s n) x
      in-fields a h r = record { place = Field r.block r.field; here = r.here; before = before }
        where
          before : (q : Position) → Earlier q (Field r.block r.field) → first t (changes_at s n q) ≡ none
          before q accu_field = a
          before q (entry_field {m = m}) = entry-none h m
          before q (blocks {j = j} {m = m} l) = r.blocks-before j m (omega arith) l
          before q (fields {m = m} l) = r.same_block m l

      in-entries : first t (changes_at s n Accu) ≡ none → Least t (λ i. changes_at s n (Entry i)) 0 (height s) x → FirstAt t (changes_at s n) x
      in-entries a r = record { place = Entry r.at; here = r.here; before = before }
        where
          before : (q : Position) → Earlier q (Entry r.at) → first t (changes_at s n q) ≡ none
          before q accu_entry = a
          before q (entries {m = m} l) = r.before m (omega arith) l

      rest : first t (changes_at s n Accu) ≡ none → (first t es ≡ some x) ⊎ ((first t es ≡ none) × (first t fs ≡ some x)) → FirstAt t (changes_at s n) x
      rest a (inl h) = in-entries a (from_some t (λ i. changes_at s n (Entry i)) 0 (height s) x h)
      rest a (inr (h, k)) = in-fields a h (fields-some t (changes_at s n) 0 s.blocks fields-end x k)

      accu : (first t (changes_at s n Accu) ≡ some x) ⊎ ((first t (changes_at s n Accu) ≡ none) × (first t (es ++ fs) ≡ some x)) → FirstAt t (changes_at s n) x
      accu (inl h) = record { place = Accu; here = h; before = λ q b. none-earlier b refl }
      accu (inr (a, h)) = rest a (append-some t es fs x h)

-- ---- all changes

-- the change x moves, and no change before it does
pub record Nearest (moves : State → Bool) (s : State) (x : Change) : Type 0 where
  pub amount : ℕ
  pub direction : Direction
  pub change : ChangeBy s amount direction x
  pub alters : moves (applied x s) ≡ true
  pub first : (m : ℕ) (e : Direction) (y : Change) → ChangeBy s m e y → Before m y.place e amount x.place direction → moves (applied y s) ≡ false

-- no change moves
abbrev pub NoneMoves : (State → Bool) → State → Type 0
NoneMoves moves s = (n : ℕ) (d : Direction) (x : Change) → ChangeBy s n d x → moves (applied x s) ≡ false

-- the change that is found is the nearest
abbrev pub FoundNearest : Type 0
FoundNearest = (moves : State → Bool) (s : State) (x : Change) → nearest moves s ≡ some x → Nearest moves s x

-- none is found exactly where none moves
abbrev pub NoneFound : Type 0
NoneFound = (moves : State → Bool) (s : State) → (nearest moves s ≡ none → NoneMoves moves s) × (NoneMoves moves s → nearest moves s ≡ none)

pub found-nearest : FoundNearest
unfolding nearest changes move_by
found-nearest moves s x e = go (from_some t (changes_by s) 1 64 x e)
  where
    t : Change → Bool
    t c = moves (applied c s)

    found : (r : Least t (changes_by s) 1 64 x) (f : FirstAt t (changes_at s r.at) x) → FoundAt t s r.at f.place x → Nearest moves s x
    found r f a = record {
      amount = r.at;
      direction = a.direction;
      change = record { least = r.above; most = let l = r.below in omega arith; old = a.old; holds = rw a.placed a.holds; moved = a.moved; fits = a.fits };
      alters = a.passes;
      first = λ m d y c b. before m d y c r.at x.place a.direction b refl a.placed refl;
    }
      where
        before : (m : ℕ) (d : Direction) (y : Change) → ChangeBy s m d y → (n : ℕ) (p : Position) (e : Direction) → Before m y.place d n p e →
            n ≡ r.at → p ≡ f.place → e ≡ a.direction → t y ≡ false
        before m d y c n p e (smaller l) q u v = at_none t s m d y c (by-none t s m (r.before m c.least (omega arith)) y.place)
        before m d y c n p e (earlier l) q u v = at_none t s m d y c (rw q (f.before y.place (rw u at l)))
        before m d y c n p e down_first q u v = down y c q u v
          where
            down : (y : Change) → ChangeBy s m downwards y → m ≡ r.at → y.place ≡ f.place → upwards ≡ a.direction → t y ≡ false
            down y c q u v =
                let same : done c.old ≡ done a.old = sym c.holds ∙ ap (λ i. number_at i s) u ∙ a.holds in
                let o : c.old ≡ a.old = cc in
                let value : y.value ≡ a.old -ℤ pos r.at = c.moved ∙ ap₂ (λ z i. z -ℤ pos i) o q in
                ap t (ap₂ change u value) ∙ a.below (sym v) (number-within (a.old -ℤ pos r.at) (subst IsNumber value c.fits))

    go : Least t (changes_by s) 1 64 x → Nearest moves s x
    go r = let f = by-some t s r.at x r.here in found r f (at_some t s r.at f.place x f.here)

pub none_found : NoneFound
unfolding nearest changes
none_found moves s = (forth, back)
  where
    t : Change → Bool
    t c = moves (applied c s)

    forth : first t (flat_map (changes_by s) (from 1 64)) ≡ none → NoneMoves moves s
    forth e n d x c = at_none t s n d x c (by-none t s n (from-none t (changes_by s) 1 64 e n c.least (let l = c.most in omega arith)) x.place)

    back : NoneMoves moves s → first t (flat_map (changes_by s) (from 1 64)) ≡ none
    back h = none_from t (changes_by s) 1 64 (λ n a b. none-by t s n (none-at t s n a (omega arith) (λ d x c. h n d x c)))
