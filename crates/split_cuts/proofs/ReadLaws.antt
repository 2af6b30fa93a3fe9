-- The cuts of a text read into arrays, a line at a time. Assumes nothing.
use Prim.Native.Nat.{ℕ, zero, suc, ◌+◌, ◌-◌, ◌<◌, ◌≤◌}
use mathlib.Core.Path.{◌≡◌, refl, sym, ap, ap₂, ◌∙◌}
use mathlib.Core.List.{List, [], ◌∷◌, map}
use native.Mathlib.Omega.{arith}
use lib.IntN.{ℤ, pos}
use lib.ListN.{length, get_or, take, drop, set, length-set, length-map, get_or-map}
use lib.Seq.{take_all, get_or-take}
use Rattle.text.specs.Text.{Line, no_line, lines}
use Rattle.text.proofs.TextLaws.{find-below}
use Rattle.text.proofs.LineLaws.{lines-some}
use Rattle.file_parts.proofs.FillLaws.{fill_more, line-left, line-next, line-end, line-is}
use Rattle.nearest_changes.specs.Places.{from, all_positions}
use Rattle.nearest_entry.specs.Answers.{name_of}
use Rattle.split_theory.specs.Split.{Cut}
use Rattle.split_theory.specs.Held.{cuts_at, cuts_from, Few}
use Rattle.split_cuts.specs.Cuts.{cell_name, place_number, cut_number, cut_of, cuts_of}

-- there are 193 places
pub place-small : (w : List ℕ) → place_number w ≤ 192
unfolding place_number all_positions from
place-small w = let h = find-below w (map name_of all_positions) (omega arith) in omega arith

-- what a line gives for each of the two arrays
abbrev pub place_in : Line → ℕ
place_in l = place_number (cell_name l.text)

abbrev pub number_in : Line → ℤ
number_in l = cut_number l.text

-- n lines of ls are read, and rest has the others
pub record Filled (ls : List Line) (ks : List ℕ) (vs : List ℤ) (rest : List ℕ) (n : ℕ) : Type 0 where
  pub room : (length ks ≡ 16) × (length vs ≡ 16)
  pub left : lines rest ≡ drop n ls
  pub places : take n ks ≡ take n (map place_in ls)
  pub numbers : take n vs ≡ take n (map number_in ls)

module _ (ls : List Line) (few : length ls ≤ 16) (ks : List ℕ) (vs : List ℤ) (rest : List ℕ) (n : ℕ) (f : Filled ls ks vs rest n) where
  -- another line is left
  pub another : 0 < length rest → n < length ls
  another h = line-left ls (lines rest) n f.left (lines-some rest h)

  pub fill-next : 0 < length rest → (k : ℕ) (v : ℤ) → k ≡ place_in (get_or (lines rest) 0 no_line) → v ≡ number_in (get_or (lines rest) 0 no_line) →
      (next : List ℕ) → lines next ≡ drop 1 (lines rest) → Filled ls (set ks n k) (set vs n v) next (n + 1)
  fill-next h k v p q next e =
      let b = another h in
      let r = f.room in
      let a : n < length ks = omega (arith, r.0) in
      let d : n < length vs = omega (arith, r.1) in
      record {
        room = (length-set ks n k ∙ r.0, length-set vs n v ∙ r.1);
        left = line-next ls (lines rest) (lines next) n f.left e;
        places = fill_more ks (map place_in ls) n k (place_in no_line) a (rw length-map b) (p ∙ line-is place_in ls (lines rest) n f.left) f.places;
        numbers = fill_more vs (map number_in ls) n v (number_in no_line) d (rw length-map b) (q ∙ line-is number_in ls (lines rest) n f.left) f.numbers;
      }

-- what stands at a place does not depend on what stands past the end
within : {A : Type 0} (xs : List A) (i : ℕ) (d e : A) → i < length xs → get_or xs i d ≡ get_or xs i e
within [] i d e h = absurd (omega arith)
within (x ∷ xs) zero d e h = refl
within (x ∷ xs) (suc i) d e h = within xs i d e (omega arith)

module _ {A : Type 0} (g : Line → A) where
  -- entry i of an array that begins with what all lines give
  entry : (ls : List Line) (xs : List A) (n : ℕ) → length ls ≡ n → take n xs ≡ take n (map g ls) → (i : ℕ) (d : A) → i < n → get_or xs i d ≡ g (get_or ls i no_line)
  entry ls xs n c e i d h =
      sym (get_or-take n xs i d h)
      ∙ ap (λ ys. get_or ys i d) (e ∙ take_all n (map g ls) (rw length-map (omega arith)))
      ∙ within (map g ls) i d (g no_line) (rw length-map (omega arith))
      ∙ get_or-map g ls i no_line

-- the cuts of two arrays are those of the lines
listed : (ks : List ℕ) (vs : List ℤ) (ls : List Line) (i : ℕ) →
    ((j : ℕ) → j < length ls → get_or ks (i + j) 0 ≡ place_in (get_or ls j no_line)) →
    ((j : ℕ) → j < length ls → get_or vs (i + j) (pos 0) ≡ number_in (get_or ls j no_line)) →
    cuts_at ks vs i (length ls) ≡ map (λ l. cut_of l.text) ls
unfolding cuts_at cut_of
listed ks vs [] i a b = refl
listed ks vs (l ∷ ls) i a b =
    let z : i + 0 ≡ i = omega arith in
    ap₂ (λ (x : Cut) (xs : List Cut). x ∷ xs)
    (λ t. record { place = Rattle.nearest_changes.specs.Places.position_of ((rw z at (a 0 (omega arith))) t); number = (rw z at (b 0 (omega arith))) t })
    (listed ks vs ls (suc i)
    (λ j h. let e : i + suc j ≡ suc i + j = omega arith in rw e at (a (suc j) (omega arith)))
    (λ j h. let e : i + suc j ≡ suc i + j = omega arith in rw e at (b (suc j) (omega arith))))

module _ (text : List ℕ) (few : length (lines text) ≤ 17) (ks : List ℕ) (vs : List ℤ) (rest : List ℕ) (n : ℕ) (f : Filled (drop 1 (lines text)) ks vs rest n)
    (low : n ≤ length (drop 1 (lines text))) (none : length rest ≡ 0) where
  all_read : length (drop 1 (lines text)) ≡ n
  all_read = let h = line-end rest (drop 1 (lines text)) n f.left none in omega arith

  pub cuts-read : cuts_from (record { places = ks; numbers = vs; count = n }) 0 ≡ cuts_of text
  unfolding cuts_of
  cuts-read =
      let ls = drop 1 (lines text) in
      let z : n - 0 ≡ length ls = omega (arith, all_read) in
      let c = all_read in
      rw z
      (listed ks vs ls 0
      (λ j h. let e : 0 + j ≡ j = omega arith in rw e (entry place_in ls ks n c f.places j 0 (omega arith)))
      (λ j h. let e : 0 + j ≡ j = omega arith in rw e (entry number_in ls vs n c f.numbers j (pos 0) (omega arith))))

  pub cuts-small : n ≤ 16 → Few (record { places = ks; numbers = vs; count = n })
  cuts-small h = record {
    count = h;
    places = λ i b. let ls = drop 1 (lines text) in rw (entry place_in ls ks n all_read f.places i 0 b) (place-small (cell_name (get_or ls i no_line).text));
    room = f.room;
  }
