-- Laws of an array that is filled in the order of a list. Assumes nothing.
use Prim.Native.Nat.{ℕ, zero, suc, ◌+◌, ◌<◌, ◌≤◌}
use mathlib.Core.Path.{◌≡◌, refl, sym, ap, ap₂, ◌∙◌}
use mathlib.Core.List.{List, [], ◌∷◌, ◌++◌, map}
use native.Mathlib.Omega.{arith}
use native.Mathlib.Numerals.{add-one}
use lib.ListN.{length, get_or, take, drop, set, length-drop, get_or-map}
use lib.Seq.{take_all, take-suc, take-suc-set, drop-set-add, get_or-drop, drop-drop}
use Rattle.text.specs.Text.{Line, no_line, lines}
use Rattle.text.proofs.LineLaws.{line-drop, lines_none}

module _ {A : Type 0} where
  -- one more entry
  pub fill_more : (xs ys : List A) (i : ℕ) (v d : A) → i < length xs → i < length ys → v ≡ get_or ys i d → take i xs ≡ take i ys → take (i + 1) (set xs i v) ≡ take (i + 1) ys
  fill_more xs ys i v d h k e q =
      rw add-one (take-suc-set xs i v h ∙ ap₂ (λ (l : List A) (x : A). l ++ (x ∷ [])) q e ∙ sym (take-suc ys i d k))

  -- every entry
  pub fill-all : (xs ys : List A) (i : ℕ) → length xs ≤ i → length ys ≤ i → take i xs ≡ take i ys → xs ≡ ys
  fill-all xs ys i h k q = sym (take_all i xs h) ∙ q ∙ take_all i ys k

  -- the same in the places from p on, of what follows in a list after its first q entries
  pub fill-past : (xs ys : List A) (p q i : ℕ) (v d : A) → p + i < length xs → q + i < length ys → v ≡ get_or ys (q + i) d
      → take i (drop p xs) ≡ take i (drop q ys) → take (i + 1) (drop p (set xs (p + i) v)) ≡ take (i + 1) (drop q ys)
  fill-past xs ys p q i v d h k e t =
      let h' : i < length (drop p xs) = rw length-drop (omega arith) in
      let k' : i < length (drop q ys) = rw length-drop (omega arith) in
      ap (take (i + 1)) (drop-set-add p xs i v) ∙ fill_more (drop p xs) (drop q ys) i v d h' k' (e ∙ sym (get_or-drop q ys i d)) t

module _ {A B : Type 0} (f : A → B) where
  pub take-map : (n : ℕ) (l : List A) → take n (map f l) ≡ map f (take n l)
  take-map zero l = refl
  take-map (suc n) [] = refl
  take-map (suc n) (x ∷ l) = ap (λ (m : List B). f x ∷ m) (take-map n l)

-- the lines of a text one after the other: the first that is left, and those after it

pub line-left : (ls rest : List Line) (n : ℕ) → rest ≡ drop n ls → 0 < length rest → n < length ls
line-left ls rest n e h = let m : length rest ≡ length (drop n ls) = ap length e in omega (arith, length-drop n ls)

pub line-next : (ls rest next : List Line) (n : ℕ) → rest ≡ drop n ls → next ≡ drop 1 rest → next ≡ drop (n + 1) ls
line-next ls rest next n e q = q ∙ ap (drop 1) e ∙ drop-drop 1 n ls

pub line-end : (s : List ℕ) (ls : List Line) (n : ℕ) → lines s ≡ drop n ls → length s ≡ 0 → length ls ≤ n
line-end s ls n e h =
    let m : length (drop n ls) ≡ 0 = sym (ap length e) ∙ ap length (lines_none s (omega arith)) in
    omega (arith, length-drop n ls)

-- what a function says of line n
pub line-is : {B : Type 0} (f : Line → B) (ls rest : List Line) (n : ℕ) → rest ≡ drop n ls → f (get_or rest 0 no_line) ≡ get_or (map f ls) n (f no_line)
line-is f ls rest n e = ap f (line-drop ls rest n e) ∙ sym (get_or-map f ls n no_line)
