-- A text is the list of its bytes. Lines end in a line feed (byte 10), and words are parted by one space (byte 32).
-- Nothing here knows how long a text may be.
use Rattle.std.specs.Prelude.{◌&&◌, ◌∷◌, ◌++◌, None, Option, Some}
use Rattle.refusals.specs.Library.{ℕ, suc, String, eqb, Bool, true, false, cond, not, List, []}
use Prim.Native.Char.{code}
use Prim.Native.String.{[] as ends, ◌∷◌ as ◌then◌}
use Rattle.text.specs.declared.Lookup.{Lookup}

-- the bytes of a quoted text, which is ASCII
abbrev pub bytes : String → List ℕ
bytes ends = []
bytes (◌then◌ c s) = code c ∷ bytes s

-- whether a list is empty
abbrev pub is_empty {ℓ} : {A : Type ℓ} → List A → Bool
is_empty [] = true
is_empty (x ∷ xs) = false

-- whether two texts are the same
unfoldable pub equals : List ℕ → List ℕ → Bool
equals [] [] = true
equals [] (y ∷ ys) = false
equals (x ∷ xs) [] = false
equals (x ∷ xs) (y ∷ ys) = cond (eqb x y) (equals xs ys) false

-- x in front of the first piece
abbrev pub onto : ℕ → List (List ℕ) → List (List ℕ)
onto x [] = (x ∷ []) ∷ []
onto x (w ∷ ws) = (x ∷ w) ∷ ws

-- the pieces of a text that the byte c parts: one more than c stands in it
unfoldable pub parted_by : ℕ → List ℕ → List (List ℕ)
parted_by c [] = [] ∷ []
parted_by c (x ∷ xs) = cond (eqb x c) ([] ∷ parted_by c xs) (onto x (parted_by c xs))

-- pieces with the byte c between them
unfoldable pub joined : ℕ → List (List ℕ) → List ℕ
joined c [] = []
joined c (w ∷ []) = w
joined c (w ∷ v ∷ ws) = w ++ c ∷ joined c (v ∷ ws)

-- "words are parted by one space": an empty word shows a space too many
unfoldable pub line_words : List ℕ → List (List ℕ)
line_words line = parted_by 32 line

-- a line, and whether a line feed ends it
pub record Line : Type 0 where
  pub text : List ℕ
  pub ended : Bool

-- what stands past the last line
abbrev pub no_line : Line
no_line = record { text = []; ended = false }

-- the last piece is a line only if it holds a byte, and then no line feed ends it
unfoldable pub lines_of : List (List ℕ) → List Line
lines_of [] = []
lines_of (p ∷ []) = cond (is_empty p) [] (record { text = p; ended = false } ∷ [])
lines_of (p ∷ q ∷ ps) = record { text = p; ended = true } ∷ lines_of (q ∷ ps)

-- "Each line ends in a line feed"
unfoldable pub lines : List ℕ → List Line
lines text = lines_of (parted_by 10 text)

-- the bytes of lines that each end in a line feed
unfoldable pub lines_text : List Line → List ℕ
lines_text [] = []
lines_text (l ∷ ls) = l.text ++ bytes "\n" ++ lines_text ls

-- where the first of the given words is w, counted from k, if it is one of them
abbrev pub place_from : ℕ → List ℕ → List (List ℕ) → Option ℕ
place_from k w [] = None
place_from k w (x ∷ xs) = cond (equals w x) (Some k) (place_from (suc k) w xs)

-- counted from 0
abbrev pub place_among : List ℕ → List (List ℕ) → Option ℕ
place_among w ws = place_from 0 w ws

-- "how many names it looked at: those up to and with the one sought, or all of them where that one is missing" (document 02 §5)
abbrev pub looked : List ℕ → List (List ℕ) → ℕ
looked w [] = 0
looked w (x ∷ xs) = suc (cond (equals w x) 0 (looked w xs))

-- what looking w up among the given words comes to
abbrev pub lookup : List ℕ → List (List ℕ) → Lookup
lookup w ws = record { place = place_among w ws; looked = looked w ws }

-- a place as an index; 0 where the word is missing
abbrev pub index_of : Option ℕ → ℕ
index_of (Some k) = k
index_of None = 0

-- the place of w as an index
unfoldable pub find : List ℕ → List (List ℕ) → ℕ
find w ws = index_of (place_among w ws)

-- whether w is one of the given words
unfoldable pub among : List ℕ → List (List ℕ) → Bool
among w [] = false
among w (x ∷ xs) = cond (equals w x) true (among w xs)

-- whether all pass a test
unfoldable pub all : {A : Type 0} → (A → Bool) → List A → Bool
all t [] = true
all t (x ∷ xs) = t x && all t xs

-- whether no word stands twice
unfoldable pub distinct : List (List ℕ) → Bool
distinct [] = true
distinct (w ∷ ws) = not (among w ws) && distinct ws
