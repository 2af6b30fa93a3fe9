-- "32-bit little-endian words" (document 02, §2)
use Rattle.std.specs.Prelude.{◌+◌, ◌*◌, ◌/◌, ◌%◌, ◌∷◌, ◌++◌}
use Rattle.refusals.specs.Library.{ℕ, List, []}

-- the width of a word
abbrev pub word_bits : ℕ
word_bits = 32

-- a word of four bytes, or one that is cut off, of 1 to 3
pub data Word : Type 0 where
  whole : ℕ → Word
  cut : Word

-- the number of four bytes, the lowest first
abbrev pub little_endian : ℕ → ℕ → ℕ → ℕ → ℕ
little_endian a b c d = a + b * 256 + c * 65536 + d * 16777216

-- the words that bytes make
unfoldable pub words_of : List ℕ → List Word
words_of [] = []
words_of (a ∷ []) = cut ∷ []
words_of (a ∷ b ∷ []) = cut ∷ []
words_of (a ∷ b ∷ c ∷ []) = cut ∷ []
words_of (a ∷ b ∷ c ∷ d ∷ bs) = whole (little_endian a b c d) ∷ words_of bs

-- the bytes of a word
unfoldable pub bytes_of : ℕ → List ℕ
bytes_of n = n % 256 ∷ n / 256 % 256 ∷ n / 65536 % 256 ∷ n / 16777216 % 256 ∷ []

-- the bytes of several, one after the other
unfoldable pub all_bytes : List ℕ → List ℕ
all_bytes [] = []
all_bytes (n ∷ ns) = bytes_of n ++ all_bytes ns
