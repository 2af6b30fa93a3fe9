-- What the code holds of words: the instruction at their head, and for each index the instruction whose opcode stands there.
use Rattle.std.specs.Prelude.{◌∷◌, ◌≡◌, None, Option, Some}
use Rattle.refusals.specs.Library.{ℕ, ltb, ℤ, pos, negsuc, get_or, Bool, true, cond, List, [], map}
use Rattle.numbers.specs.Numbers.{signed}
use Rattle.instructions.specs.declared.Argument.{Argument}
use Rattle.instructions.specs.declared.Argument.TheVariants.{Absent, Target, Primitive, Within}
use Rattle.instructions.specs.Kinds.{kind_at}
use Rattle.instructions.specs.Opcodes.{place_from, kind_coded}
use Rattle.words.specs.Words.{word_bits, Word, whole, cut}
use Rattle.words.specs.Decoding.{Item, has_argument, decoded, fault_from, is_found}

-- an instruction that is read: its kind, and its argument
abbrev pub instruction : ℕ → ℤ → Option (ℕ × ℤ)
instruction k z = Some (k, z)

-- kind k with its argument word
unfoldable pub with_argument : ℕ → List Word → Option (ℕ × ℤ)
with_argument k [] = None
with_argument k (cut ∷ ws) = None
with_argument k (whole w ∷ ws) = instruction k (signed word_bits w)

-- the kind of an opcode, with what follows
unfoldable pub head_coded : List Word → Option ℕ → Option (ℕ × ℤ)
head_coded ws None = None
head_coded ws (Some k) = cond (has_argument (kind_at k).argument) (with_argument k ws) (instruction k (pos 0))

-- the instruction at the head of words
unfoldable pub head_of : List Word → Option (ℕ × ℤ)
head_of [] = None
head_of (cut ∷ ws) = None
head_of (whole w ∷ ws) = head_coded ws (kind_coded w)

-- words with no fault but in offsets, where some primitives are listed
pub record Readable (ws : List Word) : Type 0 where
  pub listed : ℕ
  pub sound : fault_from listed 0 (decoded ws) ≡ None

-- a number below 1,024 is that of an instruction, and any other says that there is none
abbrev pub number_held : ℕ → Option ℕ
number_held v = cond (ltb v 1024) (Some v) None

-- the number at an index
unfoldable pub number_in : List ℕ → ℤ → Option ℕ
number_in t (pos n) = number_held (get_or t n 1024)
number_in t (negsuc n) = None

-- t holds at each index the number of the instruction whose opcode stands there
pub record Numbered (xs : List Item) (t : List ℕ) : Type 0 where
  pub at_index : (n : ℕ) → number_held (get_or t n 1024) ≡ place_from 0 n (map (λ x. x.index) xs)

-- whether an offset, where the kind has one, leads to an instruction, by its index z
unfoldable pub lands_in : List ℕ → ℤ → Argument → Bool
lands_in t z Absent = true
lands_in t z Target = is_found (number_in t z)
lands_in t z Primitive = true
lands_in t z (Within r) = true
