-- The instructions that words hold, with their positions, and what is wrong with words: refusal 12. (document 02, §2)
use Rattle.std.specs.Prelude.{◌+ℤ◌, ◌∷◌, None, Option, Some}
use Rattle.refusals.specs.Library.{ℕ, suc, ltb, ℤ, pos, negsuc, Bool, true, false, cond, List, [], map}
use Rattle.numbers.specs.Numbers.{signed}
use Rattle.instructions.specs.declared.Argument.{Argument}
use Rattle.instructions.specs.declared.Argument.TheVariants.{Absent, Target, Primitive, Within}
use Rattle.instructions.specs.Kinds.{kind_at}
use Rattle.instructions.specs.Opcodes.{place_from, kind_coded}
use Rattle.words.specs.Words.{word_bits, Word, whole, cut}

-- an instruction in words: the index of its opcode, its kind by its place in the table, and its argument word, or 0 where it has none
pub record Item : Type 0 where
  pub index : ℕ
  pub kind : ℕ
  pub argument : ℤ

-- an instruction by its parts
abbrev pub item_of : ℕ → ℕ → ℤ → Item
item_of i k z = record { index = i; kind = k; argument = z }

-- a kind has an argument word exactly where it has an ARG
abbrev pub has_argument : Argument → Bool
has_argument Absent = false
has_argument Target = true
has_argument Primitive = true
has_argument (Within r) = true

-- ---- instructions from words

-- what is read, one after the other: an instruction, or what is no instruction, at its place
pub data Decoded : Type 0 where
  item : Item → Decoded
  unreadable : ℕ → Decoded

-- what the next word is: an opcode, or the argument of the kind k whose opcode is at j
pub data Due : Type 0 where
  opcode : Due
  argument : ℕ → ℕ → Due

-- the opcode at i, with what follows by what is due: "an opcode outside the 61 kinds"
unfoldable pub coded : ℕ → (Due → List Decoded) → Option ℕ → List Decoded
coded i next None = unreadable i ∷ []
coded i next (Some k) = cond (has_argument (kind_at k).argument) (next (argument i k)) (item (item_of i k (pos 0)) ∷ next opcode)

-- the words from index i on: "a cut-off word or argument", "A cut-off argument counts at its opcode", "Argument words are signed"
unfoldable pub decoded_words : Due → ℕ → List Word → List Decoded
decoded_words opcode i [] = []
decoded_words opcode i (cut ∷ ws) = unreadable i ∷ []
decoded_words opcode i (whole w ∷ ws) = coded i (λ d. decoded_words d (suc i) ws) (kind_coded w)
decoded_words (argument j k) i [] = unreadable j ∷ []
decoded_words (argument j k) i (cut ∷ ws) = unreadable j ∷ []
decoded_words (argument j k) i (whole w ∷ ws) = item (item_of j k (signed word_bits w)) ∷ decoded_words opcode (suc i) ws

-- all words
unfoldable pub decoded : List Word → List Decoded
decoded ws = decoded_words opcode 0 ws

-- the instructions among them
unfoldable pub items : List Decoded → List Item
items [] = []
items (item x ∷ es) = x ∷ items es
items (unreadable i ∷ es) = items es

-- ---- refusal 12, all but offsets

-- "C_CALL names a primitive by its place, from 0, on the primitives line", which has n names
unfoldable pub is_place : ℕ → ℤ → Bool
is_place n (pos k) = ltb k n
is_place n (negsuc k) = false

-- "a primitive's place not on its line"
unfoldable pub call_listed : ℕ → ℤ → Argument → Bool
call_listed n z Absent = true
call_listed n z Target = true
call_listed n z Primitive = is_place n z
call_listed n z (Within r) = true

-- "a 1,025th instruction": k stand before; the index of the earliest word at fault
unfoldable pub fault_from : ℕ → ℕ → List Decoded → Option ℕ
fault_from n k [] = None
fault_from n k (unreadable i ∷ es) = Some i
fault_from n k (item x ∷ es) =
    cond (ltb k 1024) (cond (call_listed n x.argument (kind_at x.kind).argument) (fault_from n (suc k) es) (Some (suc x.index))) (Some x.index)

-- "with no word at all the place is 0"
unfoldable pub word_fault : ℕ → List Word → Option ℕ
word_fault n [] = Some 0
word_fault n (w ∷ ws) = fault_from n 0 (decoded (w ∷ ws))

-- ---- refusal 12, offsets

-- "A branch word is an offset from its own position": the index that it leads to
abbrev pub landing : Item → ℤ
landing x = pos (suc x.index) +ℤ x.argument

-- which instruction has its opcode at an index; none: "an offset that lands inside an instruction or outside the words"
unfoldable pub number_at : List Item → ℤ → Option ℕ
number_at xs (pos n) = place_from 0 n (map (λ x. x.index) xs)
number_at xs (negsuc n) = None

-- whether there is one
abbrev pub is_found : Option ℕ → Bool
is_found None = false
is_found (Some k) = true

-- whether an offset, where the kind has one, lands on an opcode
unfoldable pub lands : List Item → Item → Argument → Bool
lands xs x Absent = true
lands xs x Target = is_found (number_at xs (landing x))
lands xs x Primitive = true
lands xs x (Within r) = true

-- the index of the earliest offset at fault, among all instructions xs
unfoldable pub offset_fault : List Item → List Item → Option ℕ
offset_fault xs [] = None
offset_fault xs (y ∷ ys) = cond (lands xs y (kind_at y.kind).argument) (offset_fault xs ys) (Some (suc y.index))

-- "Offsets are looked at only when none of the others is found."
unfoldable pub or_offsets : Option ℕ → List Item → Option ℕ
or_offsets (Some i) xs = Some i
or_offsets None xs = offset_fault xs xs

-- the index of the word that an import refuses, where n primitives are listed
unfoldable pub code_fault : ℕ → List Word → Option ℕ
code_fault n ws = or_offsets (word_fault n ws) (items (decoded ws))

-- how many words a kind takes
unfoldable pub size_of : ℕ → ℕ
size_of k = cond (has_argument (kind_at k).argument) 2 1
