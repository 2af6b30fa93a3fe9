-- What the code's prices and codes stand for. The parts of a routine are those of file_format/specs/Routine.
use Rattle.std.specs.Prelude.{◌+◌, ◌*◌, ◌%◌, ◌≤◌, ◌<◌, ◌≡◌, None, Option, Some}
use Rattle.refusals.specs.Library.{ℕ, zero, suc, leb, length, get_or, set, List, []}
use Rattle.file_format.specs.Terms.{find}
use Rattle.text.specs.Text.{Line}
use Rattle.numbers.specs.declared.Range.{Range}
use Rattle.numbers.specs.Numbers.{naturals}
use Rattle.instructions.specs.Kinds.{Kind, calls, kind_names, kind_at}
use Rattle.instructions.specs.HeldColumns.{operation_code}
use Rattle.file_format.specs.Layout.{up_to_answer, lines_of_code, list}
use Rattle.file_format.specs.Rows.{cycle_counts, word_counts, extra_counts}
use Rattle.file_format.specs.Routine.{natural_at, PriceList}

-- a range of prices: two of them are a number of 32 bits
pub record PriceRange (r : Range) : Type 0 where
  pub greatest : ℕ
  pub is : r ≡ naturals 0 greatest
  pub small : greatest ≤ 65535

-- the prices on three lines, by their texts: names, cycles, words
abbrev pub prices_on : List ℕ → List ℕ → List ℕ → PriceList
prices_on ns cs ws = record { names = list ns; cycles = list cs; words = list ws }

-- the first word b of a line of kind k: its operation's code, 32 more where it pushes first, and 64 more where it calls a primitive
pub record Coded (k : Kind) (b : ℕ) : Type 0 where
  pub code : b % 32 ≡ operation_code k.operation
  pub pushes : leb 32 (b % 64) ≡ k.pushes
  pub calls : leb 64 b ≡ calls k.argument

-- where what is kept of the kind at a place begins: five words for each of 61 kinds, and five more for a name that no kind has
abbrev pub slot_of : Option ℕ → ℕ
slot_of (Some k) = k * 5
slot_of None = 305

-- what is kept of a kind: the first word b of its lines, and the cycles c, the words w and the extra x that stand under its name op
pub record KindPrice (ks : PriceList) (xs : List (List ℕ)) (op : List ℕ) (b c w x : ℕ) : Type 0 where
  pub coded : Coded (kind_at (find op kind_names)) b
  pub cycles : c ≡ natural_at cycle_counts ks.cycles (find op ks.names)
  pub words : w ≡ natural_at word_counts ks.words (find op ks.names)
  pub extra : x ≡ natural_at extra_counts xs (find op ks.names)

-- in the words ws from s on; the second of the five is 1 where they are kept
abbrev pub PriceAt : PriceList → List (List ℕ) → List ℕ → List ℕ → ℕ → Type 0
PriceAt ks xs op ws s = KindPrice ks xs op (get_or ws s 0) (get_or ws (s + 2) 0) (get_or ws (s + 3) 0) (get_or ws (s + 4) 0)

-- all that is kept is so
pub record KindsKept (ks : PriceList) (xs : List (List ℕ)) (ws : List ℕ) : Type 0 where
  pub size : length ws ≡ 310
  pub other : get_or ws 306 0 ≡ 0
  pub found : (k : ℕ) → k < 61 → get_or ws (k * 5 + 1) 0 ≡ 1 → PriceAt ks xs (get_or kind_names k []) ws (k * 5)

-- the five words of a line put over those from place k on
abbrev pub put_line : List ℕ → ℕ → ℕ → ℕ → ℕ → ℕ → ℕ → List ℕ
put_line ws k b o c w x = set (set (set (set (set ws k b) (k + 1) o) (k + 2) c) (k + 3) w) (k + 4) x

-- the code lines among those that are left of a routine's after n of them: the first of all is one, and so are those up to a line ANSWER
unfoldable pub code_left : ℕ → List Line → List Line
code_left zero ls = lines_of_code ls
code_left (suc n) ls = up_to_answer ls
