-- The words that draws give. (docs/GENERATOR.md)
use Rattle.std.specs.Prelude.{◌+◌, ◌/◌, ◌%◌, ◌+ℤ◌, ◌-ℤ◌, ◌||◌, ◌++◌}
use Rattle.refusals.specs.Library.{ℕ, zero, suc, eqb, ℤ, pos, nat_abs, Bool, true, cond, List, []}
use Rattle.numbers.specs.declared.Range.{Range}
use Rattle.numbers.specs.Numbers.{numbers}
use Rattle.text.specs.Text.{bytes}
use Rattle.text_decimals.specs.Decimal.{decimal, integer}
use Rattle.instructions.specs.Kinds.{kind_at}
use Rattle.generate_file.specs.declared.Column.{Column}
use Rattle.generate_file.specs.declared.Column.TheVariants.{Names, Limits, Cycles, Words, Extras, Handles, Known, Open}
use Rattle.generate_file.specs.Draws.{next}

-- a number below n from draw d, a small one more often than a large one: the remainder on n, divided by one of 1 to 8
unfoldable pub below : ℕ → ℕ → ℕ
below n d = (d % n) / suc (d / n % 8)

-- how many numbers a range has
abbrev pub size_of : Range → ℕ
size_of r = suc (nat_abs (r.high -ℤ r.low))

-- a number of a range
unfoldable pub number_in : Range → ℕ → ℤ
number_in r d = r.low +ℤ pos (below (size_of r) d)

-- the number under place i of a column is `least` and a number below `spread`: BUDGET is 1 to 1,000, TICK 1 to 100,000, cycles are 0 to
-- 999, words 0 to 15, extras 0 to 99 under BRANCHIF and BRANCHIFNOT, the kinds 53 and 54, and 0 under the others
abbrev pub least : Column → ℕ
least Limits = 1
least Names = 0
least Cycles = 0
least Words = 0
least Extras = 0
least Handles = 0
least Known = 0
least Open = 0

abbrev pub spread : Column → ℕ → ℕ
spread Limits i = cond (eqb i 0) 1000 100000
spread Cycles i = 1000
spread Words i = 16
spread Extras i = cond (eqb i 53 || eqb i 54) 100 1
spread Names i = 1
spread Handles i = 1
spread Known i = 1
spread Open i = 1

unfoldable pub amount : Column → ℕ → ℕ → ℕ
amount c i d = least c + below (spread c i) d

-- a handle of one of the two blocks
unfoldable pub handle_word : ℕ → List ℕ
handle_word d = bytes "#" ++ decimal (d % 2)

-- a cell that is a number: 0 to 7, or any number
unfoldable pub number_word : ℕ → List ℕ
number_word d = cond (eqb (d / 2 % 2) 0) (decimal (d / 4 % 8)) (integer (number_in numbers d))

-- one that may be unknown
unfoldable pub open_word : ℕ → List ℕ
open_word d = cond (eqb (d % 2) 0) (bytes "?") (number_word d)

-- the word at place i of a column, from draw d
unfoldable pub word : Column → ℕ → ℕ → List ℕ
word Names i d = (kind_at i).name
word Limits i d = decimal (amount Limits i d)
word Cycles i d = decimal (amount Cycles i d)
word Words i d = decimal (amount Words i d)
word Extras i d = decimal (amount Extras i d)
word Handles i d = handle_word d
word Known i d = number_word d
word Open i d = open_word d

-- what follows a word: a space where another word follows, else a line feed
abbrev pub break : Bool → List ℕ
break follows = cond follows (bytes " ") (bytes "\n")

-- whether another word follows one after which n of its row stand
abbrev pub is_going : ℕ → Bool → Bool
is_going zero follows = follows
is_going (suc n) follows = true

-- n words of a column from place i on, by the draws after the state s; `follows` says whether the line goes on after them
unfoldable pub row_from : Column → ℕ → ℕ → Bool → ℕ → List ℕ
row_from c zero i follows s = []
row_from c (suc n) i follows s = word c i (next s) ++ break (is_going n follows) ++ row_from c n (suc i) follows (next s)

-- from the first place on
abbrev pub row : Column → ℕ → Bool → ℕ → List ℕ
row c n follows s = row_from c n 0 follows s
