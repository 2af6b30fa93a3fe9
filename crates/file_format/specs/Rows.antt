-- Refusals 2 to 6, 13 and 11: each row of the refusal table is a test of one line, and refuses the earliest line that fails it.
-- (document 01, The routine file and Refusal table; document 02 §8)
use Rattle.std.specs.Prelude.{◌+◌, ◌+ℤ◌, ◌&&◌, ◌∷◌, ◌++◌, ◌≡◌, None, Option, Some}
use Rattle.refusals.specs.Library.{ℕ, zero, suc, eqb, ltb, leb, ℤ, pos, nat_abs, le_z, lt_z, length, get_or, take, drop, Bool, true, false, cond, not, List}
use Rattle.refusals.specs.Library.{[]}
use Rattle.machine.specs.Terms.{numbers, within, naturals, Argument, Absent, Target, Primitive, Within, kind_at, kind_names, addresses}
use Rattle.file_format.specs.Terms.{bytes, Line, line_words, is_empty, equals, all, decimal, numeral, Section, limits, kinds, primitives, cells, fields}
use Rattle.file_format.specs.Terms.{instructions, answers, limit, cycles, words-column, extra, cell, names, values}
use Rattle.numbers.specs.declared.Range.{Range}
use Rattle.numbers.specs.Numbers.{same}
use Rattle.text.specs.Text.{parted_by, place_among, among, distinct}
use Rattle.text_decimals.specs.Decimal.{is_digit}
use Rattle.instructions.specs.Kinds.{calls}
use Rattle.file_format.specs.declared.Column.{Column}
use Rattle.file_format.specs.declared.Role.{Role}
use Rattle.file_format.specs.declared.Role.TheVariants.{Code as code, Answer as answer}
use Rattle.file_format.specs.declared.CellWord.{CellWord}
use Rattle.file_format.specs.declared.CellWord.TheVariants.{Wrong as wrong, Unknown as unknown, Known as known, Block as block, Span as span}
use Rattle.file_format.specs.declared.Row.{Row}
use Rattle.file_format.specs.declared.Row.TheVariants.{Layout as Layout-row, Range as range-row, Name as name-row, Price as price-row, Target as target_row, Forward as forward-row, Known as known-row}
use Rattle.file_format.specs.Layout.{body, lines_of_code, roles, list, holds_cells, listed}

-- ---- words

-- "spelling of a number"
unfoldable pub is_numeral : Option ℤ → Bool
is_numeral None = false
is_numeral (Some z) = true

-- the number that a word spells; 0 where it spells none, which row 2 refuses
unfoldable pub value_of : Option ℤ → ℤ
value_of None = pos 0
value_of (Some z) = z

-- the same of a word
unfoldable pub value : List ℕ → ℤ
value w = value_of (numeral w)

-- "number, `?` for unknown, `#k` for block k (0 to 7)"
unfoldable pub known_of : Option ℤ → CellWord
known_of None = wrong
known_of (Some z) = known z

-- what stands after `#`
unfoldable pub block_of : Option ℤ → CellWord
block_of None = wrong
block_of (Some z) = block z

-- "A start or block cell may be `lo..hi`" (document 02 §12)
unfoldable pub span_of : Option ℤ → Option ℤ → CellWord
span_of None n = wrong
span_of (Some lo) None = wrong
span_of (Some lo) (Some hi) = span lo hi

-- how many bytes stand before the first full stop, which is byte 46
abbrev pub stop : List ℕ → ℕ
stop w = length (get_or (parted_by 46 w) 0 [])

-- a number, or two around `..`
unfoldable pub spanned : List ℕ → CellWord
spanned w = cond (eqb (get_or w (stop w) 0) 46 && eqb (get_or w (stop w + 1) 0) 46) (span_of (numeral (take (stop w) w)) (numeral (drop (stop w + 2) w))) (known_of (numeral w))

-- a word that is not `?`: `#` is byte 35
unfoldable pub hashed : List ℕ → CellWord
hashed [] = wrong
hashed (d ∷ ds) = cond (eqb d 35) (block_of (numeral ds)) (spanned (d ∷ ds))

-- what a word on line 11 or 13 says
unfoldable pub cell_word : List ℕ → CellWord
cell_word w = cond (equals w (bytes "?")) unknown (hashed w)

-- whether it is spelt as one of the four
unfoldable pub is_cell : CellWord → Bool
is_cell wrong = false
is_cell unknown = true
is_cell (known z) = true
is_cell (block k) = true
is_cell (span lo hi) = true

-- "`#k` with k outside 0 to 7 is 3"
abbrev pub handles : Range
handles = naturals 0 7

-- "lo above hi is refusal 3"
abbrev pub span_in_range : ℤ → ℤ → Bool
span_in_range lo hi = within numbers lo && within numbers hi && le_z lo hi

-- whether its numbers are in range; a word that row 2 refuses passes
unfoldable pub cell_in_range : CellWord → Bool
cell_in_range wrong = true
cell_in_range unknown = true
cell_in_range (known z) = within numbers z
cell_in_range (block k) = within handles k
cell_in_range (span lo hi) = span_in_range lo hi

-- whether it is not `?` and not "a range of more than one number"; a word that row 2 or 3 refuses passes
unfoldable pub is_single : CellWord → Bool
is_single wrong = true
is_single unknown = false
is_single (known z) = true
is_single (block k) = true
is_single (span lo hi) = cond (span_in_range lo hi) (same lo hi) true

-- "handle to an absent block": n blocks are present
unfoldable pub cell_present : ℕ → CellWord → Bool
cell_present n wrong = true
cell_present n unknown = true
cell_present n (known z) = true
cell_present n (block k) = ltb (nat_abs k) n
cell_present n (span lo hi) = true

-- ---- names

-- "A primitive's name has 1 to 8 characters: capitals, digits, underscore, a capital first."
abbrev pub is_capital : ℕ → Bool
is_capital c = leb 65 c && leb c 90

-- "capitals, digits, underscore"; underscore is byte 95
abbrev pub in_name : ℕ → Bool
in_name c = cond (is_capital c) true (cond (is_digit c) true (eqb c 95))

-- "1 to 8 characters", "a capital first"
unfoldable pub is_name : List ℕ → Bool
is_name [] = false
is_name (c ∷ cs) = is_capital c && all in_name cs && ltb (length cs) 8

-- "ACCU, then S0 on to S31 at most"
unfoldable pub stack_names : ℕ → ℕ → List (List ℕ)
stack_names k zero = []
stack_names k (suc n) = (bytes "S" ++ decimal k) ∷ stack_names (suc k) n

-- the names that line 10 begins with
unfoldable pub cell_names : List (List ℕ)
cell_names = bytes "ACCU" ∷ stack_names 0 32

-- whether two lists of words are the same
unfoldable pub equal_lists : List (List ℕ) → List (List ℕ) → Bool
equal_lists [] [] = true
equal_lists [] (y ∷ ys) = false
equal_lists (x ∷ xs) [] = false
equal_lists (x ∷ xs) (y ∷ ys) = equals x y && equal_lists xs ys

-- whether w is the name of field n of block k: "B0.0 B0.1 and on, block after block, no gap, 1 to 16 fields in each", eight blocks
unfoldable pub is_field : ℕ → ℕ → List ℕ → Bool
is_field k n w = ltb k 8 && ltb n 16 && equals w (bytes "B" ++ decimal k ++ bytes "." ++ decimal n)

-- the sizes of block k, of which n fields are named so far, and of the blocks after it, up to the first name that is out of sequence
unfoldable pub sizes_from : ℕ → ℕ → List (List ℕ) → List ℕ
sizes_from k n [] = n ∷ []
sizes_from k n (w ∷ ws) = cond (is_field k n w) (sizes_from k (suc n) ws) (cond (is_field (suc k) 0 w) (n ∷ sizes_from (suc k) 1 ws) (n ∷ []))

-- the sizes of the blocks that the names make
unfoldable pub block_sizes : List (List ℕ) → List ℕ
block_sizes [] = []
block_sizes (w ∷ ws) = cond (is_field 0 0 w) (sizes_from 0 1 ws) []

-- how many fields blocks of the given sizes have
unfoldable pub total : List ℕ → ℕ
total [] = 0
total (n ∷ ns) = n + total ns

-- ---- a code line: "AT OP ARG"

-- "The ARG of an unknown OP is not looked at.": a test of the argument that the kind at a place calls for, passed where OP is no kind
unfoldable pub argument_of : (Argument → Bool) → Option ℕ → Bool
argument_of t None = true
argument_of t (Some k) = t (kind_at k).argument

-- AT
abbrev pub at : List ℕ → List ℕ
at text = get_or (line_words text) 0 []

-- OP
abbrev pub op : List ℕ → List ℕ
op text = get_or (line_words text) 1 []

-- ARG
abbrev pub arg : List ℕ → List ℕ
arg text = get_or (line_words text) 2 []

-- the same of a code line
unfoldable pub on_argument : (Argument → Bool) → List ℕ → Bool
on_argument t text = argument_of t (place_among (op text) kind_names)

-- "ARG is `-` where none"; a primitive's name is looked up in row 4
unfoldable pub argument_laid_out : List ℕ → Argument → Bool
argument_laid_out w Absent = equals w (bytes "-")
argument_laid_out w Target = is_numeral (numeral w)
argument_laid_out w Primitive = not (equals w (bytes "-"))
argument_laid_out w (Within r) = is_numeral (numeral w)

-- "Targets are addresses, 0 to 62,000."; another number is in the range of its kind
unfoldable pub argument_in_range : List ℕ → Argument → Bool
argument_in_range w Absent = true
argument_in_range w Target = within addresses (value w)
argument_in_range w Primitive = true
argument_in_range w (Within r) = within r (value w)

-- a primitive is one of those named on line 7
unfoldable pub argument_named : List (List ℕ) → List ℕ → Argument → Bool
argument_named ps w a = cond (calls a) (among w ps) true

-- whether an argument is a target
abbrev pub is_target : Argument → Bool
is_target Absent = false
is_target Target = true
is_target Primitive = false
is_target (Within r) = false

-- a target is one of the n addresses from `first` on
unfoldable pub argument_reaches : ℤ → ℕ → List ℕ → Argument → Bool
argument_reaches first n w a = cond (is_target a) (le_z first (value w) && lt_z (value w) (first +ℤ pos n)) true

-- "A branch to its own address or a lower one is refused": a target is above the address `own` (document 02 §8)
unfoldable pub argument_forward : ℤ → List ℕ → Argument → Bool
argument_forward own w a = cond (is_target a) (lt_z own (value w)) true

-- ---- ranges and counts of the table

-- "AT starts anywhere from 0 to 60,000 and rises by one"
abbrev pub first_addresses : Range
first_addresses = naturals 0 60000

-- "a later AT outside 0 to 62,000 is refusal 3"
abbrev pub at_range : ℕ → Range
at_range zero = first_addresses
at_range (suc k) = addresses

-- "1 to 1,000,000"
abbrev pub budgets : Range
budgets = naturals 1 1000000

-- "cycles per tick, 1 to 4,000,000,000"
abbrev pub ticks : Range
ticks = naturals 1 4000000000

-- "cycles 0 to 65,535"
abbrev pub cycle_counts : Range
cycle_counts = naturals 0 65535

-- "words 0 to 255"
abbrev pub word_counts : Range
word_counts = naturals 0 255

-- "extra cycles when BRANCHIF or BRANCHIFNOT jumps, 0 to 65,535" (document 02 §1)
abbrev pub extra_counts : Range
extra_counts = naturals 0 65535

-- "Other kinds must hold 0 there"
abbrev pub no_extra : Range
no_extra = naturals 0 0

-- the range of the extra under a name, a kind's or any other
unfoldable pub extra_range : List ℕ → Range
extra_range name = cond (among name (bytes "BRANCHIF" ∷ bytes "BRANCHIFNOT" ∷ [])) extra_counts no_extra

-- extras, each in the range of the name at its place
unfoldable pub extras_in_range : List (List ℕ) → List (List ℕ) → Bool
extras_in_range ns [] = true
extras_in_range ns (w ∷ ws) = within (extra_range (get_or ns 0 [])) (value w) && extras_in_range (drop 1 ns) ws

-- the values of a line under the names ns, each in its range
unfoldable pub column_in_range : Column → List (List ℕ) → List (List ℕ) → Bool
column_in_range limit ns ws = within budgets (value (get_or ws 0 [])) && within ticks (value (get_or ws 1 []))
column_in_range cycles ns ws = all (λ w. within cycle_counts (value w)) ws
column_in_range words-column ns ws = all (λ w. within word_counts (value w)) ws
column_in_range extra ns ws = extras_in_range ns ws
column_in_range cell ns ws = all (λ w. cell_in_range (cell_word w)) ws

-- the values of a line, each rightly spelt
unfoldable pub column_laid_out : Column → List (List ℕ) → Bool
column_laid_out limit ws = all (λ w. is_numeral (numeral w)) ws
column_laid_out cycles ws = all (λ w. is_numeral (numeral w)) ws
column_laid_out words-column ws = all (λ w. is_numeral (numeral w)) ws
column_laid_out extra ws = all (λ w. is_numeral (numeral w)) ws
column_laid_out cell ws = all (λ w. is_cell (cell_word w)) ws

-- ---- the rows

-- a test of each word on a line of cells; any other line passes
unfoldable pub on_cells : (List ℕ → Bool) → Role → List ℕ → Bool
on_cells t r text = cond (holds_cells r) (all t (list text)) true

-- a test of a code line; any other line passes
unfoldable pub on_code : (List ℕ → Bool) → Role → List ℕ → Bool
on_code t (names s) text = true
on_code t (values s c) text = true
on_code t (code k) text = t text
on_code t (answer k) text = true

-- row 2 on a line of names: "a wrong fixed word (BUDGET TICK, AT OP ARG, ANSWER), an empty list on line 9", which is line 10 since §1 of
-- document 02, and "a 33rd primitive"
unfoldable pub names_laid_out : Section → List ℕ → Bool
names_laid_out limits text = equals text (bytes "BUDGET TICK")
names_laid_out kinds text = true
names_laid_out primitives text = leb (length (list text)) 32
names_laid_out cells text = not (is_empty (list text))
names_laid_out fields text = true
names_laid_out instructions text = equals text (bytes "AT OP ARG")
names_laid_out answers text = equals text (bytes "ANSWER")

-- on a line of values: "fewer or more values than names (at the line of values)"
unfoldable pub values_laid_out : Column → List (List ℕ) → List (List ℕ) → Bool
values_laid_out c ns ws = eqb (length ws) (length ns) && column_laid_out c ws

-- on code line k: "a 1,025th code line", "spelling of a number, an ARG missing or not called for"
unfoldable pub code_laid_out : ℕ → List ℕ → Bool
code_laid_out k text = ltb k 1024 && eqb (length (line_words text)) 3 && is_numeral (numeral (at text)) && on_argument (argument_laid_out (arg text)) text

-- row 2: "layout, counts, spelling of a number, an ARG missing or not called for"; among the answers "a 65th answer"
unfoldable pub is_laid_out : List Line → Role → List ℕ → Bool
is_laid_out ls (names s) text = names_laid_out s text
is_laid_out ls (values s c) text = values_laid_out c (listed (names s) ls) (list text)
is_laid_out ls (code k) text = code_laid_out k text
is_laid_out ls (answer k) text = ltb k 64 && is_numeral (numeral text)

-- row 3 on code line k
unfoldable pub code_in_range : ℕ → List ℕ → Bool
code_in_range k text = within (at_range k) (value (at text)) && on_argument (argument_in_range (arg text)) text

-- row 3: "number outside its range"; an answer is any number, "An argument, start or block cell, or answer outside that is refusal 3."
unfoldable pub in_range : List Line → Role → List ℕ → Bool
in_range ls (names s) text = true
in_range ls (values s c) text = column_in_range c (listed (names s) ls) (list text)
in_range ls (code k) text = code_in_range k text
in_range ls (answer k) text = within numbers (value text)

-- row 4 on a line of names: "name unknown, repeated or out of sequence"
unfoldable pub well_named : Section → List (List ℕ) → Bool
well_named limits ws = true
well_named kinds ws = all (λ w. among w kind_names) ws && distinct ws
well_named primitives ws = all is_name ws && distinct ws
well_named cells ws = equal_lists ws (take (length ws) cell_names)
well_named fields ws = eqb (total (block_sizes ws)) (length ws)
well_named instructions ws = true
well_named answers ws = true

-- the first address, that "of the first AT line"
unfoldable pub first_at : List Line → ℤ
first_at [] = pos 0
first_at (l ∷ ls) = value (at l.text)

-- on code line k, where the first address is `first` and the primitives are ps: also "AT not following"
unfoldable pub code_named : ℤ → List (List ℕ) → ℕ → List ℕ → Bool
code_named first ps k text =
    same (value (at text)) (first +ℤ pos k) && among (op text) kind_names && on_argument (argument_named ps (arg text)) text

-- row 4: also "handle to an absent block"
unfoldable pub named : List Line → Role → List ℕ → Bool
named ls (names s) text = well_named s (list text)
named ls (values s c) text = on_cells (λ w. cell_present (length (block_sizes (listed (names fields) ls))) (cell_word w)) (values s c) text
named ls (code k) text = code_named (first_at (body ls)) (listed (names primitives) ls) k text
named ls (answer k) text = true

-- row 5: "kind in the code without a price"
unfoldable pub priced : List Line → Role → List ℕ → Bool
priced ls r text = on_code (λ t. among (op t) (listed (names kinds) ls)) r text

-- row 6: "target not an address of the code"
unfoldable pub reaches : List Line → Role → List ℕ → Bool
reaches ls r text = on_code (λ t. on_argument (argument_reaches (first_at (body ls)) (length (lines_of_code (body ls))) (arg t)) t) r text

-- row 13 on code line k, where the first address is `first`
unfoldable pub code_is_forward : ℤ → ℕ → List ℕ → Bool
code_is_forward first k text = on_argument (argument_forward (first +ℤ pos k) (arg text)) text

-- row 13: "A branch to its own address or a lower one is refused, even where known numbers would end the loop."
unfoldable pub forward : List Line → Role → List ℕ → Bool
forward ls (names s) text = true
forward ls (values s c) text = true
forward ls (code k) text = code_is_forward (first_at (body ls)) k text
forward ls (answer k) text = true

-- row 11: "run only: a `?` on line 10, then 12", which are lines 11 and 13 since §1 of document 02; "A run refuses a range of more than one number as it does `?`." (document 02 §12)
unfoldable pub all_known : Role → List ℕ → Bool
all_known r text = on_cells (λ w. is_single (cell_word w)) r text

-- the test of a row on one line; in row 2 also "Each line ends in a line feed" and "words are parted by one space"
unfoldable pub test : Row → List Line → Role → Line → Bool
test Layout-row ls r l = l.ended && all (λ w. not (is_empty w)) (line_words l.text) && is_laid_out ls r l.text
test range-row ls r l = in_range ls r l.text
test name-row ls r l = named ls r l.text
test price-row ls r l = priced ls r l.text
test target_row ls r l = reaches ls r l.text
test forward-row ls r l = forward ls r l.text
test known-row ls r l = all_known r l.text

-- the earliest line that fails a test, counted from n; "A missing line has the number it would have."
unfoldable pub earliest : (Role → Line → Bool) → ℕ → List Role → List Line → Option ℕ
earliest t n [] ls = None
earliest t n (r ∷ rs) [] = Some n
earliest t n (r ∷ rs) (l ∷ ls) = cond (t r l) (earliest t (suc n) rs ls) (Some n)

-- "each over the whole file, earliest line first"
unfoldable pub refused_line : Row → List Line → Option ℕ
refused_line row ls = earliest (test row ls) 1 (roles ls) ls

-- a text that refusals 2 to 6 and 13 let through
pub record Passes (ls : List Line) : Type 0 where
  pub layout : refused_line Layout-row ls ≡ None
  pub range : refused_line range-row ls ≡ None
  pub names : refused_line name-row ls ≡ None
  pub prices : refused_line price-row ls ≡ None
  pub targets : refused_line target_row ls ≡ None
  pub forward : refused_line forward-row ls ≡ None
