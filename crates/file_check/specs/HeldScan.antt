-- What the tests of a row look at, and the lines as a scan meets them.
use Rattle.std.specs.Prelude.{◌+◌, ◌-◌, ◌≤◌, ◌<◌, ◌&&◌, ◌⊎◌, ◌≡◌}
use Rattle.refusals.specs.Library.{ℕ, eqb, ltb, leb, length, get_or, Bool, true, false, cond, List}
use Rattle.text.specs.Text.{bytes, Line, equals}
use Rattle.file_format.specs.declared.Section.TheVariants.{Kinds as kinds, Primitives as primitives, Fields as fields, Answers as answers}
use Rattle.file_format.specs.declared.Role.TheVariants.{Names as names, Values as values, Code as code, Answer as answer}
use Rattle.file_format.specs.declared.Role.{Role}
use Rattle.file_format.specs.Layout.{layout, body, lines_of_code, text_at, listed}
use Rattle.file_format.specs.Rows.{block_sizes}
use Rattle.file_format.specs.Routine.{first_address}

-- what the rows look at in the lines ls beside a line itself: lines 3 and 7, the number of blocks, the first address, the number of code lines
pub record Context (ls : List Line) (ks ps : List ℕ) (blocks first count : ℕ) : Type 0 where
  pub kinds_line : ks ≡ text_at (names kinds) layout ls
  pub primitives_line_is : ps ≡ text_at (names primitives) layout ls
  pub blocks_named : blocks ≡ length (block_sizes (listed (names fields) ls))
  pub few_blocks : blocks ≤ 8
  pub address_first : first ≡ first_address (body ls)
  pub code_lines : count ≡ length (lines_of_code (body ls))
  pub few_lines : count ≤ 32768

-- a code line's number is small
abbrev pub Small : Role → Type 0
Small (names s) = Unit {0}
Small (values s c) = Unit {0}
Small (code k) = k ≤ 32768
Small (answer k) = Unit {0}

-- a line that is not code
abbrev pub Other : Role → Type 0
Other (names s) = Unit {0}
Other (values s c) = Unit {0}
Other (code k) = ⊥
Other (answer k) = Unit {0}

-- a line by its two parts
abbrev pub line_with : List ℕ → Bool → Line
line_with text ended = record { text = text; ended = ended }

-- at line i, the heading m, which is the line ANSWER, stands before it and after a code line, or m is 0
pub record HeadingBefore (i m : ℕ) : Type 0 where
  pub heading : (m ≡ 0) ⊎ ((length layout < m) × (m < i))

-- whether line i (from 0) is the heading of the answers: a line of the word ANSWER, after at least one code line
unfoldable pub is_heading : ℕ → List ℕ → Bool
is_heading i text = ltb (length layout) i && equals text (bytes "ANSWER")

-- the role of line i, where the heading is line m, or m is 0 as long as there was none
unfoldable pub role_of : ℕ → ℕ → List ℕ → Role
role_of i m text = cond (ltb i (length layout)) (get_or layout i (code 0)) (cond (ltb 0 m) (answer (i - m - 1)) (cond (is_heading i text) (names answers) (code (i - length layout))))

-- the heading after line i
unfoldable pub heading_after : ℕ → ℕ → List ℕ → ℕ
heading_after i m text = cond (ltb 0 m) m (cond (is_heading i text) i 0)

-- whether a line is missing after the first i, which are all: "A missing line has the number it would have."
unfoldable pub missing : ℕ → ℕ → Bool
missing i m = cond (leb i (length layout)) true (cond (ltb 0 m) (eqb i (m + 1)) false)
