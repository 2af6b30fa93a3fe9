-- What the words of a code line are, and what the tests of the rows come to on them.
use Rattle.std.specs.Prelude.{◌<◌, ◌+ℤ◌, ◌&&◌, ◌⊎◌, ◌≡◌, Option}
use Rattle.refusals.specs.Library.{ℕ, eqb, ltb, ℤ, pos, length, get_or, Bool, cond, List, []}
use Rattle.file_format.specs.Terms.{all, numeral}
use Rattle.text.specs.Text.{place_among, among}
use Rattle.instructions.specs.Kinds.{kind_names}
use Rattle.file_format.specs.Rows.{is_numeral, argument_of, argument_laid_out, argument_in_range, argument_named, argument_reaches, argument_forward, at, op, arg, on_argument, code_in_range, code_named, code_is_forward}
use Rattle.file_lines.specs.declared.WordTest.TheVariants.{Filled}
use Rattle.file_lines.specs.HeldLines.{word_test}
use Rattle.file_code.specs.declared.CodeWords.{CodeWords}
use Rattle.file_code.specs.declared.Tested.{Tested}

-- whether the words of a line are three, and none is empty
unfoldable pub is_whole : List (List ℕ) → Bool
is_whole ws = all (word_test Filled) ws && eqb (length ws) 3

-- how many bytes the words of a code line have, and the kind that OP names, by its place
pub record Cut (line : List ℕ) (c : CodeWords) : Type 0 where
  pub kind : c.kind ≡ place_among (op line) kind_names
  pub at_length : c.at ≡ length (at line)
  pub op_length : c.op ≡ length (op line)
  pub arg_length : c.arg ≡ length (arg line)

-- the tests of the argument w of the kind at a place, on code line k, where the code has n addresses from `first` on and the primitives are ps
pub record ArgumentTests (first : ℤ) (n : ℕ) (ps : List (List ℕ)) (k : ℕ) (w : List ℕ) (p : Option ℕ) (t : Tested) : Type 0 where
  pub layout : t.layout ≡ argument_of (argument_laid_out w) p
  pub range : t.range ≡ argument_of (argument_in_range w) p
  pub name : t.name ≡ argument_of (argument_named ps w) p
  pub target : t.target ≡ argument_of (argument_reaches first n w) p
  pub forward : t.forward ≡ argument_of (argument_forward (first +ℤ pos k) w) p

-- the tests of rows 2, 3, 4, 6 and 13 on the words of code line k; in row 2 nothing is said of how many words it has
pub record CodeTests (first : ℤ) (n : ℕ) (ps : List (List ℕ)) (k : ℕ) (line : List ℕ) (t : Tested) : Type 0 where
  pub layout : t.layout ≡ (ltb k 1024 && is_numeral (numeral (at line)) && on_argument (argument_laid_out (arg line)) line)
  pub range : t.range ≡ code_in_range k line
  pub name : t.name ≡ code_named first ps k line
  pub target : t.target ≡ on_argument (argument_reaches first n (arg line)) line
  pub forward : t.forward ≡ code_is_forward first k line

-- what is kept of the search for the price of each kind among ks: 1 where it is found, 2 where it is missing, 0 where it was not made
pub record PricesKept (ks : List (List ℕ)) (kept : List ℕ) : Type 0 where
  pub size : length kept ≡ 61
  pub found : (k : ℕ) → k < 61 → (get_or kept k 0 ≡ 0) ⊎ (get_or kept k 0 ≡ cond (among (get_or kind_names k []) ks) 1 2)
