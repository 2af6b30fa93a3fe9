-- What rows 2 and 4 say of a code line, part by part, and that the kind that OP names is known. Assumes nothing.
use Rattle.std.specs.Prelude.{None, Option, Some}
use Prim.Native.Nat.{ℕ, ◌<◌}
use mathlib.Core.Path.{◌≡◌, refl, sym, subst, ◌∙◌}
use mathlib.Core.Bool.{Bool, true, ◌&&◌, false≢true}
use mathlib.Core.List.{List}
use lib.Dec.{eqb, ltb}
use lib.IntN.{pos, ◌+ℤ◌}
use lib.ListN.{length}
use borrow.Author.Tests.{eqb-true, ltb-true}
use Rattle.text.specs.Text.{line_words, Line, place_among, among}
use Rattle.text_decimals.specs.Decimal.{numeral}
use Rattle.text.proofs.TextLaws.{and_left, and_right, is_found, among-place}
use Rattle.numbers.specs.Numbers.{same}
use Rattle.instructions.specs.Kinds.{kind_names, kind_at}
use Rattle.instructions.specs.declared.Argument.{Argument}
use Rattle.file_format.specs.declared.Section.TheVariants.{Primitives as primitives}
use Rattle.file_format.specs.declared.Role.TheVariants.{Names as names, Code as code}
use Rattle.file_format.specs.Layout.{body, listed}
use Rattle.file_format.specs.Rows.{code_laid_out, code_named, is_numeral, value, argument_of, at, op, arg, on_argument, argument_laid_out, argument_named, is_laid_out, first_at, named}

pub record CodeLaidOut (k : ℕ) (text : List ℕ) : Type 0 where
  pub few : k < 1024
  pub three : length (line_words text) ≡ 3
  pub spelt : is_numeral (numeral (at text)) ≡ true
  pub argument : on_argument (argument_laid_out (arg text)) text ≡ true

pub code-laid-out : (ls : List Line) (k : ℕ) (text : List ℕ) → is_laid_out ls (code k) text ≡ true → CodeLaidOut k text
unfolding is_laid_out code_laid_out
code-laid-out ls k text e =
    let few = ltb k 1024 in
    let count = eqb (length (line_words text)) 3 in
    let spelt = is_numeral (numeral (at text)) in
    let argument = on_argument (argument_laid_out (arg text)) text in
    let e₃ = and_left (few && count && spelt) argument e in
    let e₂ = and_left (few && count) spelt e₃ in
    record {
      few = ltb-true k 1024 (and_left few count e₂);
      three = eqb-true (length (line_words text)) 3 (and_right few count e₂);
      spelt = and_right (few && count) spelt e₃;
      argument = and_right (few && count && spelt) argument e;
    }

pub record CodeNamed (ls : List Line) (k : ℕ) (text : List ℕ) : Type 0 where
  pub kind : among (op text) kind_names ≡ true
  pub argument : on_argument (argument_named (listed (names primitives) ls) (arg text)) text ≡ true

pub code-named : (ls : List Line) (k : ℕ) (text : List ℕ) → named ls (code k) text ≡ true → CodeNamed ls k text
unfolding named code_named
code-named ls k text e =
    let follows = same (value (at text)) (first_at (body ls) +ℤ pos k) in
    let kind = among (op text) kind_names in
    let argument = on_argument (argument_named (listed (names primitives) ls) (arg text)) text in
    let e₂ = and_left (follows && kind) argument e in
    record { kind = and_right follows kind e₂; argument = and_right (follows && kind) argument e }

-- a kind's name has a place in the table
pub kind-there : (w : List ℕ) → among w kind_names ≡ true → (k : ℕ) × (place_among w kind_names ≡ Some k)
kind-there w e = go (place_among w kind_names) refl (sym (among-place 0 w kind_names) ∙ e)
  where
    go : (p : Option ℕ) → place_among w kind_names ≡ p → is_found p ≡ true → (k : ℕ) × (place_among w kind_names ≡ Some k)
    go (Some k) q f = (k, q)
    go None q f = absurd (false≢true f)

-- a test of the argument is one of what the kind there calls for
pub on-kind : (t : Argument → Bool) (text : List ℕ) (k : ℕ) → place_among (op text) kind_names ≡ Some k → on_argument t text ≡ true → t (kind_at k).argument ≡ true
unfolding on_argument argument_of
on-kind t text k e h = subst (λ p. argument_of t p ≡ true) e h
