-- Laws of the lines of code: a line is read as its address, its kind and its argument, and no row refuses it. Assumes nothing.
use Rattle.std.specs.Prelude.{Some}
use mathlib.Core.Path.{◌≡◌, refl, sym, ap, subst, ◌∙◌}
use mathlib.Core.Bool.{Bool, true, false, cond, not}
use mathlib.Core.List.{List, [], ◌∷◌, ◌++◌, append_assoc}
use Prim.Native.Nat.{ℕ, zero, suc, ◌+◌, ◌-◌, ◌/◌, ◌%◌, ◌<◌, ◌≤◌}
use native.Mathlib.Nat.{mod-lt}
use native.Mathlib.Omega.{arith}
use lib.Dec.{eqb, ltb}
use lib.IntN.{pos, ◌+ℤ◌}
use lib.ListN.{length, length-append, get_or}
use borrow.Author.Tests.{le-leb, lt-ltb, ltb-true, eq-eqb}
use Rattle.text.specs.Text.{bytes, is_empty, equals, parted_by, line_words, Line, place_among, find, among, all}
use Rattle.text_decimals.specs.Decimal.{numeral, decimal}
use Rattle.text.proofs.TextLaws.{none, more, every_append, among-at, among-find, equals-path}
use Rattle.text_decimals.proofs.DecimalLaws.{decimal-length}
use Rattle.text.proofs.LineLaws.{ended_line}
use Rattle.numbers.specs.Numbers.{within, same}
use Rattle.numbers.proofs.SignedLaws.{number_fits}
use Rattle.instructions.specs.Kinds.{kinds, kind_names, kind_at}
use Rattle.instructions.specs.declared.Argument.{Argument}
use Rattle.instructions.specs.declared.Argument.TheVariants.{Absent, Target, Primitive, Within}
use Rattle.instructions.proofs.ColumnLaws.{column-at, names-count}
use Rattle.text_decimals.proofs.IntegerLaws.{integer-length}
use Rattle.file_format.specs.declared.Section.TheVariants.{Kinds as kinds-section, Primitives as primitives-section}
use Rattle.file_format.specs.declared.Role.TheVariants.{Names as names, Code as code}
use Rattle.file_format.specs.declared.Row.TheVariants.{Layout as Layout-row, Range as range-row, Name as name-row, Price as price-row, Target as target_row, Forward as forward-row}
use Rattle.file_format.specs.Layout.{is_answer, body, lines_of_code, listed}
use Rattle.file_format.specs.Rows.{is_numeral, value, at, op, arg, argument_of, on_argument, argument_laid_out, argument_in_range, argument_named, argument_reaches, argument_forward, at_range, code_laid_out, is_laid_out, code_in_range, in_range, code_named, named, first_at, on_code, priced, reaches, code_is_forward, forward, test}
use Rattle.text_decimals.proofs.SpellingLaws.{integer-read, decimal-free}
use Rattle.text.proofs.JoinLaws.{Free, text-free, split-alone, split-first}
use Rattle.instructions.proofs.KindNameLaws.{kind-name, name-known}
use Rattle.generate_file.specs.Draws.{after}
use Rattle.generate_file.specs.Words.{number_in}
use Rattle.generate_file.specs.File.{count, kind_of, primitives, target, argument, line_of, code_line}
use Rattle.generate_file.proofs.NumberLaws.{sound_argument, kind-sound, number-within, number_is}
use Rattle.generate_file.proofs.WordLaws.{Plain, plain-decimal, plain-integer, plain-name}
use Rattle.generate_file.proofs.RowLaws.{words-filled, within-natural, value-decimal, value-integer, numeral-decimal}

pub count-few : (seed : ℕ) → count seed < 200
unfolding count
count-few seed = omega arith

-- ---- the kind

pub kind-below : (seed k : ℕ) → kind_of seed k < 61
unfolding kind_of
kind-below seed k = go (ltb k (count seed)) _ (omega arith)
  where
    go : (b : Bool) (m : ℕ) → m < 61 → cond b m 60 < 61
    go true m h = h
    go false m h = omega arith

name-at : (k : ℕ) → k < 61 → get_or kind_names k [] ≡ (kind_at k).name
unfolding kinds kind_names
name-at k h = column-at (λ r. r.name) (λ w. w) (λ r. r.name) [] refl k h

pub name-among : (k : ℕ) → k < 61 → among (kind_at k).name kind_names ≡ true
name-among k h = subst (λ w. among w kind_names ≡ true) (name-at k h) (among-at kind_names k (rw names-count h))

pub name-place : (k : ℕ) → k < 61 → place_among (kind_at k).name kind_names ≡ Some k
name-place k h =
    let w = (kind_at k).name in
    let f = (among-find w kind_names (name-among k h)).0 in
    let n = kind-name w (name-among k h) in
    f ∙ ap Some (name-known (find w kind_names) k n.0 h n.1)

-- ---- the argument

primitive-plain : (i : ℕ) → i < 4 → Plain (get_or primitives i [])
unfolding all
primitive-plain zero h = record { spaceless = text-free 32 (bytes "READ") refl; feedless = text-free 10 (bytes "READ") refl; filled = refl; short = omega arith }
primitive-plain (suc zero) h = record { spaceless = text-free 32 (bytes "WRITE") refl; feedless = text-free 10 (bytes "WRITE") refl; filled = refl; short = omega arith }
primitive-plain (suc (suc zero)) h = record { spaceless = text-free 32 (bytes "CLOCK") refl; feedless = text-free 10 (bytes "CLOCK") refl; filled = refl; short = omega arith }
primitive-plain (suc (suc (suc zero))) h = record { spaceless = text-free 32 (bytes "NOISE") refl; feedless = text-free 10 (bytes "NOISE") refl; filled = refl; short = omega arith }
primitive-plain (suc (suc (suc (suc i)))) h = absurd (omega arith)

primitive-no-dash : (i : ℕ) → i < 4 → not (equals (get_or primitives i []) (bytes "-")) ≡ true
unfolding equals
primitive-no-dash zero h = refl
primitive-no-dash (suc zero) h = refl
primitive-no-dash (suc (suc zero)) h = refl
primitive-no-dash (suc (suc (suc zero))) h = refl
primitive-no-dash (suc (suc (suc (suc i)))) h = absurd (omega arith)

-- a target is after its line, and at most the closing STOP
pub target-after : (n k d : ℕ) → k < n → k < target n k d
unfolding target
target-after n k d h = go (eqb (d / (n - k) % 16) 0) _ (mod-lt d (omega arith))
  where
    go : (b : Bool) (m : ℕ) → m < n - k → k < n - cond b m 0
    go true m l = omega arith
    go false m l = omega arith

pub target-within : (n k d : ℕ) → target n k d ≤ n
unfolding target
target-within n k d = omega arith

-- what the rows say of an argument, on line k of n + 1
pub record Argued (n k : ℕ) (w : List ℕ) (a : Argument) : Type 0 where
  pub plain : Plain w
  pub laid : argument_laid_out w a ≡ true
  pub ranged : argument_in_range w a ≡ true
  pub named : argument_named primitives w a ≡ true
  pub reached : argument_reaches (pos 0) (suc n) w a ≡ true
  pub forward : argument_forward (pos 0 +ℤ pos k) w a ≡ true

pub argued-absent : (n k d : ℕ) → Argued n k (argument n k d Absent) Absent
unfolding argument argument_laid_out argument_in_range argument_named argument_reaches argument_forward all equals
argued-absent n k d = record {
  plain = record { spaceless = text-free 32 (bytes "-") refl; feedless = text-free 10 (bytes "-") refl; filled = refl; short = omega arith };
  laid = refl;
  ranged = refl;
  named = refl;
  reached = refl;
  forward = refl;
}

pub argued : (n k d : ℕ) → k < n → n < 200 → (a : Argument) → sound_argument a ≡ true → Argued n k (argument n k d a) a
unfolding argument argument_laid_out argument_in_range argument_named argument_reaches argument_forward is_numeral value
argued n k d h m Absent s = argued-absent n k d
argued n k d h m Target s =
    let t = target n k d in
    let low = target-after n k d h in
    let high = target-within n k d in
    let v = value-decimal t in
    record {
      plain = plain-decimal t (omega arith);
      laid = numeral-decimal t;
      ranged = rw v (within-natural 0 62000 t (omega arith) (omega arith));
      named = refl;
      reached = rw v (rw (le-leb 0 t (omega arith), lt-ltb t (0 + suc n) (omega arith)) refl);
      forward = rw v (lt-ltb (0 + k) t (omega arith));
    }
argued n k d h m Primitive s =
    let i = d % 4 in
    let l : i < 4 = mod-lt d (omega arith) in
    record {
      plain = primitive-plain i l;
      laid = primitive-no-dash i l;
      ranged = refl;
      named = among-at primitives i l;
      reached = refl;
      forward = refl;
    }
argued n k d h m (Within r) s =
    let z = number_in r d in
    record {
      plain = plain-integer z (integer-length z (number_fits z (number_is r d s)));
      laid = ap is_numeral (integer-read z);
      ranged = rw (value-integer z) (number-within r d s);
      named = refl;
      reached = refl;
      forward = refl;
    }

closing : (seed k d : ℕ) → Argued (count seed) k (argument (count seed) k d (kind_at 60).argument) (kind_at 60).argument
unfolding kinds kind_at
closing seed k d = argued-absent (count seed) k d

-- the argument of a line, whatever its kind: only a line before the closing STOP can have a target
pub line-argued : (seed k d : ℕ) → Argued (count seed) k (argument (count seed) k d (kind_at (kind_of seed k)).argument) (kind_at (kind_of seed k)).argument
unfolding kind_of
line-argued seed k d = go (ltb k (count seed)) _ refl
  where
    go : (b : Bool) (m : ℕ) → ltb k (count seed) ≡ b → Argued (count seed) k (argument (count seed) k d (kind_at (cond b m 60)).argument) (kind_at (cond b m 60)).argument
    go true m e = argued (count seed) k d (ltb-true k (count seed) e) (count-few seed) (kind_at m).argument (kind-sound m)
    go false m e = closing seed k d

-- ---- the line

-- its argument, and the line without its line feed
abbrev pub argument_on : ℕ → ℕ → List ℕ
argument_on seed k = argument (count seed) k (after (2 + count seed + k) seed) (kind_at (kind_of seed k)).argument

abbrev pub code_text : ℕ → ℕ → List ℕ
code_text seed k = decimal k ++ bytes " " ++ (kind_at (kind_of seed k)).name ++ bytes " " ++ argument_on seed k

pub code-line : (seed k : ℕ) → code_line seed k ≡ code_text seed k ++ bytes "\n"
unfolding code_line line_of
code-line seed k = refl

pub code_free : (seed k : ℕ) → Free 10 (code_text seed k)
unfolding all
code_free seed k =
    every_append
    (every_append (every_append (every_append (decimal-free 10 (omega arith) k) (text-free 10 (bytes " ") refl)) (plain-name (kind_of seed k)).feedless) (text-free 10 (bytes " ") refl))
    (line-argued seed k (after (2 + count seed + k) seed)).plain.feedless

pub code-short : (seed k : ℕ) → k < 200 → length (code_line seed k) ≤ 30
unfolding code_line line_of
code-short seed k h =
    let n = (plain-name (kind_of seed k)).short in
    let a = (line-argued seed k (after (2 + count seed + k) seed)).plain.short in
    let l = decimal-length 3 k (omega arith) (omega arith) in
    simp length-append (omega arith)

-- its three words
line-words : (a b c : List ℕ) → Free 32 a → Free 32 b → Free 32 c → line_words (a ++ bytes " " ++ b ++ bytes " " ++ c) ≡ a ∷ b ∷ c ∷ []
unfolding line_words
line-words a b c p q r =
    let e : a ++ bytes " " ++ b ++ bytes " " ++ c ≡ a ++ 32 ∷ (b ++ 32 ∷ c) = simp append_assoc in
    ap (parted_by 32) e ∙ split-first 32 (b ++ 32 ∷ c) p ∙ ap (λ ws. a ∷ ws) (split-first 32 c q ∙ ap (λ ws. b ∷ ws) (split-alone 32 r))

pub code-words : (seed k : ℕ) → line_words (code_text seed k) ≡ decimal k ∷ (kind_at (kind_of seed k)).name ∷ argument_on seed k ∷ []
code-words seed k =
    line-words (decimal k) (kind_at (kind_of seed k)).name (argument_on seed k) (decimal-free 32 (omega arith) k) (plain-name (kind_of seed k)).spaceless
    (line-argued seed k (after (2 + count seed + k) seed)).plain.spaceless

-- it is not ANSWER, which is one word
pub code-no-answer : (seed k : ℕ) → is_answer (ended_line (code_text seed k)) ≡ false
unfolding is_answer line_words parted_by
code-no-answer seed k = go (equals (code_text seed k) (bytes "ANSWER")) refl
  where
    go : (b : Bool) → equals (code_text seed k) (bytes "ANSWER") ≡ b → b ≡ false
    go true e =
        let p = sym (code-words seed k) ∙ ap line_words (equals-path (code_text seed k) (bytes "ANSWER") e) in
        let l : ◌≡◌ {A = ℕ} 3 1 = ap length p in
        absurd (omega arith)
    go false e = refl

-- ---- what the rows say of it, in a file whose code begins at 0

-- what a file of n + 1 lines of code lists
pub record Listing (ls : List Line) (n : ℕ) : Type 0 where
  pub kinds : listed (names kinds-section) ls ≡ kind_names
  pub primitives : listed (names primitives-section) ls ≡ primitives
  pub first : first_at (body ls) ≡ pos 0
  pub count : length (lines_of_code (body ls)) ≡ suc n

module _ (seed k : ℕ) (few : k < 200) (ls : List Line) (f : Listing ls (count seed)) where
  of-argument : Argued (count seed) k (argument_on seed k) (kind_at (kind_of seed k)).argument
  of-argument = line-argued seed k (after (2 + count seed + k) seed)

  at-is : at (code_text seed k) ≡ decimal k
  at-is = ap (λ ws. get_or ws 0 []) (code-words seed k)

  op-is : op (code_text seed k) ≡ (kind_at (kind_of seed k)).name
  op-is = ap (λ ws. get_or ws 1 []) (code-words seed k)

  arg_is : arg (code_text seed k) ≡ argument_on seed k
  arg_is = ap (λ ws. get_or ws 2 []) (code-words seed k)

  on-kind : (t : Argument → Bool) → on_argument t (code_text seed k) ≡ t (kind_at (kind_of seed k)).argument
  unfolding on_argument argument_of
  on-kind t = ap (λ o. argument_of t (place_among o kind_names)) op-is ∙ ap (argument_of t) (name-place (kind_of seed k) (kind-below seed k))

  on-argument : (t : List ℕ → Argument → Bool) → t (argument_on seed k) (kind_at (kind_of seed k)).argument ≡ true → on_argument (t (arg (code_text seed k))) (code_text seed k) ≡ true
  on-argument t e = on-kind (t (arg (code_text seed k))) ∙ ap (λ v. t v (kind_at (kind_of seed k)).argument) arg_is ∙ e

  pub code-laid-out : test Layout-row ls (code k) (ended_line (code_text seed k)) ≡ true
  unfolding test is_laid_out code_laid_out
  code-laid-out =
      let p : all (λ v. not (is_empty v)) (line_words (code_text seed k)) ≡ true = ap (all (λ v. not (is_empty v))) (code-words seed k) ∙ filled-words in
      let q : eqb (length (line_words (code_text seed k))) 3 ≡ true = ap (λ ws. eqb (length ws) 3) (code-words seed k) in
      let r : is_numeral (numeral (at (code_text seed k))) ≡ true = ap (λ v. is_numeral (numeral v)) at-is ∙ numeral-decimal k in
      rw (p, lt-ltb k 1024 (omega arith), q, r) (on-argument argument_laid_out of-argument.laid)
    where
      filled-words : all (λ v. not (is_empty v)) (decimal k ∷ (kind_at (kind_of seed k)).name ∷ argument_on seed k ∷ []) ≡ true
      filled-words = words-filled (more (plain-decimal k (omega arith)) (more (plain-name (kind_of seed k)) (more of-argument.plain none)))

  at-within : (j : ℕ) → j ≡ k → within (at_range j) (value (at (code_text seed k))) ≡ true
  at-within zero e = rw (at-is, value-decimal k) (within-natural 0 60000 k (omega arith) (omega arith))
  at-within (suc j) e = rw (at-is, value-decimal k) (within-natural 0 62000 k (omega arith) (omega arith))

  pub code-in-range : test range-row ls (code k) (ended_line (code_text seed k)) ≡ true
  unfolding test in_range code_in_range
  code-in-range = rw (at-within k refl) (on-argument argument_in_range of-argument.ranged)

  pub code-named : test name-row ls (code k) (ended_line (code_text seed k)) ≡ true
  unfolding test named code_named
  code-named =
      let p : same (value (at (code_text seed k))) (first_at (body ls) +ℤ pos k) ≡ true =
      ap (λ z. same z (first_at (body ls) +ℤ pos k)) (ap value at-is ∙ value-decimal k) ∙ ap (λ z. same (pos k) (z +ℤ pos k)) f.first ∙ eq-eqb k (0 + k) (omega arith) in
      let q : among (op (code_text seed k)) kind_names ≡ true = ap (λ v. among v kind_names) op-is ∙ name-among (kind_of seed k) (kind-below seed k) in
      let r : on_argument (argument_named (listed (names primitives-section) ls) (arg (code_text seed k))) (code_text seed k) ≡ true =
      ap (λ ps. on_argument (argument_named ps (arg (code_text seed k))) (code_text seed k)) f.primitives ∙ on-argument (argument_named primitives) of-argument.named in
      rw (p, q) r

  pub code-priced : test price-row ls (code k) (ended_line (code_text seed k)) ≡ true
  unfolding test priced on_code
  code-priced = ap (among (op (code_text seed k))) f.kinds ∙ ap (λ v. among v kind_names) op-is ∙ name-among (kind_of seed k) (kind-below seed k)

  pub code-reaches : test target_row ls (code k) (ended_line (code_text seed k)) ≡ true
  unfolding test reaches on_code
  code-reaches =
      ap (λ z. on_argument (argument_reaches z (length (lines_of_code (body ls))) (arg (code_text seed k))) (code_text seed k)) f.first
      ∙ ap (λ m. on_argument (argument_reaches (pos 0) m (arg (code_text seed k))) (code_text seed k)) f.count
      ∙ on-argument (argument_reaches (pos 0) (suc (count seed))) of-argument.reached

  pub code_forward : test forward-row ls (code k) (ended_line (code_text seed k)) ≡ true
  unfolding test forward code_is_forward
  code_forward =
      ap (λ z. on_argument (argument_forward (z +ℤ pos k) (arg (code_text seed k))) (code_text seed k)) f.first
      ∙ on-argument (argument_forward (pos 0 +ℤ pos k)) of-argument.forward
