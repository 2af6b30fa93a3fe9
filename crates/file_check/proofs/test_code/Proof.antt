-- `file_check::test_code` meets its contract. Assumes nothing.
use Prim.Native.Nat.{ℕ}
use mathlib.Core.Path.{◌≡◌, sym, ap, ◌∙◌}
use mathlib.Core.List.{List}
use native.Mathlib.Omega.{arith}
use mir.Syntax.{w64}
use mir.Val.{to_z}
use mir.ValLaws.{to_z_pos}
use lib.IntN.{pos}
use lib.ListN.{length, take}
use lib.Seq.{length-take-le}
use Rattle.text.specs.Text.{line_words, place_among, among}
use Rattle.text.proofs.ScanLaws.{first_length}
use Rattle.text.proofs.PieceLaws.{first-le}
use Rattle.numbers.specs.Numbers.{within}
use Rattle.instructions.specs.Kinds.{kind_names}
use Rattle.instructions.proofs.ColumnLaws.{kind-below}
use Rattle.file_format.specs.Layout.{list}
use Rattle.file_format.specs.Rows.{at, op, arg, first_addresses}
use Rattle.file_code.proofs.WholeLaws.{cut_at, cut-op, cut-arg}
use Rattle.file_check.proofs.ContextLaws.{first-within, code-tests}
use borrow.Author.Rules.{rules}
use Rattle.file_check.proofs.test_code.Statement.{statement}
use Rattle.file_check.proofs.test_code.Tie as tie

-- the first address, as it is lent on
first_read : (start : tie.Start) → to_z w64 start.args.at.first ≡ pos start.args.at.first
first_read start = let h = start.requires.0.0 in to_z_pos w64 start.args.at.first (omega arith)

after-word-requires : tie.Need-after_word-rest-requires
after-word-requires c κs = c.requires.1.1.0.at_length

after-word-requires-2 : tie.Need-after_word-last-requires
after-word-requires-2 c κs = c.requires.1.1.0.op_length ∙ ap length (sym (c.after_word-rest.ensures 0))

-- the lengths of the words, each as that of the first word of what is left
module _ (c : tie.After-after_word-last) where
  abbrev start : tie.Start
  start = c.before.before.before.before.before

  one : start.args.words.at ≡ first_length 32 start.args.line.now
  unfolding line_words
  one = start.requires.1.1.0.at_length

  two : start.args.words.op ≡ first_length 32 c.after_word-rest.result.now
  unfolding line_words
  two = start.requires.1.1.0.op_length ∙ ap length (sym (c.after_word-rest.ensures 0))

  three : start.args.words.arg ≡ first_length 32 c.after_word-last.result.now
  unfolding line_words
  three = start.requires.1.1.0.arg_length ∙ ap length (sym (c.after_word-last.ensures 0 ∙ c.after_word-rest.ensures 1))

  at-is : take start.args.words.at start.args.line.now ≡ at start.args.line.now
  at-is = cut_at start.args.line.now c.after_word-rest.result.now c.after_word-last.result.now one c.after_word-rest.ensures two c.after_word-last.ensures three

  op-is : take start.args.words.op c.after_word-rest.result.now ≡ op start.args.line.now
  op-is = cut-op start.args.line.now c.after_word-rest.result.now c.after_word-last.result.now one c.after_word-rest.ensures two c.after_word-last.ensures three

  arg_is : take start.args.words.arg c.after_word-last.result.now ≡ arg start.args.line.now
  arg_is = cut-arg start.args.line.now c.after_word-rest.result.now c.after_word-last.result.now one c.after_word-rest.ensures two c.after_word-last.ensures three

-- a first word is no longer than its line
fitting : (l : List ℕ) {n : ℕ} → n ≡ first_length 32 l → n ≡ length (take n l)
fitting l {n} e = sym (length-take-le n l (omega (arith, first-le 32 l, e)))

slice-aggregate-test-code : tie.Need-slice_bounds-test_code-end
slice-aggregate-test-code c = fitting _ (one c.before.before)

slice-aggregate-test-code-2 : tie.Need-slice_bounds-test_code-end-2
slice-aggregate-test-code-2 c = fitting _ (three c.before.before)

test-code-requires : tie.Need-test_code-tested-requires
test-code-requires c κs =
    let s = c in
    let cut = s.requires.1.1 in
    (ap (within first_addresses) (first_read s.before.before.before.before.before.before.before) ∙ first-within _ s.requires.0.0, ((s.requires.0.1, s.requires.0.2), λ i e. (kind-below _ (sym cut.0.kind ∙ e), cut.1 i e)))

is-whole-requires : tie.Need-is_whole-requires
is-whole-requires c κs = let x = c.requires.1.1.0 in (x.at_length, x.op_length, x.arg_length)

slice-aggregate-is-priced : tie.Need-slice_bounds-is_priced-end
slice-aggregate-is-priced c = fitting _ (two c.before.before.before.before.before.before)

is-priced-requires : tie.Need-is_priced-price-requires
is-priced-requires c κs =
    let t = c in
    let s = t in
    (s.requires.1.1.0.kind ∙ ap (λ w. place_among w kind_names) (sym (op-is t.before.before.before.before.before.before)), s.requires.1.0)

returns : tie.Need-returns
returns c =
    let t = c in
    let s = t in
    let a = s.args in
    (λ ls blocks x. code-tests ls x _ (first_read s.before.before.before.before.before.before.before.before.before.before.before.before) a.at.k a.line.now a.at.ended _ (c.test_code-tested.ensures a.line.now (at-is t.before.before.before.before.before.before.before) (arg_is t.before.before.before.before.before.before.before) s.requires.1.1.0.kind) c.is_whole.ensures c.all_three-layout.ensures c.names_due-names.ensures (λ e. c.is_priced-price.ensures.0 e ∙ ap (λ w. among w (list a.kinds.now)) (op-is t.before.before.before.before.before.before.before)), c.is_priced-price.ensures.1)

pub test_code_spec : {M : Type 1} → statement M
test_code_spec =
    tie.close
    (tie.spec
    after-word-requires
    after-word-requires-2
    (λ c κs. search rules)
    (λ c. search rules)
    slice-aggregate-test-code
    slice-aggregate-test-code-2
    test-code-requires
    is-whole-requires
    (λ c κs. search rules)
    slice-aggregate-is-priced
    is-priced-requires
    returns)
