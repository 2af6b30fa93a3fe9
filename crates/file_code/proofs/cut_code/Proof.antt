-- `file_code::cut_code` meets its contract. Assumes nothing.
use mathlib.Core.Path.{◌≡◌, sym, ap, ◌∙◌}
use mathlib.Core.List.{List}
use Prim.Native.Nat.{ℕ}
use native.Mathlib.Omega.{arith}
use lib.ListN.{length, take}
use lib.Seq.{length-take-le}
use Rattle.text.specs.Text.{line_words, place_among}
use Rattle.text.proofs.ScanLaws.{first_length}
use Rattle.text.proofs.PieceLaws.{first-le}
use Rattle.instructions.specs.Kinds.{kind_names}
use Rattle.file_code.proofs.WholeLaws.{cut-op, cut-lengths}
use borrow.Author.Rules.{rules}
use Rattle.file_code.proofs.cut_code.Statement.{statement}
use Rattle.file_code.proofs.cut_code.Tie as tie

after-word-requires : tie.Need-after_word-rest-requires
unfolding line_words
after-word-requires c κs = c.piece_length-e.ensures

after-word-requires-2 : tie.Need-after_word-last-requires
unfolding line_words
after-word-requires-2 c κs = c.piece_length-f.ensures

-- a first word is no longer than its line
fitting : (l : List ℕ) {n : ℕ} → n ≡ first_length 32 l → n ≡ length (take n l)
fitting l {n} e = sym (length-take-le n l (omega (arith, first-le 32 l, e)))

slice-aggregate-kind-in : tie.Need-slice_bounds-kind_in-end
slice-aggregate-kind-in c = fitting _ c.piece_length-f.ensures

returns : tie.Need-returns
returns c =
    let p = c in
    let line = p.args.line.now in
    let rest = p.after_word-rest in
    let last = p.after_word-last in
    let one = p.piece_length-e.ensures in
    let two = p.piece_length-f.ensures in
    let n = cut-lengths line rest.result.now last.result.now one rest.ensures two last.ensures p.piece_length-g.ensures in
    let o = cut-op line rest.result.now last.result.now one rest.ensures two last.ensures p.piece_length-g.ensures in
    record {
      kind = c.kind_in-kind.ensures ∙ ap (λ w. place_among w kind_names) o;
      at_length = n.0;
      op_length = n.1;
      arg_length = n.2;
    }

pub cut_code_spec : {M : Type 1} → statement M
cut_code_spec =
    tie.close
    (tie.spec
    (λ c κs. search rules)
    after-word-requires
    (λ c κs. search rules)
    after-word-requires-2
    (λ c κs. search rules)
    slice-aggregate-kind-in
    (λ c κs. search rules)
    returns)
