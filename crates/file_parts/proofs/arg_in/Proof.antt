-- `file_parts::arg_in` meets its contract. Assumes nothing.
use mathlib.Core.Path.{◌≡◌, sym, ap, ◌∙◌}
use native.Mathlib.Omega.{arith}
use lib.ListN.{length}
use Rattle.text.specs.Text.{line_words}
use Rattle.text.proofs.ScanLaws.{first_length}
use Rattle.text.proofs.PieceLaws.{word-here}
use Rattle.file_parts.proofs.WordLaws.{fitting}
use borrow.Author.Rules.{rules}
use Rattle.file_parts.proofs.arg_in.Statement.{statement}
use Rattle.file_parts.proofs.arg_in.Tie as tie

after-word-requires-2 : tie.Need-after_word-last-requires
after-word-requires-2 c κs = c.requires.op_length ∙ ap length (sym (c.after_word-rest.ensures 0))

-- the length of ARG as that of the first word after OP
arg-first : (c : tie.After-after_word-last) → c.args.cut.arg ≡ first_length 32 c.after_word-last.result.now
unfolding line_words
arg-first c = c.requires.arg_length ∙ ap length (sym (c.after_word-last.ensures 0 ∙ c.after_word-rest.ensures 1))

slice-aggregate-result : tie.Need-slice_bounds-result-end
slice-aggregate-result c = fitting _ (arg-first c)

returns : tie.Need-returns
returns c = sym (word-here _ _ 0 (arg-first c) (omega arith)) ∙ c.after_word-last.ensures 0 ∙ c.after_word-rest.ensures 1

pub arg_in_spec : {M : Type 1} → statement M
arg_in_spec = tie.close (tie.spec (λ c κs. search rules) after-word-requires-2 slice-aggregate-result returns)
