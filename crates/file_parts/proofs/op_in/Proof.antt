-- `file_parts::op_in` meets its contract. Assumes nothing.
use mathlib.Core.Path.{◌≡◌, sym, ap, ◌∙◌}
use native.Mathlib.Omega.{arith}
use lib.ListN.{length}
use Rattle.text.specs.Text.{line_words}
use Rattle.text.proofs.ScanLaws.{first_length}
use Rattle.text.proofs.PieceLaws.{word-here}
use Rattle.file_parts.proofs.WordLaws.{fitting}
use borrow.Author.Rules.{rules}
use Rattle.file_parts.proofs.op_in.Statement.{statement}
use Rattle.file_parts.proofs.op_in.Tie as tie

-- the length of OP as that of the first word after AT
op-first : (c : tie.After-after_word-rest) → c.args.cut.op ≡ first_length 32 c.after_word-rest.result.now
unfolding line_words
op-first c = c.requires.op_length ∙ ap length (sym (c.after_word-rest.ensures 0))

slice-aggregate-result : tie.Need-slice_bounds-result-end
slice-aggregate-result c = fitting _ (op-first c)

returns : tie.Need-returns
returns c = sym (word-here _ _ 0 (op-first c) (omega arith)) ∙ c.after_word-rest.ensures 0

pub op_in_spec : {M : Type 1} → statement M
op_in_spec = tie.close (tie.spec (λ c κs. search rules) slice-aggregate-result returns)
