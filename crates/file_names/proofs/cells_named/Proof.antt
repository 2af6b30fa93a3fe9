-- `file_names::cells_named` meets its contract: the words of CELLS are the names of the cells, by computation. Assumes nothing.
use Rattle.text.specs.Text.{parted_by, line_words}
use Rattle.text_decimals.specs.Decimal.{digits, decimal}
use Rattle.file_format.specs.Rows.{stack_names, cell_names}
use borrow.Author.Rules.{rules}
use Rattle.file_names.proofs.cells_named.Statement.{statement}
use Rattle.file_names.proofs.cells_named.Tie as tie

returns : tie.Need-returns
unfolding parted_by line_words digits decimal stack_names cell_names
returns c = c.begins.ensures

pub cells_named_spec : {M : Type 1} → statement M
cells_named_spec = tie.close (tie.spec
    (λ c κs. search rules)
    returns)
