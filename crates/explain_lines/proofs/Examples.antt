-- A worked example of the lines of a walk. Assumes nothing.
use mathlib.Core.Path.{◌≡◌, refl}
use mathlib.Core.List.{[], ◌∷◌}
use Rattle.text.specs.Text.{bytes, parted_by, lines_of, lines}
use Rattle.text_decimals.specs.Decimal.{digits, decimal}
use Rattle.bound_theory.specs.Tree.{N}
use Rattle.report.specs.Report.{path_text}
use Rattle.explain_lines.specs.Listing.{code_text, entry_text, listing}

pub examples : listing (lines (bytes "7 BRANCHIF 8\n8 STOP -\n")) 7 (record { at = 7; cycles = 5; words = 4; depth = 1; way = N ∷ [] } ∷ record { at = 8; cycles = 6; words = 9; depth = 0; way = [] } ∷ []) ≡ bytes "7 BRANCHIF 8 5 4 1 N\n8 STOP - 6 9 0 -\n"
unfolding parted_by lines_of lines digits decimal path_text code_text entry_text listing
examples = refl
