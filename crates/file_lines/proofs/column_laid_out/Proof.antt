-- `file_lines::column_laid_out` meets its contract. Assumes nothing.
use Prim.Native.Nat.{ℕ}
use mathlib.Core.Path.{◌≡◌, refl, ◌∙◌}
use mathlib.Core.List.{List, [], ◌∷◌}
use types.Run.{OneOf, miss}
use denote.Enum.Declared.{tag_of}
use Rattle.text.specs.Text.{all}
use Rattle.text_decimals.specs.Decimal.{numeral}
use Rattle.file_format.specs.declared.Column.{Column}
use Rattle.file_format.specs.declared.Column.TheVariants.{Limit, Cycles, Words, Extra, Cell}
use Rattle.file_format.specs.Layout.{list}
use Rattle.file_format.specs.Rows.{is_numeral, column_laid_out}
use Rattle.file_format.specs.contracts.Column.{the_type}
use Rattle.file_lines.specs.HeldLines.{word_test}
use Rattle.file_lines.proofs.LineLaws.{arm}
use borrow.Author.Rules.{rules}
use Rattle.file_lines.proofs.column_laid_out.Statement.{statement}
use Rattle.file_lines.proofs.column_laid_out.Tie as tie

-- the columns of numbers, by the variants' numbers
not-cells : (c : Column) (ws : List (List ℕ)) → OneOf (0 ∷ 1 ∷ 2 ∷ 3 ∷ []) (tag_of the_type c) → all (λ w. is_numeral (numeral w)) ws ≡ column_laid_out c ws
unfolding column_laid_out
not-cells Limit ws o = refl
not-cells Cycles ws o = refl
not-cells Words ws o = refl
not-cells Extra ws o = refl
not-cells Cell ws o = absurd (miss (0 ∷ 1 ∷ 2 ∷ 3 ∷ []) 4 tt o)

enum_told : tie.Need-enum_told-1
enum_told c = search rules

returns : tie.Need-returns-in-Cell
unfolding column_laid_out word_test
returns c =
    arm (λ k. column_laid_out k (list c.args.line.now)) c.in-Cell.is c.all_listed.ensures

returns-2 : tie.Need-returns
unfolding word_test
returns-2 c = let a = c.args in c.all_listed-2.ensures ∙ not-cells a.c (list a.line.now) c.in_default.in_default-own.keys2

pub column_laid_out_spec : {M : Type 1} → statement M
column_laid_out_spec =
    tie.close (tie.spec enum_told (λ c κs. search rules) returns (λ c κs. search rules) returns-2)
