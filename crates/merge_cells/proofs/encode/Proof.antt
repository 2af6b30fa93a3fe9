-- `merge_cells::encode` meets its contract. Assumes nothing.
use mathlib.Core.Path.{◌≡◌, sym, ap, ◌∙◌}
use Prim.Native.Nat.{ℕ, ◌+◌, ◌<◌}
use lib.IntN.{ℤ}
use mir.Syntax.{w32}
use mir.Val.{SFits}
use mir.ValLaws.{to_z-of_z}
use Rattle.numbers.proofs.SignedLaws.{read}
use Rattle.cells.specs.declared.Cell.{Cell}
use Rattle.cells.specs.declared.Value.TheVariants.{Range, Handle}
use Rattle.cells.specs.Cells.{results}
use Rattle.merge_cells.specs.HeldCodes.{decoded_cell}
use Rattle.cells.specs.HeldConfined.{confine_value, confine}
use Rattle.merge_cells.proofs.CodeLaws.{encoded-handle}
use borrow.Author.Rules.{rules}
use Rattle.merge_cells.proofs.encode.Statement.{statement}
use Rattle.merge_cells.proofs.encode.Tie as tie

of_range : (c : Cell) (l : ℤ) (m x : ℕ) → SFits w32 l → c.value ≡ Range l m → decoded_cell x ≡ results (read w32 l) m → decoded_cell x ≡ confine c
unfolding confine confine_value
of_range c l m x f p e = e ∙ ap (λ (z : ℤ). results z m) (to_z-of_z w32 l f) ∙ ap confine_value (sym p)

of-handle : (c : Cell) (k : ℕ) → k < 256 → c.value ≡ Handle k → decoded_cell (549755813888 + k) ≡ confine c
unfolding confine confine_value
of-handle c k h p = encoded-handle k h ∙ ap confine_value (sym p)

returns : tie.Need-returns-in-Range
returns c =
    let known = c.in-Range in
    of_range _ _ _ _ (search rules) known.is c.encode_range.ensures

returns-2 : tie.Need-returns-in-Handle
returns-2 c = of-handle _ _ (search rules) c.in-Handle.is

pub encode_spec : {M : Type 1} → statement M
encode_spec =
    tie.close
    (tie.spec
    (λ c. search rules)
    (λ c κs. search rules)
    (λ c. search rules)
    (λ c. search rules)
    (λ c. search rules)
    returns
    returns-2)
