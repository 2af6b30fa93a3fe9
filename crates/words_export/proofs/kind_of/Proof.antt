-- `words_export::kind_of` meets its contract. Assumes nothing.
use mathlib.Core.Path.{◌≡◌}
use native.Mathlib.Omega.{arith}
use Rattle.text.specs.Text.{find}
use Rattle.instructions.specs.Kinds.{kind_names}
use Rattle.instructions.proofs.ColumnLaws.{kind-small}
use Rattle.file_format.specs.Rows.{op}
use Rattle.file_parts.proofs.EntryLaws.{found}
use borrow.Author.Rules.{rules}
use Rattle.words_export.proofs.kind_of.Statement.{statement}
use Rattle.words_export.proofs.kind_of.Tie as tie

returns : tie.Need-returns
returns c =
    let line = c.args.line.now in
    let e : c.index_of.result ≡ find (op line) kind_names = found kind_names _ _ _ c.index_of.ensures c.kind_named.ensures c.word_at.ensures in
    (e, omega (arith, e, kind-small (op line)))

pub kind_of_spec : {M : Type 1} → statement M
kind_of_spec = tie.close (tie.spec (λ c κs. search rules) (λ c κs. search rules) (λ c κs. search rules) returns)
