-- `file_check::well_named` meets its contract. Assumes nothing.
use mathlib.Core.Path.{sym, ◌∙◌}
use Rattle.file_format.specs.Rows.{well_named}
use Rattle.file_format.specs.Layout.{list}
use Rattle.file_check.proofs.ContextLaws.{named_none, named-words, named-fixed, named-primitives, unnamed-primitives, named-fields}
use Rattle.file_format.specs.declared.Section.TheVariants.{Kinds, Primitives, Cells, Fields}
use Rattle.file_lines.proofs.LineLaws.{arm}
use borrow.Author.Rules.{rules}
use Rattle.file_check.proofs.well_named.Statement.{statement}
use Rattle.file_check.proofs.well_named.Tie as tie

returns : tie.Need-returns-then-same
returns c = named_none c.args.line.now _ (sym c.same.ensures ∙ c.if-same.true)

enum_told : tie.Need-enum_told-1
enum_told c = search rules

returns-2 : tie.Need-returns-in-Kinds
returns-2 c =
    let line = c.args.line.now in
    let dash = sym c.same.ensures ∙ c.if-same.false in
    arm (λ s. well_named s (list line)) c.in-Kinds.is (named-words line Kinds _ dash c.kinds_named.ensures)

returns-3 : tie.Need-returns-then-all_words
returns-3 c =
    let line = c.args.line.now in
    let dash = sym c.same.ensures ∙ c.if-same.false in
    arm (λ s. well_named s (list line)) c.in-Primitives.is (named-words line Primitives _ dash (named-primitives line c.all_words.ensures c.if-all_words.true c.distinct.ensures))

returns-4 : tie.Need-returns-else-all_words
returns-4 c =
    let line = c.args.line.now in
    let dash = sym c.same.ensures ∙ c.if-same.false in
    arm (λ s. well_named s (list line)) c.in-Primitives.is (named-words line Primitives _ dash (unnamed-primitives line c.all_words.ensures c.if-all_words.false))

returns-5 : tie.Need-returns-in-Cells
unfolding well_named
returns-5 c =
    let line = c.args.line.now in
    let dash = sym c.same.ensures ∙ c.if-same.false in
    arm (λ s. well_named s (list line)) c.in-Cells.is (named-words line Cells _ dash c.cells_named.ensures)

returns-6 : tie.Need-returns-in-Fields
returns-6 c =
    let line = c.args.line.now in
    let dash = sym c.same.ensures ∙ c.if-same.false in
    arm (λ s. well_named s (list line)) c.in-Fields.is (named-words line Fields _ dash (named-fields line dash _ c.blocks_named-named.ensures _ c.count_words.ensures))

returns-7 : tie.Need-returns-in_default
returns-7 c = let a = c.args in named-fixed a.line.now a.s c.in_default.in_default-own.keys5

pub well_named_spec : {M : Type 1} → statement M
well_named_spec =
    tie.close
    (tie.spec
    (λ c κs. search rules)
    returns
    enum_told
    (λ c κs. search rules)
    (λ c. search rules)
    (λ c κs. search rules)
    (λ c κs. search rules)
    (λ c. search rules)
    (λ c κs. search rules)
    (λ c. search rules)
    (λ c κs. search rules)
    (λ c κs. search rules)
    returns-2
    returns-3
    returns-4
    returns-5
    returns-6
    returns-7)
