-- `file_values::is_single` meets its contract. Assumes nothing.
use mathlib.Core.Path.{refl, sym, ap, ◌∙◌}
use mathlib.Core.Bool.{Bool, true, cond}
use mir.Syntax.{w64}
use Rattle.numbers.specs.Numbers.{same}
use Rattle.numbers.proofs.SignedLaws.{read-both, same_bits}
use Rattle.file_format.specs.Rows.{span_in_range, cell_word, is_single}
use Rattle.file_values.specs.HeldValues.{clamped_cell}
use Rattle.file_values.proofs.ValueLaws.{tested, single-clamped, not_wide}
use borrow.Author.Rules.{rules}
use Rattle.file_values.proofs.is_single.Statement.{statement}
use Rattle.file_values.proofs.is_single.Tie as tie

enum_told : tie.Need-enum_told-1
enum_told c = search rules

returns : tie.Need-returns-in-Unknown
unfolding is_single
returns c = tested is_single clamped_cell single-clamped (cell_word c.args.w.now) c.cell_word.ensures c.in-Unknown.is refl

returns-2 : tie.Need-returns-then-span_in_range
unfolding is_single
returns-2 c =
    let known = c.in-Span in
    let inner = sym (c.span_in_range.ensures ∙ read-both span_in_range w64 known.lo known.hi (search rules) (search rules)) ∙ c.if-span_in_range.true in
    tested is_single clamped_cell single-clamped (cell_word c.args.w.now) c.cell_word.ensures known.is
    (same_bits w64 known.lo known.hi (search rules) (search rules) ∙ ap (λ (t : Bool). cond t (same known.lo known.hi) true) (sym inner))

returns-3 : tie.Need-returns-else-span_in_range
unfolding is_single
returns-3 c =
    let known = c.in-Span in
    let outer = sym (c.span_in_range.ensures ∙ read-both span_in_range w64 known.lo known.hi (search rules) (search rules)) ∙ c.if-span_in_range.false in
    tested is_single clamped_cell single-clamped (cell_word c.args.w.now) c.cell_word.ensures known.is
    (ap (λ (t : Bool). cond t (same known.lo known.hi) true) (sym outer))

returns-4 : tie.Need-returns-in_default
returns-4 c = tested is_single clamped_cell single-clamped (cell_word c.args.w.now) c.cell_word.ensures refl (not_wide c.cell_word.result c.in_default.in_default-own.keys3)

pub is_single_spec : {M : Type 1} → statement M
is_single_spec =
    tie.close
    (tie.spec
    (λ c κs. search rules)
    enum_told
    (λ c. search rules)
    (λ c κs. search rules)
    returns
    returns-2
    returns-3
    returns-4)
