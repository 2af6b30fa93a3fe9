-- `file_values::spanned` meets its contract. Assumes nothing.
use Prim.Native.Nat.{◌+◌, ◌-◌, ◌≤◌}
use mathlib.Core.Path.{sym, ap, ap₂, ◌∙◌}
use native.Mathlib.Omega.{arith}
use lib.ListN.{length, take, drop}
use Rattle.text_decimals.specs.Decimal.{numeral}
use Rattle.file_format.specs.Rows.{known_of, span_of}
use Rattle.file_values.specs.HeldValues.{clamped_cell}
use Rattle.file_values.proofs.ValueLaws.{known-clamped, span-clamped, known-end, known-first, known-second, both-stops, stop-within}
use borrow.Author.Rules.{rules}
use Rattle.file_values.proofs.spanned.Goals as goal

pub overflow_add-next : goal.overflow_add-next
overflow_add-next c =
    let w = c.args.w.now in
    let h : c.piece_length-n.result ≤ length w = omega (arith, stop-within w, c.piece_length-n.ensures) in
    search rules

pub returns-then-next-w : goal.returns-then-next-w
returns-then-next-w c =
    let w = c.args.w.now in
    let n = c.piece_length-n in
    c.known_word.ensures ∙ ap known_of c.read_numeral.ensures ∙ known-clamped (numeral w)
    ∙ sym (ap clamped_cell (known-end w n.result n.ensures (omega arith)))

pub returns-then-w-n-ne46 : goal.returns-then-w-n-ne46
returns-then-w-n-ne46 c =
    let w = c.args.w.now in
    let n = c.piece_length-n in
    c.known_word-then-w-n-ne46.ensures ∙ ap known_of c.read_numeral-then-w-n-ne46.ensures ∙ known-clamped (numeral w)
    ∙ sym (ap clamped_cell (known-first w n.result n.ensures c.if-w-n-ne46.true))

pub returns-then-w-next-ne46 : goal.returns-then-w-next-ne46
returns-then-w-next-ne46 c =
    let at-piece-length = c in
    let start = at-piece-length in
    let w = start.args.w.now in
    let n = at-piece-length.piece_length-n in
    c.known_word-then-w-next-ne46.ensures ∙ ap known_of c.read_numeral-then-w-next-ne46.ensures ∙ known-clamped (numeral w)
    ∙ sym (ap clamped_cell (known-second w n.result n.ensures c.if-w-next-ne46.true))

pub returns : goal.returns
returns c =
    let at-if3 = c in
    let at-if2 = at-if3 in
    let at-piece-length = at-if2 in
    let start = at-piece-length in
    let w = start.args.w.now in
    let n = at-piece-length.piece_length-n in
    c.span_word.ensures
    ∙ ap₂ span_of c.read_numeral-2.ensures c.read_numeral-3.ensures
    ∙ span-clamped (numeral (take n.result w)) (numeral (take (length w - (n.result + 2)) (drop (n.result + 2) w)))
    ∙ sym (ap clamped_cell (both-stops w n.result n.ensures at-if2.if-w-n-ne46.false at-if3.if-w-next-ne46.false))
