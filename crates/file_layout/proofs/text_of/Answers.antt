-- `file_layout::text_of` meets its contract.
use Rattle.std.proofs.Common.{◌≡◌, ◌+◌, length, drop, sym, ap, ◌∙◌, arith}
use Rattle.text.specs.Text.{lines}
use Rattle.file_format.specs.Layout.{layout, is_role, text_at}
use Rattle.file_format.proofs.LayoutLaws.{text-here, text-next, text-none}
use Rattle.file_layout.proofs.text_of.Goals as goal

pub returns-then-is_role : goal.returns-then-is_role
returns-then-is_role c =
    let r = c.args.role in
    let l = c.loop-i in
    let e = sym (ap (is_role r) c.role_at.ensures) ∙ sym c.is_role.ensures ∙ c.if-is_role.true in
    c.first_line.ensures ∙ sym (l.invariant ∙ text-here r l.i c.loop-i-test.true (lines l.rest.now) e)

pub loop-i-preserved : goal.loop-i-preserved
loop-i-preserved c =
    let r = c.args.role in
    let l = c.loop-i in
    let e = sym (ap (is_role r) c.role_at.ensures) ∙ sym c.is_role.ensures ∙ c.if-is_role.false in
    l.invariant ∙ text-next r l.i c.loop-i-test.true (lines l.rest.now) e ∙ ap (text_at r (drop (l.i + 1) layout)) (sym c.next_lines-rest.ensures.lines)

pub returns : goal.returns
returns c =
    let r = c.args.role in
    let l = c.loop-i in
    let e : l.i ≡ length layout = omega arith in
    sym (l.invariant ∙ ap (λ k. text_at r (drop k layout) (lines l.rest.now)) e ∙ text-none r (lines l.rest.now))
