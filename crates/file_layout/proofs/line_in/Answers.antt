-- `file_layout::line_in` meets its contract.
use Rattle.std.proofs.Common.{◌≡◌, ◌≤◌, ◌+◌, length, get_or, drop, sym, ap, ◌∙◌, arith}
use Rattle.std.proofs.lemmas.List.{drop-drop}
use Rattle.text.specs.Text.{lines, no_line}
use Rattle.file_format.specs.Layout.{layout, is_role, text_at}
use Rattle.file_format.proofs.LayoutLaws.{text-here, text-next, text-none, rest_from}
use Rattle.file_layout.proofs.line_in.Goals as goal

pub returns-then-is_role : goal.returns-then-is_role
returns-then-is_role c =
    let l = c.loop-i in
    let text = c.args.text.now in
    let r = c.args.role in
    let e = sym (ap (is_role r) c.role_at.ensures) ∙ sym c.is_role.ensures ∙ c.if-is_role.true in
    let h : l.i ≤ length layout = omega arith in
    c.first_line.ensures
    ∙ ap (λ t. (get_or (lines t) 0 no_line).text) (rest_from _ text)
    ∙ ap (λ ms. (get_or ms 0 no_line).text) (c.requires.from_there l.i h)
    ∙ sym (l.invariant ∙ text-here r l.i c.loop-i-test.true (drop l.i (lines text)) e)

pub loop-i-preserved : goal.loop-i-preserved
loop-i-preserved c =
    let l = c.loop-i in
    let ls = lines c.args.text.now in
    let r = c.args.role in
    let e = sym (ap (is_role r) c.role_at.ensures) ∙ sym c.is_role.ensures ∙ c.if-is_role.false in
    l.invariant ∙ text-next r l.i c.loop-i-test.true (drop l.i ls) e ∙ ap (text_at r (drop (l.i + 1) layout)) (drop-drop 1 l.i ls)

pub returns : goal.returns
returns c =
    let r = c.args.role in
    let l = c.loop-i in
    let ls = lines c.args.text.now in
    let e : l.i ≡ length layout = omega arith in
    sym (l.invariant ∙ ap (λ k. text_at r (drop k layout) (drop l.i ls)) e ∙ text-none r (drop l.i ls))
