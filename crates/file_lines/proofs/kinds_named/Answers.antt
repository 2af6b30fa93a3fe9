-- `file_lines::kinds_named` meets its contract: `split_words` gives the words.
use Rattle.std.proofs.Common.{refl, sym, ◌∙◌, arith}
use Rattle.std.proofs.lemmas.List.{length_push}
use Rattle.text.specs.Text.{line_words}
use Rattle.text.proofs.SplitLaws.{word-turn, words-end}
use Rattle.instructions.proofs.ColumnLaws.{kind-below}
use Rattle.file_lines.proofs.SeenLaws.{kinds-new, new-stop, new-next, new-end}
use Rattle.file_lines.proofs.kinds_named.Goals as goal

pub loop-word-init : goal.loop-word-init
loop-word-init c = kinds-new _

pub mark-requires : goal.mark-requires
mark-requires c = λ i e. kind-below _ (sym c.kind_in-kind.ensures ∙ e)

pub returns-then-not-mark : goal.returns-then-not-mark
returns-then-not-mark c =
    let l = c.loop-word in
    let p = c.split_words-word-items.ensures in
    let line = c.args.line.now in
    let x = c.in-Some.word in
    let t = word-turn line l.yielded _ _ refl l.yielded_by c.next.ensures.steps c.into_iter-word-iterator.ensures.into_iter_gives p x c.in-Some.is in
    sym (l.invariant ∙ new-stop l.seen (line_words line) _ x.now t.0 t.1 c.kind_in-kind.ensures (sym c.mark.ensures.new ∙ c.if-not-mark.true))

pub loop-word-preserved : goal.loop-word-preserved
loop-word-preserved c =
    let l = c.loop-word in
    let p = c.split_words-word-items.ensures in
    let line = c.args.line.now in
    let x = c.in-Some.word in
    let t = word-turn line l.yielded _ _ refl l.yielded_by c.next.ensures.steps c.into_iter-word-iterator.ensures.into_iter_gives p x c.in-Some.is in
    l.invariant ∙ new-next l.seen (line_words line) _ x.now t.0 t.1 c.kind_in-kind.ensures _ _ c.mark.ensures.marked (length_push l.yielded x) (sym c.mark.ensures.new ∙ c.if-not-mark.false)

pub returns : goal.returns
returns c =
    let l = c.loop-word in
    let p = c.split_words-word-items.ensures in
    let line = c.args.line.now in
    let n = words-end line l.yielded _ _ refl l.yielded_by c.next.ensures.steps c.into_iter-word-iterator.ensures.into_iter_gives p c.in-None.is in
    sym (l.invariant ∙ new-end l.seen (line_words line) _ (omega arith))
