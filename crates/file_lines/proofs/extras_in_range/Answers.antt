-- `file_lines::extras_in_range` meets its contract: `split_words` gives the words.
use Rattle.std.proofs.Common.{refl, sym, ◌∙◌, arith}
use Rattle.std.proofs.lemmas.List.{length_push}
use Rattle.text.specs.Text.{line_words}
use Rattle.text.proofs.SplitLaws.{word-turn, words-end}
use Rattle.file_lines.proofs.ExtraLaws.{extras-stop, extras-next, extras-end}
use Rattle.file_lines.proofs.extras_in_range.Goals as goal

pub returns-then-not-extra_in_range : goal.returns-then-not-extra_in_range
returns-then-not-extra_in_range c =
    let l = c.loop-w in
    let p = c.split_words-w-items.ensures in
    let line = c.args.line.now in
    let x = c.in-Some.w in
    let t = word-turn line l.yielded _ _ refl l.yielded_by c.next.ensures.steps c.into_iter-w-iterator.ensures.into_iter_gives p x c.in-Some.is in
    sym (l.invariant ∙ extras-stop l.above.now (line_words line) _ _ x.now t.0 t.1 c.word_at-name.ensures (sym c.extra_in_range.ensures ∙ c.if-not-extra_in_range.true))

pub loop-w-preserved : goal.loop-w-preserved
loop-w-preserved c =
    let l = c.loop-w in
    let p = c.split_words-w-items.ensures in
    let line = c.args.line.now in
    let x = c.in-Some.w in
    let t = word-turn line l.yielded _ _ refl l.yielded_by c.next.ensures.steps c.into_iter-w-iterator.ensures.into_iter_gives p x c.in-Some.is in
    l.invariant
    ∙ extras-next l.above.now (line_words line) _ _ x.now t.0 t.1 c.word_at-name.ensures _ (length_push l.yielded x) (sym c.extra_in_range.ensures ∙ c.if-not-extra_in_range.false)
    ∙ sym (c.next_names-above.ensures _)

pub returns : goal.returns
returns c =
    let l = c.loop-w in
    let p = c.split_words-w-items.ensures in
    let line = c.args.line.now in
    let n = words-end line l.yielded _ _ refl l.yielded_by c.next.ensures.steps c.into_iter-w-iterator.ensures.into_iter_gives p c.in-None.is in
    sym (l.invariant ∙ extras-end (line_words l.above.now) (line_words line) _ (omega arith))
