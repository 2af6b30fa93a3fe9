-- `text::find` meets its contract: `split_words` gives the words.
use Rattle.std.proofs.Common.{sym, ap, ◌∙◌, ◌+◌, Some, None, arith}
use Rattle.std.proofs.lemmas.List.{length_push}
use Rattle.text.specs.Text.{line_words}
use Rattle.text.proofs.PieceLaws.{words-length}
use Rattle.text.proofs.SplitLaws.{word-turn, words-end, find-here, find-next, find-none}
use Rattle.text.proofs.find.Goals as goal

-- a word is left, so that fewer were looked at than the text has bytes and one
pub overflow_add-looked : goal.overflow_add-looked
overflow_add-looked c =
    let l = c.loop-word in
    let text = c.args.text.now in
    let x = c.in-Some.word in
    let t = word-turn text l.yielded _ _ l.invariant.counted l.yielded_by c.next.ensures.steps c.into_iter-word-iterator.ensures.into_iter_gives c.split_words-word-items.ensures x c.in-Some.is in
    omega (arith, l.invariant.looked_at, t.0, words-length text, c.type_inv.text)

pub overflow_add-k : goal.overflow_add-k
overflow_add-k c =
    let l = c.loop-word in
    let text = c.args.text.now in
    let x = c.in-Some.word in
    let t = word-turn text l.yielded _ _ l.invariant.counted l.yielded_by c.next.ensures.steps c.into_iter-word-iterator.ensures.into_iter_gives c.split_words-word-items.ensures x c.in-Some.is in
    omega (arith, t.0, words-length text, c.type_inv.text)

pub returns-then-same : goal.returns-then-same
returns-then-same c =
    let l = c.loop-word in
    let p = c.split_words-word-items.ensures in
    let text = c.args.text.now in
    let x = c.in-Some.word in
    let t = word-turn text l.yielded _ _ l.invariant.counted l.yielded_by c.next.ensures.steps c.into_iter-word-iterator.ensures.into_iter_gives p x c.in-Some.is in
    ap (λ m. record { place = Some l.k; looked = m + 1 }) l.invariant.looked_at ∙ sym (l.invariant.same ∙ find-here c.args.w.now (line_words text) l.k x.now t.0 t.1 (sym c.same.ensures ∙ c.if-same.true))

pub loop-word-preserved : goal.loop-word-preserved
loop-word-preserved c =
    let l = c.loop-word in
    let p = c.split_words-word-items.ensures in
    let text = c.args.text.now in
    let x = c.in-Some.word in
    let t = word-turn text l.yielded _ _ l.invariant.counted l.yielded_by c.next.ensures.steps c.into_iter-word-iterator.ensures.into_iter_gives p x c.in-Some.is in
    record {
      counted = omega (arith, length_push l.yielded x);
      looked_at = omega (arith, l.invariant.looked_at);
      same = l.invariant.same ∙ find-next c.args.w.now (line_words text) l.k x.now t.0 t.1 (sym c.same.ensures ∙ c.if-same.false);
    }

pub returns : goal.returns
returns c =
    let l = c.loop-word in
    let p = c.split_words-word-items.ensures in
    let text = c.args.text.now in
    let n = words-end text l.yielded _ _ l.invariant.counted l.yielded_by c.next.ensures.steps c.into_iter-word-iterator.ensures.into_iter_gives p c.in-None.is in
    ap (λ m. record { place = None; looked = m }) l.invariant.looked_at ∙ sym (l.invariant.same ∙ find-none c.args.w.now (line_words text) l.k (omega arith))
