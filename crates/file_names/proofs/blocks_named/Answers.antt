-- `file_names::blocks_named` meets its contract: `split_words` gives the names.
use Rattle.std.proofs.Common.{refl, sym, ◌∙◌, arith}
use Rattle.std.proofs.lemmas.List.{length_push}
use Rattle.text.specs.Text.{line_words}
use Rattle.text.proofs.SplitLaws.{word-turn, words-end}
use Rattle.file_format.proofs.LayoutLaws.{list-none}
use Rattle.file_names.proofs.BlockLaws.{grow-stop, grow-next, grow-end, some-names, own, held, no_blocks, none_named}
use Rattle.file_names.proofs.blocks_named.Goals as goal

pub returns-then-same : goal.returns-then-same
returns-then-same c = none_named _ (list-none _ (sym c.same.ensures ∙ c.if-same.true))

pub loop-name-init : goal.loop-name-init
loop-name-init c = record { same = some-names _ (sym c.same.ensures ∙ c.if-same.false); own = no_blocks }

pub returns-then-next-blocks : goal.returns-then-next-blocks
returns-then-next-blocks c =
    let l = c.loop-name in
    let i = l.invariant in
    let p = c.split_words-name-items.ensures in
    let line = c.args.line.now in
    let x = c.in-Some.name in
    let t = word-turn line l.yielded _ _ refl l.yielded_by c.next.ensures.steps c.into_iter-name-iterator.ensures.into_iter_gives p x c.in-Some.is in
    held i.own (i.same ∙ grow-stop _ (line_words line) _ x.now t.0 t.1 (sym c.add_name-next.ensures.sum ∙ c.if-next-blocks.true ∙ i.own.sum))

pub loop-name-preserved : goal.loop-name-preserved
loop-name-preserved c =
    let l = c.loop-name in
    let i = l.invariant in
    let p = c.split_words-name-items.ensures in
    let line = c.args.line.now in
    let x = c.in-Some.name in
    let o = c.add_name-next.ensures in
    let t = word-turn line l.yielded _ _ refl l.yielded_by c.next.ensures.steps c.into_iter-name-iterator.ensures.into_iter_gives p x c.in-Some.is in
    record {
      same = i.same ∙ grow-next _ _ (line_words line) _ _ x.now (length_push l.yielded x) t.0 t.1 o.sizes (λ e. c.if-next-blocks.false ((own o).sum ∙ e ∙ sym i.own.sum));
      own = own o;
    }

pub returns : goal.returns
returns c =
    let l = c.loop-name in
    let i = l.invariant in
    let p = c.split_words-name-items.ensures in
    let line = c.args.line.now in
    let n = words-end line l.yielded _ _ refl l.yielded_by c.next.ensures.steps c.into_iter-name-iterator.ensures.into_iter_gives p c.in-None.is in
    held i.own (i.same ∙ grow-end _ (line_words line) _ (omega arith))
