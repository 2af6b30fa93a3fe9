-- `text::cut_word` meets its contract: the first piece is the first word.
use Rattle.text.proofs.PieceLaws.{words_more, words_last}
use Rattle.text.proofs.cut_word.Goals as goal

pub returns-then-line-end : goal.returns-then-line-end
returns-then-line-end c = words_last _ _ c.piece_length-end.ensures c.if-line-end.true

pub returns : goal.returns
returns c = words_more _ _ c.piece_length-end.ensures c.if-line-end.false
