-- `text::count_words` meets its contract: `split_words` gives the words.
use Rattle.std.proofs.Common.{inl, length, ap, arith}
use Rattle.std.proofs.lemmas.Iterator.Consumers.{count_from_yields_List}
use Rattle.text.proofs.PieceLaws.{words-length}
use Rattle.text.proofs.SplitLaws.{words-yielded}
use Rattle.text.proofs.count_words.Goals as goal

pub returns : goal.returns
returns c = count_from_yields_List c.split_words.result _ c.count.ensures.ran (words-yielded c.args.line.now c.split_words.ensures)

pub count-requires-clause-fits : goal.count-requires-clause-fits
count-requires-clause-fits c = inl (omega (arith, ap length c.split_words.ensures, words-length c.args.line.now, c.type_inv.line))
