-- `file_names::is_name` meets its contract.
use Rattle.std.proofs.Common.{drop, sym, ap, ◌∙◌, rules, tests, arith}
use Rattle.std.specs.List.{list_all}
use Rattle.std.proofs.lemmas.Iterator.{YieldsList-from_slice}
use Rattle.std.proofs.lemmas.Iterator.Search.{all_from_yields_List}
use Rattle.text.proofs.TextLaws.{list_all-all}
use Rattle.file_format.specs.Rows.{in_name}
use Rattle.file_format.proofs.LayoutLaws.{rest_from}
use Rattle.file_names.proofs.NameLaws.{name-empty, name-long, name-first, name-rest}
use Rattle.file_names.proofs.is_name.Goals as goal

pub returns-then-w-eq0 : goal.returns-then-w-eq0
returns-then-w-eq0 c = sym (name-empty _ c.if-w-eq0.true)

pub returns-then-w-gt8 : goal.returns-then-w-gt8
returns-then-w-gt8 c = sym (name-long _ c.if-w-gt8.true)

pub returns-then-not-is_capital : goal.returns-then-not-is_capital
returns-then-not-is_capital c = sym (name-first _ (sym c.is_capital.ensures ∙ c.if-not-is_capital.true))

pub returns : goal.returns
returns c =
    let w = c.args.w.now in
    all_from_yields_List in_name _ _ _ c.all.ensures.ran (YieldsList-from_slice _ c.iter.ensures.rest) (λ x b q k. search (rules, tests))
    ∙ ap (list_all in_name) (rest_from 1 w)
    ∙ list_all-all in_name (drop 1 w)
    ∙ sym (name-rest w (omega arith) (omega arith) (sym c.is_capital.ensures ∙ c.if-not-is_capital.false))
