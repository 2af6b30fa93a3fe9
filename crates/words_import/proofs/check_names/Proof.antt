-- `words_import::check_names` meets its contract. Assumes nothing.
use mathlib.Core.Path.{sym, ◌∙◌}
use Rattle.words_import.proofs.PrimitiveLaws.{line-spaced, line-many, line-none, line-misspelt, line-repeated, line-fine}
use borrow.Author.Rules.{rules}
use Rattle.words_import.proofs.check_names.Statement.{statement}
use Rattle.words_import.proofs.check_names.Tie as tie

returns : tie.Need-returns-then-not-all_words
returns c = sym (line-spaced _ (sym c.all_words.ensures ∙ c.if-not-all_words.true))

returns-2 : tie.Need-returns-then-not-names_laid_out
returns-2 c = sym (line-many _ (sym c.all_words.ensures ∙ c.if-not-all_words.false) (sym c.names_laid_out.ensures ∙ c.if-not-names_laid_out.true))

returns-3 : tie.Need-returns-then-same
returns-3 c =
    let t = c in
    let e = sym t.all_words.ensures ∙ t.if-not-all_words.false in
    let f = sym t.names_laid_out.ensures ∙ t.if-not-names_laid_out.false in
    let line = t.args.line.now in
    sym (line-none line e f (sym c.same.ensures ∙ c.if-same.true))

returns-4 : tie.Need-returns-then-not-all_words-2
returns-4 c =
    let t = c in
    let at-names-laid-out = t in
    let at-if1 = at-names-laid-out in
    let at-all-words = at-if1 in
    let start = at-all-words in
    let e = sym at-all-words.all_words.ensures ∙ at-if1.if-not-all_words.false in
    let f = sym at-names-laid-out.names_laid_out.ensures ∙ t.if-not-names_laid_out.false in
    let line = start.args.line.now in
    let g = sym c.same.ensures ∙ c.if-same.false in
    sym (line-misspelt line e f g (sym c.all_words-2.ensures ∙ c.if-not-all_words-2.true))

returns-5 : tie.Need-returns-then-not-distinct
returns-5 c =
    let at-if3 = c in
    let at_same = at-if3 in
    let t = at_same in
    let at-names-laid-out = t in
    let at-if1 = at-names-laid-out in
    let at-all-words = at-if1 in
    let start = at-all-words in
    let e = sym at-all-words.all_words.ensures ∙ at-if1.if-not-all_words.false in
    let f = sym at-names-laid-out.names_laid_out.ensures ∙ t.if-not-names_laid_out.false in
    let line = start.args.line.now in
    let g = sym at_same.same.ensures ∙ at-if3.if-same.false in
    let h = sym c.all_words-2.ensures ∙ c.if-not-all_words-2.false in
    sym (line-repeated line e f g h (sym c.distinct.ensures ∙ c.if-not-distinct.true))

returns-6 : tie.Need-returns
returns-6 c =
    let at-if3 = c in
    let at_same = at-if3 in
    let t = at_same in
    let at-names-laid-out = t in
    let at-if1 = at-names-laid-out in
    let at-all-words = at-if1 in
    let start = at-all-words in
    let e = sym at-all-words.all_words.ensures ∙ at-if1.if-not-all_words.false in
    let f = sym at-names-laid-out.names_laid_out.ensures ∙ t.if-not-names_laid_out.false in
    let line = start.args.line.now in
    let g = sym at_same.same.ensures ∙ at-if3.if-same.false in
    let h = sym c.all_words-2.ensures ∙ c.if-not-all_words-2.false in
    sym (line-fine line e f g h (sym c.distinct.ensures ∙ c.if-not-distinct.false))

pub check_names_spec : {M : Type 1} → statement M
check_names_spec =
    tie.close
    (tie.spec
    (λ c κs. search rules)
    returns
    (λ c κs. search rules)
    returns-2
    (λ c κs. search rules)
    returns-3
    (λ c κs. search rules)
    returns-4
    (λ c κs. search rules)
    returns-5
    returns-6)
