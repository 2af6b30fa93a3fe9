-- `split_cuts::named` meets its contract. Assumes nothing.
use mathlib.Core.Path.{◌≡◌, sym, ap, ◌∙◌}
use mathlib.Core.Bool.{true, cond}
use mathlib.Core.List.{◌++◌}
use Rattle.text.specs.Text.{among}
use Rattle.file_format.specs.Layout.{list}
use Rattle.split_cuts.specs.Cuts.{cell_name, text_named}
use Rattle.split_cuts.proofs.CutsLaws.{names-named, cut-named, among-both}
use borrow.Author.Rules.{rules}
use Rattle.split_cuts.proofs.named.Statement.{statement}
use Rattle.split_cuts.proofs.named.Tie as tie

returns : tie.Need-returns-then-k-eq0
returns c = let start = c in sym (names-named _ start.args.k start.args.line.now c.if-k-eq0.true)

-- a line after the first: its name is listed on one of the two lines
by-lists : (c : tie.After-is_listed) → let start = c in
    text_named (list start.args.cells.now ++ list start.args.fields.now) start.args.k start.args.line.now
    ≡ cond c.is_listed.result true (among (cell_name start.args.line.now) (list start.args.fields.now))
by-lists c =
    let start = c in
    let fields = list start.args.fields.now in
    let name = cell_name start.args.line.now in
    cut-named _ start.args.k start.args.line.now c.if-k-eq0.false
    ∙ among-both name (list start.args.cells.now) fields
    ∙ ap (λ b. cond b true (among name fields)) (sym (c.is_listed.ensures ∙ ap (λ w. among w (list start.args.cells.now)) c.word_at-name.ensures))

returns-2 : tie.Need-returns-then-is_listed
returns-2 c =
    let start = c in
    sym (by-lists c.before ∙ ap (λ b. cond b true (among (cell_name start.args.line.now) (list start.args.fields.now))) c.if-is_listed.true)

returns-3 : tie.Need-returns
returns-3 c =
    let start = c in
    let fields = list start.args.fields.now in
    c.is_listed-2.ensures
    ∙ ap (λ w. among w fields) c.word_at-name.ensures
    ∙ sym (by-lists c.before.before ∙ ap (λ b. cond b true (among (cell_name start.args.line.now) fields)) c.if-is_listed.false)

pub named_spec : {M : Type 1} → statement M
named_spec = tie.close (tie.spec returns (λ c κs. search rules) (λ c κs. search rules) returns-2 (λ c κs. search rules) returns-3)
