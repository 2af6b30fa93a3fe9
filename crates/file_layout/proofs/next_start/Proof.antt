-- `file_layout::next_start` meets its contract. Assumes nothing.
use mathlib.Core.Path.{◌≡◌, ap, ◌∙◌}
use native.Mathlib.Omega.{arith}
use lib.ListN.{drop, length-drop}
use Rattle.text.proofs.ScanLaws.{first_length}
use Rattle.file_format.proofs.LayoutLaws.{rest_from, next-begins, none-begins}
use borrow.Author.Rules.{rules}
use Rattle.file_layout.proofs.next_start.Statement.{statement}
use Rattle.file_layout.proofs.next_start.Tie as tie

-- what is left, and the length of its first line
module _ (c : tie.After-piece_length-e) where
  abbrev start : tie.Start
  start = c.before.before.before

  first : c.piece_length-e.result ≡ first_length 10 (drop start.args.at start.args.text.now)
  first = c.piece_length-e.ensures ∙ ap (first_length 10) (rest_from start.args.at start.args.text.now)

add-result : tie.Need-overflow_add-result
add-result c = search (c.if-e-rest.true, c.requires, rules)

add-result-2 : tie.Need-overflow_add-result-then-e-rest
add-result-2 c = search (c.if-e-rest.true, c.requires, rules)

returns : tie.Need-returns-then-e-rest
returns c =
    let s = c in
    let l = length-drop s.args.at s.args.text.now in
    let h = c.if-e-rest.true in
    (omega (arith, s.requires), next-begins s.args.text.now s.args.at _ (first c.before) (omega (arith, s.requires)))

returns-2 : tie.Need-returns
returns-2 c =
    let s = c in
    let l = length-drop s.args.at s.args.text.now in
    let h = c.if-e-rest.false in
    (omega arith, none-begins s.args.text.now s.args.at _ (first c.before) (omega (arith, s.requires)))

pub next_start_spec : {M : Type 1} → statement M
next_start_spec =
    tie.close
    (tie.spec
    (λ c. search rules)
    (λ c. search rules)
    (λ c. search rules)
    (λ c κs. search rules)
    add-result
    add-result-2
    returns
    returns-2)
