-- `file_lines::mark` meets its contract. Assumes nothing.
use mathlib.Core.Path.{sym, ap}
use Rattle.file_lines.specs.HeldLines.{is_new, marked}
use borrow.Author.Rules.{rules}
use Rattle.file_lines.proofs.mark.Statement.{statement}
use Rattle.file_lines.proofs.mark.Tie as tie

returns : tie.Need-returns-in_default
unfolding is_new marked
returns c =
    let e = c.in_default.is in
    let seen = c.args.seen.now in
    (sym (ap (is_new seen) e), sym (ap (marked seen) e))

element-copy-out-before : tie.Need-bounds-seen-k
element-copy-out-before c = c.requires _ c.in-Some.is

element-write-seen : tie.Need-bounds-seen-k-2
element-write-seen c = c.requires _ c.in-Some.is

returns-2 : tie.Need-returns
unfolding is_new marked
returns-2 c =
    let e = c.in-Some.is in
    let seen = c.args.seen.now in
    (sym (ap (is_new seen) e), sym (ap (marked seen) e))

pub mark_spec : {M : Type 1} → statement M
mark_spec =
    tie.close
    (tie.spec
    (λ c. search rules)
    (λ c. search rules)
    returns
    element-copy-out-before
    element-write-seen
    returns-2)
