-- `file_code::code_priced` meets its contract. Assumes nothing.
use Rattle.std.specs.Prelude.{Some}
use mathlib.Core.Path.{◌≡◌, refl, sym, ap, ◌∙◌}
use mathlib.Core.Bool.{cond}
use Rattle.text.specs.Text.{place_among}
use Rattle.instructions.specs.Kinds.{kind_names}
use Rattle.instructions.proofs.ColumnLaws.{kind-below}
use Rattle.file_code.proofs.PriceLaws.{kept-known, kept_more}
use borrow.Author.Rules.{rules}
use Rattle.file_code.proofs.code_priced.Statement.{statement}
use Rattle.file_code.proofs.code_priced.Tie as tie

-- OP names the kind at a place
found : (c : tie.In-Some) → place_among c.args.op.now kind_names ≡ Some c.in-Some.k
found c = sym c.requires.0 ∙ c.in-Some.is

element-copy-out-known : tie.Need-bounds-kept-k
element-copy-out-known c = kind-below _ (found c.before)

returns-2 : tie.Need-returns-then-known-gt0
returns-2 c =
    let k = c in
    let s = k.requires.1 in
    (kept-known _ _ s _ (found k.before.before.before) refl c.if-known-gt0.true, s)

element-write-kept : tie.Need-bounds-kept-k-2
element-write-kept c = kind-below _ (found c.before.before.before.before.before)

returns-3 : tie.Need-returns
returns-3 c =
    let k = c in
    let s = k.requires.1 in
    (c.is_listed-listed.ensures, kept_more _ _ s _ (found k.before.before.before.before.before) (c.one_or_two.ensures ∙ ap (λ b. cond b 1 2) c.is_listed-listed.ensures))

pub code_priced_spec : {M : Type 1} → statement M
code_priced_spec =
    tie.close
    (tie.spec
    (λ c. search rules)
    (λ c. search rules)
    (λ c κs. search rules)
    (λ c. search rules)
    element-copy-out-known
    returns-2
    (λ c κs. search rules)
    (λ c κs. search rules)
    element-write-kept
    returns-3)
