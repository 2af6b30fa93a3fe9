-- `words_export::put_export` meets its contract. Assumes nothing.
use mathlib.Core.Path.{sym, ap, ◌∙◌}
use mathlib.Core.List.{◌++◌}
use native.Mathlib.Omega.{arith}
use lib.ListN.{length, drop}
use Rattle.words_export.proofs.ReachLaws.{primitives-few, code-ready, indices-count, indices-ready, lines-ready, lines-export}
use borrow.Author.Rules.{rules}
use Rattle.words_export.proofs.put_export.Statement.{statement}
use Rattle.words_export.proofs.put_export.Tie as tie

indices-of-requires : tie.Need-indices_of-indices-requires
indices-of-requires c κs = code-ready _ c.requires.0 _ c.body_of-body.ensures _ c.count_code-count.ensures

array-share-prefix-indices : tie.Need-slice_bounds-indices-end
array-share-prefix-indices c = omega (arith, (code-ready _ c.requires.0 _ c.body_of-body.ensures _ c.count_code-count.ensures).0)

slice-aggregate-put-lines : tie.Need-slice_bounds-put_lines-end
slice-aggregate-put-lines c =
    let at-first-address = c in
    let at-body-of = at-first-address in
    let start = at-body-of in
    sym (indices-count _ start.requires.0 _ at-body-of.body_of-body.ensures _ c.count_code-count.ensures _ at-first-address.first_address-first.ensures _ c.indices_of-indices.ensures)

put-lines-requires : tie.Need-put_lines-requires
put-lines-requires c κs =
    let i = c in
    let n = i in
    let f = n in
    let b = f in
    let s = b in
    let r = code-ready _ s.requires.0 _ b.body_of-body.ensures _ n.count_code-count.ensures in (
      omega (arith, s.requires.1),
      primitives-few _ s.requires.0 _ b.text_of-primitives.ensures,
      indices-ready _ s.requires.0 _ b.body_of-body.ensures _ n.count_code-count.ensures _ f.first_address-first.ensures _ i.indices_of-indices.ensures,
      omega (arith, r.1, indices-count _ s.requires.0 _ b.body_of-body.ensures _ n.count_code-count.ensures _ f.first_address-first.ensures _ i.indices_of-indices.ensures),
      lines-ready _ s.requires.0 _ b.body_of-body.ensures _ n.count_code-count.ensures _ f.first_address-first.ensures _ i.indices_of-indices.ensures,
    )

returns : tie.Need-returns
returns c =
    let i = c in
    let n = i in
    let f = n in
    let b = f in
    let s = b in
    let p = c.put_lines.ensures in
    let e = lines-export _ s.requires.0 _ b.body_of-body.ensures _ n.count_code-count.ensures _ f.first_address-first.ensures _ i.indices_of-indices.ensures _ b.text_of-primitives.ensures in
    (p.0 ∙ ap length e, p.1 ∙ ap (λ t. t ++ drop (length t) s.args.out.now) e)

pub put_export_spec : {M : Type 1} → statement M
put_export_spec =
    tie.close
    (tie.spec
    (λ c κs. search rules)
    (λ c κs. search rules)
    (λ c κs. search rules)
    (λ c κs. search rules)
    indices-of-requires
    array-share-prefix-indices
    slice-aggregate-put-lines
    put-lines-requires
    (λ c. search rules)
    returns)
