-- `words_import::put_import` meets its contract. Assumes nothing.
use mathlib.Core.Path.{sym, ap, ◌∙◌}
use mathlib.Core.List.{◌++◌}
use native.Mathlib.Omega.{arith}
use lib.ListN.{length, drop}
use Rattle.words_import.proofs.ImportLaws.{import-line, import-readable, accepted-short, import-text, short-by}
use borrow.Author.Rules.{rules}
use Rattle.words_import.proofs.put_import.Statement.{statement}
use Rattle.words_import.proofs.put_import.Tie as tie

numbers-of-requires : tie.Need-numbers_of-numbers-requires
numbers-of-requires c κs =
    let s = c in
    import-readable s.args.words.now s.args.primitives.now s.requires.0

put-code-requires : tie.Need-put_code-requires
put-code-requires c κs =
    let s = c in
    let bs = s.args.words.now in
    let line = s.args.primitives.now in (
      import-readable bs line s.requires.0,
      c.numbers_of-numbers.ensures,
      short-by line _ c.first_line-line.ensures (accepted-short line (import-line bs line s.requires.0)),
      omega (arith, s.requires.1),
    )

returns : tie.Need-returns
returns c =
    let p = c in
    let f = p in
    let s = f in
    let e = import-text s.args.words.now s.args.primitives.now _ f.first_line-line.ensures in
    (p.put_code.ensures.0 ∙ ap length (sym e), p.put_code.ensures.1 ∙ ap (λ t. t ++ drop (length t) s.args.out.now) (sym e))

pub put_import_spec : {M : Type 1} → statement M
put_import_spec =
    tie.close
    (tie.spec
    (λ c κs. search rules)
    numbers-of-requires
    (λ c. search rules)
    put-code-requires
    (λ c. search rules)
    returns)
