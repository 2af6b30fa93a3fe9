-- `words_export::put_line` meets its contract: the opcode, and then the argument word where the kind has one. Assumes nothing.
use Prim.Native.Nat.{◌*◌}
use mathlib.Core.Path.{sym, ap, ◌∙◌}
use mathlib.Core.List.{◌++◌}
use native.Mathlib.Omega.{arith}
use mir.Syntax.{w32}
use mir.ValLaws.{to_z-of_z}
use Rattle.text_decimals.specs.Memory.{over}
use Rattle.text_decimals.proofs.MemoryLaws.{wrote_none, wrote-more}
use Rattle.file_format.specs.Layout.{list}
use Rattle.words.specs.Words.{bytes_of}
use Rattle.words_export.proofs.ArgumentLaws.{leads-by}
use Rattle.words_export.proofs.ExportingLaws.{line_plain, line-with}
use borrow.Author.Rules.{rules}
use Rattle.words_export.proofs.put_line.Statement.{statement}
use Rattle.words_export.proofs.put_line.Tie as tie

argument-word-requires : tie.Need-argument_word-z-requires
argument-word-requires c κs =
    let k = c in
    let s = k in
    (k.kind_of-k.ensures.1, omega (arith, s.requires.0), s.requires.2, s.requires.3, leads-by s.args.line.now s.requires.4 c.word_at-w.ensures k.kind_of-k.ensures.0)

returns : tie.Need-returns-then-has_argument
unfolding bytes_of
returns c =
    let p2 = c in
    let at-word-of = p2 in
    let z = at-word-of in
    let at-word-at = z in
    let at-if1 = at-word-at in
    let at-has-argument = at-if1 in
    let p1 = at-has-argument in
    let at-opcode-at = p1 in
    let k = at-opcode-at in
    let s = k in
    let a = s.args in
    let l = line-with (list a.primitives.now) a.indices.now a.first a.index a.line.now k.kind_of-k.ensures.0 at-opcode-at.opcode_at.ensures
    (sym at-has-argument.has_argument.ensures ∙ at-if1.if-has_argument.true) at-word-at.word_at-w.ensures
    (to_z-of_z w32 z.argument_word-z.result (search rules) ∙ z.argument_word-z.ensures) in
    let w0 = wrote_none a.out.now (4 * a.index) (omega (arith, s.requires.1)) in
    let w1 = wrote-more w0 (bytes_of at-opcode-at.opcode_at.result) p1.put_word-e.ensures in
    let w2 = wrote-more w1 (bytes_of at-word-of.word_of.result) p2.put_word.ensures in (
      omega (arith, l.1),
      w2.holds ∙ ap (λ r. over a.out.now (4 * a.index) (bytes_of at-opcode-at.opcode_at.result ++ bytes_of r)) at-word-of.word_of.ensures ∙ ap (over a.out.now (4 * a.index)) (sym l.0),
    )

returns-2 : tie.Need-returns
unfolding bytes_of
returns-2 c =
    let p = c in
    let k = p in
    let s = k in
    let a = s.args in
    let l = line_plain (list a.primitives.now) a.indices.now a.first a.index a.line.now k.kind_of-k.ensures.0 p.opcode_at.ensures (sym c.has_argument.ensures ∙ c.if-has_argument.false) in
    (omega (arith, l.1), p.put_word-e.ensures.1 ∙ ap (over a.out.now (4 * a.index)) (sym l.0))

pub put_line_spec : {M : Type 1} → statement M
put_line_spec =
    tie.close
    (tie.spec
    (λ c κs. search rules)
    (λ c. search rules)
    (λ c κs. search rules)
    (λ c κs. search rules)
    (λ c κs. search rules)
    (λ c κs. search rules)
    argument-word-requires
    (λ c κs. search rules)
    (λ c κs. search rules)
    (λ c. search rules)
    (λ c. search rules)
    returns
    (λ c. search rules)
    (λ c. search rules)
    returns-2)
