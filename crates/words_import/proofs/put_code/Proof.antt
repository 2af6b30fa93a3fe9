-- `words_import::put_code` meets its contract: the names line, and then the lines. Assumes nothing.
use native.Mathlib.Omega.{arith}
use Rattle.text.specs.Text.{bytes}
use Rattle.text_decimals.proofs.MemoryLaws.{wrote_none, wrote-more, wrote-start}
use Rattle.file_format.specs.Layout.{list}
use Rattle.words.specs.Words.{words_of}
use Rattle.words.specs.Decoding.{decoded, items}
use Rattle.words.specs.Lines.{lines_from, code_text}
use borrow.Author.Rules.{rules}
use Rattle.words_import.proofs.put_code.Statement.{statement}
use Rattle.words_import.proofs.put_code.Tie as tie

returns : tie.Need-returns
unfolding code_text
returns c =
    let c2 = c in
    let c1 = c2 in
    let s = c1 in
    let xs = items (decoded (words_of s.args.words.now)) in
    let w0 = wrote_none s.args.out.now 0 (omega arith) in
    let w1 = wrote-more w0 (bytes "AT OP ARG\n") c1.put-e.ensures in
    let w2 = wrote-more w1 (lines_from (list s.args.primitives.now) xs 0 xs) c2.put_lines.ensures in
    wrote-start w2

pub put_code_spec : {M : Type 1} → statement M
put_code_spec =
    tie.close (tie.spec
    (λ c κs. search rules)
    (λ c κs. search rules)
    (λ c. search rules)
    returns)
