-- A turn enters one index more, and the next is that of the line after it.
use Rattle.std.proofs.Common.{◌≡◌, [], get_or, take, sym, ap, ◌∙◌, arith}
use Rattle.text.specs.Text.{no_line, lines, find}
use Rattle.instructions.specs.Kinds.{kind_names}
use Rattle.file_format.specs.Rows.{op}
use Rattle.words.specs.Decoding.{size_of}
use Rattle.words.proofs.HeadLaws.{size_small}
use Rattle.file_parts.proofs.FillLaws.{line-next}
use Rattle.words_export.proofs.ExportingLaws.{next-op, no-op, indexing-next, indexing-ends}
use Rattle.words_export.proofs.indices_of.Goals as goal

pub overflow_cast-indices : goal.overflow_cast-indices
overflow_cast-indices c = omega (arith, (c.loop-place.invariant.found [] 0).near)

pub overflow_add-index : goal.overflow_add-index
overflow_add-index c = omega (arith, (c.loop-place.invariant.found [] 0).near, size_small c.kind_of.result)

pub loop-place-preserved : goal.loop-place-preserved
loop-place-preserved c =
    let l = c.loop-place in
    let ls = lines c.args.body.now in
    let text = (get_or (lines l.rest.now) 0 no_line).text in
    let size = c.size_of-index.ensures ∙ ap size_of (c.kind_of.ensures.value ∙ ap (λ t. find (op t) kind_names) c.first_line.ensures) in
    record {
      others = line-next ls (lines l.rest.now) _ l.place l.invariant.others c.next_lines-rest.ensures.lines;
      found = λ ps first. indexing-next ps first text (l.invariant.found ps first) (omega arith) (next-op ps first ls (lines l.rest.now) c.args.count l.place l.invariant.others (omega arith) c.requires.1) size;
    }

pub returns : goal.returns
returns c =
    let l = c.loop-place in
    let n : l.place ≡ c.args.count = omega arith in
    λ ps first. ap (λ m. take m l.indices) (sym n) ∙ indexing-ends (l.invariant.found ps first) (no-op ps first (lines c.args.body.now) c.args.count l.place c.requires.1 (omega arith))
