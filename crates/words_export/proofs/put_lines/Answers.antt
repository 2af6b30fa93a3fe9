-- A turn writes the words of one line more, and those of all are the export.
use Rattle.std.proofs.Common.{suc, ◌∷◌, length, take, drop, sym, ap, ◌∙◌, arith}
use Rattle.text.specs.Text.{lines}
use Rattle.file_format.specs.Layout.{list}
use Rattle.words.specs.Export.{op_of}
use Rattle.file_parts.proofs.FillLaws.{line-next}
use Rattle.words_export.specs.HeldLines.{ops_in}
use Rattle.words_export.proofs.ExportingLaws.{next-op, no-op, exporting-next, exporting-ends}
use Rattle.words_export.proofs.put_lines.Goals as goal

pub loop-preserved : goal.loop-preserved
loop-preserved c =
    let l = c.loop in
    let ls = lines c.args.body.now in
    let ps = list c.args.primitives.now in
    let n = length c.args.indices.now in
    let e =
    next-op ps c.args.first ls (lines l.rest.now) n l.counter l.invariant.others (omega arith) c.requires.3
    ∙ ap (λ t. op_of ps c.args.first t ∷ drop (suc l.counter) (ops_in ps c.args.first (take n ls))) (sym c.first_line-line.ensures) in
    record {
      others = line-next ls (lines l.rest.now) _ l.counter l.invariant.others c.next_lines-rest.ensures.lines;
      written = exporting-next ps c.args.first c.first_line-line.result.now l.invariant.written e (c.put_line-index.ensures.value, c.put_line-index.ensures.out_after) c.put_line-index.auto.out;
    }

pub returns-clause-value : goal.returns-clause-value
returns-clause-value c =
    let l = c.loop in
    (exporting-ends l.invariant.written (no-op (list c.args.primitives.now) c.args.first (lines c.args.body.now) (length c.args.indices.now) l.counter c.requires.3 (omega arith))).0

pub returns-clause-out_after : goal.returns-clause-out_after
returns-clause-out_after c =
    let l = c.loop in
    (exporting-ends l.invariant.written (no-op (list c.args.primitives.now) c.args.first (lines c.args.body.now) (length c.args.indices.now) l.counter c.requires.3 (omega arith))).1
