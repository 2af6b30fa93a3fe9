-- `trace_entry::put_trace` meets its contract: the names, and the lines under them. Assumes nothing.
use Prim.Native.Nat.{zero-le}
use mathlib.Core.Path.{sym}
use native.Mathlib.Omega.{arith}
use Rattle.text_decimals.proofs.MemoryLaws.{wrote_none, wrote-more, wrote-start}
use Rattle.file_reader.proofs.ReaderLaws.{taken}
use Rattle.trace_theory.specs.Trace.{entries_text, trace_names, trace_text}
use Rattle.trace_entry.specs.Held.{trace_in}
use Rattle.trace_entry.proofs.FunctionLaws.{text-length}
use borrow.Author.Rules.{rules}
use Rattle.trace_entry.proofs.put_trace.Statement.{statement}
use Rattle.trace_entry.proofs.put_trace.Tie as tie

put-requires : tie.Need-put-e-requires
put-requires c κs =
    let s = c in
    omega (arith, s.requires.1, text-length (trace_in s.args.routine))

slice-aggregate-put-entries : tie.Need-slice_bounds-put_entries-end
slice-aggregate-put-entries c =
    let p = c in
    let s = p in
    sym (taken _ s.args.routine.answers.values (omega (arith, s.requires.0.places, s.requires.0.answered)))

put-entries-requires : tie.Need-put_entries-requires
put-entries-requires c κs =
    let p = c in
    let s = p in
    ((s.requires.0.program, record { formed = s.requires.0.formed; steps = s.requires.0.budget }), omega (arith, s.requires.1, text-length (trace_in s.args.routine), p.put-e.ensures.0, p.put-e.auto.out))

returns : tie.Need-returns
unfolding trace_text
returns c =
    let p = c in
    let s = p in
    wrote-start (wrote-more (wrote-more (wrote_none s.args.out.now 0 zero-le) trace_names p.put-e.ensures) (entries_text (trace_in s.args.routine)) c.put_entries.ensures)

pub put_trace_spec : {M : Type 1} → statement M
put_trace_spec =
    tie.close
    (tie.spec
    put-requires
    (λ c. search rules)
    slice-aggregate-put-entries
    put-entries-requires
    (λ c. search rules)
    returns)
