-- What is written and the lines of the steps that are left are the whole (`Writing`).
use Rattle.std.proofs.Common.{◌-◌}
use Rattle.machine_state.specs.HeldProgram.{program_of, sizes_of}
use Rattle.machine_state.specs.HeldState.{whole}
use Rattle.trace_theory.specs.Trace.{trace, entries_text}
use Rattle.trace_entry.proofs.WritingLaws.{Writing}
use Rattle.trace_entry.proofs.put_entries.Given as goal

abbrev pub invariant-loop : goal.invariant-loop
invariant-loop l =
    Writing (program_of l.code) (sizes_of l.code) l.answers l.fn.out l.at (entries_text (trace (program_of l.code) l.budget (whole (sizes_of l.code) l.fn.initial l.fn.start) l.answers))
    l.out l.e l.state l.blocks l.taken (l.budget - l.counter)
