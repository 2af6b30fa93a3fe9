-- What an entry point reads of a text, where so many bytes are lent, and the routine that the code's arrays hold.
use Rattle.refusals.specs.Library.{ℕ, ltb, cond}
use Rattle.refusals.specs.declared.Refusal.TheVariants.{ReportMemory}
use Rattle.machine_state.specs.HeldProgram.{program_of, sizes_of}
use Rattle.machine_state.specs.HeldState.{whole}
use Rattle.file_format.specs.Routine as readings
use Rattle.file_reader.specs.declared.Routine.{Routine}
use Rattle.file_reader.specs.HeldRoutine.{answers}

-- the routine that the code's arrays hold
abbrev pub routine_in : Routine → readings.Routine
routine_in x = record {
  budget = x.budget;
  tick = x.tick;
  code = program_of x.code;
  start = whole (sizes_of x.code) x.blocks x.start;
  answers = answers x;
}

-- refusal 10 where fewer bytes are lent than the limit, "checked first"; else the reading of the text
unfoldable pub admitted : ℕ → ℕ → readings.Reading → readings.Reading
admitted limit lent m = cond (ltb lent limit) (readings.unread ReportMemory) m
