-- What the code's routine holds.
use Rattle.std.specs.Prelude.{◌≤◌, ◌≡◌}
use Rattle.refusals.specs.Library.{ℤ, length, take, List}
use Rattle.cells.specs.HeldConfined.{Kept}
use Rattle.machine.specs.Order.{Cellwise}
use Rattle.machine_state.specs.HeldProgram.{first_address_of, sizes_of, program_of, IsProgram}
use Rattle.machine_state.specs.HeldState.{WellFormed, whole}
use Rattle.file_format.specs.Routine as readings
use Rattle.file_reader.specs.declared.Routine.{Routine}

-- the answers of a routine, without the places that are not used
abbrev pub answers : Routine → List ℤ
answers r = take r.answers.count r.answers.values

-- the code's routine holds the routine x, part by part
pub record Holds (x : readings.Routine) (held : Routine) : Type 0 where
  pub budget : held.budget ≡ x.budget
  pub tick : held.tick ≡ x.tick
  pub code : program_of held.code ≡ x.code
  pub start : whole (sizes_of held.code) held.blocks held.start ≡ x.start
  pub answered : answers held ≡ x.answers

-- and its parts are within their limits
pub record Limited (held : Routine) : Type 0 where
  pub budget : held.budget ≤ 1000000
  pub program : IsProgram held.code
  pub first : first_address_of held.code ≤ 60000
  pub placed : held.start.at ≡ first_address_of held.code
  pub formed : WellFormed held.start
  -- the numbers in its start have as many bits as numbers have
  pub numeric : Cellwise Kept (whole (sizes_of held.code) held.blocks held.start) (whole (sizes_of held.code) held.blocks held.start)
  pub answered : held.answers.count ≤ 64
  pub places : length held.answers.values ≡ 64
