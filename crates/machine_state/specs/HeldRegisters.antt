-- The state beside its stack, and what each of its methods makes of it.
use Rattle.std.specs.Prelude.{◌+◌, ◌-◌}
use Rattle.refusals.specs.Library.{ℕ, pos, List}
use Rattle.machine.specs.Terms.{Cell, exactly}
use Rattle.machine_state.specs.declared.State.{State}
use Rattle.machine_state.specs.declared.registers.Registers.{Registers}

-- the state beside its stack, and the state put together again
abbrev pub registers_of : State → Registers
registers_of s = record { at = s.at; accu = s.accu; free = s.free }

abbrev pub with_stack : Registers → List Cell → State
with_stack r stack = record { at = r.at; accu = r.accu; free = r.free; stack = stack }

-- with one place of the stack less that is unused, and with n more
abbrev pub pushed : Registers → Registers
pushed r = record { at = r.at; accu = r.accu; free = r.free - 1 }

abbrev pub popped : ℕ → Registers → Registers
popped n r = record { at = r.at; accu = r.accu; free = r.free + n }

-- with a cell in the accumulator, and with 0
abbrev pub loaded : Cell → Registers → Registers
loaded c r = record { at = r.at; accu = c; free = r.free }

abbrev pub stored : Registers → Registers
stored r = loaded (exactly (pos 0)) r

-- at the next address, and at another
abbrev pub advanced : Registers → Registers
advanced r = record { at = r.at + 1; accu = r.accu; free = r.free }

abbrev pub placed : ℕ → Registers → Registers
placed a r = record { at = a; accu = r.accu; free = r.free }
