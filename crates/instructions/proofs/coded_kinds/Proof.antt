-- `instructions::coded_kinds` meets its contract: the list is that of the definition, by computation. Assumes nothing.
use Rattle.instructions.specs.Kinds.{kinds, opcodes}
use Rattle.instructions.specs.Opcodes.{place_from, kind_coded}
use Rattle.instructions.specs.HeldColumns.{coded_place}
use Rattle.instructions.proofs.OpcodeLaws.{by-opcode}
use Rattle.instructions.proofs.coded_kinds.Statement.{statement}
use Rattle.instructions.proofs.coded_kinds.Tie as tie

returns : tie.Need-returns
unfolding kinds opcodes place_from kind_coded coded_place
returns c = by-opcode

pub coded_kinds_spec : {M : Type 1} → statement M
coded_kinds_spec = tie.close (tie.spec returns)
