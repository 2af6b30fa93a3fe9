-- What is promised of a patched copy, as statements. `proofs/Theorems` proves each by its name. (document 02 §10)
use Rattle.std.specs.Prelude.{◌-◌, ◌++◌, ◌↔◌, ◌≡◌}
use Rattle.refusals.specs.Library.{ℕ, eqb, length, get_or, true, not, List}
use Rattle.machine.specs.Terms.{done, Code, Instruction, fetch}
use Rattle.answers.specs.Terms.{listed, Routine, read_bound, bytes, Line, lines, all, no_line, decimal, kinds, primitives, extra, values}
use Rattle.file_format.specs.Rows.{op, arg}
use Rattle.file_format.specs.Routine.{price_list, instruction_of, code_in}
use Rattle.file_format.specs.Routine as readings
use Rattle.preview_copy.specs.Patch.{in_code, line_of, patched}

-- "the new instruction as text, which stands in the copy after the address and a space": the instruction of that line, at the prices of the
-- file with the lines ls
abbrev pub new_instruction : List Line → ℕ → List ℕ → Instruction
new_instruction ls address text =
    instruction_of (price_list kinds ls) (listed (values kinds extra) ls) (price_list primitives ls) (decimal address ++ bytes " " ++ text)

-- "An address outside the code": an address is in the code exactly where the machine finds an instruction
abbrev pub InCodeWhere : Type 0
InCodeWhere = (c : Code) (a : ℕ) → (in_code c a ≡ true) ↔ ((i : Instruction) × (fetch c a ≡ done i))

-- y is x with the instruction `new` at place k of the code
pub record OneReplaced (k : ℕ) (new : Instruction) (x y : Routine) : Type 0 where
  pub budget : y.budget ≡ x.budget
  pub tick : y.tick ≡ x.tick
  pub first : y.code.first ≡ x.code.first
  pub count : length y.code.instructions ≡ length x.code.instructions
  pub replaced : (d : Instruction) → get_or y.code.instructions k d ≡ new
  pub others : (j : ℕ) → (j ≡ k → ⊥) → (d : Instruction) → get_or y.code.instructions j d ≡ get_or x.code.instructions j d
  pub start : y.start ≡ x.start
  pub answers : y.answers ≡ x.answers

-- "An integrator replaces one instruction": where its text has no line feed and the copy passes 1 to 6 and 13
abbrev pub CopyReplacesOne : Type 0
CopyReplacesOne =
    (text instruction : List ℕ) (address : ℕ) (x y : Routine) → read_bound text ≡ readings.routine x → in_code x.code address ≡ true →
    all (λ b. not (eqb b 10)) instruction ≡ true → read_bound (patched (lines text) address instruction) ≡ readings.routine y →
    OneReplaced (address - x.code.first) (new_instruction (lines text) address instruction) x y

-- with the instruction that stands there already, the copy is the file itself: all else is as it was
abbrev pub SameInstructionKeeps : Type 0
SameInstructionKeeps =
    (text : List ℕ) (address : ℕ) (x : Routine) → read_bound text ≡ readings.routine x → in_code x.code address ≡ true →
    let line = (get_or (lines text) (line_of (code_in (lines text)) address) no_line).text in
    patched (lines text) address (op line ++ bytes " " ++ arg line) ≡ text
