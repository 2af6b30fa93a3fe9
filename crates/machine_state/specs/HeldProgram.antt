-- A routine's program as one list of words, as the run and the explorer are lent it: its first address, how many lines it has, how many
-- blocks, the sizes of eight blocks, and five words for each line.
use Rattle.std.specs.Prelude.{◌+◌, ◌*◌, ◌%◌, ◌≤◌, ◌<◌, ◌∷◌, ◌≡◌, None, Option, Some}
use Rattle.refusals.specs.Library.{ℕ, zero, suc, leb, ℤ, length, get_or, take, drop, List, []}
use Rattle.machine.specs.Terms.{Try, done, stuck, Code, Instruction}
use Rattle.numbers.specs.Numbers.{signed}
use Rattle.instructions.specs.HeldColumns.{operation_of}
use Rattle.machine_state.specs.declared.code.Line.{Line}

-- the head of a program, its words 0 to 10
abbrev pub first_address_of : List ℕ → ℕ
first_address_of ws = get_or ws 0 0

abbrev pub lines_in : List ℕ → ℕ
lines_in ws = get_or ws 1 0

abbrev pub blocks_in : List ℕ → ℕ
blocks_in ws = get_or ws 2 0

unfoldable pub sizes_of : List ℕ → List ℕ
sizes_of ws = take (blocks_in ws) (take 8 (drop 3 ws))

-- a line by the code of its operation
abbrev pub line_of : Line → Instruction
line_of l = record {
  pushes = l.pushes;
  operation = operation_of l.code;
  operand = l.operand;
  calls = l.calls;
  price = record { cycles = l.cycles; words = l.words };
  extra = l.extra;
}

-- a line by its words: the first is its operation's code, 32 more where the line pushes first, and 64 more where it calls a primitive
abbrev pub line : ℕ → ℤ → ℕ → ℕ → ℕ → Line
line b i c w x = record { code = b % 32; pushes = leb 32 (b % 64); calls = leb 64 b; operand = i; cycles = c; words = w; extra = x }

-- the line whose words begin at place k; its operand is in two's complement
abbrev pub line_at : List ℕ → ℕ → Line
line_at ws k = line (get_or ws k 0) (signed 32 (get_or ws (k + 1) 0)) (get_or ws (k + 2) 0) (get_or ws (k + 3) 0) (get_or ws (k + 4) 0)

-- n lines from place k on
unfoldable pub lines_from : List ℕ → ℕ → ℕ → List Instruction
lines_from ws zero k = []
lines_from ws (suc n) k = line_of (line_at ws k) ∷ lines_from ws n (k + 5)

-- the code of a program
unfoldable pub program_of : List ℕ → Code
program_of ws = record { first = first_address_of ws; instructions = lines_from ws (lines_in ws) 11 }

-- what the code's answer stands for
abbrev pub of_fetched : Option Line → Try Instruction
of_fetched (Some l) = done (line_of l)
of_fetched None = stuck

-- a list of words is a program: room for 1,024 lines; addresses, lines and blocks within their limits; at most sixteen fields in a block;
-- codes of operations
pub record IsProgram (ws : List ℕ) : Type 0 where
  pub words : length ws ≡ 5131
  pub addresses : first_address_of ws + lines_in ws ≤ 65536
  pub lines : lines_in ws ≤ 1024
  pub blocks : blocks_in ws ≤ 8
  pub sizes : (k : ℕ) → get_or (sizes_of ws) k 0 ≤ 16
  pub codes : (j : ℕ) → j < lines_in ws → get_or ws (11 + j * 5) 0 % 32 ≤ 22

-- a fetched line has the code of an operation
abbrev pub Known : Option Line → Type 0
Known (Some l) = l.code ≤ 22
Known None = Unit {0}
