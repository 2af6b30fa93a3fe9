-- Code, a state and a verdict at addresses that are higher by f: an import makes its lines "from address 0", wherever the written file
-- begins. (document 02, §2)
use Rattle.std.specs.Prelude.{◌+◌}
use Rattle.refusals.specs.Library.{ℕ, pos, cond, map}
use Rattle.bound_theory.specs.Terms.{Refusal, ReportMemory, TextLength, Layout, OutOfRange, BadName, BadWord, Stuck, Openings, Spent, NoMeeting, Verdict, accepted}
use Rattle.bound_theory.specs.Terms.{refused, State, Code, Instruction, jump}
use Rattle.refusals.specs.declared.Refusal.TheVariants.{Unpriced, NoTarget, Backward, UnknownCell}
use Rattle.machine.specs.Machine.{index}
use Rattle.machine.specs.Forward.{branches}

-- an instruction: "Targets are addresses", and no other operand is one
unfoldable pub raise_instruction : ℕ → Instruction → Instruction
raise_instruction f i = record {
  pushes = i.pushes;
  operation = i.operation;
  operand = cond (branches i.operation) (pos (index i.operand + f)) i.operand;
  calls = i.calls;
  price = i.price;
  extra = i.extra;
}

-- the code
unfoldable pub raise_code : ℕ → Code → Code
raise_code f c = record { first = c.first + f; instructions = map (raise_instruction f) c.instructions }

-- a state
unfoldable pub raise_state : ℕ → State → State
raise_state f s = jump (s.at + f) s

-- a refusal: the places of 7, 8, 9 and 14 are addresses
unfoldable pub raise_refusal : ℕ → Refusal → Refusal
raise_refusal f (Stuck a) = Stuck (a + f)
raise_refusal f (Openings a) = Openings (a + f)
raise_refusal f (Spent a) = Spent (a + f)
raise_refusal f (NoMeeting a) = NoMeeting (a + f)
raise_refusal f ReportMemory = ReportMemory
raise_refusal f TextLength = TextLength
raise_refusal f (Layout n) = Layout n
raise_refusal f (OutOfRange n) = OutOfRange n
raise_refusal f (BadName n) = BadName n
raise_refusal f (Unpriced n) = Unpriced n
raise_refusal f (NoTarget n) = NoTarget n
raise_refusal f (Backward n) = Backward n
raise_refusal f (UnknownCell n) = UnknownCell n
raise_refusal f (BadWord i) = BadWord i

-- a verdict: a report is the same
unfoldable pub raise_verdict : ℕ → Verdict → Verdict
raise_verdict f (accepted q) = accepted q
raise_verdict f (refused r) = refused (raise_refusal f r)
