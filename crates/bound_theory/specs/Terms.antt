-- The terms of the machine, of the first bound and of the run, passed on as they are, for the specifications above.
pub use Rattle.machine.specs.Terms.{numbers, Try, done, stuck, Value, Range, Handle, Cell, Binary, Add, Subtract, Compare, unknown, handle, range, high, Allowed, Refines}
pub use Rattle.machine.specs.Terms.{Operation, Nothing, Access, Drop, Assign, Constant, Alter, Combine, GetField, SetField, Branch, BranchIf, BranchIfNot, Call, Stop}
pub use Rattle.machine.specs.Terms.{State, Code, Instruction, Price, Next, stops, goes, opens, Cellwise, Forward}
unfoldable pub use Rattle.machine.specs.Terms.{◌>>=◌, between, nth, step, height, jump, fetch}
pub use Rattle.refusals.specs.declared.Refusal.{Refusal}
pub use Rattle.refusals.specs.declared.Refusal.TheVariants.{ReportMemory, TextLength, Layout, OutOfRange, BadName, BadWord, Stuck, Openings, Spent, NoMeeting}
unfoldable pub use Rattle.refusals.specs.Refusals.{number, place}
pub use Rattle.bound_theory.specs.Tree.{Decision, N, T, Report, Verdict, accepted, refused, opening_limit}
unfoldable pub use Rattle.bound_theory.specs.Tree.{bound}
pub use Rattle.bound_theory.specs.Traces.{Move, move, Transition, CostMax}
unfoldable pub use Rattle.bound_theory.specs.Traces.{cost, word_sum}
pub use Rattle.bound_theory.specs.Run.{Run}
unfoldable pub use Rattle.bound_theory.specs.Run.{begin, after, run, run_is_stuck}
