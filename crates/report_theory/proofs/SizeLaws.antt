-- How large the figures of a passing text are, by either bound: its prices, its start, its reports. Assumes nothing.
use mathlib.Core.Path.{◌≡◌, refl}
use mathlib.Core.List.{List}
use Prim.Native.Nat.{ℕ, ◌≤◌}
use native.Mathlib.Omega.{arith}
use lib.ListN.{length, length-map}
use Rattle.text.specs.Text.{Line, lines}
use Rattle.cells.specs.Try.{done}
use Rattle.machine.specs.Machine.{height, Instruction, fetch}
use Rattle.machine.proofs.FetchLaws.{fetch-every}
use Rattle.machine.proofs.HeightLaws.{Low}
use Rattle.machine.proofs.PriceLaws.{AtMost, Both}
use Rattle.bound_theory.specs.Tree.{Report, accepted, bound}
use Rattle.bound_theory.proofs.FigureLaws.{Bounded, bound-bounded, run-bounded}
use Rattle.bound_theory.specs.Run.{run}
use Rattle.merge_theory.specs.Merge.{merged, span}
use Rattle.merge_theory.proofs.FigureLaws.{merged-bounded}
use Rattle.file_format.specs.Layout.{body, lines_of_code}
use Rattle.file_format.specs.Rows.{Passes}
use Rattle.file_format.specs.Routine.{Routine, code_in, routine_of}
use Rattle.file_format.proofs.RangeLaws.{prices-small, budget-small, tick-positive, start-low}
use Rattle.file_format.proofs.PlaceLaws.{confined}

-- as many instructions as code lines
pub code-length : (ls : List Line) → length (routine_of ls).code.instructions ≡ length (lines_of_code (body ls))
unfolding routine_of code_in
code-length ls = simp length-map refl

-- a report that is bounded by the largest prices and by the largest BUDGET
abbrev pub Limited : Report → Type 0
Limited = Bounded 196605 510 1000000

limited : {budget : ℕ} {q : Report} → budget ≤ 1000000 → Bounded 196605 510 budget q → Limited q
limited h b = record { cycles = b.cycles; words = b.words; depth = b.depth; steps = omega (arith, b.steps); path = b.path }

module _ (text : List ℕ) (x : Routine) (passes : Passes (lines text)) (is : x ≡ routine_of (lines text)) where
  pub priced : (a : ℕ) (i : Instruction) → fetch x.code a ≡ done i → Both (AtMost 196605 510) i.price i.extra
  priced a i e = fetch-every x.code a i e (rw (← is) at (prices-small (lines text)))

  pub low : Low x.start
  unfolding height
  low = let h = rw (← is) at (start-low passes) in record { low = omega arith }

  pub ticks : 1 ≤ x.tick
  ticks = rw (← is) at (tick-positive passes)

  within : x.budget ≤ 1000000
  within = rw (← is) at (budget-small passes)

  spanned : span x.code x.start ≤ 1000000
  spanned = let h = rw (← is) at (confined (lines text) passes).past in omega arith

  -- the reports of both bounds and of the run
  pub bound-limited : (q : Report) → bound x.code x.budget x.start ≡ accepted q → Limited q
  bound-limited q a = limited within (bound-bounded 196605 510 x.code priced x.budget x.start low q a)

  pub merged-limited : (q : Report) → merged x.code x.start ≡ accepted q → Limited q
  merged-limited q a = limited spanned (merged-bounded 196605 510 x.code priced x.start low q a)

  pub run-limited : (q : Report) → run x.code x.budget x.start x.answers ≡ accepted q → Limited q
  run-limited q a = limited within (run-bounded 196605 510 x.code priced x.budget x.start low x.answers q a)
