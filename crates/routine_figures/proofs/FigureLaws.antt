-- What the loops find of a routine is its bound, and small enough to be printed. Assumes nothing.
use native.Mathlib.Omega.{arith}
use Rattle.bound_theory.specs.Tree.{bound}
use Rattle.bound_figures.specs.declared.Found.{Found}
use Rattle.bound_figures.specs.HeldFigures.{Shows}
use Rattle.bound_explorer.specs.HeldContract.{Explores, Bounded}
use Rattle.merge_sweep.specs.HeldPass.{Figures}
use Rattle.machine_state.specs.HeldProgram.{sizes_of}
use Rattle.file_reader.specs.declared.Routine.{Routine}
use Rattle.file_reader.specs.HeldRoutine.{Limited}
use Rattle.file_entry.specs.Held.{routine_in}
use Rattle.report.specs.Held.{Shareable}

module _ (x : Routine) (l : Limited x) where
  pub explored-shows : (r : Found) → Explores (routine_in x).code (sizes_of x.code) x.blocks x.start 32 x.budget r
      → Shows r (bound (routine_in x).code (routine_in x).budget (routine_in x).start)
  unfolding bound
  explored-shows r e = e.shows

  pub explored-shareable : (r : Found) → Bounded 32 x.budget r → Shareable r
  explored-shareable r m = record { cycles = let a = m.cycles in let b = m.used in let d = l.budget in omega arith }

pub swept-shareable : (r : Found) → Figures 1025 r → Shareable r
swept-shareable r f = record { cycles = omega (arith, f.cycles) }
