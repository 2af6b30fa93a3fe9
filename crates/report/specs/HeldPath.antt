-- The report that the explorer's figures stand for: its path is one number (`encode` in the specs of `bound_figures`).
use Rattle.std.specs.Prelude.{◌/◌, ◌%◌, ◌∷◌}
use Rattle.refusals.specs.Library.{ℕ, zero, suc, eqb, ltb, cond, List, []}
use Rattle.bound_theory.specs.Tree.{Decision, N, T, Report}

-- the decision of a bit: 0 is not taken
abbrev pub decision : ℕ → Decision
decision bit = cond (eqb bit 0) N T

-- the decisions of n, the lowest bit first, up to the 1 above the last; at most `fuel` of them
unfoldable pub decisions : ℕ → ℕ → List Decision
decisions zero n = []
decisions (suc fuel) n = cond (ltb n 2) [] (decision (n % 2) ∷ decisions fuel (n / 2))

-- the path that a number stands for, of any length
unfoldable pub decode : ℕ → List Decision
decode n = let m = n in decisions m m

-- the report of the figures
unfoldable pub report_of : ℕ → ℕ → ℕ → ℕ → ℕ → Report
report_of cycles words depth steps path = record { cycles = cycles; words = words; depth = depth; steps = steps; path = decode path }
