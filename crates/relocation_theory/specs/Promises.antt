-- What is promised of code at other addresses, as statements. `proofs/Theorems` proves each by its name. (document 02, §2)
use Rattle.std.specs.Prelude.{◌≡◌}
use Rattle.refusals.specs.Library.{ℕ, ℤ, List}
use Rattle.bound_theory.specs.Terms.{bound, run, State, Code}
use Rattle.merge_theory.specs.Merge.{merged}
use Rattle.relocation_theory.specs.Raised.{raise_code, raise_state, raise_verdict}

-- the first bound has the same report, or the same refusal at an address that is higher by f
abbrev pub BoundRaised : Type 0
BoundRaised = (f : ℕ) (c : Code) (budget : ℕ) (s : State) → bound (raise_code f c) budget (raise_state f s) ≡ raise_verdict f (bound c budget s)

-- so has the merging bound
abbrev pub MergedRaised : Type 0
MergedRaised = (f : ℕ) (c : Code) (s : State) → merged (raise_code f c) (raise_state f s) ≡ raise_verdict f (merged c s)

-- and so has the run
abbrev pub RunRaised : Type 0
RunRaised = (f : ℕ) (c : Code) (budget : ℕ) (s : State) (answers : List ℤ) → run (raise_code f c) budget (raise_state f s) answers ≡ raise_verdict f (run c budget s answers)
