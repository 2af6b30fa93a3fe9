-- Texts written into lent memory.
use Rattle.std.specs.Prelude.{◌+◌, ◌++◌}
use Rattle.refusals.specs.Library.{ℕ, length, take, drop, List}

-- the memory d with the text t over its bytes from `at` on
abbrev pub over : List ℕ → ℕ → List ℕ → List ℕ
over d at t = take at d ++ t ++ drop (at + length t) d
