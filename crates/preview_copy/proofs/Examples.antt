-- Which addresses are of the code. Assumes nothing.
use mathlib.Core.Path.{◌≡◌, refl}
use mathlib.Core.Bool.{true, false}
use mathlib.Core.List.{[], ◌∷◌}
use Rattle.machine.specs.Machine.{Instruction, Code}
use Rattle.preview_copy.specs.Patch.{in_code}

abbrev two : Instruction → Code
two i = record { first = 5; instructions = i ∷ i ∷ [] }

pub examples : (i : Instruction) → (in_code (two i) 4 ≡ false) × (in_code (two i) 5 ≡ true) × (in_code (two i) 6 ≡ true) × (in_code (two i) 7 ≡ false)
unfolding in_code
examples i = (refl, refl, refl, refl)
