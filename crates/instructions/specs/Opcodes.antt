-- Kinds by their opcodes. (document 02, §2)
use Rattle.std.specs.Prelude.{◌∷◌, None, Option, Some}
use Rattle.refusals.specs.Library.{ℕ, suc, eqb, cond, List, []}
use Rattle.instructions.specs.Kinds.{opcodes}

-- where n stands first among the given numbers, whose places are counted from k on
unfoldable pub place_from : ℕ → ℕ → List ℕ → Option ℕ
place_from k n [] = None
place_from k n (m ∷ ms) = cond (eqb n m) (Some k) (place_from (suc k) n ms)

-- the kind with an opcode, by its place in the table
unfoldable pub kind_coded : ℕ → Option ℕ
kind_coded n = place_from 0 n opcodes
