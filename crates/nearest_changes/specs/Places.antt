-- The cells of a start by their places in the file. (document 02, §13)
use Rattle.std.specs.Prelude.{◌-◌, ◌/◌, ◌%◌, ◌<◌, ◌∷◌, ◌++◌}
use Rattle.refusals.specs.Library.{ℕ, zero, suc, eqb, ltb, length, get_or, set, cond, List, [], map}
use Rattle.machine.specs.Terms.{Try, done, ◌>>=◌, Cell, nth, State, height}
use Rattle.machine.specs.Machine.{load, restack, reblock}
use Rattle.nearest_changes.specs.declared.Position.{Position}
use Rattle.nearest_changes.specs.declared.Position.TheVariants.{Accu, Entry, Field}

-- the cell at a place; stuck where the start has none there
unfoldable pub cell_at : Position → State → Try Cell
cell_at Accu s = done s.accu
cell_at (Entry n) s = nth n s.stack
cell_at (Field k n) s = nth k s.blocks >>= λ b. nth n b

-- the start with the cell c there
unfoldable pub replace_at : Position → Cell → State → State
replace_at Accu c s = load c s
replace_at (Entry n) c s = restack (set s.stack n c) s
replace_at (Field k n) c s = reblock (set s.blocks k (set (get_or s.blocks k []) n c)) s

-- m numbers from k on
unfoldable pub from : ℕ → ℕ → List ℕ
from k zero = []
from k (suc m) = k ∷ from (suc k) m

-- the places of the fields of block k and of the blocks after it: "B0.0 B0.1 and on, block after block"
unfoldable pub fields_from : ℕ → List (List Cell) → List Position
fields_from k [] = []
fields_from k (b ∷ bs) = map (Field k) (from 0 (length b)) ++ fields_from (suc k) bs

-- the places of all cells of a start, in the file's order: "ACCU, then S0 on", and the fields
unfoldable pub positions : State → List Position
positions s = Accu ∷ (map Entry (from 0 (height s)) ++ fields_from 0 s.blocks)

-- that order
pub data Earlier : Position → Position → Type 0 where
  accu_entry : {n : ℕ} → Earlier Accu (Entry n)
  accu_field : {k n : ℕ} → Earlier Accu (Field k n)
  entries : {m n : ℕ} → m < n → Earlier (Entry m) (Entry n)
  entry_field : {m k n : ℕ} → Earlier (Entry m) (Field k n)
  blocks : {j m k n : ℕ} → j < k → Earlier (Field j m) (Field k n)
  fields : {k m n : ℕ} → m < n → Earlier (Field k m) (Field k n)

-- place k of those that a start can have: ACCU, 64 entries, eight blocks of sixteen fields
unfoldable pub position_of : ℕ → Position
position_of k = cond (eqb k 0) Accu (cond (ltb k 65) (Entry (k - 1)) (Field ((k - 65) / 16) ((k - 65) % 16)))

-- all of them
unfoldable pub all_positions : List Position
all_positions = map position_of (from 0 193)
