-- What the code holds of the names of the fields.
use Rattle.std.specs.Prelude.{◌≤◌, ◌∷◌, ◌≡◌}
use Rattle.refusals.specs.Library.{ℕ, suc, get_or, take, cond, List, []}
use Rattle.file_format.specs.Rows.{is_field, total}
use Rattle.file_names.specs.declared.Blocks.{Blocks}

-- b holds the block sizes ns
pub record BlocksOf (ns : List ℕ) (b : Blocks) : Type 0 where
  pub few : b.count ≤ 8
  pub sizes : take b.count b.sizes ≡ ns
  pub sum : b.total ≡ total ns
  pub small : (k : ℕ) → get_or b.sizes k 0 ≤ 16

-- the sizes ns of block k and those after it, with the name w: it adds a field to the last block, or a block, or nothing
unfoldable pub added : ℕ → List ℕ → List ℕ → List ℕ
added k [] w = cond (is_field k 0 w) (1 ∷ []) []
added k (n ∷ []) w = cond (is_field k n w) (suc n ∷ []) (n ∷ added (suc k) [] w)
added k (n ∷ m ∷ ns) w = n ∷ added (suc k) (m ∷ ns) w
