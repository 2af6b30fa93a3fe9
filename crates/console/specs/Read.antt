-- Whether what was read is a whole text.
use Rattle.std.specs.Prelude.{◌⊎◌, ◌≡◌}
use Rattle.refusals.specs.Library.{ℕ, ℤ, pos, non_neg, length, Bool, true, List}

-- of n bytes in the memory, by what the last read answered: -1 where it failed, 0 at the end of the input
pub record Whole (n : ℕ) (is_whole : Bool) (last : ℤ) (memory : List ℕ) : Type 0 where
  -- a text is not whole exactly where a read failed
  pub failed : is_whole ≡ non_neg last
  -- one that is whole goes to the end of the input, or fills the memory
  pub ended : is_whole ≡ true → (n ≡ length memory) ⊎ (last ≡ pos 0)
