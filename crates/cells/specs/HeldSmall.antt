-- What the operations on ranges compute with in 64 bits.
use Rattle.std.specs.Prelude.{◌^◌, ◌<◌}
use Rattle.refusals.specs.Library.{ℕ, ℤ, mag}

-- the least result, and how many more there are: neither leaves 64 bits when they are added
pub record Small (low : ℤ) (more : ℕ) : Type 0 where
  pub least : mag low < 2 ^ 40
  pub few : more < 2 ^ 40
