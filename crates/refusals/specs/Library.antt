-- The library's numbers, truth values, lists and logic, passed on as they are: what the specifications of all crates are written in.
pub use Rattle.std.specs.Prelude.{ℕ, zero, suc, ◌+◌, ◌-◌, ◌*◌, ◌/◌, ◌%◌, ◌^◌, ◌≤◌, ◌<◌, max, eqb, ltb, leb, ℤ, pos, negsuc, nat_abs, ◌+ℤ◌, ◌-ℤ◌, length, get_or, take, drop, set, Bool, true, false, cond, not, ◌&&◌, ◌||◌, List, [], ◌∷◌, ◌++◌, map, ◌⊎◌, ◌↔◌, ◌≡◌}
pub use Prim.Native.String.{String}
pub use Rattle.std.specs.Int.Signed.{le_z, lt_z, mag, non_neg}
pub use Rattle.std.specs.Prelude.{Option, Some as some, None as none}
