-- What an action gives that may be stuck.

-- stuck, or done with a result: the library's option, by these names
pub use Rattle.std.specs.Prelude.{Option as Try, None as stuck, Some as done}

-- one action after another: stuck where the first is
infixl 20 ◌>>=◌
unfoldable pub ◌>>=◌ : {A B : Type 0} → Try A → (A → Try B) → Try B
◌>>=◌ stuck f = stuck
◌>>=◌ (done a) f = f a
