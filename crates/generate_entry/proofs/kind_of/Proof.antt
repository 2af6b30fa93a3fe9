-- `generate_entry::kind_of` meets its contract. Assumes nothing.
use mathlib.Core.Path.{◌≡◌, refl}
use mathlib.Core.Bool.{cond}
use Prim.Native.Nat.{ℕ, ◌%◌, ◌<◌, ◌≤◌}
use lib.Dec.{ltb}
use borrow.Author.Tests.{lt-ltb, le-ltb}
use borrow.Author.Rules.{rules}
use Rattle.generate_entry.proofs.kind_of.Statement.{statement}
use Rattle.generate_entry.proofs.kind_of.Tie as tie

first : (n k d : ℕ) → k < n → d % 61 ≡ cond (ltb k n) (d % 61) 60
first n k d h = rw (lt-ltb k n h) refl

last : (n k d : ℕ) → n ≤ k → 60 ≡ cond (ltb k n) (d % 61) 60
last n k d h = rw (le-ltb k n h) refl

returns : tie.Need-returns-then-k-n
returns c = first c.args.n c.args.k c.args.d c.if-k-n.true

returns-2 : tie.Need-returns
returns-2 c = last c.args.n c.args.k c.args.d c.if-k-n.false

pub kind_of_spec : {M : Type 1} → statement M
kind_of_spec = tie.close (tie.spec (λ c. search rules) returns returns-2)
