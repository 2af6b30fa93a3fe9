-- `generate_entry::target` meets its contract. Assumes nothing.
use native.Mathlib.Nat.{mod-lt}
use native.Mathlib.Omega.{arith}
use Prim.Native.Nat.{◌-◌}
use Rattle.generate_entry.proofs.CellLaws.{aimed, closing}
use borrow.Author.Rules.{rules}
use Rattle.generate_entry.proofs.target.Statement.{statement}
use Rattle.generate_entry.proofs.target.Tie as tie

cast-result : tie.Need-overflow_cast-result
cast-result c = record { fits = omega (arith, mod-lt c.args.d {m = c.args.n - c.args.k} (omega (arith, c.requires))) }

sub-result : tie.Need-overflow_sub-result
sub-result c = omega (arith, mod-lt c.args.d {m = c.args.n - c.args.k} (omega (arith, c.requires)))

returns : tie.Need-returns-then-d-left-eq0
returns c = aimed c.args.n c.args.k c.args.d c.if-d-left-eq0.true

returns-2 : tie.Need-returns
returns-2 c = closing c.args.n c.args.k c.args.d c.if-d-left-eq0.false

pub target_spec : {M : Type 1} → statement M
target_spec =
    tie.close
    (tie.spec (λ c. search rules) (λ c. search rules) (λ c. search rules) (λ c. search rules) cast-result sub-result returns returns-2)
