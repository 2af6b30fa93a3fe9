-- `instructions::takes_at` meets its contract: that bit k is set where kind k takes an argument is computed. Assumes nothing.
use Prim.Native.Nat.{ℕ, ◌/◌, ◌^◌}
use mathlib.Core.Path.{◌≡◌, refl, sym}
use mathlib.Core.Bool.{Bool, true, false, cond}
use lib.Dec.{eqb, ltb}
use lib.Bits.{bit_and}
use Rattle.instructions.specs.Kinds.{kinds, kind_at}
use Rattle.instructions.specs.HeldColumns.{argument_code}
use Rattle.instructions.proofs.NameLaws.{below_at}
use borrow.Author.Rules.{rules}
use Rattle.instructions.proofs.takes_at.Statement.{statement}
use Rattle.instructions.proofs.takes_at.Tie as tie

abbrev agree : Bool → Bool → Bool
agree a b = cond a b (cond b false true)

agree-path : (a b : Bool) → agree a b ≡ true → a ≡ b
agree-path true true e = refl
agree-path true false e = sym e
agree-path false true e = e
agree-path false false e = refl

abbrev right : ℕ → Bool
right k = agree (eqb (bit_and (1150740076793954560 / 2 ^ k) 1) 1) (ltb 0 (argument_code (kind_at k).argument))

returns : tie.Need-returns
unfolding kinds kind_at argument_code
returns c = agree-path _ _ (below_at right 61 refl c.args.k c.requires)

pub takes_at_spec : {M : Type 1} → statement M
takes_at_spec = tie.close (tie.spec (λ c. search rules) returns)
