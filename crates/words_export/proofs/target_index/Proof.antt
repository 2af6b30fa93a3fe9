-- `words_export::target_index` meets its contract: the target is the address of a line. Assumes nothing.
use Prim.Native.Nat.{◌-◌}
use mathlib.Core.Path.{◌≡◌, refl, sym, ap, ◌∙◌}
use native.Mathlib.Omega.{arith}
use lib.IntN.{nat_abs}
use lib.ListN.{length, get_or}
use Rattle.instructions.specs.Kinds.{addresses}
use Rattle.instructions.proofs.ColumnLaws.{target-range}
use Rattle.file_format.specs.Rows.{value}
use Rattle.file_format.specs.Routine.{inside, natural_in}
use Rattle.words_export.proofs.ArgumentLaws.{Address, target-address}
use borrow.Author.Rules.{rules}
use Rattle.words_export.proofs.target_index.Statement.{statement}
use Rattle.words_export.proofs.target_index.Tie as tie

-- the range of targets
ranged : (c : tie.After-range_at) → c.range_at.result ≡ addresses
ranged c = target-range c.range_at.ensures refl c.requires.1

-- the address
held : (c : tie.After-natural_of-address) → c.natural_of-address.result ≡ nat_abs (inside addresses (value c.args.w.now))
held c = c.natural_of-address.ensures ∙ ap (λ r. natural_in r c.args.w.now) (ranged c.before)

led : (c : tie.After-natural_of-address) → Address c.args.first (length c.args.indices.now) (inside addresses (value c.args.w.now))
led c = let s = c in target-address s.requires.2 s.requires.3

natural-of-requires : tie.Need-natural_of-address-requires
natural-of-requires c κs = record { least = 0; greatest = 62000; is = ranged c; small = (omega arith, omega arith) }

sub-result : tie.Need-overflow_sub-result
sub-result c = omega (arith, held c, (led c).above)

shared-slice-read-result : tie.Need-bounds-indices-address
shared-slice-read-result c = omega (arith, held c.before, (led c.before).above, (led c.before).below)

cast-result : tie.Need-overflow_cast-result
cast-result c = let s = c in omega (arith, s.requires.2.small (c.natural_of-address.result - s.args.first))

returns : tie.Need-returns
returns c =
    let s = c in
    let e = ap (λ n. n - s.args.first) (held c.before) ∙ sym (led c.before).line in
    (ap (λ j. get_or s.args.indices.now j 0) e, s.requires.2.small (c.natural_of-address.result - s.args.first))

pub target_index_spec : {M : Type 1} → statement M
target_index_spec =
    tie.close
    (tie.spec
    (λ c κs. search rules)
    natural-of-requires
    (λ c. search rules)
    sub-result
    (λ c. search rules)
    shared-slice-read-result
    cast-result
    returns)
