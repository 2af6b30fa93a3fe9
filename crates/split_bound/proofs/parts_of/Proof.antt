-- `split_bound::parts_of` meets its contract. Assumes nothing.
use Prim.Native.Nat.{ℕ, ◌-◌, ◌<◌, ◌≤◌}
use mathlib.Core.Path.{◌≡◌, refl, sym, ap, ap₂, subst, ◌∙◌}
use mathlib.Core.Bool.{false}
use native.Mathlib.Omega.{arith}
use lib.IntN.{ℤ, nat_abs, ◌-ℤ◌}
use lib.Signed.{le_z}
use mir.Syntax.{w32, w64}
use mir.Val.{SFits}
use mir.ValLaws.{to_z-of_z}
use Rattle.numbers.proofs.SignedLaws.{read, wide, cast_fits, wide_is, read-both}
use Rattle.cells.proofs.ComputeLaws.{operands-fit, operands-read, between-fits, between-unsigned}
use Rattle.cells.specs.Cells.{range}
use Rattle.split_bound.specs.declared.Parts.TheVariants.{Two}
use Rattle.split_bound.specs.Held.{parts_of}
use Rattle.split_bound.proofs.PartLaws.{gap-some, is-above, not_below, is-least, none_below, none_from, both-parts, handle-whole}
use borrow.Author.Rules.{rules}
use Rattle.split_bound.proofs.parts_of.Statement.{statement}
use Rattle.split_bound.proofs.parts_of.Tie as tie

-- the least number of the range, and the number at which it is cut
abbrev low : (c : tie.In-Range) → ℤ
low c = c.in-Range.low

abbrev more : (c : tie.In-Range) → ℕ
more c = c.in-Range.more

abbrev number : (c : tie.In-Range) → ℤ
number c = c.args.n

low_fits : (c : tie.In-Range) → SFits w32 (low c)
low_fits c = search rules

number_fits : (c : tie.In-Range) → SFits w32 (number c)
number_fits c = search rules

returns : tie.Need-returns-in_default
returns c = handle-whole _ _ ∙ sym (ap (parts_of c.args.n) c.in_default.is)

returns-2 : tie.Need-returns-then-n-low
returns-2 c = let k = c in
    none_below (number k.before) (low k.before) (more k.before) (is-least (low k.before) (number k.before) (sym (read-both le_z w32 (number k.before) (low k.before) (number_fits k.before) (low_fits k.before)) ∙ c.if-n-low.true))
    ∙ sym (ap (parts_of (number k.before)) k.in-Range.is)

test : (c : tie.Else-n-low) → le_z (number c.before) (low c.before) ≡ false
test c = let k = c in sym (read-both le_z w32 (number k.before) (low k.before) (number_fits k.before) (low_fits k.before)) ∙ c.if-n-low.false

cast-below : tie.Need-overflow_cast-below
cast-below c = cast_fits _ (number_fits c.before)

cast-below-2 : tie.Need-overflow_cast-below-2
cast-below-2 c = cast_fits _ (low_fits c.before)

sub-below : tie.Need-overflow_sub-below
sub-below c = let k = c in operands-fit ◌-ℤ◌ (wide_is _ (number_fits k.before)) (wide_is _ (low_fits k.before)) (between-fits _ _ (low_fits k.before) (number_fits k.before))

-- what the code computes is how many numbers from the least on are below the number
counts : (k : tie.In-Range) → read w64 (wide (number k) -ℤ wide (low k)) ≡ number k -ℤ low k
counts k = operands-read ◌-ℤ◌ (wide_is _ (number_fits k)) (wide_is _ (low_fits k)) (between-fits _ _ (low_fits k) (number_fits k))

cast-below-3 : tie.Need-overflow_cast-below-3
cast-below-3 c =
    let k = c in
    let u = between-unsigned (low k.before) (number k.before) (low_fits k.before) (number_fits k.before) (not_below (low k.before) (number k.before) (test c)) in
    rw (counts k.before) (u.sign, record { fits = u.few })

returns-3 : tie.Need-returns-then-more-below
returns-3 c =
    let k = c in
    let h : more k.before.before < nat_abs (number k.before.before -ℤ low k.before.before) = subst (λ z. more k.before.before < nat_abs z) (counts k.before.before) c.if-more-below.true in
    none_from (number k.before.before) (low k.before.before) (more k.before.before) (is-above (low k.before.before) (number k.before.before) (test c.before)) h ∙ sym (ap (parts_of (number k.before.before)) k.in-Range.is)

sub-t13 : tie.Need-overflow_sub-lower
sub-t13 c = let k = c in rw (counts k.before.before) (omega (arith, gap-some (low k.before.before) (number k.before.before) (is-above (low k.before.before) (number k.before.before) (test c.before))))

returns-4 : tie.Need-returns
returns-4 c =
    let k = c in
    let h : nat_abs (number k.before.before -ℤ low k.before.before) ≤ more k.before.before = subst (λ z. nat_abs z ≤ more k.before.before) (counts k.before.before) c.if-more-below.false in
    ap₂ Two (ap₂ range (to_z-of_z w32 (low k.before.before) (low_fits k.before.before)) (ap (λ z. nat_abs z - 1) (counts k.before.before))) (ap₂ range (to_z-of_z w32 (number k.before.before) (number_fits k.before.before)) (ap (λ z. more k.before.before - nat_abs z) (counts k.before.before)))
    ∙ both-parts (number k.before.before) (low k.before.before) (more k.before.before) (is-above (low k.before.before) (number k.before.before) (test c.before)) h refl refl
    ∙ sym (ap (parts_of (number k.before.before)) k.in-Range.is)

pub parts_of_spec : {M : Type 1} → statement M
parts_of_spec =
    tie.close
    (tie.spec
    (λ c. search rules)
    (λ c. search rules)
    returns
    returns-2
    cast-below
    cast-below-2
    sub-below
    cast-below-3
    returns-3
    sub-t13
    returns-4)
