-- `instructions::argument_in` meets its contract: an argument is known by its code and its range, which the lent tables hold.
-- Assumes nothing.
use Rattle.std.specs.Prelude.{Some}
use Prim.Native.Nat.{ℕ, ◌<◌}
use mathlib.Core.Path.{◌≡◌, refl, sym, ap, ◌∙◌}
use native.Mathlib.Omega.{arith}
use lib.IntN.{pos}
use lib.ListN.{get_or}
use mir.Syntax.{w64}
use mir.Val.{of_z, to_z}
use Rattle.instructions.specs.declared.Argument.{Argument}
use Rattle.instructions.specs.HeldColumns.{argument_code, range_of}
use Rattle.instructions.specs.Kinds.{kinds, kind_at}
use Rattle.instructions.proofs.ColumnLaws.{read_back, one_place, decoded, decoded-is, code-bound}
use borrow.Author.Rules.{rules}
use Rattle.instructions.proofs.argument_in.Statement.{statement}
use Rattle.instructions.proofs.argument_in.Tie as tie

returns : tie.Need-returns-in_default
returns c = λ k e. let z : ◌≡◌ {A = ℕ} 0 1 = cc in absurd (omega arith)

-- the kind's place
below : (c : tie.In-Some) → c.in-Some.k < 61
below c = c.requires.1 _ c.in-Some.is

-- the argument of the kind at the place is that of the place
there : (c : tie.In-Some) {r : Argument} → r ≡ (kind_at c.in-Some.k).argument → (k : ℕ) → c.args.kind ≡ Some k → r ≡ (kind_at k).argument
there c e k q = e ∙ ap (λ i. (kind_at i).argument) (one_place c.in-Some.is q)

-- what the table of codes holds for it
coded : (c : tie.In-Some) → get_or c.args.codes.now c.in-Some.k 0 ≡ argument_code (kind_at c.in-Some.k).argument
coded c = c.requires.0.0.at_kind _ (below c)

-- and what those of the ends hold, as it is read
ends : (c : tie.In-Some) → record { low = to_z w64 (of_z w64 (get_or c.args.lows.now c.in-Some.k (pos 0))); high = to_z w64 (of_z w64 (get_or c.args.highs.now c.in-Some.k (pos 0))) } ≡ range_of (kind_at c.in-Some.k).argument
unfolding kinds range_of
ends c =
    let s = c.requires.0 in
    let low = read_back w64 (λ r. (range_of r.argument).low) refl _ (below c) (s.1.at_kind _ (below c)) in
    let high = read_back w64 (λ r. (range_of r.argument).high) refl _ (below c) (s.2.at_kind _ (below c)) in
    λ i. record { low = low i; high = high i }

element-copy-out-match2 : tie.Need-bounds-codes-k
element-copy-out-match2 c = below c.before

mul-t11 : tie.Need-offset_bounds-lows-k
mul-t11 c = let h = below c.before.before.before in search rules

element-copy-out-t14 : tie.Need-bounds-lows-k
element-copy-out-t14 c = below c.before.before.before

mul-t15 : tie.Need-offset_bounds-highs-k
mul-t15 c = let h = below c.before.before.before.before in search rules

element-copy-out-t18 : tie.Need-bounds-highs-k
element-copy-out-t18 c = below c.before.before.before.before

returns-2 : tie.Need-returns-in-0
returns-2 c = there c.before.before.before (decoded-is 0 _ (sym c.in-0.is ∙ coded c.before.before.before))

returns-3 : tie.Need-returns-in-1
returns-3 c =
    let t = c in
    there t.before.before.before.before.before (ap (decoded 1) (ends t.before.before.before.before.before) ∙ decoded-is 1 _ (sym c.in-1.is ∙ coded t.before.before.before.before.before))

returns-4 : tie.Need-returns-in-2
returns-4 c = there c.before.before.before (decoded-is 2 _ (sym c.in-2.is ∙ coded c.before.before.before))

returns-5 : tie.Need-returns-in_default-codes
returns-5 c =
    let t = c in
    let e = coded t.before.before.before in
    there t.before.before.before (decoded-is 3 _ (omega (arith, code-bound (kind_at t.in-Some.k).argument, c.in_default-codes.in_default-codes-own.rest.1, c.in_default-codes.in_default-codes-own.rest.0.1, c.in_default-codes.in_default-codes-own.rest.0.0.1)))

pub argument_in_spec : {M : Type 1} → statement M
argument_in_spec =
    tie.close
    (tie.spec
    (λ c. search rules)
    (λ c. search rules)
    returns
    element-copy-out-match2
    mul-t11
    element-copy-out-t14
    mul-t15
    element-copy-out-t18
    returns-2
    returns-3
    returns-4
    returns-5)
