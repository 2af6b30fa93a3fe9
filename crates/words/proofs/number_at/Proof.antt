-- `words::number_at` meets its contract. Assumes nothing.
use Rattle.std.specs.Prelude.{None, Some}
use mathlib.Core.Path.{◌≡◌, sym, ap, ◌∙◌}
use mathlib.Core.Bool.{cond}
use native.Mathlib.Omega.{arith}
use lib.IntN.{nat_abs}
use lib.ListN.{get_or}
use borrow.Author.Tests.{lt-ltb, le-ltb}
use mir.Syntax.{w64}
use mir.Val.{of_z, to_z}
use mir.ValLaws.{to_z-of_z}
use Rattle.words.specs.Held.{number_in}
use Rattle.words.proofs.OffsetLaws.{number-negative, index-fits, Natural, index-natural}
use borrow.Author.Rules.{rules}
use Rattle.words.proofs.number_at.Statement.{statement}
use Rattle.words.proofs.number_at.Tie as tie

-- the index as it is read back
read : (s : tie.Start) → to_z w64 (of_z w64 s.args.index) ≡ s.args.index
read s = to_z-of_z w64 s.args.index s.ranges.index

-- it is from 0 on
natural : (c : tie.Else-index-lt0) → Natural c.args.numbers.now (to_z w64 (of_z w64 c.args.index))
natural c = index-natural c.args.numbers.now (to_z w64 (of_z w64 c.args.index)) c.if-index-lt0.false

-- what is found there
found : (s : tie.Start) → number_in s.args.numbers.now (to_z w64 (of_z w64 s.args.index)) ≡ number_in s.args.numbers.now s.args.index
found s = ap (number_in s.args.numbers.now) (read s)

returns : tie.Need-returns-then-index-lt0
returns c = let s = c in sym (sym (found s.before) ∙ number-negative s.args.numbers.now (to_z w64 (of_z w64 s.args.index)) c.if-index-lt0.true)

cast-n : tie.Need-overflow_cast-n
cast-n c = ((natural c).natural, index-fits c.args.index c.ranges.index)

returns-2 : tie.Need-returns-then-numbers-n
returns-2 c = sym (sym (found c.before.before) ∙ (natural c.before).past c.if-numbers-n.true)

returns-3 : tie.Need-returns-then-number-lt1024
returns-3 c =
    let i = c in
    let s = i in
    let v = get_or s.args.numbers.now (nat_abs (to_z w64 (of_z w64 s.args.index))) 0 in
    sym (sym (found s.before.before.before.before) ∙ (natural i.before.before.before).number c.if-numbers-n.false ∙ ap (λ b. cond b (Some v) None) (lt-ltb v 1024 (omega arith)))

returns-4 : tie.Need-returns
returns-4 c =
    let i = c in
    let s = i in
    let v = get_or s.args.numbers.now (nat_abs (to_z w64 (of_z w64 s.args.index))) 0 in
    sym (sym (found s.before.before.before.before) ∙ (natural i.before.before.before).number c.if-numbers-n.false ∙ ap (λ b. cond b (Some v) None) (le-ltb v 1024 (omega arith)))

pub number_at_spec : {M : Type 1} → statement M
number_at_spec =
    tie.close
    (tie.spec
    returns
    cast-n
    returns-2
    (λ c. search rules)
    (λ c. search rules)
    (λ c. search rules)
    returns-3
    returns-4)
