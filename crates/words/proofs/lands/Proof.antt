-- `words::lands` meets its contract. Assumes nothing.
use Prim.Native.Nat.{suc}
use mathlib.Core.Path.{sym, ap, ◌∙◌}
use lib.IntN.{pos, ◌+ℤ◌}
use mir.Syntax.{w32, w64}
use mir.ValLaws.{to_z-of_z}
use Rattle.words.specs.Held.{lands_in}
use Rattle.words.proofs.OffsetLaws.{target-lands}
use borrow.Author.Rules.{rules}
use Rattle.words.proofs.lands.Statement.{statement}
use Rattle.words.proofs.lands.Tie as tie

enum_told : tie.Need-enum_told-1
enum_told c = search rules

returns : tie.Need-returns-in-Absent
unfolding lands_in
returns c =
    let s = c in
    sym (ap (lands_in s.args.numbers.now (pos (suc s.args.index) +ℤ s.args.argument)) (sym c.argument_at.ensures ∙ c.in-Absent.is))

returns-2 : tie.Need-returns-in-Target
returns-2 c =
    let s = c in
    let a = sym c.argument_at.ensures ∙ c.in-Target.is in
    target-lands s.args.numbers.now (c.landing.ensures ∙ ap (λ z. pos (suc s.args.index) +ℤ z) (to_z-of_z w32 s.args.argument s.ranges.argument)) (to_z-of_z w64 _ (search rules)) c.number_at.ensures c.is_found.ensures a

returns-3 : tie.Need-returns-in-Primitive
unfolding lands_in
returns-3 c =
    let s = c in
    sym (ap (lands_in s.args.numbers.now (pos (suc s.args.index) +ℤ s.args.argument)) (sym c.argument_at.ensures ∙ c.in-Primitive.is))

returns-4 : tie.Need-returns-in-Within
unfolding lands_in
returns-4 c =
    let s = c in
    sym (ap (lands_in s.args.numbers.now (pos (suc s.args.index) +ℤ s.args.argument)) (sym c.argument_at.ensures ∙ c.in-Within.is))

pub lands_spec : {M : Type 1} → statement M
lands_spec =
    tie.close
    (tie.spec
    (λ c κs. search rules)
    enum_told
    (λ c. search rules)
    (λ c κs. search rules)
    (λ c κs. search rules)
    (λ c κs. search rules)
    (λ c. search rules)
    (λ c. search rules)
    returns
    returns-2
    returns-3
    returns-4)
