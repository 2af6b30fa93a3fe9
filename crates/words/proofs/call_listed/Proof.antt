-- `words::call_listed` meets its contract. Assumes nothing.
use mathlib.Core.Path.{sym, ap, ◌∙◌}
use mir.Syntax.{w32}
use mir.ValLaws.{to_z-of_z}
use Rattle.words.specs.Decoding.{call_listed}
use Rattle.words.proofs.PlaceLaws.{call-primitive}
use borrow.Author.Rules.{rules}
use Rattle.words.proofs.call_listed.Statement.{statement}
use Rattle.words.proofs.call_listed.Tie as tie

enum_told : tie.Need-enum_told-1
enum_told c = search rules

returns : tie.Need-returns-in-Absent
unfolding call_listed
returns c =
    let a = c.args in
    sym (ap (call_listed a.listed a.argument) (sym c.argument_at.ensures ∙ c.in-Absent.is))

returns-2 : tie.Need-returns-in-Target
unfolding call_listed
returns-2 c =
    let a = c.args in
    sym (ap (call_listed a.listed a.argument) (sym c.argument_at.ensures ∙ c.in-Target.is))

returns-3 : tie.Need-returns-in-Primitive
returns-3 c =
    let a = c.args in
    call-primitive a.listed a.argument (to_z-of_z w32 _ c.ranges.argument) (sym c.argument_at.ensures ∙ c.in-Primitive.is) c.is_place.ensures

returns-4 : tie.Need-returns-in-Within
unfolding call_listed
returns-4 c =
    let a = c.args in
    sym (ap (call_listed a.listed a.argument) (sym c.argument_at.ensures ∙ c.in-Within.is))

pub call_listed_spec : {M : Type 1} → statement M
call_listed_spec =
    tie.close
    (tie.spec
    (λ c κs. search rules)
    enum_told
    (λ c. search rules)
    (λ c. search rules)
    (λ c κs. search rules)
    (λ c. search rules)
    returns
    returns-2
    returns-3
    returns-4)
