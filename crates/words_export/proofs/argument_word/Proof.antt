-- `words_export::argument_word` meets its contract: by what the kind takes. Assumes nothing.
use Prim.Native.Nat.{suc, ◌≤◌}
use mathlib.Core.Path.{sym, ap, subst, ◌∙◌}
use native.Mathlib.Omega.{arith}
use lib.IntN.{pos, ◌-ℤ◌}
use lib.ListN.{length}
use mir.Syntax.{w32}
use mir.ValLaws.{to_z-of_z, to_z_pos}
use Rattle.file_format.specs.Layout.{list}
use Rattle.file_format.specs.Rows.{value}
use Rattle.file_format.specs.Routine.{inside}
use Rattle.file_parts.proofs.WordLaws.{numbers_fit}
use Rattle.words_export.specs.HeldLines.{Leads}
use Rattle.words_export.proofs.ArgumentLaws.{place-few, argument-absent, argument-target, argument-primitive, argument-within}
use borrow.Author.Rules.{rules}
use Rattle.words_export.proofs.argument_word.Statement.{statement}
use Rattle.words_export.proofs.argument_word.Tie as tie

-- the start, from where it is known what the kind takes
abbrev start : tie.After-argument_at → tie.Start
start c = c.before.before.before.before

-- a primitive's place
small : (c : tie.After-index_listed) → c.index_listed.result ≤ 32
small c =
    let s = start c.before.before in
    omega (arith, c.index_listed.ensures, place-few s.args.w.now (list s.args.primitives.now), s.requires.2)

target-index-requires : tie.Need-target_index-requires
target-index-requires c κs =
    let k = c in
    let s = start k.before in
    let e = sym k.argument_at.ensures ∙ c.in-Target.is in
    (s.requires.0, e, s.requires.3, subst (Leads s.args.first (length s.args.indices.now) s.args.w.now) e s.requires.4)

returns : tie.Need-returns-in-Absent
returns c = sym (argument-absent _ _ _ _ _ (sym c.argument_at.ensures ∙ c.in-Absent.is))

returns-2 : tie.Need-returns-in-Target
returns-2 c =
    let t = c in
    let k = t in
    to_z-of_z w32 _ (search rules) ∙ c.offset_to.ensures ∙ ap (λ n. pos n -ℤ pos (suc (start k.before.before.before).args.index)) c.target_index.ensures.0 ∙ sym (argument-target _ _ _ _ _ (sym k.argument_at.ensures ∙ t.in-Target.is))

returns-3 : tie.Need-returns-in-Primitive
returns-3 c =
    let t = c in
    to_z_pos w32 _ (omega (arith, small c)) ∙ ap pos c.index_listed.ensures ∙ sym (argument-primitive _ _ _ _ _ (sym t.argument_at.ensures ∙ t.in-Primitive.is))

returns-4 : tie.Need-returns-in-Within
returns-4 c =
    let t = c in
    let k = t in
    to_z-of_z w32 _ (search rules) ∙ c.number_of.ensures ∙ ap (λ r. inside r (value (start k.before.before.before).args.w.now)) c.number_range.ensures ∙ sym (argument-within _ _ _ _ _ (sym k.argument_at.ensures ∙ t.in-Within.is))

pub argument_word_spec : {M : Type 1} → statement M
argument_word_spec =
    tie.close
    (tie.spec
    (λ c κs. search rules)
    (λ c. search rules)
    (λ c. search rules)
    target-index-requires
    (λ c κs. search rules)
    (λ c. search rules)
    (λ c κs. search rules)
    (λ c. omega (arith, small c))
    (λ c. search rules)
    (λ c κs. search rules)
    (λ c κs. numbers_fit _ c.number_range.ensures)
    returns
    returns-2
    returns-3
    returns-4)
