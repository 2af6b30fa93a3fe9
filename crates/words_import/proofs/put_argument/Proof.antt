-- `words_import::put_argument` meets its contract: by what the kind takes. Assumes nothing.
use Prim.Native.Nat.{ℕ, suc}
use mathlib.Core.List.{List}
use mathlib.Core.Path.{◌≡◌, ap, ◌∙◌}
use lib.IntN.{pos, ◌+ℤ◌}
use mir.Syntax.{w32, w64}
use mir.Val.{of_z, to_z}
use mir.ValLaws.{to_z-of_z}
use Rattle.text.specs.Text.{bytes}
use Rattle.text_decimals.specs.Decimal.{decimal, integer}
use Rattle.file_format.specs.Layout.{list}
use Rattle.words_import.specs.HeldLines.{argument_in}
use Rattle.words_import.proofs.LineLaws.{argument-absent, argument-target, argument-primitive, argument-within}
use Rattle.text_decimals.proofs.MemoryLaws.{room_as, put_as}
use borrow.Author.Rules.{rules}
use Rattle.words_import.proofs.put_argument.Statement.{statement}
use Rattle.words_import.proofs.put_argument.Tie as tie

-- ARG
abbrev whole : tie.Start → List ℕ
whole s = argument_in (list s.args.primitives.now) s.args.numbers.now s.args.index s.args.argument s.args.takes

-- the start, from where it is asked what the kind takes
abbrev start : tie.After-shared_slice_known-2-1 → tie.Start
start c = c.before.before.before

passed : (c : tie.After-shared_slice_known-2-1) → to_z w32 (of_z w32 (start c).args.argument) ≡ (start c).args.argument
passed c = to_z-of_z w32 (start c).args.argument (start c).ranges.argument

-- ARG by what the kind takes
absent : (c : tie.In-Absent) → whole (start c.before) ≡ bytes "-"
absent c = argument-absent _ _ _ _ c.in-Absent.is

target : (c : tie.After-index_of-n) → whole (start c.before.before.before.before) ≡ decimal c.index_of-n.result
target c =
    let l = c in
    let k = l in
    argument-target _ _ _ _ l.in-Target.is
    (l.landing.ensures ∙ ap (λ z. pos (suc (start k.before.before.before.before).args.index) +ℤ z) (passed k.before.before.before.before))
    (to_z-of_z w64 _ (search rules))
    c.number_at.ensures
    c.index_of-n.ensures

primitive : (c : tie.After-listed_at-name) → whole (start c.before.before.before) ≡ c.listed_at-name.result.now
primitive c =
    let t = c in
    let k = t in
    argument-primitive _ _ _ _ t.in-Primitive.is (passed k.before.before.before) c.magnitude.ensures c.listed_at-name.ensures

within : (c : tie.In-Within) → whole (start c.before) ≡ integer (to_z w32 (of_z w32 (start c.before).args.argument))
within c = let k = c in argument-within _ _ _ _ c.in-Within.is (passed k.before)

put-requires : tie.Need-put-requires
put-requires c κs = let t = c in room_as _ (absent t.before.before.before) (start t.before.before.before.before).requires.1

put-decimal-requires : tie.Need-put_decimal-requires
put-decimal-requires c κs = room_as _ (target c.before) (start c.before.before.before.before.before).requires.1

put-requires-2 : tie.Need-put-requires-in-Primitive
put-requires-2 c κs = room_as _ (primitive c.before) (start c.before.before.before.before).requires.1

put-integer-requires : tie.Need-put_integer-requires
put-integer-requires c κs = room_as _ (within c.before) (start c.before.before).requires.1

returns : tie.Need-returns-in-Absent
returns c = let p = c in put_as _ _ (absent p.before.before.before.before.before.before) p.put.ensures

returns-2 : tie.Need-returns-in-Target
returns-2 c = let p = c in put_as _ _ (target p.before.before.before.before) p.put_decimal.ensures

returns-3 : tie.Need-returns-in-Primitive
returns-3 c = let p = c in put_as _ _ (primitive p.before.before.before.before) p.put-in-Primitive.ensures

returns-4 : tie.Need-returns-in-Within
returns-4 c = let p = c in put_as _ _ (within p.before.before.before.before) p.put_integer.ensures

pub put_argument_spec : {M : Type 1} → statement M
put_argument_spec =
    tie.close
    (tie.spec
    (λ c. search rules)
    put-requires
    (λ c. search rules)
    (λ c κs. search rules)
    (λ c κs. search rules)
    (λ c κs. search rules)
    put-decimal-requires
    (λ c. search rules)
    (λ c κs. search rules)
    (λ c κs. search rules)
    put-requires-2
    (λ c. search rules)
    put-integer-requires
    (λ c. search rules)
    returns
    (λ c. search rules)
    returns-2
    (λ c. search rules)
    returns-3
    (λ c. search rules)
    returns-4)
