-- `generate_entry::put_argument` meets its contract. Assumes nothing.
use mathlib.Core.Path.{sym, ◌∙◌}
use Prim.Native.Nat.{◌%◌}
use native.Mathlib.Omega.{arith}
use Rattle.text_decimals.proofs.MemoryLaws.{put_as}
use Rattle.text_decimals.proofs.DecimalLaws.{decimal-length}
use Rattle.generate_file.proofs.CodeLaws.{target-within}
use Rattle.generate_entry.proofs.CellLaws.{integer-as, integer-room, primitive-room, within-sound, argument-absent, argument-target, argument-primitive, argument-within}
use borrow.Author.Rules.{rules}
use Rattle.generate_entry.proofs.put_argument.Statement.{statement}
use Rattle.generate_entry.proofs.put_argument.Tie as tie

enum_told : tie.Need-enum_told-1
enum_told c = search rules

target-requires : tie.Need-target-requires
target-requires c κs = let a = c in let s = a in (s.requires.2 (sym a.argument_at.ensures ∙ c.in-Target.is), s.requires.1)

put-decimal-requires : tie.Need-put_decimal-requires
put-decimal-requires c κs = let s = c in omega (arith, s.requires.3, decimal-length 3 c.target.result (omega (arith, c.target.ensures, target-within s.args.n s.args.k s.args.d, s.requires.1)) (omega arith))

put-requires-2 : tie.Need-put-requires-in-Primitive
put-requires-2 c κs = let s = c in omega (arith, s.requires.3, primitive-room (s.args.d % 4) c.word_at-name.ensures)

number-in-requires : tie.Need-number_in-z-requires
number-in-requires c κs = let a = c in within-sound a.args.kind c.in-Within.range a.argument_at.ensures c.in-Within.is

put-integer-requires : tie.Need-put_integer-requires
put-integer-requires c κs = let r = c in let a = r in let s = a in omega (arith, s.requires.3, integer-room r.in-Within.range s.args.d (within-sound s.args.kind r.in-Within.range a.argument_at.ensures r.in-Within.is) c.number_in-z.ensures)

returns : tie.Need-returns-in-Absent
returns c = let p = c in let t = p in let a = t in let s = a in put_as _ _ (argument-absent s.args.n s.args.k s.args.d (sym a.argument_at.ensures ∙ t.in-Absent.is)) p.put.ensures

returns-2 : tie.Need-returns-in-Target
returns-2 c = let p = c in let t = p in let a = t in let s = a in put_as _ _ (argument-target s.args.n s.args.k s.args.d (sym a.argument_at.ensures ∙ t.in-Target.is) p.target.ensures) p.put_decimal.ensures

returns-3 : tie.Need-returns-in-Primitive
returns-3 c = let p = c in let w = p in let t = w in let a = t in let s = a in put_as _ _ (argument-primitive s.args.n s.args.k s.args.d (sym a.argument_at.ensures ∙ t.in-Primitive.is) w.word_at-name.ensures) p.put-in-Primitive.ensures

returns-4 : tie.Need-returns-in-Within
returns-4 c =
    let p = c in
    let z = p in
    let r = z in
    let a = r in
    let s = a in
    let g = r.in-Within.range in
    put_as _ _
    (argument-within s.args.n s.args.k s.args.d g (sym a.argument_at.ensures ∙ r.in-Within.is)
    ∙ integer-as g s.args.d (within-sound s.args.kind g a.argument_at.ensures r.in-Within.is) z.number_in-z.ensures)
    p.put_integer.ensures

pub put_argument_spec : {M : Type 1} → statement M
put_argument_spec =
    tie.close
    (tie.spec
    (λ c κs. search rules)
    enum_told
    (λ c κs. search rules)
    (λ c. search rules)
    target-requires
    put-decimal-requires
    (λ c. search rules)
    (λ c. search rules)
    (λ c κs. search rules)
    put-requires-2
    (λ c. search rules)
    number-in-requires
    put-integer-requires
    (λ c. search rules)
    returns
    (λ c. search rules)
    returns-2
    (λ c. search rules)
    returns-3
    (λ c. search rules)
    returns-4)
