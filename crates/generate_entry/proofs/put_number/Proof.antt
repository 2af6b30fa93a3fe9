-- `generate_entry::put_number` meets its contract. Assumes nothing.
use mathlib.Core.Path.{sym, ap, ◌∙◌}
use Prim.Native.Nat.{◌/◌, ◌%◌}
use native.Mathlib.Omega.{arith}
use Rattle.text_decimals.proofs.MemoryLaws.{put_as}
use Rattle.text_decimals.proofs.DecimalLaws.{decimal-length}
use Rattle.text_decimals.specs.Decimal.{integer}
use Rattle.generate_file.specs.Words.{number_in}
use Rattle.generate_entry.proofs.CellLaws.{integer-as, integer-room, range-sound, small-number, any-number}
use borrow.Author.Rules.{rules}
use Rattle.generate_entry.proofs.put_number.Statement.{statement}
use Rattle.generate_entry.proofs.put_number.Tie as tie

put-decimal-requires : tie.Need-put_decimal-requires
put-decimal-requires c κs = let s = c in omega (arith, s.requires, decimal-length 1 (s.args.d / 4 % 8) (omega arith) (omega arith))

returns : tie.Need-returns-then-d-eq0
returns c = let p = c in let s = p in put_as _ _ (small-number s.args.d p.if-d-eq0.true) p.put_decimal.ensures

number-in-requires : tie.Need-number_in-z-requires
number-in-requires c κs = range-sound c.number_range.ensures

put-integer-requires : tie.Need-put_integer-requires
put-integer-requires c κs = let p = c in let s = p in omega (arith, s.requires, integer-room p.number_range.result s.args.d (range-sound p.number_range.ensures) p.number_in-z.ensures)

returns-2 : tie.Need-returns
returns-2 c =
    let p = c in
    let z = p in
    let r = z in
    let s = r in
    put_as _ _
    (any-number s.args.d r.if-d-eq0.false ∙ ap (λ x. integer (number_in x s.args.d)) (sym r.number_range.ensures) ∙ integer-as r.number_range.result s.args.d (range-sound r.number_range.ensures) z.number_in-z.ensures)
    p.put_integer.ensures

pub put_number_spec : {M : Type 1} → statement M
put_number_spec =
    tie.close
    (tie.spec
    (λ c. search rules)
    put-decimal-requires
    (λ c. search rules)
    returns
    (λ c κs. search rules)
    number-in-requires
    put-integer-requires
    (λ c. search rules)
    returns-2)
