-- `generate_entry::put_amount` meets its contract. Assumes nothing.
use mathlib.Core.Path.{sym, ap}
use Prim.Native.Nat.{◌+◌}
use native.Mathlib.Omega.{arith}
use Rattle.text_decimals.proofs.MemoryLaws.{put_as}
use Rattle.text_decimals.specs.Decimal.{decimal}
use Rattle.text_decimals.proofs.DecimalLaws.{decimal-length}
use Rattle.generate_file.proofs.NumberLaws.{below-under}
use borrow.Author.Rules.{rules}
use Rattle.generate_entry.proofs.put_amount.Statement.{statement}
use Rattle.generate_entry.proofs.put_amount.Tie as tie

add-put-decimal : tie.Need-overflow_add-least
add-put-decimal c = let s = c in let b = below-under s.args.spread s.args.d s.requires.1 in omega (arith, s.requires, c.below.ensures)

put-decimal-requires : tie.Need-put_decimal-requires
put-decimal-requires c κs = let s = c in let b = below-under s.args.spread s.args.d s.requires.1 in omega (arith, s.requires, decimal-length 10 (s.args.least + c.below.result) (omega (arith, s.requires, c.below.ensures)) (omega arith))

returns : tie.Need-returns
returns c = let b = c in let s = b in put_as _ _ (ap (λ x. decimal (s.args.least + x)) (sym b.below.ensures)) c.put_decimal.ensures

pub put_amount_spec : {M : Type 1} → statement M
put_amount_spec =
    tie.close
    (tie.spec
    (λ c κs. search rules)
    add-put-decimal
    (λ c. search rules)
    put-decimal-requires
    (λ c. search rules)
    returns)
