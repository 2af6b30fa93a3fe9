-- `generate_entry::put_word` meets its contract. Assumes nothing.
use native.Mathlib.Omega.{arith}
use Rattle.text_decimals.proofs.MemoryLaws.{put_as}
use Rattle.generate_file.specs.declared.Column.TheVariants.{Limits, Extras}
use Rattle.generate_file.proofs.WordLaws.{name-short, spread-some, spread-most}
use Rattle.generate_entry.proofs.CellLaws.{word-names, word-handles, word-known, word-open, word-limits, word-cycles, word-words, word-extras}
use borrow.Author.Rules.{rules}
use Rattle.generate_entry.proofs.put_word.Statement.{statement}
use Rattle.generate_entry.proofs.put_word.Tie as tie

enum_told : tie.Need-enum_told-1
enum_told c = search rules

put-name-requires : tie.Need-put_name-requires
put-name-requires c κs = let s = c in (s.requires.0, omega (arith, s.requires.1, name-short s.args.i))

put-amount-requires : tie.Need-put_amount-requires
put-amount-requires c κs = let s = c in let e = c.limit_spread.ensures in (omega arith, omega (arith, e, spread-some Limits s.args.i), omega (arith, e, spread-most Limits s.args.i), omega (arith, s.requires.1))

put-amount-requires-4 : tie.Need-put_amount-requires-in-Extras
put-amount-requires-4 c κs = let s = c in let e = c.extra_spread.ensures in (omega arith, omega (arith, e, spread-some Extras s.args.i), omega (arith, e, spread-most Extras s.args.i), omega (arith, s.requires.1))

returns : tie.Need-returns-in-Names
returns c = let p = c in let s = p in put_as _ _ (word-names s.args.i s.args.d p.in-Names.is) p.put_name.ensures

returns-2 : tie.Need-returns-in-Handles
returns-2 c = let p = c in let s = p in put_as _ _ (word-handles s.args.i s.args.d p.in-Handles.is) p.put_handle.ensures

returns-3 : tie.Need-returns-in-Known
returns-3 c = let p = c in let s = p in put_as _ _ (word-known s.args.i s.args.d p.in-Known.is) p.put_number.ensures

returns-4 : tie.Need-returns-in-Open
returns-4 c = let p = c in let s = p in put_as _ _ (word-open s.args.i s.args.d p.in-Open.is) p.put_open.ensures

returns-5 : tie.Need-returns-in-Limits
returns-5 c = let p = c in let s = p in put_as _ _ (word-limits s.args.i s.args.d p.in-Limits.is p.limit_spread.ensures) p.put_amount.ensures

returns-6 : tie.Need-returns-in-Cycles
returns-6 c = let p = c in let s = p in put_as _ _ (word-cycles s.args.i s.args.d p.in-Cycles.is) p.put_amount-in-Cycles.ensures

returns-7 : tie.Need-returns-in-Words
returns-7 c = let p = c in let s = p in put_as _ _ (word-words s.args.i s.args.d p.in-Words.is) p.put_amount-in-Words.ensures

returns-8 : tie.Need-returns-in-Extras
returns-8 c = let p = c in let s = p in put_as _ _ (word-extras s.args.i s.args.d p.in-Extras.is p.extra_spread.ensures) p.put_amount-in-Extras.ensures

pub put_word_spec : {M : Type 1} → statement M
put_word_spec =
    tie.close
    (tie.spec
    enum_told
    put-name-requires
    (λ c. search rules)
    (λ c κs. search rules)
    (λ c. search rules)
    (λ c κs. search rules)
    (λ c. search rules)
    (λ c κs. search rules)
    (λ c. search rules)
    (λ c κs. search rules)
    put-amount-requires
    (λ c. search rules)
    (λ c κs. search rules)
    (λ c. search rules)
    (λ c κs. search rules)
    (λ c. search rules)
    (λ c κs. search rules)
    put-amount-requires-4
    (λ c. search rules)
    returns
    (λ c. search rules)
    returns-2
    (λ c. search rules)
    returns-3
    (λ c. search rules)
    returns-4
    (λ c. search rules)
    returns-5
    (λ c. search rules)
    returns-6
    (λ c. search rules)
    returns-7
    (λ c. search rules)
    returns-8)
