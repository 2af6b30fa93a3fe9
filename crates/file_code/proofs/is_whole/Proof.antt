-- `file_code::is_whole` meets its contract. Assumes nothing.
use native.Mathlib.Omega.{arith}
use Rattle.file_code.proofs.WholeLaws.{words-fit, no-first, no_second, no_third, all_there}
use Rattle.file_code.proofs.is_whole.Statement.{statement}
use Rattle.file_code.proofs.is_whole.Tie as tie

returns : tie.Need-returns-then-e-eq0
returns c = let s = c in no-first s.args.line.now s.requires c.if-e-eq0.true

returns-2 : tie.Need-returns-then-f-eq0
returns-2 c = let s = c in no_second s.args.line.now s.requires c.if-f-eq0.true

returns-3 : tie.Need-returns-then-g-eq0
returns-3 c = let s = c in no_third s.args.line.now s.requires c.if-g-eq0.true

returns-4 : tie.Need-returns
returns-4 c = let s = c in all_there s.args.line.now s.requires c.if-e-eq0.false c.if-f-eq0.false c.if-g-eq0.false

pub is_whole_spec : {M : Type 1} → statement M
is_whole_spec = tie.close (tie.spec returns returns-2 returns-3 (λ c. let s = c in omega (arith, words-fit s.args.line.now s.requires)) (λ c. let s = c in omega (arith, words-fit s.args.line.now s.requires)) (λ c. let s = c in omega (arith, words-fit s.args.line.now s.requires)) returns-4)
