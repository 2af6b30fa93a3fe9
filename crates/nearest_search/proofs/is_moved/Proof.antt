-- `nearest_search::is_moved` meets its contract. Assumes nothing.
use mathlib.Core.Path.{refl}
use Rattle.nearest_search.proofs.SearchLaws.{moved-cycles, moved-refused}
use borrow.Author.Rules.{rules}
use Rattle.nearest_search.proofs.is_moved.Statement.{statement}
use Rattle.nearest_search.proofs.is_moved.Tie as tie

enum_told : tie.Need-enum_told-1
enum_told c = search rules

returns : tie.Need-returns-in-Ok
returns c = let s = c in moved-cycles s.args.figure s.args.found _ c.in-Ok.is refl

returns-2 : tie.Need-returns-in-Err
returns-2 c = let s = c in moved-refused s.args.figure s.args.found _ c.in-Err.is

pub is_moved_spec : {M : Type 1} → statement M
is_moved_spec = tie.close (tie.spec enum_told (λ c. search rules) returns returns-2)
