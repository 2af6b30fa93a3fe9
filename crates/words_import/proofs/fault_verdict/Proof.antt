-- `words_import::fault_verdict` meets its contract. Assumes nothing.
use mathlib.Core.Path.{sym, ap}
use Rattle.words.specs.Import.{fault_verdict}
use borrow.Author.Rules.{rules}
use Rattle.words_import.proofs.fault_verdict.Statement.{statement}
use Rattle.words_import.proofs.fault_verdict.Tie as tie

enum_told : tie.Need-enum_told-1
enum_told c = search rules

returns : tie.Need-returns-in-None
unfolding fault_verdict
returns c = sym (ap fault_verdict c.in-None.is)

returns-2 : tie.Need-returns-in-Some
unfolding fault_verdict
returns-2 c = sym (ap fault_verdict c.in-Some.is)

pub fault_verdict_spec : {M : Type 1} → statement M
fault_verdict_spec = tie.close (tie.spec enum_told (λ c. search rules) returns returns-2)
