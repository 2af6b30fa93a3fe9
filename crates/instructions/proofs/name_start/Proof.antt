-- `instructions::name_start` meets its contract: what is lent says where each name begins. Assumes nothing.
use mathlib.Core.Path.{sym, subst}
use mir.Syntax.{w64}
use mir.Val.{Fits}
use Rattle.instructions.proofs.NameLaws.{start_fits}
use borrow.Author.Rules.{rules}
use Rattle.instructions.proofs.name_start.Statement.{statement}
use Rattle.instructions.proofs.name_start.Tie as tie

cast-result : tie.Need-overflow_cast-result
cast-result c = let s = c in subst (Fits w64) (sym (s.requires.0.at_kind s.args.k s.requires.1)) (start_fits s.args.k s.requires.1)

returns : tie.Need-returns
returns c = let s = c in s.requires.0.at_kind s.args.k s.requires.1

pub name_start_spec : {M : Type 1} → statement M
name_start_spec = tie.close (tie.spec (λ c. search rules) (λ c. search rules) cast-result returns)
