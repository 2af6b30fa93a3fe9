-- `instructions::kind_in` meets its contract: one kind alone can have the name. Assumes nothing.
use mathlib.Core.Path.{sym, ◌∙◌}
use native.Mathlib.Omega.{arith}
use Rattle.instructions.proofs.NameLaws.{name-length, not_named, is-named, is-unnamed}
use borrow.Author.Rules.{rules}
use Rattle.instructions.proofs.kind_in.Statement.{statement}
use Rattle.instructions.proofs.kind_in.Tie as tie

returns : tie.Need-returns-then-w-lt2
returns c = let w = c.args.w.now in sym (not_named w (λ a. omega (arith, c.if-w-lt2.true, name-length w a)))

returns-2 : tie.Need-returns-then-w-gt12
returns-2 c = let w = c.args.w.now in sym (not_named w (λ a. omega (arith, c.if-w-gt12.true, name-length w a)))

returns-3 : tie.Need-returns-then-is_name_of
returns-3 c =
    let k = c.candidate-k in
    sym (is-named c.args.w.now k.result k.ensures.0 k.ensures.1 (sym c.is_name_of.ensures ∙ c.if-is_name_of.true))

returns-4 : tie.Need-returns-else-is_name_of
returns-4 c =
    let k = c.candidate-k in
    sym (is-unnamed c.args.w.now k.result k.ensures.0 k.ensures.1 (sym c.is_name_of.ensures ∙ c.if-is_name_of.false))

pub kind_in_spec : {M : Type 1} → statement M
kind_in_spec =
    tie.close
    (tie.spec returns returns-2 (λ c κs. search rules) (λ c κs. search rules) returns-3 returns-4)
