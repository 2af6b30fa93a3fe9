-- `instructions::kind_coded` meets its contract: what is lent has the kind of each opcode below 144. Assumes nothing.
use mathlib.Core.Path.{sym, ◌∙◌}
use native.Mathlib.Omega.{arith}
use borrow.Author.Rules.{rules}
use Rattle.instructions.proofs.OpcodeLaws.{coded-high, coded-found, coded-missing}
use Rattle.instructions.proofs.kind_coded.Statement.{statement}
use Rattle.instructions.proofs.kind_coded.Tie as tie

returns : tie.Need-returns-then-opcode-gt143
returns c = sym (coded-high c.args.opcode c.if-opcode-gt143.true)

returns-2 : tie.Need-returns-then-k-lt61
returns-2 c =
    let s = c in
    coded-found s.args.opcode _ (c.from-k.ensures ∙ s.requires.at_opcode s.args.opcode (omega arith)) c.if-k-lt61.true

returns-3 : tie.Need-returns-else-k-lt61
returns-3 c =
    let s = c in
    coded-missing s.args.opcode _ (c.from-k.ensures ∙ s.requires.at_opcode s.args.opcode (omega arith)) (omega arith)

pub kind_coded_spec : {M : Type 1} → statement M
kind_coded_spec = tie.close (tie.spec returns (λ c. search rules) (λ c κs. search rules) returns-2 returns-3)
