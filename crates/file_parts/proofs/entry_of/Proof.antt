-- `file_parts::entry_of` meets its contract. Assumes nothing.
use Prim.Native.Nat.{ℕ, ◌+◌}
use mathlib.Core.Path.{◌≡◌, refl, sym, ap, ap₂, subst, ◌∙◌}
use mathlib.Core.List.{List}
use lib.ListN.{get_or}
use native.Mathlib.Omega.{arith}
use mir.Syntax.{w32}
use mir.ValLaws.{to_z-of_z}
use Rattle.text.specs.Text.{find}
use Rattle.instructions.specs.Kinds.{kind_names, operand, kind_at}
use Rattle.instructions.proofs.ColumnLaws.{kind-small}
use Rattle.file_format.specs.Rows.{op}
use Rattle.file_format.specs.Routine.{argument_value}
use Rattle.file_parts.specs.HeldParts.{prices_on, Coded}
use Rattle.file_parts.proofs.EntryLaws.{found, Read, entry-is, code-small, called-price}
use borrow.Author.Rules.{rules}
use Rattle.file_parts.proofs.entry_of.Statement.{statement}
use Rattle.file_parts.proofs.entry_of.Tie as tie

-- the kind that OP names
kind-is : (c : tie.After-index_of) → c.index_of.result ≡ find (op c.args.text.now) kind_names
kind-is c = found kind_names _ _ _ c.index_of.ensures c.requires.0.0.kind refl

operand-of-requires : tie.Need-operand_of-operand-requires
operand-of-requires c κs =
    let start = c in
    (omega (arith, kind-is c, kind-small (op start.args.text.now)), start.requires.0.1 ∙ ap (λ k. (kind_at k).argument) (sym c.index_of.ensures))

returns : tie.Need-returns
returns c =
    let at_kind = c in
    let start = at_kind in
    let a = start.args in
    let k = at_kind.index_of.result in
    let text = a.text.now in
    let ps = prices_on a.primitives.now a.cycles.now a.words.now in
    let w = at_kind.arg_in-arg.ensures in
    let o = c.operand_of-operand in
    let j = c.place_called-j.ensures in
    λ ks xs p.
    let coded : Coded (kind_at k) (get_or a.kept.now a.slot 0) = subst (λ o. Coded (kind_at o) (get_or a.kept.now a.slot 0)) (sym (kind-is at_kind.before.before.before.before.before.before.before.before.before.before.before.before)) p.coded in
    let r : Read ks xs ps text (kind_at k) _ _ _ _ _ =
    record {
      coded = coded;
      operand = λ ns. to_z-of_z w32 o.result (search (o.type_inv, rules)) ∙ o.ensures ns ∙ ap (λ (v : List ℕ). operand (kind_at k) (argument_value ns v (kind_at k).argument)) w;
      cycles = ap₂ ◌+◌ p.cycles (called-price ps.names ps.cycles coded.calls c.cycle_counts.ensures w j c.price_called-more_cycles.ensures.0);
      words = ap₂ ◌+◌ p.words (called-price ps.names ps.words coded.calls c.word_counts.ensures w j c.price_called-more_words.ensures.0);
      extra = p.extra;
    } in
    (entry-is ks xs ps text (kind_at k) _ _ _ _ _ r (ap kind_at (kind-is at_kind.before.before.before.before.before.before.before.before.before.before.before.before)), code-small ks xs ps text (kind_at k) _ _ _ _ _ r)

pub entry_of_spec : {M : Type 1} → statement M
entry_of_spec =
    tie.close
    (tie.spec
    (λ c κs. search rules)
    (λ c κs. search rules)
    operand-of-requires
    (λ c. search rules)
    (λ c. search rules)
    (λ c κs. search rules)
    (λ c κs. search rules)
    (λ c κs. search rules)
    (λ c κs. search rules)
    (λ c κs. search rules)
    (λ c. search rules)
    (λ c. search rules)
    (λ c. search rules)
    (λ c. search rules)
    (λ c. search rules)
    (λ c. search rules)
    (λ c. search rules)
    (λ c. search rules)
    (λ c. search rules)
    (λ c. search rules)
    (λ c. search rules)
    (λ c. search rules)
    (λ c. search rules)
    returns)
