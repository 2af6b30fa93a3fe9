-- `split_bound::case_at` meets its contract. Assumes nothing.
use mathlib.Core.Path.{◌≡◌, sym, ap, subst, ◌∙◌}
use lib.ListN.{length}
use Rattle.machine_state.specs.HeldProgram.{sizes_of}
use Rattle.machine_state.specs.HeldState.{view, whole}
use Rattle.machine_state.proofs.Stack.{length-images}
use Rattle.nearest_changes.specs.Places.{replace_at}
use Rattle.nearest_changes.specs.Held.{Present}
use Rattle.nearest_changes.proofs.CellLaws.{whole-replaced}
use Rattle.split_bound.proofs.CaseLaws.{replace-at}
use borrow.Author.Rules.{rules}
use Rattle.split_bound.proofs.case_at.Statement.{statement}
use Rattle.split_bound.proofs.case_at.Tie as tie

places : (s : tie.Start) → length s.args.blocks ≡ 128
places s = search (rules, length-images)

position-of-requires : tie.Need-position_of-p-requires
position-of-requires c κs = let s = c in s.requires.2.places s.args.i s.requires.3

with-entry-requires : tie.Need-with_entry-state-requires
with-entry-requires c κs = let s = c in (s.requires.0, s.requires.1, subst (λ p. Present p (whole (sizes_of s.args.code.now) s.args.blocks s.args.start)) (sym c.position_of-p.ensures) s.requires.4)

with-field-requires : tie.Need-with_field-changed-requires
with-field-requires c κs = let s = c in (s.requires.0, s.requires.1, subst (λ p. Present p (whole (sizes_of s.args.code.now) s.args.blocks s.args.start)) (sym c.position_of-p.ensures) s.requires.4)

returns : tie.Need-returns
returns c =
    let s = c in
    let a = s.args in
    let p = c.position_of-p.result in
    let e = whole-replaced (sizes_of a.code.now) a.blocks c.with_field-changed.result a.start c.with_entry-state.result p a.c c.with_entry-state.ensures.0 c.with_field-changed.ensures.0 in
    record {
      is = e ∙ ap (λ q. replace_at q a.c (whole (sizes_of a.code.now) a.blocks a.start)) c.position_of-p.ensures;
      formed = c.with_entry-state.ensures.1;
      room = c.with_field-changed.ensures.1 ∙ places s.before.before.before.before;
      at = ap (λ u. u.at) c.with_entry-state.ensures.0 ∙ replace-at p a.c (view a.start);
    }

pub case_at_spec : {M : Type 1} → statement M
case_at_spec =
    tie.close
    (tie.spec
    (λ c. search rules)
    (λ c. search rules)
    position-of-requires
    with-entry-requires
    with-field-requires
    returns)
