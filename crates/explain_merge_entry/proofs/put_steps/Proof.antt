-- `explain_merge_entry::put_steps` meets its contract. Assumes nothing.
use Prim.Native.Nat.{ℕ, ◌+◌, ◌-◌, ◌≤◌}
use mathlib.Core.Path.{◌≡◌, refl, sym, ap, subst, ◌∙◌}
use mathlib.Core.List.{List, []}
use native.Mathlib.Omega.{arith}
use lib.ListN.{length, take, drop}
use Rattle.text.specs.Text.{lines}
use Rattle.text_decimals.specs.Memory.{over}
use Rattle.machine_state.specs.HeldProgram.{first_address_of, lines_in}
use Rattle.merge_way.specs.Way.{out, way_back}
use Rattle.file_reader.specs.declared.Routine.{Routine}
use Rattle.explain_merge_walk.specs.HeldLasts.{Lists, way_text}
use Rattle.explain_merge_walk.proofs.Theorems.{keeps-traced, lists-usable}
use Rattle.explain_merge_entry.specs.Held.{origins_in, way_in}
use Rattle.explain_merge_entry.proofs.FunctionLaws.{way-goals, goals-few, way-written}
use borrow.Author.Rules.{rules}
use Rattle.explain_merge_entry.proofs.put_steps.Statement.{statement}
use Rattle.explain_merge_entry.proofs.put_steps.Tie as tie

way-back-requires : tie.Need-way_back-place-requires
way-back-requires c κs =
    let s = c in
    (s.requires.1, keeps-traced _ _ _ s.requires.2, refl, omega (arith, s.requires.0.program.lines))

-- the way is found
module _ (b : tie.After-way_back-place) where
  abbrev start : tie.Start
  start = b.before.before.before.before.before.before

  abbrev x : Routine
  x = start.args.routine

  abbrev ks : List ℕ
  ks = start.args.kept.now

  abbrev xs : List ℕ
  xs = b.way_back-place.new.goals

  abbrev r : ℕ
  r = b.way_back-place.result

  long : length xs ≡ 1025
  long = b.way_back-place.auto.goals

  within : r ≤ 1025
  within = b.way_back-place.ensures.0

  lists : Lists (first_address_of x.code) ks (take (1025 - r) (drop r xs)) (way_back (origins_in x) (lines_in x.code + 1) (origins_in x out) [])
  lists = way-goals xs r within long (b.way_back-place.ensures.1 (first_address_of x.code) (origins_in x) start.requires.2)

  text : way_text (lines start.args.body.now) 0 0 ks (take (1025 - r) (drop r xs)) ≡ way_in (lines start.args.body.now) x
  text = way-written x (lines start.args.body.now) ks _ (lines_in x.code + 1) start.requires.0.placed refl lists

put-way-requires : tie.Need-put_way-requires
put-way-requires c κs =
    let b = c in
    let s = start b.before.before.before in
    (s.requires.1, lists-usable (lists b.before.before.before), goals-few (xs b.before.before.before) (r b.before.before.before) (within b.before.before.before) (long b.before.before.before), subst (λ (t : List ℕ). s.args.at + length t ≤ length s.args.out.now) (sym (text b.before.before.before)) s.requires.3)

returns : tie.Need-returns
returns c =
    let p = c.put_way in
    let b = c in
    let s = start b.before.before.before.before.before.before in
    (p.ensures.0 ∙ ap (λ (t : List ℕ). s.args.at + length t) (text b.before.before.before.before.before.before), p.ensures.1 ∙ ap (over s.args.out.now s.args.at) (text b.before.before.before.before.before.before))

pub put_steps_spec : {M : Type 1} → statement M
put_steps_spec =
    tie.close
    (tie.spec
    (λ c. search rules)
    (λ c. let l = c.requires.0.program.lines in search rules)
    (λ c. let l = c.requires.0.program.lines in search rules)
    (λ c. search rules)
    way-back-requires
    (λ c. let w = within c.before.before in search rules)
    (λ c. let w = within c.before.before in search rules)
    (λ c. let w = within c.before.before in search rules)
    (λ c. let w = within c.before.before in let l = long c.before.before in search rules)
    put-way-requires
    (λ c. search rules)
    returns)
