-- `explain_merge_entry::put_explanation` meets its contract: the parts one after the other. Assumes nothing.
use Prim.Native.Nat.{ℕ, ◌≤◌}
use mathlib.Core.List.{List, [], ◌∷◌}
use native.Mathlib.Omega.{arith}
use lib.ListN.{length}
use Rattle.text.specs.Text.{lines}
use Rattle.text_decimals.proofs.PlaceLaws.{Place, joined, begins-first, room, next, finished-first}
use Rattle.report.specs.Report.{bound_text}
use Rattle.explain_entry.specs.Answers.{entry_names}
use Rattle.explain_entry.specs.Held.{report_in}
use Rattle.explain_entry.proofs.FunctionLaws.{wrote-first}
use Rattle.explain_merge_entry.specs.Held.{way_in}
use Rattle.explain_merge_entry.proofs.FunctionLaws.{text-parts}
use borrow.Author.Rules.{rules}
use Rattle.explain_merge_entry.proofs.put_explanation.Statement.{statement}
use Rattle.explain_merge_entry.proofs.put_explanation.Tie as tie

-- the parts of the explanation
abbrev parts : tie.Start → List (List ℕ)
parts s =
    let a = s.args in
    bound_text a.routine.tick (report_in a.found) ∷ entry_names ∷ way_in (lines a.body.now) a.routine ∷ []

-- the first n parts stand in o, up to e
abbrev At : ℕ → ℕ → List ℕ → Type 0
At = Place (λ (s : tie.Start). s.args.out.now) (λ s. 0) parts

fits : (s : tie.Start) → length (joined [] (parts s)) ≤ length s.args.out.now
fits s = rw (text-parts (lines s.args.body.now) s.args.routine s.args.found) at s.requires.4

abbrev w0 : (s : tie.Start) → At 0 0 s.args.out.now
w0 s = begins-first s (fits s)

abbrev w1 : (c : tie.After-put_bound-a) → At 1 c.put_bound-a.result c.put_bound-a.new.out
w1 c =
    let s = c in
    let p = wrote-first s.args.out.now (bound_text s.args.routine.tick (report_in s.args.found)) _ _ c.put_bound-a.ensures in
    next (w0 s.before.before.before.before.before) (p.ends, p.holds)

abbrev w2 : (c : tie.After-put-b) → At 2 c.put-b.result c.put-b.new.out
w2 c = next (w1 c.before.before.before.before.before.before) c.put-b.ensures

abbrev w3 : (c : tie.After-put_steps) → At 3 c.put_steps.result c.put_steps.new.out
w3 c = next (w2 c.before.before.before.before) c.put_steps.ensures

returns : tie.Need-returns
returns c =
    let w = w3 c.before.before in
    let a = w.start.args in
    rw (text-parts (lines a.body.now) a.routine a.found) (finished-first w)

pub put_explanation_spec : {M : Type 1} → statement M
put_explanation_spec =
    tie.close
    (tie.spec
    (λ c κs. let w = w0 c.before.before.before.before in let s = w.start in ((s.requires.1, s.requires.2, s.requires.3), omega (arith, room w)))
    (λ c κs. room (w1 c.before.before.before.before.before))
    (λ c κs. let w = w2 c.before.before.before in (w.start.requires.0, w.start.requires.5, w.start.requires.6, room w))
    (λ c. search rules)
    returns)
