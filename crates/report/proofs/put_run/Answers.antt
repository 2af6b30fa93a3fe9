-- `report::put_run` meets its contract: the parts of the report one after the other. Assumes nothing.
use Prim.Native.Nat.{ℕ, ◌≤◌}
use mathlib.Core.List.{List, [], ◌∷◌}
use lib.ListN.{length}
use Rattle.text.specs.Text.{bytes}
use Rattle.report.specs.Report.{feed, figures, run_text}
use Rattle.report.specs.HeldPath.{report_of}
use Rattle.text_decimals.proofs.PlaceLaws.{Place, joined, begins-first, room, next, finished-first}
use Rattle.report.proofs.put_run.Goals.{After-put, After-put-a, After-put_figures-b, Start}
use Rattle.report.proofs.put_run.Goals as goal

-- the parts of the report
abbrev parts : Start → List (List ℕ)
parts s = bytes "CYCLES WORDS DEPTH STEPS\n" ∷ figures (report_of s.args.cycles s.args.words s.args.depth s.args.steps 1) ∷ feed ∷ []

-- the first n parts stand in o, up to e
abbrev At : ℕ → ℕ → List ℕ → Type 0
At = Place (λ (s : Start). s.args.out.now) (λ s. 0) parts

fits : (s : Start) → length (joined [] (parts s)) ≤ length s.args.out.now
unfolding run_text
fits s = s.requires

abbrev w0 : (s : Start) → At 0 0 s.args.out.now
w0 s = begins-first s (fits s)

abbrev w1 : (c : After-put-a) → At 1 c.put-a.result c.put-a.new.out
w1 c = next (w0 c.before.before.before.before.before) (c.put-a.ensures.value, c.put-a.ensures.out_after)

abbrev w2 : (c : After-put_figures-b) → At 2 c.put_figures-b.result c.put_figures-b.new.out
w2 c = next (w1 c.before.before.before.before) (c.put_figures-b.ensures.value, c.put_figures-b.ensures.out_after)

abbrev w3 : (c : After-put) → At 3 c.put.result c.put.new.out
w3 c = next (w2 c.before.before.before.before.before.before) (c.put.ensures.value, c.put.ensures.out_after)

pub returns : goal.returns
unfolding run_text
returns c = let all = finished-first (w3 (goal.at.returns c).After-put) in record { value = all.0; out_after = all.1 }

pub put-a-requires : goal.put-a-requires
put-a-requires c = room (w0 (goal.at.put-a-requires c).Start)

pub put_figures-b-requires : goal.put_figures-b-requires
put_figures-b-requires c = room (w1 (goal.at.put_figures-b-requires c).After-put-a)

pub put-requires : goal.put-requires
put-requires c = room (w2 (goal.at.put-requires c).After-put_figures-b)
