-- `report::put_bound` meets its contract: the parts of the report one after the other. Assumes nothing.
use Prim.Native.Nat.{ℕ, ◌≤◌}
use mathlib.Core.Path.{ap}
use mathlib.Core.List.{List, [], ◌∷◌}
use lib.ListN.{length}
use Rattle.text.specs.Text.{bytes}
use Rattle.text_decimals.specs.Decimal.{decimal}
use Rattle.report.specs.Report.{share, path_text, space, feed, figures, bound_text}
use Rattle.report.specs.HeldPath.{decode, report_of}
use Rattle.text_decimals.proofs.PlaceLaws.{Place, joined, begins-first, room, room_as, next, next-as, finished-first}
use Rattle.report.proofs.put_bound.Goals.{After-put, After-put-a, After-put-c, After-put-e, After-put_decimal-d, After-put_figures-b, After-put_path-f, Start}
use Rattle.report.proofs.put_bound.Goals as goal

-- the parts of the report
abbrev parts : Start → List (List ℕ)
parts s =
    let a = s.args in
    bytes "CYCLES WORDS DEPTH STEPS SHARE PATH\n" ∷ figures (report_of a.cycles a.words a.depth a.steps 1) ∷ space ∷ decimal (share a.tick a.cycles) ∷ space ∷ path_text (decode a.path) ∷ feed ∷ []

-- the first n parts stand in o, up to e
abbrev At : ℕ → ℕ → List ℕ → Type 0
At = Place (λ (s : Start). s.args.out.now) (λ s. 0) parts

fits : (s : Start) → length (joined [] (parts s)) ≤ length s.args.out.now
unfolding bound_text report_of figures
fits s = s.requires.path_in_bounds

abbrev w0 : (s : Start) → At 0 0 s.args.out.now
w0 s = begins-first s (fits s)

abbrev w1 : (c : After-put-a) → At 1 c.put-a.result c.put-a.new.out
w1 c = next (w0 c.before.before.before.before.before) (c.put-a.ensures.value, c.put-a.ensures.out_after)

abbrev w2 : (c : After-put_figures-b) → At 2 c.put_figures-b.result c.put_figures-b.new.out
w2 c = next (w1 c.before.before.before.before) (c.put_figures-b.ensures.value, c.put_figures-b.ensures.out_after)

abbrev w3 : (c : After-put-c) → At 3 c.put-c.result c.put-c.new.out
w3 c = next (w2 c.before.before.before.before.before.before) (c.put-c.ensures.value, c.put-c.ensures.out_after)

abbrev w4 : (c : After-put_decimal-d) → At 4 c.put_decimal-d.result c.put_decimal-d.new.out
w4 c = next-as (w3 c.before.before.before.before.before) (ap decimal c.share-n.ensures) (c.put_decimal-d.ensures.value, c.put_decimal-d.ensures.out_after)

abbrev w5 : (c : After-put-e) → At 5 c.put-e.result c.put-e.new.out
w5 c = next (w4 c.before.before.before.before.before.before) (c.put-e.ensures.value, c.put-e.ensures.out_after)

abbrev w6 : (c : After-put_path-f) → At 6 c.put_path-f.result c.put_path-f.new.out
w6 c = next (w5 c.before.before.before.before) (c.put_path-f.ensures.value, c.put_path-f.ensures.out_after)

abbrev w7 : (c : After-put) → At 7 c.put.result c.put.new.out
w7 c = next (w6 c.before.before.before.before.before.before) (c.put.ensures.value, c.put.ensures.out_after)

pub returns : goal.returns
unfolding bound_text report_of figures
returns c = let all = finished-first (w7 (goal.at.returns c).After-put) in record { value = all.0; out_after = all.1 }

pub put-a-requires : goal.put-a-requires
put-a-requires c = room (w0 (goal.at.put-a-requires c).Start)

pub put_figures-b-requires : goal.put_figures-b-requires
put_figures-b-requires c = room (w1 (goal.at.put_figures-b-requires c).After-put-a)

pub put-c-requires : goal.put-c-requires
put-c-requires c = room (w2 (goal.at.put-c-requires c).After-put_figures-b)

pub put_decimal-d-requires : goal.put_decimal-d-requires
put_decimal-d-requires c = room_as (w3 (goal.at.put_decimal-d-requires c).After-put-c) (ap decimal c.share-n.ensures)

pub put-e-requires : goal.put-e-requires
put-e-requires c = room (w4 (goal.at.put-e-requires c).After-put_decimal-d)

pub put_path-f-requires : goal.put_path-f-requires
put_path-f-requires c = room (w5 (goal.at.put_path-f-requires c).After-put-e)

pub put-requires : goal.put-requires
put-requires c = room (w6 (goal.at.put-requires c).After-put_path-f)
