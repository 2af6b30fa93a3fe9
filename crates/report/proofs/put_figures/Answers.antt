-- `report::put_figures` meets its contract: the figures and the spaces one after the other. Assumes nothing.
use Prim.Native.Nat.{ℕ, ◌+◌, ◌≤◌}
use mathlib.Core.List.{List, [], ◌∷◌}
use lib.ListN.{length}
use Rattle.text_decimals.specs.Decimal.{decimal}
use Rattle.report.specs.Report.{space, figures}
use Rattle.report.specs.HeldPath.{report_of}
use Rattle.text_decimals.proofs.PlaceLaws.{Place, joined, begins, room, next, finished}
use Rattle.report.proofs.put_figures.Goals.{After-put-b, After-put-d, After-put-f, After-put_decimal, After-put_decimal-a, After-put_decimal-c, After-put_decimal-e, Start}
use Rattle.report.proofs.put_figures.Goals as goal

-- the figures and the spaces
abbrev parts : Start → List (List ℕ)
parts s = decimal s.args.cycles ∷ space ∷ decimal s.args.words ∷ space ∷ decimal s.args.depth ∷ space ∷ decimal s.args.steps ∷ []

-- the first n parts stand in o, up to e
abbrev At : ℕ → ℕ → List ℕ → Type 0
At = Place (λ (s : Start). s.args.out.now) (λ s. s.args.at) parts

fits : (s : Start) → s.args.at + length (joined [] (parts s)) ≤ length s.args.out.now
unfolding figures report_of
fits s = s.requires

abbrev w0 : (s : Start) → At 0 s.args.at s.args.out.now
w0 s = begins s (fits s)

abbrev w1 : (c : After-put_decimal-a) → At 1 c.put_decimal-a.result c.put_decimal-a.new.out
w1 c = next (w0 c.before.before.before) (c.put_decimal-a.ensures.value, c.put_decimal-a.ensures.out_after)

abbrev w2 : (c : After-put-b) → At 2 c.put-b.result c.put-b.new.out
w2 c = next (w1 c.before.before.before.before.before.before) (c.put-b.ensures.value, c.put-b.ensures.out_after)

abbrev w3 : (c : After-put_decimal-c) → At 3 c.put_decimal-c.result c.put_decimal-c.new.out
w3 c = next (w2 c.before.before.before.before) (c.put_decimal-c.ensures.value, c.put_decimal-c.ensures.out_after)

abbrev w4 : (c : After-put-d) → At 4 c.put-d.result c.put-d.new.out
w4 c = next (w3 c.before.before.before.before.before.before) (c.put-d.ensures.value, c.put-d.ensures.out_after)

abbrev w5 : (c : After-put_decimal-e) → At 5 c.put_decimal-e.result c.put_decimal-e.new.out
w5 c = next (w4 c.before.before.before.before) (c.put_decimal-e.ensures.value, c.put_decimal-e.ensures.out_after)

abbrev w6 : (c : After-put-f) → At 6 c.put-f.result c.put-f.new.out
w6 c = next (w5 c.before.before.before.before.before.before) (c.put-f.ensures.value, c.put-f.ensures.out_after)

abbrev w7 : (c : After-put_decimal) → At 7 c.put_decimal.result c.put_decimal.new.out
w7 c = next (w6 c.before.before.before.before) (c.put_decimal.ensures.value, c.put_decimal.ensures.out_after)

pub returns : goal.returns
unfolding figures report_of
returns c = let all = finished (w7 (goal.at.returns c).After-put_decimal) in record { value = all.0; out_after = all.1 }

pub put_decimal-a-requires : goal.put_decimal-a-requires
put_decimal-a-requires c = room (w0 (goal.at.put_decimal-a-requires c).Start)

pub put-b-requires : goal.put-b-requires
put-b-requires c = room (w1 (goal.at.put-b-requires c).After-put_decimal-a)

pub put_decimal-c-requires : goal.put_decimal-c-requires
put_decimal-c-requires c = room (w2 (goal.at.put_decimal-c-requires c).After-put-b)

pub put-d-requires : goal.put-d-requires
put-d-requires c = room (w3 (goal.at.put-d-requires c).After-put_decimal-c)

pub put_decimal-e-requires : goal.put_decimal-e-requires
put_decimal-e-requires c = room (w4 (goal.at.put_decimal-e-requires c).After-put-d)

pub put-f-requires : goal.put-f-requires
put-f-requires c = room (w5 (goal.at.put-f-requires c).After-put_decimal-e)

pub put_decimal-requires : goal.put_decimal-requires
put_decimal-requires c = room (w6 (goal.at.put_decimal-requires c).After-put-f)
