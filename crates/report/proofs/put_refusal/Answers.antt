-- `report::put_refusal` meets its contract: the parts of the line one after the other. Assumes nothing.
use Prim.Native.Nat.{ℕ, ◌≤◌}
use mathlib.Core.List.{List, [], ◌∷◌}
use lib.ListN.{length}
use Rattle.text.specs.Text.{bytes}
use Rattle.text_decimals.specs.Decimal.{decimal}
use Rattle.report.specs.Report.{space, feed, refusal_line}
use Rattle.text_decimals.proofs.PlaceLaws.{Place, joined, begins-first, room, next, finished-first}
use Rattle.report.proofs.put_refusal.Goals.{After-put, After-put-a, After-put-c, After-put_decimal-b, After-put_decimal-d, Start}
use Rattle.report.proofs.put_refusal.Goals as goal

-- the parts of the line
abbrev parts : Start → List (List ℕ)
parts s = bytes "REFUSED " ∷ decimal s.args.number ∷ space ∷ decimal s.args.place ∷ feed ∷ []

-- the first n parts stand in o, up to e
abbrev At : ℕ → ℕ → List ℕ → Type 0
At = Place (λ (s : Start). s.args.out.now) (λ s. 0) parts

fits : (s : Start) → length (joined [] (parts s)) ≤ length s.args.out.now
unfolding refusal_line
fits s = s.requires

abbrev w0 : (s : Start) → At 0 0 s.args.out.now
w0 s = begins-first s (fits s)

abbrev w1 : (c : After-put-a) → At 1 c.put-a.result c.put-a.new.out
w1 c = next (w0 c.before.before.before.before.before) (c.put-a.ensures.value, c.put-a.ensures.out_after)

abbrev w2 : (c : After-put_decimal-b) → At 2 c.put_decimal-b.result c.put_decimal-b.new.out
w2 c = next (w1 c.before.before.before.before) (c.put_decimal-b.ensures.value, c.put_decimal-b.ensures.out_after)

abbrev w3 : (c : After-put-c) → At 3 c.put-c.result c.put-c.new.out
w3 c = next (w2 c.before.before.before.before.before.before) (c.put-c.ensures.value, c.put-c.ensures.out_after)

abbrev w4 : (c : After-put_decimal-d) → At 4 c.put_decimal-d.result c.put_decimal-d.new.out
w4 c = next (w3 c.before.before.before.before) (c.put_decimal-d.ensures.value, c.put_decimal-d.ensures.out_after)

abbrev w5 : (c : After-put) → At 5 c.put.result c.put.new.out
w5 c = next (w4 c.before.before.before.before.before.before) (c.put.ensures.value, c.put.ensures.out_after)

pub returns : goal.returns
unfolding refusal_line
returns c = let all = finished-first (w5 (goal.at.returns c).After-put) in record { value = all.0; out_after = all.1 }

pub put-a-requires : goal.put-a-requires
put-a-requires c = room (w0 (goal.at.put-a-requires c).Start)

pub put_decimal-b-requires : goal.put_decimal-b-requires
put_decimal-b-requires c = room (w1 (goal.at.put_decimal-b-requires c).After-put-a)

pub put-c-requires : goal.put-c-requires
put-c-requires c = room (w2 (goal.at.put-c-requires c).After-put_decimal-b)

pub put_decimal-d-requires : goal.put_decimal-d-requires
put_decimal-d-requires c = room (w3 (goal.at.put_decimal-d-requires c).After-put-c)

pub put-requires : goal.put-requires
put-requires c = room (w4 (goal.at.put-requires c).After-put_decimal-d)
