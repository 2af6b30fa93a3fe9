-- `decide_report::put_decision` meets its contract: the parts of the decision one after the other. Assumes nothing.
use Prim.Native.Nat.{ℕ, ◌≤◌}
use mathlib.Core.List.{List, [], ◌∷◌}
use lib.ListN.{length}
use Rattle.text_decimals.specs.Decimal.{decimal}
use Rattle.report.specs.Report.{space, feed}
use Rattle.report.specs.HeldPath.{report_of}
use Rattle.decide_report.specs.Decision.{decision_names, decision_words, decision_text}
use Rattle.text_decimals.proofs.PlaceLaws.{Place, joined, begins-first, kept, room, next, finished-first}
use Rattle.decide_report.proofs.put_decision.Statement.{statement}
use Rattle.decide_report.proofs.put_decision.Tie as tie

-- the parts of the decision
abbrev parts : tie.Start → List (List ℕ)
parts s =
    let a = s.args in
    let f = a.found in
    decision_names ∷ decision_words a.source a.tick f.cycles ∷ space ∷ decimal f.cycles ∷ space ∷ decimal a.tick ∷ space
    ∷ decimal f.words ∷ space ∷ decimal f.depth ∷ space ∷ decimal f.used ∷ feed ∷ []

-- the first n parts stand in o, up to e
abbrev At : ℕ → ℕ → List ℕ → Type 0
At = Place (λ (s : tie.Start). s.args.out.now) (λ s. 0) parts

fits : (s : tie.Start) → length (joined [] (parts s)) ≤ length s.args.out.now
unfolding decision_text report_of
fits s = s.requires

abbrev w0 : (s : tie.Start) → At 0 0 s.args.out.now
w0 s = begins-first s (fits s)

abbrev w1 : (c : tie.After-put-a) → At 1 c.put-a.result c.put-a.new.out
w1 c = next (w0 c.before.before.before.before.before) c.put-a.ensures

abbrev w2 : (c : tie.After-put_ruling-b) → At 2 c.put_ruling-b.result c.put_ruling-b.new.out
w2 c = next (w1 c.before.before.before.before) c.put_ruling-b.ensures

abbrev w3 : (c : tie.After-put-c) → At 3 c.put-c.result c.put-c.new.out
w3 c = next (w2 c.before.before.before.before.before.before) c.put-c.ensures

abbrev w4 : (c : tie.After-put_decimal-d) → At 4 c.put_decimal-d.result c.put_decimal-d.new.out
w4 c = next (w3 c.before.before.before.before) c.put_decimal-d.ensures

abbrev w5 : (c : tie.After-put-e) → At 5 c.put-e.result c.put-e.new.out
w5 c = next (w4 c.before.before.before.before.before.before) c.put-e.ensures

abbrev w6 : (c : tie.After-put_decimal-f) → At 6 c.put_decimal-f.result c.put_decimal-f.new.out
w6 c = next (w5 c.before.before.before.before) c.put_decimal-f.ensures

abbrev w7 : (c : tie.After-put-g) → At 7 c.put-g.result c.put-g.new.out
w7 c = next (w6 c.before.before.before.before.before.before) c.put-g.ensures

abbrev w8 : (c : tie.After-put_decimal-h) → At 8 c.put_decimal-h.result c.put_decimal-h.new.out
w8 c = next (w7 c.before.before.before.before) c.put_decimal-h.ensures

abbrev w9 : (c : tie.After-put-i) → At 9 c.put-i.result c.put-i.new.out
w9 c = next (w8 c.before.before.before.before.before.before) c.put-i.ensures

abbrev w10 : (c : tie.After-put_decimal-j) → At 10 c.put_decimal-j.result c.put_decimal-j.new.out
w10 c = next (w9 c.before.before.before.before) c.put_decimal-j.ensures

abbrev w11 : (c : tie.After-put-k) → At 11 c.put-k.result c.put-k.new.out
w11 c = next (w10 c.before.before.before.before.before.before) c.put-k.ensures

abbrev w12 : (c : tie.After-put_decimal-l) → At 12 c.put_decimal-l.result c.put_decimal-l.new.out
w12 c = next (w11 c.before.before.before.before) c.put_decimal-l.ensures

abbrev w13 : (c : tie.After-put) → At 13 c.put.result c.put.new.out
w13 c = next (w12 c.before.before.before.before.before.before) c.put.ensures

returns : tie.Need-returns
unfolding decision_text report_of
returns c = finished-first (w13 c.before.before)

pub put_decision_spec : {M : Type 1} → statement M
put_decision_spec =
    tie.close
    (tie.spec
    (λ c κs. room (w0 c.before.before.before.before))
    (λ c κs. room (w1 c.before.before.before))
    (λ c κs. room (w2 c.before.before.before.before.before))
    (λ c κs. room (w3 c.before.before.before))
    (λ c κs. room (w4 c.before.before.before.before.before))
    (λ c κs. room (w5 c.before.before.before))
    (λ c κs. room (w6 c.before.before.before.before.before))
    (λ c κs. room (w7 c.before.before.before))
    (λ c κs. room (w8 c.before.before.before.before.before))
    (λ c κs. room (w9 c.before.before.before))
    (λ c κs. room (w10 c.before.before.before.before.before))
    (λ c κs. room (w11 c.before.before.before))
    (λ c κs. room (w12 c.before.before.before.before.before))
    (λ c. kept (w13 c.before.before))
    returns)
