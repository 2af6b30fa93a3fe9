-- `explain_lines::put_entry` meets its contract: the parts of the line one after the other. Assumes nothing.
use Prim.Native.Nat.{ℕ, ◌+◌, ◌≤◌}
use mathlib.Core.List.{List, [], ◌∷◌}
use lib.ListN.{length}
use Rattle.text_decimals.specs.Decimal.{decimal}
use Rattle.text_decimals.proofs.PlaceLaws.{Place, joined, begins, kept, room, next, finished}
use Rattle.report.specs.Report.{space, feed, path_text}
use Rattle.report.specs.HeldPath.{decode}
use Rattle.explain_lines.specs.Listing.{entry_text}
use Rattle.explain_lines.proofs.put_entry.Statement.{statement}
use Rattle.explain_lines.proofs.put_entry.Tie as tie

-- the parts of the line
abbrev parts : tie.Start → List (List ℕ)
parts s =
    let a = s.args in
    a.line.now ∷ space ∷ decimal a.cycles ∷ space ∷ decimal a.words ∷ space ∷ decimal a.depth ∷ space ∷ path_text (decode a.way) ∷ feed ∷ []

-- the first n parts stand in o, up to e
abbrev At : ℕ → ℕ → List ℕ → Type 0
At = Place (λ (s : tie.Start). s.args.out.now) (λ s. s.args.at) parts

fits : (s : tie.Start) → s.args.at + length (joined [] (parts s)) ≤ length s.args.out.now
unfolding entry_text
fits s = s.requires

abbrev w0 : (s : tie.Start) → At 0 s.args.at s.args.out.now
w0 s = begins s (fits s)

abbrev w1 : (c : tie.After-put-a) → At 1 c.put-a.result c.put-a.new.out
w1 c = next (w0 c.before.before.before.before) c.put-a.ensures

abbrev w2 : (c : tie.After-put-b) → At 2 c.put-b.result c.put-b.new.out
w2 c = next (w1 c.before.before.before.before.before.before) c.put-b.ensures

abbrev w3 : (c : tie.After-put_decimal-c) → At 3 c.put_decimal-c.result c.put_decimal-c.new.out
w3 c = next (w2 c.before.before.before.before) c.put_decimal-c.ensures

abbrev w4 : (c : tie.After-put-d) → At 4 c.put-d.result c.put-d.new.out
w4 c = next (w3 c.before.before.before.before.before.before) c.put-d.ensures

abbrev w5 : (c : tie.After-put_decimal-e) → At 5 c.put_decimal-e.result c.put_decimal-e.new.out
w5 c = next (w4 c.before.before.before.before) c.put_decimal-e.ensures

abbrev w6 : (c : tie.After-put-f) → At 6 c.put-f.result c.put-f.new.out
w6 c = next (w5 c.before.before.before.before.before.before) c.put-f.ensures

abbrev w7 : (c : tie.After-put_decimal-g) → At 7 c.put_decimal-g.result c.put_decimal-g.new.out
w7 c = next (w6 c.before.before.before.before) c.put_decimal-g.ensures

abbrev w8 : (c : tie.After-put-h) → At 8 c.put-h.result c.put-h.new.out
w8 c = next (w7 c.before.before.before.before.before.before) c.put-h.ensures

abbrev w9 : (c : tie.After-put_path-i) → At 9 c.put_path-i.result c.put_path-i.new.out
w9 c = next (w8 c.before.before.before.before) c.put_path-i.ensures

abbrev w10 : (c : tie.After-put) → At 10 c.put.result c.put.new.out
w10 c = next (w9 c.before.before.before.before.before.before) c.put.ensures

returns : tie.Need-returns
unfolding entry_text
returns c = finished (w10 c.before.before)

pub put_entry_spec : {M : Type 1} → statement M
put_entry_spec =
    tie.close
    (tie.spec
    (λ c κs. room (w0 c.before.before.before))
    (λ c κs. room (w1 c.before.before.before.before.before))
    (λ c κs. room (w2 c.before.before.before))
    (λ c κs. room (w3 c.before.before.before.before.before))
    (λ c κs. room (w4 c.before.before.before))
    (λ c κs. room (w5 c.before.before.before.before.before))
    (λ c κs. room (w6 c.before.before.before))
    (λ c κs. room (w7 c.before.before.before.before.before))
    (λ c κs. room (w8 c.before.before.before))
    (λ c κs. room (w9 c.before.before.before.before.before))
    (λ c. kept (w10 c.before.before))
    returns)
