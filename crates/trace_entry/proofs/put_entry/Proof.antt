-- `trace_entry::put_entry` meets its contract: the parts of the line one after the other. Assumes nothing.
use Prim.Native.Nat.{ℕ, ◌+◌, ◌≤◌}
use mathlib.Core.List.{List, [], ◌∷◌}
use lib.ListN.{length}
use Rattle.text.specs.Text.{bytes}
use Rattle.text_decimals.specs.Decimal.{decimal}
use Rattle.text_decimals.proofs.PlaceLaws.{Place, joined, begins, kept, room, next, finished}
use Rattle.trace_theory.specs.Trace.{entry_text}
use Rattle.trace_entry.proofs.put_entry.Statement.{statement}
use Rattle.trace_entry.proofs.put_entry.Tie as tie

-- the parts of the line
abbrev parts : tie.Start → List (List ℕ)
parts s = let a = s.args in decimal a.address ∷ bytes " " ∷ decimal a.cycles ∷ bytes "\n" ∷ []

-- the first n parts stand in o, up to e
abbrev At : ℕ → ℕ → List ℕ → Type 0
At = Place (λ (s : tie.Start). s.args.out.now) (λ s. s.args.at) parts

fits : (s : tie.Start) → s.args.at + length (joined [] (parts s)) ≤ length s.args.out.now
unfolding entry_text
fits s = s.requires

abbrev w0 : (s : tie.Start) → At 0 s.args.at s.args.out.now
w0 s = begins s (fits s)

abbrev w1 : (c : tie.After-put_decimal-a) → At 1 c.put_decimal-a.result c.put_decimal-a.new.out
w1 c = next (w0 c.before.before.before) c.put_decimal-a.ensures

abbrev w2 : (c : tie.After-put-b) → At 2 c.put-b.result c.put-b.new.out
w2 c = next (w1 c.before.before.before.before.before.before) c.put-b.ensures

abbrev w3 : (c : tie.After-put_decimal-c) → At 3 c.put_decimal-c.result c.put_decimal-c.new.out
w3 c = next (w2 c.before.before.before.before) c.put_decimal-c.ensures

abbrev w4 : (c : tie.After-put) → At 4 c.put.result c.put.new.out
w4 c = next (w3 c.before.before.before.before.before.before) c.put.ensures

returns : tie.Need-returns
unfolding entry_text
returns c = finished (w4 c.before.before)

pub put_entry_spec : {M : Type 1} → statement M
put_entry_spec =
    tie.close
    (tie.spec
    (λ c κs. room (w0 c.before.before))
    (λ c κs. room (w1 c.before.before.before.before.before))
    (λ c κs. room (w2 c.before.before.before))
    (λ c κs. room (w3 c.before.before.before.before.before))
    (λ c. kept (w4 c.before.before))
    returns)
