-- `nearest_entry::put_change` meets its contract: the parts of the line one after the other. Assumes nothing.
use Prim.Native.Nat.{ℕ, ◌≤◌}
use mathlib.Core.Path.{◌≡◌, ap}
use mathlib.Core.List.{List, [], ◌∷◌}
use native.Mathlib.Omega.{arith}
use lib.ListN.{length}
use mir.Syntax.{w32}
use mir.Val.{of_z, to_z}
use mir.ValLaws.{to_z-of_z}
use Rattle.text.specs.Text.{bytes}
use Rattle.text_decimals.proofs.PlaceLaws.{Place, joined, begins-first, room, room_as, next, next-as, finished-first}
use Rattle.text_decimals.specs.Decimal.{integer}
use Rattle.nearest_entry.specs.Answers.{name_of, line_of}
use borrow.Author.Rules.{rules}
use Rattle.nearest_entry.proofs.put_change.Statement.{statement}
use Rattle.nearest_entry.proofs.put_change.Tie as tie

-- the value as it is passed on
passed : (s : tie.Start) → integer (to_z w32 (of_z w32 s.args.change.value)) ≡ integer s.args.change.value
passed s = ap integer (to_z-of_z w32 s.args.change.value (search rules))

-- the parts of the line
abbrev parts : tie.Start → List (List ℕ)
parts s = name_of s.args.change.place ∷ bytes " " ∷ integer s.args.change.value ∷ bytes "\n" ∷ []

-- the first n parts stand in o, up to e
abbrev At : ℕ → ℕ → List ℕ → Type 0
At = Place (λ (s : tie.Start). s.args.out.now) (λ s. 0) parts

fits : (s : tie.Start) → length (joined [] (parts s)) ≤ length s.args.out.now
unfolding line_of
fits s = s.requires

abbrev w0 : (s : tie.Start) → At 0 0 s.args.out.now
w0 s = begins-first s (fits s)

abbrev w1 : (c : tie.After-put_name-a) → At 1 c.put_name-a.result c.put_name-a.new.out
w1 c = next (w0 c.before.before.before) c.put_name-a.ensures

abbrev w2 : (c : tie.After-put-b) → At 2 c.put-b.result c.put-b.new.out
w2 c = next (w1 c.before.before.before.before.before.before) c.put-b.ensures

abbrev w3 : (c : tie.After-put_integer-c) → At 3 c.put_integer-c.result c.put_integer-c.new.out
w3 c = let w = w2 c.before.before.before.before.before in next-as w (passed w.start) c.put_integer-c.ensures

abbrev w4 : (c : tie.After-put) → At 4 c.put.result c.put.new.out
w4 c = next (w3 c.before.before.before.before.before.before) c.put.ensures

returns : tie.Need-returns
unfolding line_of
returns c = finished-first (w4 c.before.before)

pub put_change_spec : {M : Type 1} → statement M
put_change_spec =
    tie.close
    (tie.spec
    (λ c κs. omega (arith, room (w0 c.before.before)))
    (λ c κs. room (w1 c.before.before.before.before.before))
    (λ c κs. let w = w2 c.before.before.before.before in room_as w (passed w.start))
    (λ c κs. room (w3 c.before.before.before.before.before))
    (λ c. search rules)
    returns)
