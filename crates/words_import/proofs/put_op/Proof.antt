-- `words_import::put_op` meets its contract: the parts one after the other. Assumes nothing.
use Prim.Native.Nat.{ℕ, ◌+◌, ◌≤◌}
use mathlib.Core.List.{List, [], ◌∷◌}
use lib.ListN.{length}
use Rattle.text.specs.Text.{bytes}
use Rattle.text_decimals.specs.Decimal.{decimal}
use Rattle.text_decimals.proofs.PlaceLaws.{Place, joined, begins, room, next, finished}
use Rattle.instructions.specs.Kinds.{kind_at}
use Rattle.words_import.specs.HeldLines.{op_in}
use borrow.Author.Rules.{rules}
use Rattle.words_import.proofs.put_op.Statement.{statement}
use Rattle.words_import.proofs.put_op.Tie as tie

-- the parts
abbrev parts : tie.Start → List (List ℕ)
parts s = decimal s.args.n ∷ bytes " " ∷ (kind_at s.args.k).name ∷ bytes " " ∷ []

-- the first n parts stand in o, up to e
abbrev At : ℕ → ℕ → List ℕ → Type 0
At = Place (λ (s : tie.Start). s.args.out.now) (λ s. s.args.at) parts

fits : (s : tie.Start) → s.args.at + length (joined [] (parts s)) ≤ length s.args.out.now
unfolding op_in
fits s = s.requires.1.1

abbrev w0 : (s : tie.Start) → At 0 s.args.at s.args.out.now
w0 s = begins s (fits s)

abbrev w1 : (c : tie.After-put_decimal-a) → At 1 c.put_decimal-a.result c.put_decimal-a.new.out
w1 c = next (w0 c.before.before.before.before) c.put_decimal-a.ensures

abbrev w2 : (c : tie.After-put-b) → At 2 c.put-b.result c.put-b.new.out
w2 c = next (w1 c.before.before.before.before.before.before) c.put-b.ensures

abbrev w3 : (c : tie.After-put_name_in-c) → At 3 c.put_name_in-c.result c.put_name_in-c.new.out
w3 c = next (w2 c.before.before.before.before) c.put_name_in-c.ensures

abbrev w4 : (c : tie.After-put) → At 4 c.put.result c.put.new.out
w4 c = next (w3 c.before.before.before.before.before.before) c.put.ensures

returns : tie.Need-returns
unfolding op_in
returns c = finished (w4 c.before.before)

pub put_op_spec : {M : Type 1} → statement M
put_op_spec =
    tie.close
    (tie.spec
    (λ c κs. room (w0 c.before.before.before))
    (λ c κs. room (w1 c.before.before.before.before.before))
    (λ c κs. let w = w2 c.before.before.before in (w.start.requires.0, (w.start.requires.1.0, room w)))
    (λ c κs. room (w3 c.before.before.before.before.before))
    (λ c. search rules)
    returns)
