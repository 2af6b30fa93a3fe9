-- `generate_entry::put_line` meets its contract: the parts of the line one after the other. Assumes nothing.
use Prim.Native.Nat.{ℕ, ◌+◌, ◌≤◌}
use mathlib.Core.List.{List, [], ◌∷◌}
use native.Mathlib.Omega.{arith}
use lib.ListN.{length, length-append}
use Rattle.text.specs.Text.{bytes}
use Rattle.text_decimals.specs.Decimal.{decimal}
use Rattle.text_decimals.proofs.DecimalLaws.{decimal-length}
use Rattle.text_decimals.proofs.PlaceLaws.{Place, joined, begins, kept, room, next, finished}
use Rattle.instructions.specs.Kinds.{kind_at}
use Rattle.generate_file.specs.File.{argument, line_of}
use Rattle.generate_file.proofs.WordLaws.{name-short}
use Rattle.generate_entry.proofs.CellLaws.{kind-short}
use borrow.Author.Rules.{rules}
use Rattle.generate_entry.proofs.put_line.Statement.{statement}
use Rattle.generate_entry.proofs.put_line.Tie as tie

-- the parts of the line
abbrev parts : tie.Start → List (List ℕ)
parts s =
    let a = s.args in
    decimal a.k ∷ bytes " " ∷ (kind_at a.kind).name ∷ bytes " " ∷ argument a.n a.k a.d (kind_at a.kind).argument ∷ bytes "\n" ∷ []

-- the first n parts stand in o, up to e
abbrev At : ℕ → ℕ → List ℕ → Type 0
At = Place (λ (s : tie.Start). s.args.out.now) (λ s. s.args.at) parts

number_short : (s : tie.Start) → length (decimal s.args.k) ≤ 3
number_short s = decimal-length 3 s.args.k (omega (arith, s.requires.1)) (omega arith)

fits : (s : tie.Start) → s.args.at + length (joined [] (parts s)) ≤ length s.args.out.now
fits s = simp length-append (omega (arith, s.requires.4, number_short s, name-short s.args.kind, kind-short s.args.n s.args.k s.args.d s.args.kind s.requires.2))

abbrev w0 : (s : tie.Start) → At 0 s.args.at s.args.out.now
w0 s = begins s (fits s)

abbrev w1 : (c : tie.After-put_decimal-a) → At 1 c.put_decimal-a.result c.put_decimal-a.new.out
w1 c = next (w0 c.before.before.before) c.put_decimal-a.ensures

abbrev w2 : (c : tie.After-put-b) → At 2 c.put-b.result c.put-b.new.out
w2 c = next (w1 c.before.before.before.before.before.before) c.put-b.ensures

abbrev w3 : (c : tie.After-put_name-c) → At 3 c.put_name-c.result c.put_name-c.new.out
w3 c = next (w2 c.before.before.before.before) c.put_name-c.ensures

abbrev w4 : (c : tie.After-put-e) → At 4 c.put-e.result c.put-e.new.out
w4 c = next (w3 c.before.before.before.before.before.before) c.put-e.ensures

abbrev w5 : (c : tie.After-put_argument-f) → At 5 c.put_argument-f.result c.put_argument-f.new.out
w5 c = next (w4 c.before.before.before.before) c.put_argument-f.ensures

abbrev w6 : (c : tie.After-put) → At 6 c.put.result c.put.new.out
w6 c = next (w5 c.before.before.before.before.before.before) c.put.ensures

put-argument-requires : tie.Need-put_argument-f-requires
put-argument-requires c κs =
    let w = w4 c.before.before.before in
    let s = w.start in
    (s.requires.0, s.requires.2, s.requires.3, omega (arith, s.requires.4, kept w, simp length-append at w.wrote.ends, number_short s, name-short s.args.kind))

returns : tie.Need-returns
unfolding line_of
returns c = finished (w6 c.before.before)

pub put_line_spec : {M : Type 1} → statement M
put_line_spec =
    tie.close
    (tie.spec
    (λ c κs. room (w0 c.before.before))
    (λ c κs. room (w1 c.before.before.before.before.before))
    (λ c κs. let w = w2 c.before.before.before in (w.start.requires.0, room w))
    (λ c κs. room (w3 c.before.before.before.before.before))
    put-argument-requires
    (λ c κs. room (w5 c.before.before.before.before.before))
    (λ c. search rules)
    returns)
