-- `generate_entry::put_start` meets its contract: the parts of the start one after the other. Assumes nothing.
use Prim.Native.Nat.{ℕ, ◌+◌, ◌≤◌}
use mathlib.Core.Path.{ap}
use mathlib.Core.Bool.{true, false}
use mathlib.Core.List.{List, [], ◌∷◌}
use native.Mathlib.Omega.{arith}
use lib.ListN.{length}
use Rattle.text_decimals.proofs.PlaceLaws.{Place, joined, begins, kept, next, next-as, finished}
use Rattle.generate_file.specs.declared.Column.TheVariants.{Handles}
use Rattle.generate_file.specs.Words.{row}
use Rattle.generate_file.specs.File.{cells_for, plain_cells, later, cell_names, field_names, start}
use Rattle.generate_file.proofs.FileLaws.{start-short}
use borrow.Author.Rules.{rules}
use Rattle.generate_entry.proofs.put_start.Statement.{statement}
use Rattle.generate_entry.proofs.put_start.Tie as tie

-- from where the columns are known: the function's start and the seed
abbrev begin : tie.After-plain_cells-plain → tie.Start
begin c = c.before.before.before.before

abbrev seed : tie.After-plain_cells-plain → ℕ
seed c = (begin c).args.seed

-- the lines
abbrev parts : tie.After-plain_cells-plain → List (List ℕ)
parts c =
    cell_names ∷ row (cells_for (seed c) 0) 1 true (later (seed c) 193) ∷ row (cells_for (seed c) 1) 32 false (later (seed c) 194)
    ∷ field_names ∷ row (plain_cells (seed c)) 16 true (later (seed c) 226) ∷ row Handles 16 false (later (seed c) 242) ∷ []

-- the first n parts stand in o, up to e
abbrev At : ℕ → ℕ → List ℕ → Type 0
At = Place (λ c. (begin c).args.out.now) (λ c. (begin c).args.at) parts

short : (c : tie.After-plain_cells-plain) → (begin c).args.at + length (start (seed c)) ≤ length (begin c).args.out.now
short c = omega (arith, (begin c).requires.2, start-short (seed c))

fits : (c : tie.After-plain_cells-plain) → (begin c).args.at + length (joined [] (parts c)) ≤ length (begin c).args.out.now
unfolding start
fits c = short c

abbrev w0 : (c : tie.After-plain_cells-plain) → At 0 (begin c).args.at (begin c).args.out.now
w0 c = begins c (fits c)

abbrev w1 : (c : tie.After-put-l10) → At 1 c.put-l10.result c.put-l10.new.out
w1 c = next (w0 c.before.before.before.before) c.put-l10.ensures

abbrev w2 : (c : tie.After-put_values-accu) → At 2 c.put_values-accu.result c.put_values-accu.new.out
w2 c =
    let w = w1 c.before.before.before.before in
    next-as w (ap (λ x. row x 1 true (later (seed w.start) 193)) w.start.cells_for-first.ensures) (c.put_values-accu.ensures.0, c.put_values-accu.ensures.1.0)

abbrev w3 : (c : tie.After-put_values-l11) → At 3 c.put_values-l11.result c.put_values-l11.new.out
w3 c =
    let w = w2 c.before.before.before.before in
    next-as w (ap (λ x. row x 32 false (later (seed w.start) 194)) w.start.cells_for-second.ensures) (c.put_values-l11.ensures.0, c.put_values-l11.ensures.1.0)

abbrev w4 : (c : tie.After-put-l12) → At 4 c.put-l12.result c.put-l12.new.out
w4 c = next (w3 c.before.before.before.before.before.before) c.put-l12.ensures

abbrev w5 : (c : tie.After-put_values-block) → At 5 c.put_values-block.result c.put_values-block.new.out
w5 c =
    let w = w4 c.before.before.before.before in
    next-as w (ap (λ x. row x 16 true (later (seed w.start) 226)) w.start.plain_cells-plain.ensures) (c.put_values-block.ensures.0, c.put_values-block.ensures.1.0)

abbrev w6 : (c : tie.After-put_values) → At 6 c.put_values.result c.put_values.new.out
w6 c = next (w5 c.before.before.before.before) (c.put_values.ensures.0, c.put_values.ensures.1.0)

put-values-requires-4 : tie.Need-put_values-requires
put-values-requires-4 c κs =
    let p3 = c in
    let t2 = p3 in
    let p2 = t2 in
    let p1 = p2 in
    let t1 = p1 in
    let w = w5 p3.before.before.before in
    let s = begin w.start in
    (s.requires.0, s.requires.1, omega arith, omega arith, omega (arith, s.requires.2, kept w, p3.put_values-block.ensures.1.1, t2.put-l12.ensures.0, p2.put_values-l11.ensures.1.1, p1.put_values-accu.ensures.1.1, t1.put-l10.ensures.0))

returns : tie.Need-returns
unfolding start
returns c = finished (w6 c.before.before)

pub put_start_spec : {M : Type 1} → statement M
put_start_spec =
    tie.close
    (tie.spec
    (λ c κs. search rules)
    (λ c κs. search rules)
    (λ c κs. search rules)
    (λ c κs. search rules)
    (λ c κs. search rules)
    (λ c κs. search rules)
    (λ c κs. search rules)
    (λ c κs. search rules)
    put-values-requires-4
    (λ c. search rules)
    returns)
