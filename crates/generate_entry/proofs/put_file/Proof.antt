-- `generate_entry::put_file` meets its contract: the parts of the file one after the other. Assumes nothing.
use Prim.Native.Nat.{ℕ, suc, ◌≤◌, ◌%◌}
use mathlib.Core.Path.{◌≡◌, ap}
use mathlib.Core.List.{List, [], ◌∷◌}
use native.Mathlib.Omega.{arith}
use lib.ListN.{length, length-append}
use Rattle.text.specs.Text.{bytes}
use Rattle.text_decimals.proofs.PlaceLaws.{Place, joined, begins-first, kept, room, next, next-as, finished-first}
use Rattle.generate_file.specs.File.{count, code_from, prices, start, file}
use Rattle.generate_file.proofs.FileLaws.{prices-short, start-short, file-short}
use Rattle.generate_entry.proofs.CellLaws.{count-is}
use borrow.Author.Rules.{rules}
use Rattle.generate_entry.proofs.put_file.Statement.{statement}
use Rattle.generate_entry.proofs.put_file.Tie as tie

-- from the first draw: the start, the seed, and the number of instructions
abbrev begin : tie.After-next → tie.Start
begin c = c.before.before

abbrev seed : tie.After-next → ℕ
seed c = (begin c).args.seed

number : (c : tie.After-next) → c.next.result % 200 ≡ count (seed c)
number c = count-is (seed c) c.next.ensures

-- the parts of the file
abbrev parts : tie.After-next → List (List ℕ)
parts c = prices (seed c) ∷ start (seed c) ∷ bytes "AT OP ARG\n" ∷ code_from (seed c) 0 (suc (count (seed c))) ∷ []

-- the first n parts stand in o, up to e
abbrev At : ℕ → ℕ → List ℕ → Type 0
At = Place (λ c. (begin c).args.out.now) (λ c. 0) parts

fits : (c : tie.After-next) → length (joined [] (parts c)) ≤ length (begin c).args.out.now
unfolding file
fits c = omega (arith, (begin c).requires, file-short (seed c))

abbrev w0 : (c : tie.After-next) → At 0 0 (begin c).args.out.now
w0 c = begins-first c (fits c)

abbrev w1 : (c : tie.After-put_prices-a) → At 1 c.put_prices-a.result c.put_prices-a.new.out
w1 c = next (w0 c.before.before) c.put_prices-a.ensures

abbrev w2 : (c : tie.After-put_start-b) → At 2 c.put_start-b.result c.put_start-b.new.out
w2 c = next (w1 c.before.before.before.before) c.put_start-b.ensures

abbrev w3 : (c : tie.After-put-c) → At 3 c.put-c.result c.put-c.new.out
w3 c = next (w2 c.before.before.before.before.before.before) c.put-c.ensures

abbrev w4 : (c : tie.After-put_code) → At 4 c.put_code.result c.put_code.new.out
w4 c = let w = w3 c.before.before.before.before in next-as w (ap (λ m. code_from (seed w.start) 0 (suc m)) (number w.start)) c.put_code.ensures

put-start-requires : tie.Need-put_start-b-requires
put-start-requires c κs =
    let w = w1 c.before.before.before in
    let t = w.start in
    (number t, omega arith, omega (arith, (begin t).requires, kept w, w.wrote.ends, prices-short (seed t)))

put-code-requires : tie.Need-put_code-requires
put-code-requires c κs =
    let w = w3 c.before.before.before in
    let t = w.start in
    (number t, omega arith, omega (arith, (begin t).requires, kept w, simp length-append at w.wrote.ends, prices-short (seed t), start-short (seed t)))

returns : tie.Need-returns
unfolding file
returns c = finished-first (w4 c.before.before)

pub put_file_spec : {M : Type 1} → statement M
put_file_spec =
    tie.close
    (tie.spec
    (λ c κs. search rules)
    (λ c. search rules)
    (λ c κs. (number c.before, omega arith, omega (arith, (begin c.before).requires)))
    put-start-requires
    (λ c κs. room (w2 c.before.before.before.before.before))
    put-code-requires
    (λ c. search rules)
    returns)
