-- `nearest_entry::put_name` meets its contract: the parts of the name one after the other. Assumes nothing.
use Prim.Native.Nat.{ℕ, ◌≤◌, zero-le}
use mathlib.Core.List.{List, [], ◌∷◌}
use native.Mathlib.Omega.{arith}
use lib.ListN.{length}
use Rattle.text.specs.Text.{bytes}
use Rattle.text_decimals.specs.Decimal.{decimal}
use Rattle.text_decimals.proofs.MemoryLaws.{wrote_none, wrote-more}
use Rattle.text_decimals.proofs.PlaceLaws.{Place, joined, begins-first, room, next, finished}
use Rattle.nearest_entry.proofs.FunctionLaws.{name-accu, name-entry, name-field}
use borrow.Author.Rules.{rules}
use Rattle.nearest_entry.proofs.put_name.Statement.{statement}
use Rattle.nearest_entry.proofs.put_name.Tie as tie

-- the accumulator
put-requires : tie.Need-put-requires
put-requires c κs = let t = c in omega (arith, rw (name-accu _ t.in-Accu.is) at t.requires)

returns : tie.Need-returns-in-Accu
returns c =
    let p = c in
    let t = p in
    let s = t in
    let w = wrote-more (wrote_none s.args.out.now 0 zero-le) (bytes "ACCU") p.put.ensures in
    rw (name-accu s.args.p t.in-Accu.is) (w.ends, w.holds)

-- an entry of the stack: its number, the start, and the parts of its name
abbrev entry : tie.In-Entry → ℕ
entry c = c.in-Entry.n

abbrev start : tie.In-Entry → tie.Start
start c = c.before.before

abbrev parts : tie.In-Entry → List (List ℕ)
parts c = bytes "S" ∷ decimal (entry c) ∷ []

-- the first n parts stand in o, up to e
abbrev At : ℕ → ℕ → List ℕ → Type 0
At = Place (λ c. (start c).args.out.now) (λ c. 0) parts

fits : (c : tie.In-Entry) → length (joined [] (parts c)) ≤ length (start c).args.out.now
fits c = rw (name-entry (start c).args.p (entry c) c.in-Entry.is) at (start c).requires

abbrev w0 : (c : tie.In-Entry) → At 0 0 (start c).args.out.now
w0 c = begins-first c (fits c)

abbrev w1 : (c : tie.After-put-a) → At 1 c.put-a.result c.put-a.new.out
w1 c = next (w0 c.before.before.before.before) c.put-a.ensures

abbrev w2 : (c : tie.After-put_decimal) → At 2 c.put_decimal.result c.put_decimal.new.out
w2 c = next (w1 c.before.before.before.before) c.put_decimal.ensures

returns-2 : tie.Need-returns-in-Entry
returns-2 c =
    let w = w2 c.before.before in
    let t = w.start in
    rw (name-entry (start t).args.p (entry t) t.in-Entry.is) (finished w)

-- a field of a block: its numbers, the start, and the parts of its name
abbrev block : tie.In-Field → ℕ
block c = c.in-Field.k

abbrev field : tie.In-Field → ℕ
field c = c.in-Field.n

abbrev start-2 : tie.In-Field → tie.Start
start-2 c = c.before.before

abbrev parts-2 : tie.In-Field → List (List ℕ)
parts-2 c = bytes "B" ∷ decimal (block c) ∷ bytes "." ∷ decimal (field c) ∷ []

abbrev At-2 : ℕ → ℕ → List ℕ → Type 0
At-2 = Place (λ c. (start-2 c).args.out.now) (λ c. 0) parts-2

fits-2 : (c : tie.In-Field) → length (joined [] (parts-2 c)) ≤ length (start-2 c).args.out.now
fits-2 c = rw (name-field (start-2 c).args.p (block c) (field c) c.in-Field.is) at (start-2 c).requires

abbrev v0 : (c : tie.In-Field) → At-2 0 0 (start-2 c).args.out.now
v0 c = begins-first c (fits-2 c)

abbrev v1 : (c : tie.After-put-a-in-Field) → At-2 1 c.put-a-in-Field.result c.put-a-in-Field.new.out
v1 c = next (v0 c.before.before.before.before) c.put-a-in-Field.ensures

abbrev v2 : (c : tie.After-put_decimal-b) → At-2 2 c.put_decimal-b.result c.put_decimal-b.new.out
v2 c = next (v1 c.before.before.before.before) c.put_decimal-b.ensures

abbrev v3 : (c : tie.After-put-c) → At-2 3 c.put-c.result c.put-c.new.out
v3 c = next (v2 c.before.before.before.before.before.before) c.put-c.ensures

abbrev v4 : (c : tie.After-put_decimal-in-Field) → At-2 4 c.put_decimal-in-Field.result c.put_decimal-in-Field.new.out
v4 c = next (v3 c.before.before.before.before) c.put_decimal-in-Field.ensures

returns-3 : tie.Need-returns-in-Field
returns-3 c =
    let w = v4 c.before.before in
    let t = w.start in
    rw (name-field (start-2 t).args.p (block t) (field t) t.in-Field.is) (finished w)

pub put_name_spec : {M : Type 1} → statement M
put_name_spec =
    tie.close
    (tie.spec
    (λ c. search rules)
    put-requires
    (λ c. search rules)
    (λ c κs. room (w0 c.before.before.before))
    (λ c κs. room (w1 c.before.before.before))
    (λ c. search rules)
    (λ c κs. room (v0 c.before.before.before))
    (λ c. search rules)
    (λ c κs. room (v1 c.before.before.before))
    (λ c κs. room (v2 c.before.before.before.before.before))
    (λ c κs. room (v3 c.before.before.before))
    (λ c. search rules)
    returns
    (λ c. search rules)
    returns-2
    (λ c. search rules)
    returns-3)
