-- `replay_entry::put_outcome` meets its contract: the parts of the line one after the other. Assumes nothing.
use Prim.Native.Nat.{ℕ, ◌≤◌, zero-le}
use mathlib.Core.List.{List, [], ◌∷◌}
use native.Mathlib.Omega.{arith}
use lib.ListN.{length}
use Rattle.text.specs.Text.{bytes}
use Rattle.text_decimals.specs.Decimal.{decimal}
use Rattle.text_decimals.proofs.MemoryLaws.{wrote_none, wrote-more, wrote-start}
use Rattle.text_decimals.proofs.PlaceLaws.{Place, joined, begins-first, room, next, finished-first}
use Rattle.replay_entry.proofs.FunctionLaws.{text-agrees, text-differs, agrees-length}
use borrow.Author.Rules.{rules}
use Rattle.replay_entry.proofs.put_outcome.Statement.{statement}
use Rattle.replay_entry.proofs.put_outcome.Tie as tie

-- where the two agree
put-requires : tie.Need-put-requires
put-requires c κs = let t = c in omega (arith, t.requires, agrees-length _ t.in-None.is)

returns : tie.Need-returns-in-None
returns c =
    let p = c in
    let t = p in
    let s = t in
    rw (text-agrees s.args.said t.in-None.is) (wrote-start (wrote-more (wrote_none s.args.out.now 0 zero-le) (bytes "AGREES\n") p.put.ensures))

-- where they differ: the number of the line, and the start
abbrev number : tie.In-Some → ℕ
number c = c.in-Some.n

abbrev start : tie.In-Some → tie.Start
start c = c.before.before

-- the parts of the line
abbrev parts : tie.In-Some → List (List ℕ)
parts c = bytes "DIFFERS " ∷ decimal (number c) ∷ bytes "\n" ∷ []

-- the first n parts stand in o, up to e
abbrev At : ℕ → ℕ → List ℕ → Type 0
At = Place (λ c. (start c).args.out.now) (λ c. 0) parts

fits : (c : tie.In-Some) → length (joined [] (parts c)) ≤ length (start c).args.out.now
fits c = rw (text-differs (start c).args.said (number c) c.in-Some.is) at (start c).requires

abbrev w0 : (c : tie.In-Some) → At 0 0 (start c).args.out.now
w0 c = begins-first c (fits c)

abbrev w1 : (c : tie.After-put-a) → At 1 c.put-a.result c.put-a.new.out
w1 c = next (w0 c.before.before.before.before) c.put-a.ensures

abbrev w2 : (c : tie.After-put_decimal-b) → At 2 c.put_decimal-b.result c.put_decimal-b.new.out
w2 c = next (w1 c.before.before.before.before) c.put_decimal-b.ensures

abbrev w3 : (c : tie.After-put-in-Some) → At 3 c.put-in-Some.result c.put-in-Some.new.out
w3 c = next (w2 c.before.before.before.before.before.before) c.put-in-Some.ensures

returns-2 : tie.Need-returns-in-Some
returns-2 c =
    let w = w3 c.before.before in
    let t = w.start in
    rw (text-differs (start t).args.said (number t) t.in-Some.is) (finished-first w)

pub put_outcome_spec : {M : Type 1} → statement M
put_outcome_spec =
    tie.close
    (tie.spec
    (λ c. search rules)
    put-requires
    (λ c. search rules)
    (λ c κs. room (w0 c.before.before.before))
    (λ c κs. room (w1 c.before.before.before))
    (λ c κs. room (w2 c.before.before.before.before.before))
    (λ c. search rules)
    returns
    (λ c. search rules)
    returns-2)
