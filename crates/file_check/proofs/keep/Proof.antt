-- `file_check::keep` meets its contract. Assumes nothing.
use mathlib.Core.Path.{◌≡◌}
use Prim.Native.Nat.{ℕ}
use Rattle.file_format.specs.declared.Row.{Row}
use Rattle.file_format.specs.declared.Row.TheVariants.{Layout, Range, Name, Price, Target, Forward, Known}
use Rattle.file_check.specs.declared.Tests.{Tests}
use Rattle.file_check.specs.declared.Earliest.{Earliest}
use Rattle.file_check.specs.HeldChecks.{tested_by, kept_by, kept_after}
use borrow.Author.Rules.{rules}
use Rattle.file_check.proofs.keep.Statement.{statement}
use Rattle.file_check.proofs.keep.Tie as tie

each : (e r : Earliest) (t : Tests) (n : ℕ) → r.layout ≡ kept_after e.layout t.layout n → r.range ≡ kept_after e.range t.range n → r.name ≡ kept_after e.name t.name n
    → r.price ≡ kept_after e.price t.price n → r.target ≡ kept_after e.target t.target n → r.forward ≡ kept_after e.forward t.forward n
    → r.known ≡ kept_after e.known t.known n → (row : Row) → kept_by row r ≡ kept_after (kept_by row e) (tested_by row t) n
each e r t n l g a p o f k Layout = l
each e r t n l g a p o f k Range = g
each e r t n l g a p o f k Name = a
each e r t n l g a p o f k Price = p
each e r t n l g a p o f k Target = o
each e r t n l g a p o f k Forward = f
each e r t n l g a p o f k Known = k

returns : tie.Need-returns
returns c = each _ _ _ _ c.earlier-layout.ensures c.earlier-range.ensures c.earlier-name.ensures c.earlier-price.ensures c.earlier-target.ensures c.earlier-forward.ensures c.earlier-known.ensures

pub keep_spec : {M : Type 1} → statement M
keep_spec =
    tie.close
    (tie.spec
    (λ c κs. search rules)
    (λ c κs. search rules)
    (λ c κs. search rules)
    (λ c κs. search rules)
    (λ c κs. search rules)
    (λ c κs. search rules)
    (λ c κs. search rules)
    returns)
