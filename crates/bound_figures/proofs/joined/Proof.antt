-- `bound_figures::joined` meets its contract. Assumes nothing.
use mathlib.Core.Path.{◌≡◌}
use Prim.Native.Nat.{◌+◌, max}
use Rattle.bound_figures.specs.HeldFigures.{decided_of}
use Rattle.bound_figures.proofs.PartLaws.{joined_is}
use borrow.Author.Rules.{rules}
use Rattle.bound_figures.proofs.joined.Statement.{statement}
use Rattle.bound_figures.proofs.joined.Tie as tie

returns : tie.Need-returns
returns c =
    let a = c.args in
    let f = a.f in
    let g = a.g in
    let r = c.max in
    let s = c.max-2 in
    let cycles : r.result ≡ max f.cycles (a.extra + g.cycles) = r.ensures in
    let words : s.result ≡ max f.words g.words = s.ensures in
    let depth : c.max-3.result ≡ max f.depth g.depth = c.max-3.ensures in
    let path : c.decided-path.result ≡ decided_of f.cycles (a.extra + g.cycles) f.path g.path = c.decided-path.ensures in
    joined_is _ _ _ f g _ _ _ _ _ cycles words depth c.max-depth.ensures path

pub joined_spec : {M : Type 1} → statement M
joined_spec =
    tie.close
    (tie.spec
    (λ c. search rules)
    (λ c κs. search rules)
    (λ c. search rules)
    (λ c κs. search rules)
    (λ c. search rules)
    (λ c κs. search rules)
    (λ c κs. search rules)
    (λ c κs. search rules)
    (λ c. search rules)
    (λ c. search rules)
    returns)
