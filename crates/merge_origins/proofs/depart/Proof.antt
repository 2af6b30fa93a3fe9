-- `merge_origins::depart` meets its contract, by what the step leads to. Assumes nothing.
use mathlib.Core.Path.{◌≡◌, subst}
use mathlib.Core.List.{[], ◌∷◌}
use Rattle.bound_theory.specs.Tree.{N, T}
use Rattle.machine_state.specs.HeldProgram.{first_address_of}
use Rattle.machine_step.specs.declared.Next.{Next}
use Rattle.machine_step.specs.HeldStep.{Small}
use Rattle.merge_origins.proofs.KeptLaws.{mark-stop, is_last}
use Rattle.merge_origins.proofs.DepartLaws.{way-none, way-not-taken, way-taken, depart-stuck, depart-stops, depart-goes, depart-opens}
use borrow.Author.Rules.{rules}
use Rattle.merge_origins.proofs.depart.Statement.{statement}
use Rattle.merge_origins.proofs.depart.Tie as tie

-- the price of each way is small
small : (s : tie.Start) (x : Next) → s.args.next ≡ x → Small x
small s x e = subst Small e s.requires.3

last-by-requires : tie.Need-last_by-l-requires
last-by-requires c κs = let s = c in (s.requires.2, small s.before.before.before.before _ c.in-Stops.is)

last-by-requires-2 : tie.Need-last_by-l-requires-in-Goes
last-by-requires-2 c κs = let s = c in (s.requires.2, small s.before.before.before.before _ c.in-Goes.is)

last-by-requires-3 : tie.Need-last_by-t-requires
last-by-requires-3 c κs = let s = c in (s.requires.2, (small s.before.before.before.before _ c.in-Opens.is).1)

last-by-requires-4 : tie.Need-last_by-n-requires
last-by-requires-4 c κs =
    let n = c in
    let s = n in
    (s.requires.2, (small s.before.before.before.before.before.before.before.before.before _ n.in-Opens.is).0)

returns : tie.Need-returns-in-Stuck
returns c =
    let a = c.args in
    λ o p s t q f h g k. depart-stuck (first_address_of a.code.now) a.kept.now a.next o p s t a.at g c.in-Stuck.is k

returns-2 : tie.Need-returns-in-Stops
returns-2 c =
    let j = c in
    let l = j.last_by-l in
    let n = j in
    let b = n in
    let a = b.args in
    let e = n.in-Stops.is in
    λ o p s t q f h g k.
    depart-stops (first_address_of a.code.now) j.keep.new.kept a.next o p s t a.at g _ e
    (mark-stop (first_address_of a.code.now) a.kept.now l.result o p _ k (is_last (first_address_of a.code.now) a.row a.spent a.depth l.result 1 _ p s [] l.ensures way-none q f h b.requires.1 (small b.before.before.before.before.before.before.before.before.before _ e)) j.keep.new.kept j.keep.ensures)

returns-3 : tie.Need-returns-in-Goes
returns-3 c =
    let j = c in
    let l = j.last_by-l-in-Goes in
    let n = j in
    let b = n in
    let a = b.args in
    let e = n.in-Goes.is in
    λ o p s t q f h g k.
    depart-goes (first_address_of a.code.now) j.mark.new.kept a.next o p s t a.at g _ e
    (j.mark.ensures o p _ k (is_last (first_address_of a.code.now) a.row a.spent a.depth l.result 1 _ p s [] l.ensures way-none q f h b.requires.1 (small b.before.before.before.before.before.before.before.before.before _ e)))

returns-4 : tie.Need-returns-in-Opens
returns-4 c =
    let j = c in
    let l = j.last_by-n in
    let i = j in
    let r = i.last_by-t in
    let n = i in
    let b = n in
    let a = b.args in
    let e = n.in-Opens.is in
    λ o p s t q f h g k.
    depart-opens (first_address_of a.code.now) j.mark-in-Opens-2.new.kept a.next o p s t a.at g _ _ _ e
    (j.mark-in-Opens-2.ensures _ p _
    (i.mark-in-Opens.ensures o p _ k (is_last (first_address_of a.code.now) a.row a.spent a.depth r.result 3 _ p s (T ∷ []) r.ensures way-taken q f h b.requires.1 (small b.before.before.before.before.before.before.before.before.before.before.before.before.before.before _ e).1))
    (is_last (first_address_of a.code.now) a.row a.spent a.depth l.result 2 _ p s (N ∷ []) l.ensures way-not-taken q f h b.requires.1 (small b.before.before.before.before.before.before.before.before.before.before.before.before.before.before _ e).0))

pub depart_spec : {M : Type 1} → statement M
depart_spec =
    tie.close
    (tie.spec
    (λ c. search rules)
    (λ c. search rules)
    (λ c. search rules)
    (λ c. search rules)
    last-by-requires
    (λ c κs. search rules)
    (λ c. search rules)
    last-by-requires-2
    (λ c κs. search rules)
    (λ c. search rules)
    last-by-requires-3
    (λ c κs. search rules)
    last-by-requires-4
    (λ c κs. search rules)
    returns
    (λ c. search rules)
    returns-2
    (λ c. search rules)
    returns-3
    (λ c. search rules)
    returns-4)
