-- What is proved of the bound by cases, by the names of `specs/Promises`. Assumes nothing.
use Rattle.std.specs.Prelude.{◌≤◌, ◌++◌, ◌⊎◌, ◌↔◌, ◌≡◌}
use mathlib.Core.List.{[]}
use native.Mathlib.Omega.{arith}
use mathlib.Core.Path.{refl}
use Rattle.bound_theory.specs.Run.{begin, after, run}
use Rattle.bound_theory.proofs.RunLaws.{stopped-verdict}
use Rattle.merge_theory.proofs.Theorems.{merged-interruptible, merged-refused-where}
use Rattle.split_theory.specs.Split.{largest, divides, below, from, Cut, split, Case}
use Rattle.split_theory.specs.Promises.{SplitInterruptible, SplitNotAbove, SplitMonotone, SplitAmong, SplitCases, SplitExact, SplitRefused, SplitRefusedWhere}
use Rattle.split_theory.proofs.CutLaws.{parts, apart, parts-kept}
use Rattle.split_theory.proofs.SplitLaws.{monotone, not_above, more-cuts, plain, among-cuts, chosen}
use Rattle.split_theory.proofs.CaseLaws.{covers, in_one, each_within, attained, refused_by, all-accepted, to-first, from_first}
use Rattle.refusals.specs.Library.{ℕ, ℤ, true, List}
use Rattle.bound_theory.specs.Terms.{Allowed, Refines, State, Code, Cellwise, Report, accepted}
use Rattle.cells.specs.HeldConfined.{Kept}
use Rattle.bound_theory.specs.Promises.{NoGreater, Interruptible}
use Rattle.merge_theory.specs.Merge.{merged}
use Rattle.merge_theory.specs.Promises.{OfSinglePass}
use Rattle.nearest_changes.specs.declared.Position.{Position}

-- the two cases of a cut have, together, all starts and no others, and none is in both
pub record Cases (p : Position) (n : ℤ) (s : State) : Type 0 where
  pub covers : (t : State) → Cellwise Allowed t s → Cellwise Allowed t (below p n s) ⊎ Cellwise Allowed t (from p n s)
  pub lower : Cellwise Refines (below p n s) s
  pub upper : Cellwise Refines (from p n s) s
  pub apart : (t : State) → Cellwise Allowed t (below p n s) → Cellwise Allowed t (from p n s) → ⊥

abbrev pub SplitCovers : Type 0
SplitCovers = (p : Position) (n : ℤ) (s : State) → divides p n s ≡ true → Cases p n s

-- the numbers of both cases are of 31 bits where those of the start are
abbrev pub SplitKept : Type 0
SplitKept = (p : Position) (n : ℤ) (s : State) → divides p n s ≡ true → Cellwise Kept s s → Cellwise Kept (below p n s) (below p n s) × Cellwise Kept (from p n s) (from p n s)

-- of a plain start every cut leaves the merging bound
abbrev pub SplitPlain : Type 0
SplitPlain = (c : Code) (cuts : List Cut) (s : State) → Cellwise Allowed s s → split c cuts s ≡ merged c s

-- the same of cuts that are chosen by the start, in any way
abbrev pub ChosenInterruptible : Type 0
ChosenInterruptible = OfSinglePass (λ c. (choose : State → List Cut) → Interruptible c (λ s. split c (choose s) s))

-- further cuts never cost more
abbrev pub SplitMore : Type 0
SplitMore =
    (c : Code) (cuts more : List Cut) (s : State) (q : Report) → split c cuts s ≡ accepted q →
    (r : Report) × (split c (cuts ++ more) s ≡ accepted r) × NoGreater r q

-- a run of a start that t allows is, under a BUDGET of at least STEPS, refused by neither 7 nor 9 and within the report's four figures
abbrev pub RunWithinSplit : Type 0
RunWithinSplit =
    OfSinglePass (λ c. (cuts : List Cut) (t : State) (q : Report) → split c cuts t ≡ accepted q → (budget : ℕ) → q.steps ≤ budget →
    (s : State) → Cellwise Allowed s t → (answers : List ℤ) → (r : Report) × (run c budget s answers ≡ accepted r) × NoGreater r q)

abbrev pub SplitAcceptedWhere : Type 0
SplitAcceptedWhere =
    (c : Code) (cuts : List Cut) (s : State) →
    ((q : Report) × (split c cuts s ≡ accepted q)) ↔ ((u : State) → Case cuts s u → (r : Report) × (merged c u ≡ accepted r))

pub split-covers : SplitCovers
split-covers p n s h = let (l, u) = parts p n s h in record { covers = covers p n s h; lower = l; upper = u; apart = apart p n s h }

pub split-kept : SplitKept
split-kept p n s h e = parts-kept p n s h e

pub split_plain : SplitPlain
split_plain c cuts s e = plain c cuts s e

pub split-interruptible : SplitInterruptible
split-interruptible c f g cuts = chosen c (merged-interruptible c f g) (λ s. cuts)

pub chosen-interruptible : ChosenInterruptible
chosen-interruptible c f g choose = chosen c (merged-interruptible c f g) choose

pub split-not-above : SplitNotAbove
split-not-above c cuts s q e = not_above c cuts s q e

pub split-monotone : SplitMonotone
split-monotone c cuts = monotone c cuts

pub split-more : SplitMore
split-more c cuts more s q e = more-cuts c cuts more s q e

pub split-among : SplitAmong
split-among c cuts all h s q e = among-cuts c cuts all h s q e

pub run-within-split : RunWithinSplit
unfolding run
run-within-split c f g cuts t q a budget le s e answers =
    let r = after c budget (begin s answers) in
    let safe = split-interruptible c f g cuts t q a s e answers budget in (
      record { cycles = r.cycles; words = r.words; depth = r.depth; steps = r.steps; path = [] },
      stopped-verdict budget r (safe.stops le),
      record { cycles = omega (arith, safe.cycles); words = omega (arith, safe.words); depth = safe.depth; steps = safe.steps },
    )

pub split-cases : SplitCases
split-cases cuts s t e = in_one cuts s t e

pub split-exact : SplitExact
unfolding largest
split-exact c cuts s q e = record {
  within = λ u k. each_within c k q e;
  cycles = attained c (λ r. r.cycles) (λ r u. refl) cuts s q e;
  words = attained c (λ r. r.words) (λ r u. refl) cuts s q e;
  depth = attained c (λ r. r.depth) (λ r u. refl) cuts s q e;
  steps = attained c (λ r. r.steps) (λ r u. refl) cuts s q e;
}

pub split-refused : SplitRefused
split-refused c cuts s x e = refused_by c cuts s x e

pub split-accepted-where : SplitAcceptedWhere
split-accepted-where c cuts s = (λ (q, e) u k. let (r, a, l) = each_within c k q e in (r, a), all-accepted c cuts s)

pub split-refused-where : SplitRefusedWhere
split-refused-where c f g cuts s r = (to-first c (merged-refused-where c f g) cuts s r, from_first c (merged-refused-where c f g))
