-- What is promised of ranges beside `?`, by the names of specs/Ranges: both bounds are monotone, and `?` covers every range of numbers. And
-- beside the former bounds, by those of specs/Former. Assumes nothing.
use mathlib.Core.Path.{◌≡◌, refl, subst}
use mathlib.Core.Bool.{cond}
use mathlib.Core.List.{List, map}
use Rattle.cells.specs.declared.Value.{Value}
use Rattle.cells.specs.declared.Value.TheVariants.{Range, Handle}
use Rattle.cells.specs.declared.Cell.{Cell}
use Rattle.cells.specs.Cells.{cell, range, unknown}
use Rattle.cells.specs.HeldConfined.{Confined, Kept}
use Rattle.cells.specs.Order.{Refines, same, Pointwise, end, cons}
use Rattle.cells.proofs.RangeLaws.{covers, in-unknown, one-or-more}
use Rattle.cells.proofs.CellLaws.{range-bits}
use Rattle.machine.specs.Machine.{State}
use Rattle.machine.specs.Order.{Cellwise}
use Rattle.bound_theory.specs.Tree.{Report, Verdict, accepted, opening_limit, bound}
use Rattle.bound_theory.specs.Promises.{NoGreater, Monotone}
use Rattle.bound_theory.proofs.PromiseLaws as promise-laws
use Rattle.merge_theory.specs.Merge.{merged}
use Rattle.merge_theory.proofs.Theorems.{merged-monotone}
use Rattle.file_format.specs.Routine.{routine_of}
use Rattle.file_format.proofs.StartLaws.{start-kept}
use Rattle.narrowing_ranges.specs.Former.{BoundNotAboveFormer, MergedNotAboveFormer}
use Rattle.narrowing_ranges.specs.Ranges.{widen_value, widen, widen_state, BoundNeverAbove, MergedNeverAbove}
use Rattle.narrowing_ranges.proofs.FormerLaws as former-laws

-- `?` covers every range of numbers
value-widens : (v : Value) → Confined (cell v) → Refines (cell v) (widen_value v)
unfolding widen_value
value-widens (Range l m) c =
    one-or-more (λ t. Refines (range l m) (cond t (range l m) unknown)) m (λ e. same) (λ h. covers (in-unknown l m (range-bits c)))
value-widens (Handle k) c = same

cell-widens : {a b : Cell} → Kept a b → Refines a (widen a)
unfolding widen
cell-widens {a} k = value-widens a.value k.kept

list-widens : {xs ys : List Cell} → Pointwise Kept xs ys → Pointwise Refines xs (map widen xs)
list-widens end = end
list-widens (cons k ks) = cons (cell-widens k) (list-widens ks)

lists-widen : {xs ys : List (List Cell)} → Pointwise (Pointwise Kept) xs ys → Pointwise (Pointwise Refines) xs (map (map widen) xs)
lists-widen end = end
lists-widen (cons k ks) = cons (list-widens k) (lists-widen ks)

state-widens : (s : State) → Cellwise Kept s s → Cellwise Refines s (widen_state s)
unfolding widen_state
state-widens s k = record { at = refl; accu = cell-widens k.accu; stack = list-widens k.stack; blocks = lists-widen k.blocks }

-- a monotone bound reports no more of the state with ranges
never-above : (M : State → Verdict) → Monotone M → (s : State) → Cellwise Kept s s → (r q : Report) → M s ≡ accepted r → M (widen_state s) ≡ accepted q → NoGreater r q
never-above M monotone s k r q a b =
    let h = monotone (widen_state s) q b s (state-widens s k) in
    let e : h.0 ≡ r = cc h.1 in
    subst (λ (x : Report). NoGreater x q) e h.2

pub bound_never_above : BoundNeverAbove
unfolding bound
bound_never_above ls budget = never-above (bound (routine_of ls).code budget) (promise-laws.monotone (routine_of ls).code opening_limit budget) (routine_of ls).start (start-kept ls)

pub merged_never_above : MergedNeverAbove
merged_never_above ls = never-above (merged (routine_of ls).code) (merged-monotone (routine_of ls).code) (routine_of ls).start (start-kept ls)

pub whole-is-unknown : former-laws.WholeIsUnknown
whole-is-unknown = former-laws.whole-is-unknown

pub bound-not-above-former : BoundNotAboveFormer
bound-not-above-former = former-laws.bound-not-above-former

pub merged-not-above-former : MergedNotAboveFormer
merged-not-above-former = former-laws.merged-not-above-former
